-- An offset is read back from its four bytes, and its four bytes come back from what was read.
-- Assumes nothing.
use Prim.Native.Nat.{ℕ, ◌+◌, ◌^◌, ◌<◌, ◌≤◌}
use native.Mathlib.Omega.{arith}
use mathlib.Core.Path.{◌≡◌, sym, ap, ap₂, ◌∙◌}
use mathlib.Core.List.{List, ◌++◌, append_assoc}
use lib.ListN.{length, take, drop, length-drop, take-append-drop}
use lib.Seq.{take_at, length-take-le, drop-drop}
use Rattle.octets.specs.Bytes.{Bytes, le}
use Rattle.octets.proofs.Numbers.{bytes_take, bytes_drop, le_bytes_length, le_le_bytes_below, le_bytes_le}
use Rattle.message.specs.Encode.{offset}
use Rattle.message.specs.Records.{offset_of}

-- an offset below 2 ^ 32 is read back, whatever follows it
pub offset_read : (n : ℕ) (s : List ℕ) → n < 2 ^ 32 → offset_of (offset n ++ s) ≡ n
unfolding offset_of
offset_read n s h = ap le (take_at (offset n) s 4 (le_bytes_length 4 n)) ∙ le_le_bytes_below 4 n h

-- the offset that was read has the four bytes that were read
pub read_offset : (s : List ℕ) → Bytes s → 4 ≤ length s → offset (offset_of s) ≡ take 4 s
unfolding offset_of
read_offset s b h =
    rw (length-take-le 4 s h) at (le_bytes_le (take 4 s) (bytes_take 4 s b))

-- bytes with an offset among them are what stands before it, the offset that is read there, and what follows
pub offset_inside : (k : ℕ) (s : List ℕ) → Bytes s → k + 4 ≤ length s → take k s ++ offset (offset_of (drop k s)) ++ drop (k + 4) s ≡ s
offset_inside k s b h =
    let d = drop k s in
    let l : 4 ≤ length d = simp length-drop (omega arith) in
    append_assoc (take k s) (offset (offset_of d)) (drop (k + 4) s)
    ∙ ap (λ (t : List ℕ). take k s ++ t)
    (ap₂ (λ (x y : List ℕ). x ++ y) (read_offset d (bytes_drop k s b) l) (sym (drop-drop 4 k s)) ∙ take-append-drop 4 d)
    ∙ take-append-drop k s
