-- The parts of containers: a radius, and what follows a fixed part that ends in the offset of the rest. Each is read back from its
-- bytes, and its bytes come back from what was read. Assumes nothing.
use Prim.Native.Nat.{ℕ, ◌+◌, ◌-◌, ◌^◌, ◌<◌, ◌≤◌}
use native.Mathlib.Omega.{arith}
use mathlib.Core.Path.{◌≡◌, sym, ap, ap₂, subst, ◌∙◌}
use mathlib.Core.Bool.{◌&&◌}
use mathlib.Core.List.{List, ◌++◌, reverse, append_assoc, reverse-reverse}
use mathlib.Core.Option.{some}
use lib.Dec.{leb, eqb}
use lib.ListN.{length, take, drop, length-append, length-reverse}
use lib.Seq.{drop_at}
use borrow.Author.Tests.{le-leb, leb-true, eq-eqb, eqb-true}
use Rattle.octets.specs.Bytes.{Bytes}
use Rattle.octets.proofs.Numbers.{bytes_drop, bytes_reverse, le_bytes_length}
use Rattle.octets.proofs.Tests.{both}
use Rattle.message.specs.Values.{Sized}
use Rattle.message.specs.Encode.{offset}
use Rattle.message.specs.Records.{offset_of}
use Rattle.message.specs.Decode.{radius_of, rest_of}
use Rattle.message.proofs.Tests.{passed}
use Rattle.message.proofs.Offsets.{offset_read, offset_inside}

-- a radius is read back
pub radius_read : (radius : List ℕ) → length radius ≡ 32 → radius_of (reverse radius) ≡ some radius
unfolding radius_of
radius_read radius l = rw (eq-eqb (length (reverse radius)) 32 (length-reverse radius ∙ l), reverse-reverse radius)

-- the bytes of a radius that was read come back, and it has 32
pub read_radius : (s radius : List ℕ) → Bytes s → radius_of s ≡ some radius → (reverse radius ≡ s) × Sized 32 radius
unfolding radius_of
read_radius s radius b e =
    let p = passed (eqb (length s) 32) e in
    let l : length radius ≡ 32 = ap length (sym p.1) ∙ length-reverse s ∙ eqb-true (length s) 32 p.0 in
    (ap reverse (sym p.1) ∙ reverse-reverse s, (subst Bytes p.1 (bytes_reverse s b), l))

-- the rest is read back from behind a fixed part of n bytes
pub rest_read : (n : ℕ) (front rest : List ℕ) → length front + 4 ≡ n → n < 2 ^ 32 → rest_of n (front ++ offset n ++ rest) ≡ some rest
unfolding rest_of
rest_read n front rest l h =
    let s = front ++ offset n ++ rest in
    let size : length (front ++ offset n) ≡ n = omega (arith, length-append front (offset n), le_bytes_length 4 n) in
    let long : n ≤ length s = omega (arith, length-append (front ++ offset n) rest) in
    let at : offset_of (drop (n - 4) s) ≡ n =
    ap offset_of (ap (drop (n - 4)) (append_assoc front (offset n) rest) ∙ drop_at front (offset n ++ rest) (n - 4) (omega arith))
    ∙ offset_read n rest h in
    rw (le-leb n (length s) long, eq-eqb (offset_of (drop (n - 4) s)) n at, drop_at (front ++ offset n) rest n size)

-- the bytes of a container whose rest was read come back
pub read_rest : (n : ℕ) (s rest : List ℕ) → 4 ≤ n → Bytes s → rest_of n s ≡ some rest
    → (n ≤ length s) × (take (n - 4) s ++ offset n ++ rest ≡ s) × Bytes rest
unfolding rest_of
read_rest n s rest f b e =
    let p = passed (leb n (length s) && eqb (offset_of (drop (n - 4) s)) n) e in
    let q = both (leb n (length s)) (eqb (offset_of (drop (n - 4) s)) n) p.0 in
    let long = leb-true n (length s) q.0 in
    let m : n ≡ n - 4 + 4 = omega arith in
    let all : take (n - 4) s ++ offset (offset_of (drop (n - 4) s)) ++ drop (n - 4 + 4) s ≡ s = offset_inside (n - 4) s b (omega arith) in (
      long,
      ap₂ (λ (i : ℕ) (x : List ℕ). take (n - 4) s ++ offset i ++ x)
          (sym (eqb-true (offset_of (drop (n - 4) s)) n q.1)) (sym p.1 ∙ ap (λ (i : ℕ). drop i s) m)
          ∙ all,
      subst Bytes p.1 (bytes_drop n s b),
    )
