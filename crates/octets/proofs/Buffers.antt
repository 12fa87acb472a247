-- Bytes put into a buffer: whether they have room, and what the buffer then holds. Assumes nothing.
use Prim.Native.Nat.{ℕ, ◌+◌, ◌-◌, ◌<◌, ◌≤◌}
use native.Mathlib.Omega.{arith}
use mathlib.Core.Path.{◌≡◌, sym, ap, ap₂, ◌∙◌}
use mathlib.Core.Bool.{Bool, true, false, cond}
use mathlib.Core.List.{List, ◌++◌, append-nil}
use lib.ListN.{length, get_or, set, take, drop, drop_of_length-le}
use lib.Seq.{paste, paste-suc, take-length, take_all}
use native.Mathlib.Nat.{zero-add}
use native.Mathlib.Numerals.{add-one}
use borrow.Author.Tests.{le-leb, lt-leb}
use Rattle.octets.specs.Buffer.{has_room, placed}

module _ (d : List ℕ) (at : ℕ) (bytes : List ℕ) where
  -- the bytes start past the buffer
  pub past_end : length d < at → has_room d at bytes ≡ false
  past_end h = simp (lt-leb at (length d) h)

  -- they do not fit behind their start
  pub too_long : at ≤ length d → length d - at < length bytes → has_room d at bytes ≡ false
  too_long h l = simp (le-leb at (length d) h, lt-leb (length bytes) (length d - at) l)

  -- they fit
  pub fits : at + length bytes ≤ length d → has_room d at bytes ≡ true
  fits h =
      let m : at ≤ length d = omega arith in
      let n : length bytes ≤ length d - at = omega arith in
      simp (le-leb at (length d) m, le-leb (length bytes) (length d - at) n)

  -- the buffer by the test for room
  placed_by : (t : Bool) → has_room d at bytes ≡ t → cond t (take at d ++ bytes ++ drop (at + length bytes) d) d ≡ placed d at bytes
  placed_by t e = sym (ap (λ (b : Bool). cond b (take at d ++ bytes ++ drop (at + length bytes) d) d) e)

  -- where the bytes have no room, the buffer is as it was
  pub not_placed : has_room d at bytes ≡ false → d ≡ placed d at bytes
  not_placed e = placed_by false e

  -- where they fit, it has them from that place on
  pub placed_room : at + length bytes ≤ length d → placed d at bytes ≡ take at d ++ bytes ++ drop (at + length bytes) d
  placed_room h = sym (placed_by true (fits h))

  -- a copy of all bytes
  pub placed_all : (i : ℕ) → i ≡ length bytes → at + length bytes ≤ length d → paste d at bytes i ≡ placed d at bytes
  placed_all i last h =
      ap (paste d at bytes) last
      ∙ ap (λ (l : List ℕ). take at d ++ l ++ drop (at + length bytes) d) (take-length bytes)
      ∙ placed_by true (fits h)

-- one step of a copy
pub pasted_next : (d e s : List ℕ) (at j v : ℕ) → at + j < length e → j < length s → v ≡ get_or s j 0 → d ≡ paste e at s j
    → set d (at + j) v ≡ paste e at s (j + 1)
pasted_next d e s at j v l k is q =
    ap₂ (λ (x : List ℕ) (w : ℕ). set x (at + j) w) q is
    ∙ paste-suc e at s j 0 l k
    ∙ ap (λ (n : ℕ). paste e at s n) (sym (add-one j))

-- and one from the front
pub copied_next : (d e s : List ℕ) (j v : ℕ) → j < length e → j < length s → v ≡ get_or s j 0 → d ≡ paste e 0 s j → set d j v ≡ paste e 0 s (j + 1)
copied_next d e s j v l k is q = ap (λ (n : ℕ). set d n v) (sym (zero-add j)) ∙ pasted_next d e s 0 j v (omega arith) k is q

-- at its end nothing of the first array is left
pub copied_all : (e s : List ℕ) (j : ℕ) → length e ≤ j → length s ≤ j → paste e 0 s j ≡ s
copied_all e s j h k =
    ap₂ (λ (x y : List ℕ). x ++ y) (take_all j s k) (drop_of_length-le e {i = 0 + j} (omega arith)) ∙ append-nil s
