-- A list closed over one of its places (`closed` of `specs/Arrays.antt`): a turn of the loop that moves elements up by one is a step of a
-- copy, and at the end the first of them are those of before without the place. Over any element. Assumes nothing.
use Prim.Native.Nat.{ℕ, suc, ◌+◌, ◌-◌, ◌<◌, ◌≤◌}
use native.Mathlib.Omega.{arith}
use mathlib.Core.Path.{◌≡◌, sym, ap, ap₂, ◌∙◌}
use mathlib.Core.List.{List, ◌++◌}
use lib.ListN.{length, get_or, set, take, drop, length-drop}
use lib.Seq.{paste, paste-zero, paste-suc, length-paste, take-paste, drop-paste, get_or-drop, take-take, take-add, drop_at, length-take-le}
use Rattle.routing_table.specs.View.{firsts}
use Rattle.routing_table.specs.Places.{remove_at}
use Rattle.routing_table.proofs.Firsts.{firsts_take}
use Rattle.routing_calls.specs.Arrays.{closed}

-- a place dropped from the first w
drop_take : {A : Type 0} (l : List A) (k n : ℕ) → k ≤ length l → drop k (take (k + n) l) ≡ take n (drop k l)
drop_take l k n h = ap (drop k) (take-add k n l) ∙ drop_at (take k l) (take n (drop k l)) k (length-take-le k l h)

module _ {A : Type 0} (l : List A) (at : ℕ) where
  -- none is moved at first
  pub closed_none : (i : ℕ) → i ≡ at → l ≡ closed at i l
  unfolding closed
  closed_none i h =
      let e : 0 ≡ i - at = omega arith in
      paste-zero l at (drop (suc at) l) ∙ ap (paste l at (drop (suc at) l)) e

  -- a turn moves one more: a is what stands at the next place
  pub closed_more : (d : List A) (i : ℕ) (a z : A) → d ≡ closed at i l → a ≡ get_or d (i + 1) z → at ≤ i → i + 1 < length l
      → set d i a ≡ closed at (i + 1) l
  unfolding closed
  closed_more d i a z q e h fits =
      let s = drop (suc at) l in
      let n = i - at in
      let p = paste l at s n in
      let long : length s ≡ length l - suc at = length-drop (suc at) l in
      let place : i ≡ at + n = omega arith in
      let next : i + 1 ≡ at + n + 1 = omega arith in
      let behind : suc at + n ≡ at + n + 1 = omega arith in
      let more : suc n ≡ i + 1 - at = omega arith in
      let moved : a ≡ get_or s n z =
      e
      ∙ ap₂ (λ (x : List A) (k : ℕ). get_or x k z) q next
      ∙ sym (get_or-drop (at + n) p 1 z)
      ∙ ap (λ (x : List A). get_or x 1 z) (drop-paste l at s n (omega arith) (omega arith))
      ∙ get_or-drop (at + n) l 1 z
      ∙ sym (ap (λ (k : ℕ). get_or l k z) behind)
      ∙ sym (get_or-drop (suc at) l n z) in
      ap₂ (λ (x : List A) (b : A). set x i b) q moved
      ∙ ap (λ (k : ℕ). set p k (get_or s n z)) place
      ∙ paste-suc l at s n z (omega arith) (omega arith)
      ∙ ap (paste l at s) more

  pub length_closed : (i : ℕ) → at ≤ i → i < length l → length (closed at i l) ≡ length l
  unfolding closed
  length_closed i h fits =
      let long : length (drop (suc at) l) ≡ length l - suc at = length-drop (suc at) l in
      length-paste l at (drop (suc at) l) (i - at) (omega arith) (omega arith)

  -- at the end the place is gone from the first w
  pub closed_firsts : (other : A) (w : ℕ) → at < w → w ≤ length l → firsts other (w - 1) (closed at (w - 1) l) ≡ remove_at at (firsts other w l)
  unfolding closed
  closed_firsts other w h fits =
      let s = drop (suc at) l in
      let n = w - 1 - at in
      let long : length s ≡ length l - suc at = length-drop (suc at) l in
      let kept : length (paste l at s n) ≡ length l = length-paste l at s n (omega arith) (omega arith) in
      let last : w - 1 ≡ at + n = omega arith in
      let all : w ≡ suc at + n = omega arith in
      let back : drop (suc at) (take w l) ≡ take n s =
      ap (λ (k : ℕ). drop (suc at) (take k l)) all ∙ drop_take l (suc at) n (omega arith) in
      firsts_take other (w - 1) (paste l at s n) (omega arith)
      ∙ ap (λ (k : ℕ). take k (paste l at s n)) last
      ∙ take-paste l at s n (omega arith) (omega arith)
      ∙ sym (ap₂ (λ (x y : List A). x ++ y) (take-take at w l (omega arith)) back)
      ∙ sym (ap (remove_at at) (firsts_take other w l fits))
