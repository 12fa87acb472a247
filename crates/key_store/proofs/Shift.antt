-- The move of bytes: the keys from a place on copied one place up, and the key copied into the gap, are the key at its place. Assumes nothing.
use Prim.Native.Nat.{ℕ, suc, ◌+◌, ◌-◌, ◌*◌, ◌≤◌}
use native.Mathlib.Omega.{arith}
use mathlib.Core.Path.{◌≡◌, ap, ap₂, ◌∙◌}
use mathlib.Core.List.{List, ◌++◌, append_assoc}
use lib.ListN.{length, take, drop}
use lib.Seq.{take-take, take-append-le, drop_at, drop-drop, length-take-le}
use Rattle.std.specs.List.{copy_within}
use Rattle.key_store.specs.Move.{key_at_place}

-- bytes from place s on copied nine places up, up to the end e
module _ (b raised : List ℕ) (s e : ℕ) (h : s ≤ e) (long : e + 9 ≤ length b) (up : raised ≡ copy_within b s e (s + 9)) where
  rest : List ℕ
  rest = take (e - s) (drop s b) ++ drop (e + 9) b

  whole : raised ≡ take (s + 9) b ++ rest
  unfolding rest
  whole =
      let n : s + 9 + (e - s) ≡ e + 9 = omega arith in
      up
      ∙ append_assoc (take (s + 9) b) (take (e - s) (drop s b)) (drop (s + 9 + (e - s)) b)
      ∙ ap (λ (k : ℕ). take (s + 9) b ++ (take (e - s) (drop s b) ++ drop k b)) n

  front : length (take (s + 9) b) ≡ s + 9
  front = length-take-le (s + 9) b (omega arith)

  -- the nine bytes at s are overwritten
  put_over : (key keys : List ℕ) → keys ≡ take s raised ++ (key ++ drop (s + 9 - s) (drop s raised))
      → keys ≡ take s b ++ (key ++ (take (e - s) (drop s b) ++ drop (e + 9) b))
  unfolding rest
  put_over key keys put =
      let n : s + (s + 9 - s) ≡ s + 9 = omega arith in
      put
      ∙ ap (λ (l : List ℕ). take s raised ++ (key ++ l)) (drop-drop (s + 9 - s) s raised)
      ∙ ap₂ (λ (r : List ℕ) (k : ℕ). take s r ++ (key ++ drop k r)) whole n
      ∙ ap₂ (λ (x y : List ℕ). x ++ (key ++ y))
      (take-append-le s (take (s + 9) b) rest (omega (arith, front)) ∙ take-take s (s + 9) b (omega arith))
      (drop_at (take (s + 9) b) rest (s + 9) front)

-- the keys from place `from` up to `to` copied up by one, and the key copied into the gap
pub moved : (b raised key keys : List ℕ) (from to : ℕ) → from ≤ to → 9 * suc to ≤ length b
    → raised ≡ copy_within b (from * 9) (to * 9) (from * 9 + 9)
    → keys ≡ take (from * 9) raised ++ (key ++ drop (from * 9 + 9 - from * 9) (drop (from * 9) raised))
    → keys ≡ key_at_place from to key b
unfolding key_at_place
moved b raised key keys from to h long up put =
    let f : from * 9 ≡ 9 * from = omega arith in
    let g : to * 9 - from * 9 ≡ 9 * (to - from) = omega arith in
    let n : to * 9 + 9 ≡ 9 * suc to = omega arith in
    put_over b raised (from * 9) (to * 9) (omega arith) (omega arith) up key keys put
    ∙ ap (λ (m : ℕ). take m b ++ (key ++ (take (to * 9 - from * 9) (drop m b) ++ drop (to * 9 + 9) b))) f
    ∙ ap₂ (λ (m k : ℕ). take (9 * from) b ++ (key ++ (take m (drop (9 * from) b) ++ drop k b))) g n
