-- Rounds as the code goes through them: through the constants and the words in pairs, eight pairs at a time. Assumes nothing.
use Rattle.std.proofs.Common.{◌≡◌, ℕ, zero, suc, ◌+◌, ◌*◌, ◌≤◌, List, [], ◌∷◌, take, drop, length, get_or, refl, sym, ap, ◌∙◌, ap₂, add-zero, add-suc, add-one, arith}
use Rattle.std.specs.List.{fold, zip}
use Rattle.std.specs.Simd.{first_chunks}
use mathlib.Core.Logic.{◌⊎◌, ⊎_elim}
use native.Mathlib.Nat.{suc-ne-zero}
use lib.Seq.{drop-cons, drop-drop}
use Rattle.sha256_block.specs.declared.State.{State}
use Rattle.sha256_block.specs.Block.{round, rounds}

-- a round for each pair
abbrev pub in_pairs : List ℕ → List ℕ → State → State
in_pairs ks ws s = fold (λ s p. round s p.0 p.1) s (zip ks ws)

-- the same through pairs of parts
abbrev pub in_parts : List (List ℕ) → List (List ℕ) → State → State
in_parts kss wss s = fold (λ s p. in_pairs p.0 p.1 s) s (zip kss wss)

module _ (ks ws : List ℕ) where
  -- m rounds and then n more
  rounds_add : (t : ℕ) (s : State) (m n : ℕ) → rounds ks ws t s (m + n) ≡ rounds ks ws (t + m) (rounds ks ws t s m) n
  unfolding rounds
  rounds_add t s m zero = ap (rounds ks ws t s) (add-zero m)
  rounds_add t s m (suc n) =
      let e : t + (m + n) ≡ t + m + n = omega arith in
      ap (rounds ks ws t s) (add-suc m n)
      ∙ ap₂ (λ (x : State) (j : ℕ). round x (get_or ks j 0) (get_or ws j 0)) (rounds_add t s m n) e

  -- a round, and then n more
  rounds_front : (t : ℕ) (s : State) (n : ℕ) → rounds ks ws t s (suc n) ≡ rounds ks ws (suc t) (round s (get_or ks t 0) (get_or ws t 0)) n
  unfolding rounds
  rounds_front t s n =
      let e : suc n ≡ 1 + n = omega arith in
      ap (rounds ks ws t s) e
      ∙ rounds_add t s 1 n
      ∙ ap₂ (λ (j : ℕ) (x : State). rounds ks ws j x n) (add-one t) (ap (λ (j : ℕ). round s (get_or ks j 0) (get_or ws j 0)) (add-zero t))

  -- n pairs from place t on are n rounds
  pairs_are : (n t : ℕ) (s : State) → t + n ≤ length ks → t + n ≤ length ws
      → in_pairs (take n (drop t ks)) (take n (drop t ws)) s ≡ rounds ks ws t s n
  unfolding rounds
  pairs_are zero t s h k = refl
  pairs_are (suc n) t s h k =
      ap₂ (λ (x y : List ℕ). in_pairs (take (suc n) x) (take (suc n) y) s) (drop-cons ks t 0 (omega arith)) (drop-cons ws t 0 (omega arith))
      ∙ pairs_are n (suc t) (round s (get_or ks t 0) (get_or ws t 0)) (omega arith) (omega arith)
      ∙ sym (rounds_front t s n)

  -- m parts of eight from place t on are eight rounds each
  parts_are : (m t : ℕ) (s : State) → t + 8 * m ≤ length ks → t + 8 * m ≤ length ws
      → in_parts (first_chunks 8 m (drop t ks)) (first_chunks 8 m (drop t ws)) s ≡ rounds ks ws t s (8 * m)
  unfolding rounds
  parts_are zero t s h k = refl
  parts_are (suc m) t s h k =
      let e : 8 + 8 * m ≡ 8 * suc m = omega arith in
      ap (in_parts (first_chunks 8 m (drop 8 (drop t ks))) (first_chunks 8 m (drop 8 (drop t ws)))) (pairs_are 8 t s (omega arith) (omega arith))
      ∙ ap₂ (λ (x y : List ℕ). in_parts (first_chunks 8 m x) (first_chunks 8 m y) (rounds ks ws t s 8)) (drop-drop 8 t ks) (drop-drop 8 t ws)
      ∙ parts_are m (t + 8) (rounds ks ws t s 8) (omega arith) (omega arith)
      ∙ sym (rounds_add t s 8 (8 * m))
      ∙ ap (rounds ks ws t s) e

-- so the eight parts are the 64 rounds
pub eight_parts : (ks ws : List ℕ) (kss wss : List (List ℕ)) (s : State) → kss ≡ first_chunks 8 8 ks → wss ≡ first_chunks 8 8 ws
    → length ks ≡ 64 → length ws ≡ 64 → in_parts kss wss s ≡ rounds ks ws 0 s 64
eight_parts ks ws kss wss s e f h k =
    ap₂ (λ (x y : List (List ℕ)). in_parts x y s) e f ∙ parts_are ks ws 8 0 s (omega arith) (omega arith)

-- a pair of parts more
pub parts_more : (kss wss kst wst : List (List ℕ)) (ks ws : List ℕ) (s t : State) → kss ≡ ks ∷ kst → wss ≡ ws ∷ wst → t ≡ in_pairs ks ws s
    → in_parts kss wss s ≡ in_parts kst wst t
parts_more kss wss kst wst ks ws s t e f is = rw (e, f) (ap (in_parts kst wst) (sym is))

-- none is left
pub parts_end : (kss wss : List (List ℕ)) (s : State) → (length kss ≡ 0) ⊎ (length wss ≡ 0) → s ≡ in_parts kss wss s
parts_end [] wss s h = refl
parts_end (ks ∷ kss) [] s h = refl
parts_end (ks ∷ kss) (ws ∷ wss) s h = absurd (⊎_elim (λ e. suc-ne-zero (length kss) e) (λ e. suc-ne-zero (length wss) e) h)
