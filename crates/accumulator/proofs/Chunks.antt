-- Chunks of 32 bytes, one behind the other: how many bytes they are, and that they are read back. Assumes nothing.
use Prim.Native.Nat.{ℕ, zero, suc, ◌*◌, ◌/◌}
use native.Mathlib.Omega.{arith}
use mathlib.Core.Path.{◌≡◌, refl, ap, ap₂, ◌∙◌}
use mathlib.Core.List.{List, [], ◌∷◌, ◌++◌}
use lib.ListN.{length, length-append}
use lib.Seq.{take_at, drop_at}
use Rattle.accumulator.specs.Tree.{beside, siblings}
use Rattle.accumulator.specs.Records.{flat}
use Rattle.accumulator.specs.Verdict.{chunks_of}
use Rattle.accumulator.proofs.Trees.{length_node}

-- each of them has 32 bytes
abbrev pub Whole : List (List ℕ) → Type 0
Whole [] = Unit {0}
Whole (chunk ∷ chunks) = (length chunk ≡ 32) × Whole chunks

pub whole_append : (xs ys : List (List ℕ)) → Whole xs → Whole ys → Whole (xs ++ ys)
whole_append [] ys w v = v
whole_append (x ∷ xs) ys w v = (w.0, whole_append xs ys w.1 v)

pub length_flat : (chunks : List (List ℕ)) → Whole chunks → length (flat chunks) ≡ 32 * length chunks
unfolding flat
length_flat [] w = refl
length_flat (chunk ∷ chunks) w = omega (arith, length-append chunk (flat chunks), w.0, length_flat chunks w.1)

-- cut again into as many, they are the same
pub chunks_flat : (chunks : List (List ℕ)) → Whole chunks → chunks_of (length chunks) (flat chunks) ≡ chunks
unfolding flat chunks_of
chunks_flat [] w = refl
chunks_flat (chunk ∷ chunks) w =
    ap₂ (λ (x : List ℕ) (rest : List (List ℕ)). x ∷ rest)
    (take_at chunk (flat chunks) 32 w.0)
    (ap (chunks_of (length chunks)) (drop_at chunk (flat chunks) 32 w.0) ∙ chunks_flat chunks w.1)

module _ (leaf : ℕ → List ℕ) where
  pub length_siblings : (n height place : ℕ) → length (siblings leaf n height place) ≡ n
  unfolding siblings
  length_siblings zero height place = refl
  length_siblings (suc n) height place = ap suc (length_siblings n (suc height) (place / 2))

  pub whole_siblings : ((place : ℕ) → length (leaf place) ≡ 32) → (n height place : ℕ) → Whole (siblings leaf n height place)
  unfolding siblings
  whole_siblings each zero height place = tt
  whole_siblings each (suc n) height place = (length_node leaf each height (beside place), whole_siblings each n (suc height) (place / 2))
