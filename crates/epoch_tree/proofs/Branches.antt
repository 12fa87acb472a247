-- The siblings of a block hash, put into an array of zeros one after the other. Assumes nothing.
use Prim.Native.Nat.{ℕ, suc, ◌+◌, ◌*◌, ◌-◌, ◌/◌, ◌<◌}
use native.Mathlib.Omega.{arith}
use mathlib.Core.Path.{◌≡◌, refl, sym, ap, ap₂, subst, ◌∙◌}
use mathlib.Core.List.{List, [], ◌∷◌, ◌++◌, append_assoc, append-nil}
use lib.ListN.{length, set, replicate, length-append}
use lib.Seq.{set_at, append_snoc}
use Rattle.std.specs.List.{flat_map}
use Rattle.octets.specs.Parts.{bytes_at}
use Rattle.accumulator.specs.Tree.{tree_node, beside, siblings, zero_chunk}
use Rattle.accumulator.specs.Records.{record_count, difficulty_at, record_root, count_chunk, epoch_proof, flat}
use Rattle.accumulator.proofs.Epochs.{difficulty_read}
use Rattle.epoch_tree.proofs.Nodes.{siblings_next}

-- the chunks as std puts them one behind the other
pub flat_std : (chunks : List (List ℕ)) → flat_map (λ x. x) chunks ≡ flat chunks
unfolding flat
flat_std [] = refl
flat_std (chunk ∷ chunks) = ap (λ (l : List ℕ). chunk ++ l) (flat_std chunks)

-- an array of 15 chunks has some of those that are wanted and then zeros; these are left
pub record Filled (wanted left : List (List ℕ)) (n : ℕ) (out : List (List ℕ)) : Type 0 where
  pub front : List (List ℕ)
  pub array : out ≡ front ++ replicate (15 - n) zero_chunk
  pub filled : length front ≡ n
  pub total : front ++ left ≡ wanted

-- one more
filled_next : {wanted left : List (List ℕ)} {n : ℕ} {out : List (List ℕ)} (chunk : List ℕ) → Filled wanted (chunk ∷ left) n out → n < 15
    → (i : ℕ) → i ≡ n → (made : List ℕ) → made ≡ chunk → Filled wanted left (n + 1) (set out i made)
filled_next {left = left} {n = n} {out = out} chunk f small i at made is =
    let more : 15 - n ≡ suc (15 - (n + 1)) = omega arith in
    record {
      front = f.front ++ (chunk ∷ []);
      array = ap₂ (λ (j : ℕ) (x : List ℕ). set out j x) at is
          ∙ ap (λ (l : List (List ℕ)). set l n chunk) (f.array ∙ ap (λ (k : ℕ). f.front ++ replicate k zero_chunk) more)
          ∙ set_at f.front zero_chunk (replicate (15 - (n + 1)) zero_chunk) chunk n f.filled
          ∙ sym (append_snoc f.front chunk (replicate (15 - (n + 1)) zero_chunk));
      filled = length-append f.front (chunk ∷ []) ∙ ap (λ (k : ℕ). k + 1) f.filled;
      total = append_assoc f.front (chunk ∷ []) left ∙ f.total;
    }

module _ (records : List ℕ) (position : ℕ) where
  -- the array has the siblings below a height; those of the node at that height and place and of the nodes above it are left, and the number of records
  abbrev pub Written : ℕ → ℕ → List (List ℕ) → Type 0
  Written height place out =
      Filled (epoch_proof records position) (siblings (record_root records) (13 - height) height place ++ (count_chunk records ∷ [])) (height + 1) out

  -- the total difficulty comes first
  pub written_first : position < record_count records → (out : List (List ℕ)) → out ≡ replicate 15 zero_chunk → (made : List ℕ) (at : ℕ) → made ≡ bytes_at 32 at records
      → at ≡ 64 * position + 32 → Written 0 position (set out 0 made)
  unfolding epoch_proof
  written_first there out zeros made at is e =
      filled_next (difficulty_at records position) (record { front = []; array = zeros; filled = refl; total = refl }) (omega arith) 0 refl made
      (difficulty_read records position there made at is e)

  -- the next sibling
  pub written_next : (height place : ℕ) (out : List (List ℕ)) → height < 13 → Written height place out → (i : ℕ) → i ≡ height + 1
      → (made : List ℕ) (side : ℕ) → made ≡ tree_node (record_root records) height side → side ≡ beside place → Written (height + 1) (place / 2) (set out i made)
  written_next height place out below w i at made side is e =
      filled_next (tree_node (record_root records) height (beside place))
      (subst (λ (l : List (List ℕ)). Filled (epoch_proof records position) (l ++ (count_chunk records ∷ [])) (height + 1) out) (siblings_next (record_root records) height place below) w)
      (omega arith) i at made (is ∙ ap (tree_node (record_root records) height) e)

  -- the number of records comes last
  pub written_last : (height place : ℕ) (out : List (List ℕ)) → height ≡ 13 → Written height place out → (made : List ℕ) → made ≡ count_chunk records
      → set out 14 made ≡ epoch_proof records position
  unfolding siblings
  written_last height place out e w made is =
      let all = filled_next (count_chunk records) (subst (λ (h : ℕ). Written h place out) e w) (omega arith) 14 refl made is in
      all.array ∙ append-nil all.front ∙ sym (append-nil all.front) ∙ all.total
