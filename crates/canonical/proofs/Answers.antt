-- What `canonical` answers. Assumes nothing.
use Prim.Native.Nat.{ℕ, ◌*◌, ◌/◌, ◌<◌, ◌≤◌}
use native.Mathlib.Omega.{arith}
use mathlib.Core.Path.{◌≡◌, sym, ap, ap₂, ◌∙◌}
use mathlib.Core.Bool.{Bool, true, false}
use mathlib.Core.List.{List}
use lib.ListN.{length}
use borrow.Author.Tests.{eqb-true, lt-ltb, le-ltb}
use Rattle.refusal.specs.Says.{Said, only}
use Rattle.refusal.specs.Outcome.{given, refusal}
use Rattle.octets.specs.Equal.{same_bytes}
use Rattle.octets.specs.Parts.{bytes_at}
use Rattle.octets.proofs.Tests.{both}
use Rattle.octets.proofs.Parts.{bytes_at_all, bytes_at_part}
use Rattle.accumulator.specs.Tree.{root_along}
use Rattle.accumulator.specs.Verdict.{chunks_of, epoch_of, hash_index, root_at, lengths_good, is_canonical, canonical_of}

module _ (number : ℕ) (hash proof roots : List ℕ) where
  -- the hash and the proof have their lengths
  pub right_lengths : lengths_good hash proof roots ≡ true → (length hash ≡ 32) × (length proof ≡ 480)
  unfolding lengths_good
  right_lengths e =
      let three = (both _ _ e).0 in
      let two = both _ _ (both _ _ three).0 in
      (eqb-true (length hash) 32 two.0, eqb-true (length proof) 480 two.1)

  pub wrong_length : lengths_good hash proof roots ≡ false → (says : Said) → says ≡ only 24 → refusal says ≡ canonical_of number hash proof roots
  unfolding canonical_of
  wrong_length bad says is = ap refusal is ∙ sym (rw bad)

  pub no_epoch : lengths_good hash proof roots ≡ true → length roots / 32 ≤ epoch_of number → (says : Said) → says ≡ only 25
      → refusal says ≡ canonical_of number hash proof roots
  unfolding canonical_of
  no_epoch good past says is = ap refusal is ∙ sym (rw (good, le-ltb (epoch_of number) (length roots / 32) past))

  module _ (good : lengths_good hash proof roots ≡ true) (lent : epoch_of number < length roots / 32) where
    -- the root that is computed
    pub computed_is : (computed : List ℕ) (index : ℕ) (leaf : List ℕ) → computed ≡ root_along index leaf (chunks_of 15 proof) → index ≡ hash_index number
        → leaf ≡ bytes_at 32 0 hash → computed ≡ root_along (hash_index number) hash (chunks_of 15 proof)
    computed_is computed index leaf e f g =
        e ∙ ap₂ (λ (i : ℕ) (x : List ℕ). root_along i x (chunks_of 15 proof)) f (g ∙ bytes_at_all 32 hash (right_lengths good).0)

    -- the root that is lent for the epoch
    pub wanted_is : (wanted : List ℕ) (at : ℕ) → wanted ≡ bytes_at 32 at roots → at ≡ 32 * epoch_of number → wanted ≡ root_at roots (epoch_of number)
    wanted_is wanted at e f =
        e ∙ ap (λ (k : ℕ). bytes_at 32 k roots) f ∙ bytes_at_part 32 (32 * epoch_of number) roots (omega (arith, lent))

    -- past the tests: whether these two are the same
    pub judged : (computed wanted : List ℕ) (same : Bool) → same ≡ same_bytes computed wanted → computed ≡ root_along (hash_index number) hash (chunks_of 15 proof)
        → wanted ≡ root_at roots (epoch_of number) → given same ≡ canonical_of number hash proof roots
    unfolding canonical_of is_canonical
    judged computed wanted same is e f =
        ap given (is ∙ ap₂ same_bytes e f) ∙ sym (rw (good, lt-ltb (epoch_of number) (length roots / 32) lent))
