-- What the parts of reading say: the rest behind a fixed part, and what a message of a radius, of distances or of a key alone comes to.
use Rattle.std.specs.Prelude.{ℕ, ◌+◌, ◌<◌, ◌≡◌, cond, List, reverse, eqb, leb, length, drop}
use Rattle.std.proofs.Math.Option.{Option, some, none}
use Rattle.refusal.specs.Outcome.{Outcome, given, refused, map_outcome}
use Rattle.refusal.specs.declared.Refusal.{Refusal}
use Rattle.refusal.specs.declared.Refusal.TheVariants.{Layout}
use Rattle.content_key.specs.Key.{key_of}
use Rattle.message.specs.Rules.{all_different}
use Rattle.message.specs.Decode.{rest_of}
use Rattle.message.specs.Report.{to_end}
use Rattle.message.specs.declared.Part.{Part}

-- a container has its fixed part of n bytes and the offset of the rest, and this is the rest
pub record Rest (n : ℕ) (s r : List ℕ) : Type 0 where
  pub value : rest_of n (drop 1 s) ≡ some r
  pub same : r ≡ drop (n + 1) s
  pub long : n < length s

-- it has not, and is refused for its layout
pub record NoRest (n : ℕ) (s : List ℕ) (why : Refusal) : Type 0 where
  pub value : rest_of n (drop 1 s) ≡ none
  pub refused : why ≡ Layout

-- what comes of the rest where there is one, else 4
abbrev pub with_rest : {A : Type 0} → (List ℕ → Outcome A) → Option (List ℕ) → Outcome A
with_rest f none = refused 4
with_rest f (some r) = f r

-- a radius alone: 32 bytes, lightest first
abbrev pub radius_in : List ℕ → Outcome (List ℕ)
radius_in s = cond (eqb (length s) 33) (given (reverse (drop 1 s))) (refused 4)

-- distances alone: where they are, or 5 or 6
abbrev pub distances_in : List ℕ → Outcome Part
distances_in s =
    with_rest (λ (ds : List ℕ). cond (leb (length ds) 256) (cond (all_different eqb ds) (given (to_end s 5)) (refused 6)) (refused 5))
    (rest_of 4 (drop 1 s))

-- a key alone: where it is, or 7 or 8
abbrev pub key_in : List ℕ → Outcome Part
key_in s = with_rest (λ (key : List ℕ). map_outcome (λ (k : List ℕ). to_end s 5) (key_of key)) (rest_of 4 (drop 1 s))
