-- What the list of records in a part of a message comes to, and what an answer about it says.
use Rattle.std.specs.Prelude.{ℕ, ◌-◌, ◌≡◌, Result, Ok, cond, ◌&&◌, List, leb, length}
use Rattle.std.proofs.Math.Option.{Option, some, none}
use Rattle.refusal.specs.Outcome.{outcome_of, map_outcome}
use Rattle.refusal.specs.declared.Refusal.{Refusal}
use Rattle.message.specs.Records.{records_of}
use Rattle.message.specs.Report.{places_of}
use Rattle.message.specs.Reading.{part_at, records_of_places, PlacesInside}
use Rattle.message.specs.declared.Places.{Places}
use Rattle.message_rules.specs.Good.{judged}

-- the records of the list from one index up to another, if there is such a part and its layout is right
abbrev pub records_in : List ℕ → ℕ → ℕ → Option (List (List ℕ))
records_in s base end = cond (leb base end && leb end (length s)) (records_of (part_at s base (end - base))) none

-- what the answer for that part says: the places of its records where they are good, else the refusal; that they are its records, and that
-- they lie in the message
pub record RecordsIn (s : List ℕ) (base end : ℕ) (r : Result Places Refusal) : Type 0 where
  pub report : outcome_of r ≡ map_outcome (λ (rs : List (List ℕ)). places_of base (part_at s base (end - base))) (judged (records_in s base end))
  pub value : (p : Places) → r ≡ Ok p → records_in s base end ≡ some (records_of_places s p)
  pub inside : (p : Places) → r ≡ Ok p → PlacesInside s p
