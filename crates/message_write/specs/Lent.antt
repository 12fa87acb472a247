-- Records to write: bytes that the caller lends, with a start and a length for each record; and the answer on them.
use Rattle.std.specs.Prelude.{ℕ, ◌≤◌, ◌<◌, ◌≡◌, Result, Ok, cond, List, [], ◌∷◌, get_or}
use Rattle.std.proofs.Math.Option.{Option, some, none}
use Rattle.refusal.specs.Outcome.{outcome_of, map_outcome}
use Rattle.refusal.specs.declared.Refusal.{Refusal}
use Rattle.message.specs.Reading.{part_at, records_of_places, PlacesInside}
use Rattle.message.specs.declared.Places.{Places}
use Rattle.message_rules.specs.Good.{within, judged}

-- the records at their places: none where one is not within the bytes lent, or where starts and lengths differ in number
unfoldable pub lent : List ℕ → List ℕ → List ℕ → Option (List (List ℕ))
lent s [] [] = some []
lent s [] (n ∷ ns) = none
lent s (a ∷ as') [] = none
lent s (a ∷ as') (n ∷ ns) = cond (within s a n) (next (part_at s a n) (lent s as' ns)) none
  where
    next : List ℕ → Option (List (List ℕ)) → Option (List (List ℕ))
    next r none = none
    next r (some rs) = some (r ∷ rs)

-- there are at most 32 records, each of at most 300 bytes
pub record Small (places : Places) : Type 0 where
  pub few : places.count ≤ 32
  pub each : (i : ℕ) → i < places.count → get_or places.lens i 0 ≤ 300

-- besides, each lies in some bytes
pub record Lendable (s : List ℕ) (places : Places) : Type 0 where
  pub small : Small places
  pub inside : PlacesInside s places

-- what an answer about records that are lent says: 4 before 5 before 6, or the places of those records
pub record LentTo (s starts lens : List ℕ) (r : Result Places Refusal) : Type 0 where
  pub value : map_outcome (records_of_places s) (outcome_of r) ≡ judged (lent s starts lens)
  pub places : (p : Places) → r ≡ Ok p → Lendable s p
