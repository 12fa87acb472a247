-- When records are good at their places in some bytes: at most 32, each within the bytes, and their own rules kept.
use Rattle.std.specs.Prelude.{ℕ, ◌-◌, Bool, cond, ◌&&◌, List, eqb, leb, length, take}
use Rattle.std.proofs.Math.Option.{Option, some, none}
use Rattle.refusal.specs.Outcome.{Outcome, given, refused}
use Rattle.std.specs.List.{list_all, zip}
use Rattle.message.specs.Rules.{good_records}
use Rattle.message.specs.Reading.{records_of_places}
use Rattle.message.specs.declared.Places.{Places}

-- a place lies in the bytes
abbrev pub within : List ℕ → ℕ → ℕ → Bool
within s start len = leb start (length s) && leb len (length s - start)

-- as many starts as lengths, and every place within the bytes
abbrev pub all_within : List ℕ → List ℕ → List ℕ → Bool
all_within s starts lens = eqb (length starts) (length lens) && list_all (λ (place : ℕ × ℕ). within s place.0 place.1) (zip starts lens)

-- every length is 1 to 300
abbrev pub sizes_good : List ℕ → Bool
sizes_good lens = list_all (λ (n : ℕ). leb 1 n && leb n 300) lens

-- at most 32 records, each within the bytes, each of 1 to 300 bytes, no two equal byte for byte
unfoldable pub good_at : List ℕ → Places → Bool
good_at s places =
    leb places.count 32
    && all_within s (take places.count places.starts) (take places.count places.lens)
    && good_records (records_of_places s places)

-- what records come to, if there are any such: 4 where there are none, 5 for more than 32, 6 for a rule that they break
abbrev pub judged : Option (List (List ℕ)) → Outcome (List (List ℕ))
judged none = refused 4
judged (some rs) = cond (leb (length rs) 32) (cond (good_records rs) (given rs) (refused 6)) (refused 5)
