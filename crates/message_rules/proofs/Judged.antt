-- What a message of records comes to, once the records are judged: one test of its own is left. Assumes nothing.
use Prim.Native.Nat.{ℕ}
use mathlib.Core.Path.{◌≡◌, refl, sym, ap, ◌∙◌}
use mathlib.Core.Bool.{Bool, true, false, cond, ◌&&◌}
use mathlib.Core.List.{List}
use mathlib.Core.Option.{Option, some, none}
use lib.Dec.{leb}
use lib.ListN.{length}
use Rattle.refusal.specs.Says.{Said}
use Rattle.refusal.specs.Outcome.{given, refusal, refused}
use Rattle.refusal.proofs.Outcomes.{given_not}
use Rattle.message.specs.Values.{Message}
use Rattle.message.specs.Rules.{good_records, ruled, rules_of}
use Rattle.message.specs.Decode.{map_some, ruled_or4}
use Rattle.message_rules.specs.Good.{judged}

-- records that are accepted are there, and are good
pub record Accepted (o : Option (List (List ℕ))) (rs : List (List ℕ)) : Type 0 where
  pub there : o ≡ some rs
  pub good : good_records rs ≡ true

pub judged_given : (o : Option (List (List ℕ))) (rs : List (List ℕ)) → given rs ≡ judged o → Accepted o rs
judged_given none rs e = given_not e
judged_given (some q) rs e = go (leb (length q) 32) (good_records q) refl e
  where
    go : (few good : Bool) → good_records q ≡ good → given rs ≡ cond few (cond good (given q) (refused 6)) (refused 5) → Accepted (some q) rs
    go true true g w = let same : rs ≡ q = cc in record { there = ap some (sym same); good = ap good_records same ∙ g }
    go true false g w = given_not w
    go false good g w = given_not w

module _ (f : List (List ℕ) → Message) (more : List (List ℕ) → Bool)
    (rules : (rs : List (List ℕ)) → rules_of (f rs) ≡ ruled (leb (length rs) 32) (good_records rs && more rs) (f rs)) where
  -- where the records are refused, the message is
  pub judged_refused : (o : Option (List (List ℕ))) (says : Said) → refusal says ≡ judged o → ruled_or4 (map_some f o) ≡ refusal says
  judged_refused none says e = cc
  judged_refused (some rs) says e = rules rs ∙ go (leb (length rs) 32) (good_records rs) (more rs) e
    where
      go : (few good t : Bool) → refusal says ≡ cond few (cond good (given rs) (refused 6)) (refused 5) → ruled few (good && t) (f rs) ≡ refusal says
      go false good t w = cc
      go true false t w = cc
      go true true t w = given_not (sym w)

  -- where they are accepted, the test decides
  pub judged_tested : (o : Option (List (List ℕ))) (rs : List (List ℕ)) → given rs ≡ judged o
      → ruled_or4 (map_some f o) ≡ cond (more rs) (given (f rs)) (refused 6)
  judged_tested o rs e =
      ap (λ (k : Option (List (List ℕ))). ruled_or4 (map_some f k)) a.there
      ∙ rules rs
      ∙ go (leb (length rs) 32) (good_records rs) (more rs) (e ∙ ap judged a.there)
    where
      a : Accepted o rs
      a = judged_given o rs e

      go : (few good t : Bool) → given rs ≡ cond few (cond good (given rs) (refused 6)) (refused 5)
          → ruled few (good && t) (f rs) ≡ cond t (given (f rs)) (refused 6)
      go true true t w = refl
      go true false t w = given_not w
      go false good t w = given_not w
