-- The places in a report: no fewer than its records. Assumes nothing.
use Prim.Native.Nat.{ℕ, suc, ◌+◌, ◌-◌, ◌≤◌}
use native.Mathlib.Omega.{arith}
use mathlib.Core.Path.{◌≡◌, refl, sym, ap, subst, ◌∙◌}
use mathlib.Core.List.{List, [], ◌∷◌, map}
use lib.ListN.{length, replicate, length-append, length-map}
use Rattle.std.specs.Prelude.{Result, Ok}
use Rattle.refusal.specs.Outcome.{Outcome, given, refusal, outcome_of, map_outcome}
use Rattle.refusal.proofs.Outcomes.{given_not}
use Rattle.refusal.specs.declared.Refusal.{Refusal}
use Rattle.message.specs.Values.{Message, ping, pong, find_node, found_nodes, find_content, found_content, offer, accept, store}
use Rattle.message.specs.Report.{in32, gaps, starts_of, lens_of, places_at, report_of}
use Rattle.message.specs.Reading.{ReadTo}
use Rattle.message.specs.declared.Places.{Places}
use Rattle.message.specs.declared.Reading.{Reading}
use Rattle.message.specs.declared.Reading.TheVariants.{Ping, Pong, FindNode, FoundNodes, FindContent, FoundContent, Offer, Accept, Store}

in32_holds : (ns : List ℕ) → length ns ≤ length (in32 ns)
in32_holds ns = omega (arith, length-append ns (replicate (32 - length ns) 0))

-- as many lengths as offsets
pub gaps_length : (end : ℕ) (os : List ℕ) → length (gaps end os) ≡ length os
unfolding gaps
gaps_length end [] = refl
gaps_length end (a ∷ []) = refl
gaps_length end (a ∷ b ∷ os) = ap suc (gaps_length end (b ∷ os))

-- the starts and lengths hold those of each record
pub record Holding (places : Places) : Type 0 where
  pub starts : places.count ≤ length places.starts
  pub lens : places.count ≤ length places.lens

pub places_holding : (base size : ℕ) (os : List ℕ) → Holding (places_at base size os)
unfolding starts_of lens_of
places_holding base size os =
    record {
      starts = omega (arith, in32_holds (map (λ (o : ℕ). base + o) os), length-map os (λ (o : ℕ). base + o));
      lens = omega (arith, in32_holds (gaps size os), gaps_length size os);
    }

abbrev pub Holds : Reading → Type 0
Holds (Ping radius) = Unit {0}
Holds (Pong radius) = Unit {0}
Holds (FindNode distances) = Unit {0}
Holds (FoundNodes total records) = Holding records
Holds (FindContent key) = Unit {0}
Holds (FoundContent connection records content) = Holding records
Holds (Offer key) = Unit {0}
Holds (Accept key) = Unit {0}
Holds (Store connection content) = Unit {0}

report_holds : (s : List ℕ) (m : Message) → Holds (report_of s m)
report_holds s (ping radius) = tt
report_holds s (pong radius) = tt
report_holds s (find_node distances) = tt
report_holds s (found_nodes total records) = places_holding 6 _ _
report_holds s (find_content key) = tt
report_holds s (found_content connection records content) = places_holding 13 _ _
report_holds s (offer key) = tt
report_holds s (accept key) = tt
report_holds s (store connection content) = tt

pub read_holds : {d : Outcome Message} {s : List ℕ} {r : Result Reading Refusal} → ReadTo d s r → (a : Reading) → r ≡ Ok a → Holds a
read_holds {d} {s} {r} t a e = go d (ap outcome_of (sym e) ∙ t.report)
  where
    go : (o : Outcome Message) → given a ≡ map_outcome (report_of s) o → Holds a
    go (given m) is = let same : report_of s m ≡ a = cc in subst Holds same (report_holds s m)
    go (refusal says) is = given_not is
