-- What each answer of `read_records` says: each refusal, and the records that were found. Assumes nothing.
use Prim.Native.Nat.{ℕ, ◌-◌, ◌<◌, ◌≤◌}
use native.Mathlib.Omega.{arith}
use mathlib.Core.Path.{◌≡◌, sym, ap, subst, ◌∙◌}
use mathlib.Core.Bool.{Bool, true, false, cond}
use mathlib.Core.List.{List}
use mathlib.Core.Option.{some}
use lib.ListN.{length}
use borrow.Author.Tests.{le-leb, lt-leb}
use Rattle.std.specs.Prelude.{Ok, Err, None}
use Rattle.refusal.specs.Says.{says_of}
use Rattle.refusal.specs.Outcome.{given, refusal, map_outcome}
use Rattle.refusal.specs.declared.Refusal.{Refusal}
use Rattle.refusal.specs.declared.Refusal.TheVariants.{Layout, TooManyItems, ItemRule}
use Rattle.message.specs.Records.{offsets_of, offsets_in, between, records_of}
use Rattle.message.specs.Rules.{good_records}
use Rattle.message.specs.Report.{places_at, places_of}
use Rattle.message.specs.Reading.{part_at, records_of_places, PlacesInside}
use Rattle.message.specs.declared.Places.{Places}
use Rattle.message.proofs.Reports.{Holding, places_holding}
use Rattle.message.proofs.Records.{between_length, offsets_count}
use Rattle.message_rules.specs.Good.{good_at, judged}
use Rattle.message_rules.proofs.Places.{part_length}
use Rattle.message_rules.proofs.Good.{good_placed}
use Rattle.message_records.specs.Found.{records_in, RecordsIn}
use Rattle.message_records.specs.Places.{laid_count}
use Rattle.message_records.proofs.Filled.{places_in_lem, places_hold}
use Rattle.message_records.proofs.Layouts.{Read, uncounted}

module _ (s : List ℕ) (base end : ℕ) where
  -- a refusal
  refused_in : (why : Refusal) → judged (records_in s base end) ≡ refusal (says_of why) → RecordsIn s base end (Err why)
  refused_in why e =
      record {
        report = sym (ap (map_outcome (λ (rs : List (List ℕ)). places_of base (part_at s base (end - base)))) e);
        value = λ p q. cc;
        inside = λ p q. cc;
      }

  module _ (l : List ℕ) (is : l ≡ part_at s base (end - base)) (h : base ≤ end) (g : end ≤ length s) where
    -- the part is there
    part_in : records_in s base end ≡ records_of l
    part_in = rw (le-leb base end h, le-leb end (length s) g) (ap records_of (sym is))

    size : length l ≡ end - base
    size = ap length is ∙ part_length s base (end - base) (omega arith)

    -- its layout is broken
    pub unread : None ≡ laid_count l → RecordsIn s base end (Err Layout)
    unread e = refused_in Layout (ap judged (part_in ∙ uncounted l (sym e)))

    module _ (count : ℕ) (read : Read l count) where
      abbrev found : List (List ℕ)
      found = between l (offsets_of count l)

      many : length found ≡ count
      many = between_length l (offsets_of count l) ∙ offsets_count count l

      found_in : records_in s base end ≡ some found
      found_in = part_in ∙ read.records

      -- it has more than 32 records
      pub too_many : 32 < count → RecordsIn s base end (Err TooManyItems)
      too_many big = refused_in TooManyItems (ap judged found_in ∙ rw (many, lt-leb count 32 big))

      module _ (few : count ≤ 32) (p : Places) (at : p ≡ places_at base (length l) (offsets_of count l)) where
        told : judged (records_in s base end) ≡ cond (good_records found) (given found) (refusal (says_of ItemRule))
        told = ap judged found_in ∙ rw (many, le-leb count 32 few)

        placed : l ≡ part_at s base (length l)
        placed = rw size is

        inside : PlacesInside s p
        inside = subst (PlacesInside s) (sym at) (places_in_lem l base count few s placed (omega (arith, size)) read.in_order_lem)

        held : records_of_places s p ≡ found
        held = ap (records_of_places s) at ∙ places_hold l base count few s placed (omega (arith, size)) read.in_order_lem

        -- they are those that the list must have
        reported : p ≡ places_of base (part_at s base (end - base))
        unfolding offsets_in
        reported =
            at
            ∙ ap (λ (k : ℕ). places_at base (length l) (offsets_of k l)) read.count
            ∙ ap (places_of base) is

        tested : (t : Bool) → t ≡ good_at s p → good_records found ≡ t
        tested t e =
            let all : Holding p = subst Holding (sym at) (places_holding base (length l) (offsets_of count l)) in
            ap good_records (sym held) ∙ sym (good_placed s p all.starts all.lens inside) ∙ sym e

        -- a record breaks a rule
        pub bad : (t : Bool) → t ≡ good_at s p → t ≡ false → RecordsIn s base end (Err ItemRule)
        bad t e f = refused_in ItemRule (told ∙ rw (tested t e, f))

        -- all is good
        pub good : (t : Bool) → t ≡ good_at s p → t ≡ true → RecordsIn s base end (Ok p)
        good t e f =
            let accepted : judged (records_in s base end) ≡ given found = told ∙ rw (tested t e, f) in
            record {
              report = ap given reported ∙ sym (ap (map_outcome (λ (rs : List (List ℕ)). places_of base (part_at s base (end - base)))) accepted);
              value = λ q w. let same : p ≡ q = cc in found_in ∙ ap some (sym held ∙ ap (records_of_places s) same);
              inside = λ q w. let same : p ≡ q = cc in subst (PlacesInside s) same inside;
            }
