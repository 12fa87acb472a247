-- What the layout and the rules come to for the two messages with records. The answer on the records has decided all of it but one test of the
-- message's own: the total of FoundNodes, the things present of FoundContent. Assumes nothing.
use Prim.Native.Nat.{ℕ, ◌+◌, ◌-◌, ◌<◌, ◌≤◌}
use native.Mathlib.Omega.{arith}
use mathlib.Core.Path.{◌≡◌, refl, sym, ap, ap₂, ◌∙◌}
use mathlib.Core.Bool.{Bool, true, false, cond, ◌&&◌, and_comm}
use mathlib.Core.List.{List}
use mathlib.Core.Option.{Option, some, some-injective}
use lib.Dec.{ltb, leb, eqb}
use lib.ListN.{length, get_or, take, drop, length-drop}
use lib.Seq.{drop-drop, get_or-drop}
use borrow.Author.Tests.{ltb-true, ltb-false, lt-ltb, le-ltb, le-leb, lt-leb, eq-eqb, ne_eqb}
use Rattle.std.specs.Prelude.{Ok, Err}
use Rattle.refusal.specs.Says.{says_of}
use Rattle.refusal.specs.Outcome.{Outcome, given, refusal, refused, map_outcome}
use Rattle.refusal.proofs.Outcomes.{given_not}
use Rattle.refusal.specs.declared.Refusal.{Refusal}
use Rattle.refusal.specs.declared.Refusal.TheVariants.{Layout, ItemRule}
use Rattle.message.specs.Values.{Message, found_nodes, found_content}
use Rattle.message.specs.Records.{offset_of, records_of}
use Rattle.message.specs.Rules.{one, present, connected, good_records, ruled, rules_of}
use Rattle.message.specs.Decode.{map_some, two_offsets, found_nodes_of, found_content_of, layout_of, ruled_or4}
use Rattle.message.specs.Report.{places_of, to_end}
use Rattle.message.specs.Reading.{part_at, records_of_places, ReadTo}
use Rattle.message.specs.declared.Part.{Part}
use Rattle.message.specs.declared.Places.{Places}
use Rattle.message.specs.declared.Reading.TheVariants.{FoundNodes, FoundContent}
use Rattle.message.proofs.Layouts.{TwoOffsets, two_pass, pass_two}
use Rattle.message_rules.specs.Good.{judged}
use Rattle.message_rules.specs.Things.{things_of}
use Rattle.message_rules.proofs.Judged.{judged_given, judged_refused, judged_tested}
use Rattle.message_rules.proofs.Places.{records_length}
use Rattle.message_rules.proofs.Present.{things_three}
use Rattle.message_records.specs.Found.{records_in, RecordsIn}
use Rattle.message_read.specs.Shapes.{Rest, NoRest}
use Rattle.message_read.proofs.Lists.{part_rest}
use Rattle.message_read.proofs.Answers.{accepted_to, refused_to}

-- a message of records, whose rules are those of the records and one test more
module _ (f : List (List ℕ) → Message) (more : List (List ℕ) → Bool)
    (rules : (rs : List (List ℕ)) → rules_of (f rs) ≡ ruled (leb (length rs) 32) (good_records rs && more rs) (f rs))
    (s : List ℕ) (base end : ℕ) where
  abbrev placed : List (List ℕ) → Places
  placed rs = places_of base (part_at s base (end - base))

  -- where the records are refused, it is
  records_refused : (why : Refusal) → RecordsIn s base end (Err why) → ruled_or4 (map_some f (records_in s base end)) ≡ refusal (says_of why)
  records_refused why r = judged_refused f more rules (records_in s base end) (says_of why) (go (judged (records_in s base end)) r.report)
    where
      go : (o : Outcome (List (List ℕ))) → refusal (says_of why) ≡ map_outcome placed o → refusal (says_of why) ≡ o
      go (refusal says) e = cc
      go (given rs) e = given_not (sym e)

  -- where they are good, the test decides; and they are at the places of their list
  module _ (p : Places) (r : RecordsIn s base end (Ok p)) where
    accepted : (o : Outcome (List (List ℕ))) → judged (records_in s base end) ≡ o → given p ≡ map_outcome placed o
        → (given (records_of_places s p) ≡ judged (records_in s base end)) × (p ≡ places_of base (part_at s base (end - base)))
    accepted (refusal says) q e = given_not e
    accepted (given rs) q e =
        let there : some rs ≡ some (records_of_places s p) = sym (judged_given (records_in s base end) rs (sym q)).there ∙ r.value p refl in
        (ap given (sym (some-injective rs (records_of_places s p) there)) ∙ sym q, cc)

    records_tested : ruled_or4 (map_some f (records_in s base end)) ≡ cond (more (records_of_places s p)) (given (f (records_of_places s p))) (refused 6)
    records_tested =
        judged_tested f more rules (records_in s base end) (records_of_places s p) (accepted (judged (records_in s base end)) refl r.report).0

    records_placed : p ≡ places_of base (part_at s base (end - base))
    records_placed = (accepted (judged (records_in s base end)) refl r.report).1

-- FoundNodes
nodes_rules : (total : ℕ) (rs : List (List ℕ)) → rules_of (found_nodes total rs) ≡ ruled (leb (length rs) 32) (good_records rs && ltb 0 total) (found_nodes total rs)
unfolding rules_of
nodes_rules total rs = ap (λ (b : Bool). ruled (leb (length rs) 32) b (found_nodes total rs)) (and_comm (ltb 0 total) (good_records rs))

pub nodes_broken : (s : List ℕ) (why : Refusal) → NoRest 5 s why → ReadTo (ruled_or4 (layout_of 4 (drop 1 s))) s (Err why)
unfolding layout_of found_nodes_of
nodes_broken s why t =
    refused_to why
    (ap (λ (o : Option (List ℕ)). ruled_or4 (found_nodes_of (get_or (drop 1 s) 0 0) o)) t.value
    ∙ ap (λ (w : Refusal). refusal (says_of w)) (sym t.refused))

module _ (s : List ℕ) {r : List ℕ} (t : Rest 5 s r) where
  abbrev total : ℕ
  total = get_or s 1 0

  nodes_in : records_in s 6 (length s) ≡ records_of (drop 6 s)
  nodes_in = rw (le-leb 6 (length s) (omega (arith, t.long)), le-leb (length s) (length s) (omega arith), part_rest s 6)

  nodes_layout : layout_of 4 (drop 1 s) ≡ map_some (found_nodes total) (records_in s 6 (length s))
  unfolding layout_of found_nodes_of
  nodes_layout =
      ap₂ found_nodes_of (get_or-drop 1 s 0 0) (t.value ∙ ap some t.same)
      ∙ ap (map_some (found_nodes total)) (sym nodes_in)

  pub nodes_refused : (why : Refusal) → RecordsIn s 6 (length s) (Err why) → ReadTo (ruled_or4 (layout_of 4 (drop 1 s))) s (Err why)
  nodes_refused why f =
      refused_to why
      (ap ruled_or4 nodes_layout ∙ records_refused (found_nodes total) (λ rs. ltb 0 total) (nodes_rules total) s 6 (length s) why f)

  module _ (p : Places) (f : RecordsIn s 6 (length s) (Ok p)) where
    nodes_tested : ruled_or4 (layout_of 4 (drop 1 s)) ≡ cond (ltb 0 total) (given (found_nodes total (records_of_places s p))) (refused 6)
    nodes_tested = ap ruled_or4 nodes_layout ∙ records_tested (found_nodes total) (λ rs. ltb 0 total) (nodes_rules total) s 6 (length s) p f

    pub nodes_zero : total ≡ 0 → ReadTo (ruled_or4 (layout_of 4 (drop 1 s))) s (Err ItemRule)
    nodes_zero z = refused_to ItemRule (nodes_tested ∙ rw (le-ltb 0 total (omega arith)))

    pub nodes_good : (total ≡ 0 → ⊥) → ReadTo (ruled_or4 (layout_of 4 (drop 1 s))) s (Ok (FoundNodes total p))
    nodes_good z =
        accepted_to (FoundNodes total p) (f.inside p refl) (nodes_tested ∙ rw (lt-ltb 0 total (omega arith)))
        (ap (FoundNodes total)
        (records_placed (found_nodes total) (λ rs. ltb 0 total) (nodes_rules total) s 6 (length s) p f ∙ ap (places_of 6) (part_rest s 6)))

-- FoundContent: its two offsets
module _ (s : List ℕ) where
  last_test : (n : ℕ) → 0 < length s → leb n (length (drop 1 s)) ≡ ltb n (length s)
  last_test n h = go (ltb n (length s)) refl
    where
      go : (b : Bool) → ltb n (length s) ≡ b → leb n (length (drop 1 s)) ≡ ltb n (length s)
      go true e = le-leb n (length (drop 1 s)) (omega (arith, length-drop 1 s, ltb-true n (length s) e)) ∙ sym e
      go false e = lt-leb n (length (drop 1 s)) (omega (arith, length-drop 1 s, ltb-false n (length s) e)) ∙ sym e

  pub two_short : length s < 13 → false ≡ two_offsets (drop 1 s)
  unfolding two_offsets
  two_short h = rw (lt-leb 12 (length (drop 1 s)) (rw (length-drop 1 s) (omega arith)))

  module _ {first : ℕ} (h : 13 ≤ length s) (p : first ≡ offset_of (drop 5 s)) where
    two_after : two_offsets (drop 1 s) ≡ (eqb first 12 && leb 12 (offset_of (drop 9 s)) && leb (offset_of (drop 9 s)) (length (drop 1 s)))
    unfolding two_offsets
    two_after =
        rw (le-leb 12 (length (drop 1 s)) (rw (length-drop 1 s) (omega arith)), drop-drop 4 1 s, drop-drop 8 1 s, p)

    pub two_first : (first ≡ 12 → ⊥) → false ≡ two_offsets (drop 1 s)
    two_first n = sym (two_after ∙ rw (ne_eqb first 12 n))

    module _ {second : ℕ} (n : first ≡ 12) (q : second ≡ offset_of (drop 9 s)) where
      pub two_second : second < 12 → false ≡ two_offsets (drop 1 s)
      two_second l = sym (two_after ∙ rw (eq-eqb first 12 n, ← q, lt-leb 12 second l))

      pub two_tested : 12 ≤ second → ltb second (length s) ≡ two_offsets (drop 1 s)
      two_tested l = sym (two_after ∙ rw (eq-eqb first 12 n, ← q, le-leb 12 second l, last_test second (omega arith)))

-- FoundContent: a message with more than one of a connection id, records and content is refused
pub content_broken : (s : List ℕ) → false ≡ two_offsets (drop 1 s) → ReadTo (ruled_or4 (layout_of 6 (drop 1 s))) s (Err Layout)
unfolding layout_of found_content_of
content_broken s w = refused_to Layout (rw (sym w))

-- what the two offsets say of the message
module _ (s : List ℕ) (w : true ≡ two_offsets (drop 1 s)) (second : ℕ) (q : second ≡ offset_of (drop 9 s)) where
  offsets : TwoOffsets (drop 1 s)
  offsets = pass_two (drop 1 s) (sym w)

  at : offset_of (drop 8 (drop 1 s)) ≡ second
  at = ap offset_of (drop-drop 8 1 s) ∙ sym q

  pub content_long : 13 ≤ length s
  content_long = omega (arith, offsets.long, length-drop 1 s)

  pub content_end : 1 + second ≤ length s
  content_end = omega (arith, content_long, offsets.most, at, length-drop 1 s)

  -- the message of some records
  abbrev content : List (List ℕ) → Message
  content rs = found_content (take 4 (drop 1 s)) rs (drop (1 + second) s)

  abbrev sparse : List (List ℕ) → Bool
  sparse rs = leb (one (connected (take 4 (drop 1 s))) + one (present rs) + one (present (drop (1 + second) s))) 1

  content_rules : (rs : List (List ℕ)) → rules_of (content rs) ≡ ruled (leb (length rs) 32) (good_records rs && sparse rs) (content rs)
  unfolding rules_of
  content_rules q = refl

  content_in : records_in s 13 (1 + second) ≡ records_of (take (second - 12) (drop 13 s))
  content_in =
      let l : 1 + second - 13 ≡ second - 12 = omega arith in
      rw (le-leb 13 (1 + second) (omega (arith, offsets.least, at)), le-leb (1 + second) (length s) content_end, l)

  content_layout : layout_of 6 (drop 1 s) ≡ map_some content (records_in s 13 (1 + second))
  unfolding layout_of found_content_of
  content_layout =
      rw (two_pass offsets, at, drop-drop 12 1 s, drop-drop second 1 s) (ap (map_some content) (sym content_in))

  pub content_refused : (why : Refusal) → RecordsIn s 13 (1 + second) (Err why) → ReadTo (ruled_or4 (layout_of 6 (drop 1 s))) s (Err why)
  content_refused why f =
      refused_to why (ap ruled_or4 content_layout ∙ records_refused content sparse content_rules s 13 (1 + second) why f)

  module _ (p : Places) (f : RecordsIn s 13 (1 + second) (Ok p)) (id : List ℕ) (is : id ≡ take 4 (drop 1 s)) (n : ℕ)
      (place : Part) (at_end : place ≡ to_end s (1 + second)) (c : n ≡ things_of id p.count place.len) where
    content_tested : ruled_or4 (layout_of 6 (drop 1 s)) ≡ cond (leb n 1) (given (content (records_of_places s p))) (refused 6)
    content_tested =
        let count : n ≡ things_of (take 4 (drop 1 s)) p.count (length s - (1 + second)) = c ∙ ap₂ (λ (i : List ℕ) (q : Part). things_of i p.count q.len) is at_end in
        ap ruled_or4 content_layout
        ∙ records_tested content sparse content_rules s 13 (1 + second) p f
        ∙ rw (things_three (take 4 (drop 1 s)) (records_of_places s p) (drop (1 + second) s), records_length s p.starts p.lens p.count, length-drop (1 + second) s, ← count)

    pub content_many : 1 < n → ReadTo (ruled_or4 (layout_of 6 (drop 1 s))) s (Err ItemRule)
    content_many h = refused_to ItemRule (content_tested ∙ rw (lt-leb n 1 h))

    pub content_good : n ≤ 1 → ReadTo (ruled_or4 (layout_of 6 (drop 1 s))) s (Ok (FoundContent id p place))
    content_good h =
        let records = records_placed content sparse content_rules s 13 (1 + second) p f in
        accepted_to (FoundContent id p place) (f.inside p refl, rw at_end (omega (arith, content_end)))
        (content_tested ∙ rw (le-leb n 1 h, at_end, part_rest s (1 + second), is))
        (rw (is, at_end, ← q) (ap (λ (k : Places). FoundContent (take 4 (drop 1 s)) k (to_end s (1 + second))) records))
