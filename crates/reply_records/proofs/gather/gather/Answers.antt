-- What the check does not find alone of `reply_records::gather::gather`; the invariants beside it say how the loop goes. Assumes nothing.
use Rattle.std.proofs.Common.{ℕ, ◌<◌, ◌+◌, List, [], ◌∷◌, length, get_or, sym, ap, ◌∙◌, arith}
use lib.Seq.{get_or-take}
use borrow.Author.Count.{below_more}
use Rattle.message.specs.Reading.{records_at}
use Rattle.routing_table.specs.View.{view, no_entry}
use Rattle.routing_table.specs.declared.Entry.{Entry}
use Rattle.routing_table.proofs.Firsts.{get_firsts}
use Rattle.replies.specs.Chosen.{chosen, entry_record, once_from}
use Rattle.replies.specs.Nodes.{sendable}
use Rattle.reply_records.specs.Records.{slotted, kept_with}
use Rattle.reply_records.proofs.Kept.{kept_turn, kept_end, records_from, records_next, records_none, whole_of}
use Rattle.reply_records.proofs.gather.gather.Goals as goal

pub loop-place-init : goal.loop-place-init
unfolding records_at
loop-place-init c =
    let a = c.args in
    let k = c.keep.ensures.1 in
    let rest = records_from (view a.table.now) a.order.count a.order.places 0 in
    record {
      few = omega (arith, k.most, c.none-kept.ensures.count);
      starts = c.keep.ensures.0 ∙ c.none-kept.ensures.starts;
      slots = k.slots;
      sized = λ i h. absurd (omega arith);
      left = kept_turn _ [] _ rest (k.are ∙ ap (λ (n : ℕ). kept_with a.own.now (slotted c.none-kept.result.bytes c.none-kept.result.lens n)) c.none-kept.ensures.count);
    }

pub loop-place-preserved : goal.loop-place-preserved
loop-place-preserved c =
    let a = c.args in
    let t = a.table.now in
    let i = c.loop-place.place-index in
    let k = c.keep_entry.ensures.2 in
    let here : i < a.order.count = omega (arith, c.requires.few, c.requires.room) in
    let place = c.requires.inside i here in
    let is = get_firsts no_entry t.count t.entries (get_or a.order.places i 0) place.0 in
    let there = get_or-take a.order.count a.order.places i 0 here in
    let rest = records_from (view t) a.order.count a.order.places (i + 1) in
    record {
      few = omega (arith, k.most);
      starts = c.keep_entry.ensures.1 ∙ c.loop-place.invariant.starts;
      slots = k.slots;
      sized = below_more _ _ c.loop-place.invariant.sized (ap (λ (e : Entry). length e.contact.enr) (is ∙ ap (λ (p : ℕ). get_or t.entries p no_entry) (sym there)) ∙ c.keep_entry.ensures.0);
      left = kept_turn _ _ _ rest k.are
          ∙ ap (λ (l : List (List ℕ)). once_from (slotted c.loop-place.kept.bytes c.loop-place.kept.lens c.loop-place.kept.count) (chosen sendable l))
          (ap (λ (e : Entry). entry_record e ∷ rest) (ap (λ (p : ℕ). get_or t.entries p no_entry) there ∙ sym is) ∙ sym (records_next (view t) a.order.count a.order.places (omega (arith, c.requires.few, c.requires.room)) i here))
          ∙ c.loop-place.invariant.left;
    }

pub returns : goal.returns
returns c =
    let a = c.args in
    let kept = c.loop-place.kept in
    record {
      records = record {
        starts = c.loop-place.invariant.starts;
        slots = c.loop-place.invariant.slots;
        are = sym (ap (λ (l : List (List ℕ)). once_from (slotted kept.bytes kept.lens kept.count) (chosen sendable l))
            (records_none (view a.table.now) a.order.count a.order.places (omega (arith, c.requires.few, c.requires.room)) c.loop-place.place-index (omega (arith, c.requires.few, c.requires.room))) ∙ kept_end _)
            ∙ c.loop-place.invariant.left;
      };
      whole = whole_of (view a.table.now) a.order.count a.order.places (omega (arith, c.requires.few, c.requires.room))
          (λ i h. c.loop-place.invariant.sized i (omega (arith, c.requires.few, c.requires.room)));
    }
