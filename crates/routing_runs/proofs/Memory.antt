-- What a view and the story of its calls have to do with each other, and that every call keeps it so. Assumes nothing.
use Prim.Native.Nat.{ℕ, suc, min}
use native.Mathlib.Omega.{arith}
use mathlib.Core.Path.{◌≡◌, refl, sym, subst, ◌∙◌}
use mathlib.Core.Bool.{false}
use mathlib.Core.List.Memᴰ.{cast}
use mathlib.Core.List.Memᴰ.{map as mapped}
use mathlib.Core.List.{List, [], ◌∷◌, ◌++◌}
use Rattle.refusal.specs.Says.{Said}
use Rattle.octets.proofs.Equal.{differ_same}
use Rattle.routing_table.specs.View.{View, entry_id}
use Rattle.routing_table.specs.Rules.{◌among◌, Rules}
use Rattle.routing_table.specs.declared.Contact.{Contact}
use Rattle.routing_table.specs.declared.Entry.{Entry}
use Rattle.routing_calls.specs.Change.{entry_of, with_entries, with_replacements}
use Rattle.routing_runs.specs.Step.{Call, seen, failed, Answer, refused, entry, replacement, counted, flagged, replaced}
use Rattle.routing_runs.specs.Story.{Told, begins_anew}
use Rattle.routing_runs.specs.Refusing.{New, Refusing}
use Rattle.routing_runs.proofs.Done.{EntryAt, failing, exchanged, Done, refusing, renewed, moved, added, waiting, making_way, counting, flagging, exchanging}
use Rattle.routing_runs.proofs.Refusals.{names_none}
use Rattle.routing_runs.proofs.Around.{in_self, in_other, each_around, each_last}
use Rattle.routing_runs.proofs.Apart.{new_entry, new_replacement, entry_apart, entries_apart, replacements_apart}
use Rattle.routing_runs.proofs.Recall.{told, quiet_seen, quiet_refused, quiet_failed}
use Rattle.routing_runs.proofs.Known.{Known, AllKnown, known_seen, known_failed, known_promoted, all_still}
use Rattle.routing_runs.proofs.Waiting.{Waits, waits_still, waits_without, waits_last}

-- the story tells of all entries and replacements of the view
pub record Memory (v : View) (s : List Told) : Type 0 where
  pub entries : AllKnown s v.entries
  pub replacements : Waits s v.replacements

module _ {v : View} {s : List Told} (rules : Rules v) (m : Memory v s) where
  -- a refused call; a failure that is refused names no entry
  refused_kept : (c : Call) (r : Said) → Refusing v c r → Memory v (told c (refused r) ∷ s)
  refused_kept (seen c) r why = record {
    entries = all_still (told (seen c) (refused r)) s v.entries (λ e n. quiet_refused e.contact.id c r) m.entries;
    replacements = waits_still (told (seen c) (refused r)) s v.replacements (λ d n. (quiet_refused d.id c r).unseen) m.replacements;
  }
  refused_kept (failed id) r why = record {
    entries =
        all_still (told (failed id) (refused r)) s v.entries
        (λ e n. quiet_failed (refused r) (λ q. names_none rules why (cast (sym q) (mapped entry_id n))) refl)
        m.entries;
    replacements = waits_still (told (failed id) (refused r)) s v.replacements (λ d n. refl) m.replacements;
  }

  -- a call about an entry: the others stay as they are
  module _ {id : List ℕ} {front : List Entry} {e : Entry} {back : List Entry} (at : EntryAt v id front e back) where
    entry_in : e among v.entries
    entry_in = in_self front e back at.stands

    others_in : (d : Entry) → d among front ++ back → d among v.entries
    others_in d n = in_other front e back at.stands n

    others_known : AllKnown s (front ++ back)
    others_known d n = m.entries d (others_in d n)

    -- it is seen,
    renewed_kept : (c : Contact) → id ≡ c.id → Memory (with_entries v (front ++ entry_of c ∷ back)) (told (seen c) entry ∷ s)
    renewed_kept c same = record {
      entries =
          each_around (Known (told (seen c) entry ∷ s)) front (entry_of c) back (known_seen c entry s refl)
          (all_still (told (seen c) entry) s (front ++ back) (λ d n. quiet_seen entry (λ q. entries_apart rules at n (q ∙ sym same))) others_known);
      replacements =
          waits_still (told (seen c) entry) s v.replacements
          (λ d n. (quiet_seen entry (λ q. entry_apart rules entry_in n (at.named ∙ same ∙ sym q))).unseen)
          m.replacements;
    }

    -- it fails and keeps its place,
    failed_kept : (a : Answer) (n : ℕ) → ((j : List ℕ) → begins_anew j (failed id) a ≡ false) → n ≡ min (suc e.failures) 3
        → Memory (with_entries v (front ++ failing e n ∷ back)) (told (failed id) a ∷ s)
    failed_kept a n going count = record {
      entries =
          each_around (Known (told (failed id) a ∷ s)) front (failing e n) back
          (known_failed id a s e n at.named (going id) count (m.entries e entry_in))
          (all_still (told (failed id) a) s (front ++ back) (λ d k. quiet_failed a (entries_apart rules at k) (going d.contact.id)) others_known);
      replacements = waits_still (told (failed id) a) s v.replacements (λ d k. refl) m.replacements;
    }

    -- or it gives way
    exchanged_kept : (by : Contact) (ahead behind : List Contact) → v.replacements ≡ ahead ++ by ∷ behind
        → Memory (exchanged v (front ++ entry_of by ∷ back) (ahead ++ behind)) (told (failed id) (replaced by.id) ∷ s)
    exchanged_kept by ahead behind stands = record {
      entries =
          each_around (Known (told (failed id) (replaced by.id) ∷ s)) front (entry_of by) back
          (known_promoted id by s (m.replacements.fields by by_in))
          (all_still (told (failed id) (replaced by.id)) s (front ++ back)
          (λ d n. quiet_failed (replaced by.id) (entries_apart rules at n)
          (differ_same d.contact.id by.id (entry_apart rules (others_in d n) by_in)))
          others_known);
      replacements =
          waits_still (told (failed id) (replaced by.id)) s (ahead ++ behind) (λ d n. refl)
          (waits_without s ahead by behind (subst (Waits s) stands m.replacements));
    }
      where
        by_in : by among v.replacements
        by_in = in_self ahead by behind stands

  -- the sighting of one that is no entry and is now the last replacement
  latest_kept : (c : Contact) (l : List Contact) → ((e : Entry) → e among v.entries → ¬ (e.contact.id ≡ c.id))
      → ((d : Contact) → d among l → ¬ (d.id ≡ c.id)) → Waits s l
      → Memory (with_replacements v (l ++ c ∷ [])) (told (seen c) replacement ∷ s)
  latest_kept c l entries-others others w = record {
    entries = all_still (told (seen c) replacement) s v.entries (λ e n. quiet_seen replacement (entries-others e n)) m.entries;
    replacements = waits_last c replacement s l refl others w;
  }

  -- a newcomer becomes an entry
  added_kept : (c : Contact) → New v c → Memory (with_entries v (v.entries ++ entry_of c ∷ [])) (told (seen c) entry ∷ s)
  added_kept c new = record {
    entries =
        each_last (Known (told (seen c) entry ∷ s)) v.entries (entry_of c) (known_seen c entry s refl)
        (all_still (told (seen c) entry) s v.entries (λ e n. quiet_seen entry (new_entry v new n)) m.entries);
    replacements =
        waits_still (told (seen c) entry) s v.replacements (λ d n. (quiet_seen entry (new_replacement v new n)).unseen) m.replacements;
  }

  -- every call
  pub memory_kept : {c : Call} {w : View} {a : Answer} → Done v c w a → Memory w (told c a ∷ s)
  memory_kept (refusing {call = call} {r = r} why) = refused_kept call r why
  memory_kept (renewed {c = c} fits front e back at) = renewed_kept at c refl
  memory_kept (moved {c = c} fits front old back at) =
      latest_kept c (front ++ back)
      (λ e n q. entry_apart rules n (in_self front old back at.stands) (q ∙ sym at.named))
      (λ d n. replacements_apart rules at n)
      (waits_without s front old back (subst (Waits s) at.stands m.replacements))
  memory_kept (added {c = c} fits new room few) = added_kept c new
  memory_kept (waiting {c = c} fits new full room few) =
      latest_kept c v.replacements (λ e n. new_entry v new n) (λ d n. new_replacement v new n) m.replacements
  memory_kept (making_way {c = c} fits front out back new full oldest) =
      latest_kept c (front ++ back) (λ e n. new_entry v new n)
      (λ d n. new_replacement v new (in_other front out back oldest.stands n))
      (waits_without s front out back (subst (Waits s) oldest.stands m.replacements))
  memory_kept (counting front e back at few) =
      failed_kept at (counted (suc e.failures)) (suc e.failures) (λ j. refl) (omega arith)
  memory_kept (flagging front e back at third none) = failed_kept at flagged 3 (λ j. refl) (omega arith)
  memory_kept (exchanging front e back at third {by = by} ahead behind recent) =
      exchanged_kept at by ahead behind recent.stands
