-- A call keeps the rules of a table, whatever it does. Assumes nothing.
use Prim.Native.Nat.{ℕ, suc, ◌≤◌, ◌<◌}
use native.Mathlib.Omega.{arith}
use mathlib.Core.Path.{◌≡◌, refl, sym, ap, subst, ◌∙◌}
use mathlib.Core.List.Memᴰ
use mathlib.Core.List.{List, [], ◌∷◌, ◌++◌, map, map-append}
use lib.ListN.{length, length-map}
use Rattle.distance.specs.Distance.{log_distance_of}
use Rattle.routing_table.specs.View.{View, entry_id, contact_id, entry_ids, replacement_ids, entry_logs, replacement_logs}
use Rattle.routing_table.specs.Places.{count_of}
use Rattle.routing_table.specs.Rules.{◌among◌, log_of, HasRecord, Rules}
use Rattle.routing_table.specs.declared.Contact.{Contact}
use Rattle.routing_table.specs.declared.Entry.{Entry}
use Rattle.routing_calls.specs.Change.{entry_of, with_entries, with_replacements}
use Rattle.routing_runs.specs.Step.{Call, Answer}
use Rattle.routing_runs.specs.Refusing.{New}
use Rattle.routing_runs.proofs.Done.{EntryAt, failing, exchanged, Done, refusing, renewed, moved, added, waiting, making_way, counting, flagging, exchanging}
use Rattle.routing_runs.proofs.Distinct.{different_behind, among_behind}
use Rattle.routing_runs.proofs.Around.{in_self, in_other, each_around, each_last}
use Rattle.routing_runs.proofs.Ids.{IdRules, waits, instead, enters, exchange}

-- failures at most 3, and a record of 1 to 300 bytes
abbrev Sound : Entry → Type 0
Sound e = (e.failures ≤ 3) × HasRecord e.contact

-- the rules are those of the ids, of each entry and of each replacement
ids_of_lem : (v : View) → Rules v → IdRules v.own (entry_ids v) (replacement_ids v)
ids_of_lem v r = record {
  entries_most = omega (arith, r.entries_most, length-map v.entries entry_id);
  entries_each = r.entries_each;
  replacements_most = omega (arith, r.replacements_most, length-map v.replacements contact_id);
  replacements_each = r.replacements_each;
  full = λ id m.
      let c = Memᴰ.of_map contact_id v.replacements m in
      subst (λ (i : List ℕ). count_of (log_distance_of v.own i) (entry_logs v) ≡ 16) c.2 (r.full c.0 c.1);
  different = r.different;
}

of_ids : (v : View) → IdRules v.own (entry_ids v) (replacement_ids v) → ((e : Entry) → e among v.entries → Sound e)
    → ((c : Contact) → c among v.replacements → HasRecord c) → Rules v
of_ids v r sound records = record {
  entries_most = omega (arith, r.entries_most, length-map v.entries entry_id);
  entries_each = r.entries_each;
  replacements_most = omega (arith, r.replacements_most, length-map v.replacements contact_id);
  replacements_each = r.replacements_each;
  full = λ c m. r.full c.id (Memᴰ.map contact_id m);
  different = r.different;
  failures = λ e m. (sound e m).0;
  entry_records = λ e m. (sound e m).1;
  replacement_records = records;
}

module _ {v : View} (r : Rules v) where
  sound : (e : Entry) → e among v.entries → Sound e
  sound e m = (r.failures e m, r.entry_records e m)

  -- an entry with the same id
  put : {id : List ℕ} {front : List Entry} {e : Entry} {back : List Entry} → EntryAt v id front e back → (f : Entry) → f.contact.id ≡ id
      → Sound f → Rules (with_entries v (front ++ f ∷ back))
  put {front = front} {e = e} {back = back} at f q h =
      let ids : map entry_id (front ++ f ∷ back) ≡ entry_ids v =
      map-append entry_id front (f ∷ back) ∙ ap (λ (i : List ℕ). map entry_id front ++ i ∷ map entry_id back) (q ∙ sym at.named)
      ∙ sym (map-append entry_id front (e ∷ back)) ∙ sym (ap (map entry_id) at.stands) in
      of_ids (with_entries v (front ++ f ∷ back))
      (subst (λ (l : List (List ℕ)). IdRules v.own l (replacement_ids v)) (sym ids) (ids_of_lem v r))
      (each_around Sound front f back h (λ x m. sound x (in_other front e back at.stands m))) r.replacement_records

  module _ (front : List Contact) (old : Contact) (back : List Contact) (stands : v.replacements ≡ front ++ old ∷ back) where
    -- the ids of the replacements around one of them
    abbrev before : List (List ℕ)
    before = map contact_id front

    abbrev behind : List (List ℕ)
    behind = map contact_id back

    ids_split : replacement_ids v ≡ before ++ old.id ∷ behind
    ids_split = ap (map contact_id) stands ∙ map-append contact_id front (old ∷ back)

    split : IdRules v.own (entry_ids v) (before ++ old.id ∷ behind)
    split = subst (λ (l : List (List ℕ)). IdRules v.own (entry_ids v) l) ids_split (ids_of_lem v r)

    -- a replacement in the place of another of its log distance
    other : (c : Contact) → HasRecord c → log_of v old ≡ log_of v c → ¬ (c.id among (v.own ∷ entry_ids v ++ (before ++ behind)))
        → Rules (with_replacements v (front ++ back ++ c ∷ []))
    other c fits e n =
        let ids : map contact_id (front ++ back ++ c ∷ []) ≡ before ++ behind ++ c.id ∷ [] =
        map-append contact_id (front ++ back) (c ∷ []) ∙ ap (λ (l : List (List ℕ)). l ++ c.id ∷ []) (map-append contact_id front back) in
        of_ids (with_replacements v (front ++ back ++ c ∷ []))
        (subst (λ (l : List (List ℕ)). IdRules v.own (entry_ids v) l) (sym ids) (instead v.own before old.id behind c.id split e n))
        sound (each_last HasRecord (front ++ back) c fits (λ x m. r.replacement_records x (in_other front old back stands m)))

    -- the id of the one that leaves is new to the others, and so is a newcomer's
    old_new : (c : Contact) → old.id ≡ c.id → ¬ (c.id among (v.own ∷ entry_ids v ++ (before ++ behind)))
    old_new c q m = (different_behind (v.own ∷ entry_ids v) before old.id behind split.different).0 (Memᴰ.cast q m)

    out_new : (c : Contact) → New v c → ¬ (c.id among (v.own ∷ entry_ids v ++ (before ++ behind)))
    out_new c n m =
        n (subst (λ (l : List (List ℕ)). c.id among (v.own ∷ entry_ids v ++ l)) (sym ids_split)
        (among_behind (v.own ∷ entry_ids v) before old.id behind m))

    -- it becomes an entry, in the place of one of its log distance
    promotes : (es : List Entry) (e : Entry) (fs : List Entry) → v.entries ≡ es ++ e ∷ fs → log_of v old ≡ log_of v e.contact
        → Rules (exchanged v (es ++ entry_of old ∷ fs) (front ++ back))
    promotes es e fs q alike =
        let was : entry_ids v ≡ map entry_id es ++ e.contact.id ∷ map entry_id fs = ap (map entry_id) q ∙ map-append entry_id es (e ∷ fs) in
        let ids = exchange v.own (map entry_id es) e.contact.id (map entry_id fs) before old.id behind
        (subst (λ (l : List (List ℕ)). IdRules v.own l (before ++ old.id ∷ behind)) was split) alike in
        of_ids (exchanged v (es ++ entry_of old ∷ fs) (front ++ back))
        (rw (map-append entry_id es (entry_of old ∷ fs), map-append contact_id front back) ids)
        (each_around Sound es (entry_of old) fs (omega arith, r.replacement_records old (in_self front old back stands)) (λ x m. sound x (in_other es e fs q m)))
        (λ x m. r.replacement_records x (in_other front old back stands m))

  -- a newcomer
  module _ (c : Contact) (fits : HasRecord c) (n : New v c) where
    enter : count_of (log_of v c) (entry_logs v) < 16 → length v.entries < 128 → Rules (with_entries v (v.entries ++ entry_of c ∷ []))
    enter each most =
        of_ids (with_entries v (v.entries ++ entry_of c ∷ []))
        (rw (map-append entry_id v.entries (entry_of c ∷ []))
        (enters v.own c.id (ids_of_lem v r) n each (omega (arith, length-map v.entries entry_id))))
        (each_last Sound v.entries (entry_of c) (omega arith, fits) sound) r.replacement_records

    wait : 16 ≤ count_of (log_of v c) (entry_logs v) → count_of (log_of v c) (replacement_logs v) < 4 → length v.replacements < 16
        → Rules (with_replacements v (v.replacements ++ c ∷ []))
    wait f each most =
        of_ids (with_replacements v (v.replacements ++ c ∷ []))
        (rw (map-append contact_id v.replacements (c ∷ []))
        (waits v.own c.id (ids_of_lem v r) n f each (omega (arith, length-map v.replacements contact_id))))
        sound (each_last HasRecord v.replacements c fits r.replacement_records)

-- every outcome of a call keeps the rules
pub kept : {v w : View} {c : Call} {a : Answer} → Rules v → Done v c w a → Rules w
kept r (refusing n) = r
kept r (renewed {c = c} fits front e back at) = put r at (entry_of c) refl (omega arith, fits)
kept {v} r (moved {c = c} fits front old back at) =
    other r front old back at.stands c fits (ap (log_distance_of v.own) at.named) (old_new r front old back at.stands c at.named)
kept r (added {c = c} fits n each most) = enter r c fits n each most
kept r (waiting {c = c} fits n f each most) = wait r c fits n f each most
kept r (making_way {c = c} fits front out back n f old) =
    other r front out back old.stands c fits old.alike (out_new r front out back old.stands c n)
kept r (counting front e back at h) =
    put r at (failing e (suc e.failures)) at.named (omega arith, r.entry_records e (in_self front e back at.stands))
kept r (flagging front e back at h n) =
    put r at (failing e 3) at.named (omega arith, r.entry_records e (in_self front e back at.stands))
kept r (exchanging front e back at h {by} ahead behind recent) =
    promotes r ahead by behind recent.stands front e back at.stands recent.alike
