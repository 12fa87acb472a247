-- Each call, on a view that keeps its rules, does one of the things that a call may do. What a search finds splits a list into what
-- stands before it, itself, and what stands behind it. Assumes nothing.
use Prim.Native.Nat.{ℕ, suc, ◌≤◌}
use native.Mathlib.Omega.{arith}
use mathlib.Core.Path.{◌≡◌, refl, sym, ap, subst, ◌∙◌}
use mathlib.Core.Bool.{Bool, true, false, cond, ◌&&◌, true≢false}
use mathlib.Core.Logic.{⊎_elim}
use mathlib.Core.List.Memᴰ
use mathlib.Core.List.{List, [], ◌∷◌, ◌++◌, map, map-map}
use lib.Dec.{eqb, ltb}
use lib.ListN.{length, get_or, take, drop, set}
use lib.Seq.{split_at, set_split}
use borrow.Author.Tests.{ltb-true, ltb-false, lt-ltb, eqb-true, eqb-false}
use Rattle.refusal.specs.Says.{only}
use Rattle.octets.specs.Equal.{same_bytes, holds}
use Rattle.octets.proofs.Equal.{same_true, same_false, member_holds}
use Rattle.octets.proofs.Tests.{both}
use Rattle.distance.specs.Distance.{log_distance_of}
use Rattle.routing_table.specs.View.{View, no_contact, no_entry, entry_id, contact_id, entry_ids, replacement_ids, entry_logs, replacement_logs}
use Rattle.routing_table.specs.Places.{first_place, last_place, count_of}
use Rattle.routing_table.specs.Good.{sized, good}
use Rattle.routing_table.specs.Rules.{log_of, HasRecord, Rules}
use Rattle.routing_table.specs.declared.Contact.{Contact}
use Rattle.routing_table.specs.declared.Entry.{Entry}
use Rattle.routing_table.proofs.Counts.{count_unheld}
use Rattle.routing_table.proofs.Keeps.{keeps_good, sized_record, record_sized}
use Rattle.routing_table.proofs.Splits.{FoundAt, holds_none, first_at, last_at}
use Rattle.routing_calls.specs.Change.{entry_of, with_entries, with_replacements}
use Rattle.routing_calls.specs.Seen as sees
use Rattle.routing_calls.specs.Seen.{seen_of, meet_of, newcomer_of, wait_of, latest_for}
use Rattle.routing_calls.specs.Failed as fails
use Rattle.routing_calls.specs.Failed.{failed_of, miss_of, fail_at_of, give_way_of, failures_at, promoted}
use Rattle.routing_runs.specs.Step.{Call, seen, failed, Answer, after_seen, after_failed, step}
use Rattle.routing_runs.specs.Leaving.{NoneAt, MostRecent, LongestUnseen}
use Rattle.routing_runs.specs.Refusing.{New, bad_record, ours, ours_failed, entries_used, replacements_used, no_entry as strange}
use Rattle.routing_runs.proofs.Done.{EntryAt, ReplacementAt, failing, Done, refusing, renewed, moved, added, waiting, making_way, counting, flagging, exchanging}

-- where the first of two tests passes and not both do, the second fails
second : {a b : Bool} → a ≡ true → (a && b) ≡ false → b ≡ false
second {a} {b} t e = subst (λ (x : Bool). (x && b) ≡ false) t e

-- the view and the answer are what the call does
abbrev Does : View → Call → View × Answer → Type 0
Does v c after = Done v c after.0 after.1

module _ (v : View) where
  -- the places that the searches find
  abbrev entry_place : List ℕ → ℕ
  entry_place id = first_place same_bytes id (entry_ids v)

  abbrev replacement_place : List ℕ → ℕ
  replacement_place id = first_place same_bytes id (replacement_ids v)

  abbrev oldest : ℕ → ℕ
  oldest d = first_place eqb d (replacement_logs v)

  abbrev newest : ℕ → ℕ
  newest d = last_place eqb d (replacement_logs v)

  -- the entry that is found for an id
  entry_at : (id : List ℕ) → holds same_bytes id (entry_ids v) ≡ true
      → EntryAt v id (take (entry_place id) v.entries) (get_or v.entries (entry_place id) no_entry) (drop (suc (entry_place id)) v.entries)
  entry_at id h =
      let f = first_at same_bytes id entry_id v.entries h in
      record { stands = split_at v.entries (entry_place id) no_entry f.below; named = sym (same_true id _ (f.alike no_entry)) }

  -- an entry put in its place
  entry_set : (id : List ℕ) (e : Entry) → holds same_bytes id (entry_ids v) ≡ true
      → set v.entries (entry_place id) e ≡ take (entry_place id) v.entries ++ e ∷ drop (suc (entry_place id)) v.entries
  entry_set id e h = set_split v.entries (entry_place id) e (first_at same_bytes id entry_id v.entries h).below

  -- the replacement that is found for an id
  replacement_at : (id : List ℕ) → holds same_bytes id (replacement_ids v) ≡ true
      → ReplacementAt v id (take (replacement_place id) v.replacements) (get_or v.replacements (replacement_place id) no_contact)
      (drop (suc (replacement_place id)) v.replacements)
  replacement_at id h =
      let f = first_at same_bytes id contact_id v.replacements h in
      record { stands = split_at v.replacements (replacement_place id) no_contact f.below; named = sym (same_true id _ (f.alike no_contact)) }

  -- log distances of contacts, in one step
  logs_map : replacement_logs v ≡ map (log_of v) v.replacements
  logs_map = map-map (log_distance_of v.own) contact_id v.replacements

  -- the replacement that is found for a log distance
  log_at : (d i : ℕ) (others : List Contact) → FoundAt eqb d (log_of v) v.replacements i others
      → (v.replacements ≡ take i v.replacements ++ get_or v.replacements i no_contact ∷ drop (suc i) v.replacements)
      × (log_of v (get_or v.replacements i no_contact) ≡ d) × NoneAt v d others
  log_at d i others f =
      (split_at v.replacements i no_contact f.below, sym (eqb-true d _ (f.alike no_contact)), λ c m e. eqb-false d (log_of v c) (f.unlike c m) (sym e))

  -- the longest unseen one
  oldest_at : (d : ℕ) → holds eqb d (replacement_logs v) ≡ true
      → LongestUnseen v d (get_or v.replacements (oldest d) no_contact) (take (oldest d) v.replacements) (drop (suc (oldest d)) v.replacements)
  oldest_at d h =
      let f =
      subst (λ (m : List ℕ). holds eqb d m ≡ true
      → FoundAt eqb d (log_of v) v.replacements (first_place eqb d m) (take (first_place eqb d m) v.replacements))
      (sym logs_map) (first_at eqb d (log_of v) v.replacements) h in
      let s = log_at d (oldest d) (take (oldest d) v.replacements) f in
      record { stands = s.0; alike = s.1; others = s.2 }

  -- the most recently seen one
  newest_at : (d : ℕ) → holds eqb d (replacement_logs v) ≡ true
      → MostRecent v d (get_or v.replacements (newest d) no_contact) (take (newest d) v.replacements) (drop (suc (newest d)) v.replacements)
  newest_at d h =
      let f =
      subst (λ (m : List ℕ). holds eqb d m ≡ true
      → FoundAt eqb d (log_of v) v.replacements (last_place eqb d m) (drop (suc (last_place eqb d m)) v.replacements))
      (sym logs_map) (last_at eqb d (log_of v) v.replacements) h in
      let s = log_at d (newest d) (drop (suc (newest d)) v.replacements) f in
      record { stands = s.0; alike = s.1; others = s.2 }

  -- the same by another name of the log distance
  of_log : {d e : ℕ} {by : Contact} {front back : List Contact} → d ≡ e → MostRecent v d by front back → MostRecent v e by front back
  of_log q r = record { stands = r.stands; alike = r.alike ∙ q; others = λ c m e. r.others c m (e ∙ sym q) }

  -- and none
  none_at : (d : ℕ) → holds eqb d (replacement_logs v) ≡ false → NoneAt v d v.replacements
  none_at d h c m e =
      let f = subst (λ (l : List ℕ). holds eqb d l ≡ false) logs_map h in
      eqb-false d (log_of v c) (holds_none eqb d (log_of v) v.replacements f c m) (sym e)

  module _ (c : Contact) where
    -- an id that no search finds is new
    new : same_bytes v.own c.id ≡ false → holds same_bytes c.id (entry_ids v) ≡ false → holds same_bytes c.id (replacement_ids v) ≡ false
        → New v c
    new o e r m =
        ⊎_elim (λ q. same_false v.own c.id o (sym q))
        (λ n. ⊎_elim (λ x. true≢false (sym (member_holds c.id (entry_ids v) x) ∙ e))
        (λ x. true≢false (sym (member_holds c.id (replacement_ids v) x) ∙ r))
        (Memᴰ.append_cases (entry_ids v) n)) (Memᴰ.cases_cons m)

    -- a newcomer to a log distance that is full of entries
    wait_does : HasRecord c → New v c → 16 ≤ count_of (log_of v c) (entry_logs v) → Does v (seen c) (after_seen v (wait_of v c (log_of v c)))
    unfolding wait_of
    wait_does fits n full =
        go (ltb (count_of (log_of v c) (replacement_logs v)) 4 && ltb (length v.replacements) 16) refl
        (holds eqb (log_of v c) (replacement_logs v)) refl
      where
        -- with none of its log distance there is no place
        used : (ltb (count_of (log_of v c) (replacement_logs v)) 4 && ltb (length v.replacements) 16) ≡ false
            → holds eqb (log_of v c) (replacement_logs v) ≡ false → 16 ≤ length v.replacements
        used e q =
            let none = count_unheld (log_of v c) (replacement_logs v) q in
            ltb-false (length v.replacements) 16 (second (lt-ltb (count_of (log_of v c) (replacement_logs v)) 4 (omega arith)) e)

        go : (t : Bool) → (ltb (count_of (log_of v c) (replacement_logs v)) 4 && ltb (length v.replacements) 16) ≡ t
            → (h : Bool) → holds eqb (log_of v c) (replacement_logs v) ≡ h
            → Does v (seen c) (after_seen v (cond t (sees.replacement (with_replacements v (v.replacements ++ c ∷ [])))
            (cond h (latest_for v (oldest (log_of v c)) c) (sees.refused (only 22)))))
        go true e h q =
            let b = both (ltb (count_of (log_of v c) (replacement_logs v)) 4) (ltb (length v.replacements) 16) e in
            waiting fits n full (ltb-true (count_of (log_of v c) (replacement_logs v)) 4 b.0) (ltb-true (length v.replacements) 16 b.1)
        go false e true q = making_way fits _ _ _ n full (oldest_at (log_of v c) q)
        go false e false q = refusing (replacements_used n full (used e q) (none_at (log_of v c) q))

    -- a newcomer
    newcomer_does : HasRecord c → New v c → Does v (seen c) (after_seen v (newcomer_of v c (log_of v c)))
    unfolding newcomer_of
    newcomer_does fits n = go (ltb (count_of (log_of v c) (entry_logs v)) 16) refl (ltb (length v.entries) 128) refl
      where
        go : (t : Bool) → ltb (count_of (log_of v c) (entry_logs v)) 16 ≡ t → (h : Bool) → ltb (length v.entries) 128 ≡ h
            → Does v (seen c) (after_seen v (cond t
            (cond h (sees.entry (with_entries v (v.entries ++ entry_of c ∷ []))) (sees.refused (only 21)))
            (wait_of v c (log_of v c))))
        go true e true q = added fits n (ltb-true (count_of (log_of v c) (entry_logs v)) 16 e) (ltb-true (length v.entries) 128 q)
        go true e false q =
            refusing (entries_used n (ltb-true (count_of (log_of v c) (entry_logs v)) 16 e) (ltb-false (length v.entries) 128 q))
        go false e h q = wait_does fits n (ltb-false (count_of (log_of v c) (entry_logs v)) 16 e)

    -- an id other than ours
    meet_does : HasRecord c → same_bytes v.own c.id ≡ false → Does v (seen c) (after_seen v (meet_of v c))
    unfolding meet_of
    meet_does fits o = go (holds same_bytes c.id (entry_ids v)) refl (holds same_bytes c.id (replacement_ids v)) refl
      where
        go : (t : Bool) → holds same_bytes c.id (entry_ids v) ≡ t → (h : Bool) → holds same_bytes c.id (replacement_ids v) ≡ h
            → Does v (seen c) (after_seen v (cond t
            (sees.entry (with_entries v (set v.entries (entry_place c.id) (entry_of c))))
            (cond h (latest_for v (replacement_place c.id) c) (newcomer_of v c (log_of v c)))))
        go true e h q = rw (entry_set c.id (entry_of c) e) (renewed fits _ _ _ (entry_at c.id e))
        go false e true q = moved fits _ _ _ (replacement_at c.id q)
        go false e false q = newcomer_does fits (new o e q)

    seen_does_lem : good v ≡ true → Does v (seen c) (after_seen v (seen_of v c))
    unfolding seen_of
    seen_does_lem g = rw g (go (sized c) refl (same_bytes v.own c.id) refl)
      where
        go : (s : Bool) → sized c ≡ s → (t : Bool) → same_bytes v.own c.id ≡ t
            → Does v (seen c) (after_seen v (cond s (cond t (sees.refused (only 20)) (meet_of v c)) (sees.refused (only 6))))
        go true f true e = refusing (ours (sym (same_true v.own c.id e)))
        go true f false e = meet_does (sized_record c f) e
        go false f t e = refusing (bad_record (λ h. true≢false (sym (record_sized c h) ∙ f)))

  module _ (id : List ℕ) where
    -- the entry with the id
    abbrev it : Entry
    it = get_or v.entries (entry_place id) no_entry

    abbrev its : ℕ
    its = log_distance_of v.own id

    -- its third failure or a later one
    give_way_does : holds same_bytes id (entry_ids v) ≡ true → 2 ≤ it.failures
        → Does v (failed id) (after_failed v (give_way_of v (entry_place id) its))
    unfolding give_way_of
    give_way_does m n = go (holds eqb its (replacement_logs v)) refl
      where
        stood : log_of v it.contact ≡ its
        stood = ap (log_distance_of v.own) (entry_at id m).named

        go : (t : Bool) → holds eqb its (replacement_logs v) ≡ t
            → Does v (failed id) (after_failed v (cond t
            (promoted v (entry_place id) (newest its) (get_or v.replacements (newest its) no_contact)) (fails.flagged (failures_at v (entry_place id) 3))))
        go true q =
            rw (entry_set id (entry_of (get_or v.replacements (newest its) no_contact)) m)
            (exchanging _ _ _ (entry_at id m) n _ _ (of_log (sym stood) (newest_at its q)))
        go false q = rw (entry_set id (failing it 3) m) (flagging _ _ _ (entry_at id m) n (rw stood (none_at its q)))

    -- a failure of an entry
    fail_does : holds same_bytes id (entry_ids v) ≡ true → Does v (failed id) (after_failed v (fail_at_of v (entry_place id) its it.failures))
    unfolding fail_at_of
    fail_does m = go (ltb it.failures 2) refl
      where
        go : (t : Bool) → ltb it.failures 2 ≡ t
            → Does v (failed id) (after_failed v (cond t (fails.counted (suc it.failures) (failures_at v (entry_place id) (suc it.failures)))
            (give_way_of v (entry_place id) its)))
        go true q = rw (entry_set id (failing it (suc it.failures)) m) (counting _ _ _ (entry_at id m) (ltb-true it.failures 2 q))
        go false q = give_way_does m (ltb-false it.failures 2 q)

    -- an id other than ours
    miss_does : Does v (failed id) (after_failed v (miss_of v id (entry_place id)))
    unfolding miss_of
    miss_does = go (holds same_bytes id (entry_ids v)) refl
      where
        go : (t : Bool) → holds same_bytes id (entry_ids v) ≡ t
            → Does v (failed id) (after_failed v (cond t (fail_at_of v (entry_place id) its it.failures) (fails.refused (only 29))))
        go true m = fail_does m
        go false m = refusing (strange (λ n. true≢false (sym (member_holds id (entry_ids v) n) ∙ m)))

    failed_does_lem : good v ≡ true → Does v (failed id) (after_failed v (failed_of v id))
    unfolding failed_of
    failed_does_lem g = rw g (go (same_bytes v.own id) refl)
      where
        go : (t : Bool) → same_bytes v.own id ≡ t → Does v (failed id) (after_failed v (cond t (fails.refused (only 20)) (miss_of v id (entry_place id))))
        go true e = refusing (ours_failed (sym (same_true v.own id e)))
        go false e = miss_does

-- every call does one of these
pub does : (v : View) (c : Call) → Rules v → Done v c (step v c).0 (step v c).1
does v (seen c) r = seen_does_lem v c (keeps_good v r)
does v (failed id) r = failed_does_lem v id (keeps_good v r)
