-- What a failure comes to, case by case: each law is one way through the definition. Assumes nothing.
use Prim.Native.Nat.{ℕ, suc, ◌+◌, ◌<◌, ◌≤◌}
use native.Mathlib.Omega.{arith}
use mathlib.Core.Path.{◌≡◌, sym, ap, ap₂, ◌∙◌}
use mathlib.Core.Bool.{true, false}
use mathlib.Core.List.{List}
use lib.Dec.{eqb, ltb}
use lib.ListN.{get_or, set}
use borrow.Author.Tests.{lt-ltb, le-ltb}
use Rattle.std.specs.Prelude.{Option, Some, None}
use Rattle.refusal.specs.Says.{only}
use Rattle.octets.specs.Equal.{same_bytes}
use Rattle.distance.specs.Distance.{log_distance_of}
use Rattle.routing_table.specs.View.{View, view, no_contact, no_entry, entry_ids, replacement_logs}
use Rattle.routing_table.specs.Places.{last_place, first_of, last_of}
use Rattle.routing_table.specs.Good.{good}
use Rattle.routing_table.specs.declared.Entry.{Entry}
use Rattle.routing_table.specs.declared.RoutingTable.{RoutingTable}
use Rattle.routing_table.proofs.Firsts.{get_firsts}
use Rattle.routing_calls.specs.Change.{entry_of, with_entries}
use Rattle.routing_calls.specs.Arrays.{table_replacements, entry_put, exchanged}
use Rattle.routing_calls.specs.Failed.{Failing, refused, failures_at, promoted, give_way_of, fail_at_of, miss_of, failed_of}
use Rattle.routing_calls.specs.FailedFor.{back, after_count, after_flag, after_exchange, given_by}
use Rattle.routing_table.specs.Survey.{Sized}
use Rattle.routing_calls.proofs.Views.{view_put, view_promoted}
use Rattle.routing_table.proofs.Looked.{first_some, first_none, last_some, last_none}
use Rattle.routing_calls.proofs.Told.{entry_used, newest_used}

-- the entry at a place that is in use fails, with so many failures so far
module _ (t : RoutingTable) (z : Sized t) (at : ℕ) (h : at < t.count) (m : t.count ≤ 128) (d : ℕ) where
  -- the entry, as the array has it
  abbrev old : Entry
  old = get_or t.entries at no_entry

  -- the view with so many failures there
  abbrev rest : ℕ → View
  rest k = failures_at (view t) at k

  put_is : (k : ℕ) → view (entry_put t at (record { contact = old.contact; failures = k })) ≡ rest k
  put_is k =
      view_put t z at (record { contact = old.contact; failures = k }) h m
      ∙ ap (λ (e : Entry). with_entries (view t) (set (view t).entries at (record { contact = e.contact; failures = k })))
      (sym (get_firsts no_entry t.count t.entries at h))

  -- the first and the second
  pub miss_counted : (n w : ℕ) (e : Entry) → e ≡ record { contact = old.contact; failures = n } → w ≡ t.waiting → n ≡ old.failures + 1 → n < 3
      → after_count n (view (table_replacements (entry_put t at e) w t.replacements)) ≡ given_by t (fail_at_of (view t) at d old.failures)
  unfolding fail_at_of
  miss_counted n w e q waits i l =
      let s : suc old.failures ≡ n = omega arith in
      rw (lt-ltb old.failures 2 (omega arith))
      (ap₂ (λ (x : Entry) (k : ℕ). after_count n (view (table_replacements (entry_put t at x) k t.replacements))) q waits
      ∙ ap (after_count n) (put_is n) ∙ ap (λ (j : ℕ). after_count j (rest j)) (sym s))

  -- the third, and each one after it
  module _ (l : 2 ≤ old.failures) (newest : Option ℕ) (f : newest ≡ last_of eqb d (replacement_logs (view t))) where
    enough : ltb old.failures 2 ≡ false
    enough = le-ltb old.failures 2 l

    -- and no replacement of its log distance
    pub miss_flagged : (e : Entry) → e ≡ record { contact = old.contact; failures = 3 } → newest ≡ None
        → after_flag (view (entry_put t at e)) ≡ given_by t (fail_at_of (view t) at d old.failures)
    unfolding fail_at_of give_way_of
    miss_flagged e q none =
        rw (enough, last_none eqb d (replacement_logs (view t)) newest f none)
        (ap (λ (x : Entry). after_flag (view (entry_put t at x))) q ∙ ap after_flag (put_is 3))

    -- and a replacement
    pub miss_replaced : {from : ℕ} (i : ℕ) (by : List ℕ) (u : RoutingTable) → u ≡ exchanged t at i → by ≡ (get_or t.replacements i no_contact).id
        → newest ≡ Some from → i ≡ from → t.waiting ≤ 16
        → after_exchange by (view u) ≡ given_by t (fail_at_of (view t) at d old.failures)
    unfolding fail_at_of give_way_of
    miss_replaced {from} i by u e b some same w =
        let p = last_some eqb d (replacement_logs (view t)) newest f some in
        let used = newest_used t d newest f some in
        let c = get_or t.replacements from no_contact in
        let there : get_or (view t).replacements (last_place eqb d (replacement_logs (view t))) no_contact ≡ c =
        sym (ap (λ (j : ℕ). get_or (view t).replacements j no_contact) p.1) ∙ get_firsts no_contact t.waiting t.replacements from used in
        rw (enough, p.0)
        (ap₂ (λ (x : List ℕ) (v : RoutingTable). after_exchange x (view v)) b e
        ∙ ap (λ (j : ℕ). after_exchange (get_or t.replacements j no_contact).id (view (exchanged t at j))) same
        ∙ ap (after_exchange c.id) (view_promoted t z from used w at (entry_of c) h m)
        ∙ sym (ap (given_by t) (ap₂ (promoted (view t) at) (sym p.1) there)))

-- a refusal with the number that is due
pub miss_refused : (t : RoutingTable) (n : ℕ) {m : ℕ} {o : Failing} → n ≡ m → o ≡ refused (only m) → back (only n) t ≡ given_by t o
miss_refused t n s f = ap (λ (k : ℕ). back (only k) t) s ∙ sym (ap (given_by t) f)

module _ (t : RoutingTable) (id : List ℕ) where
  -- a table that breaks its rules
  pub failed_bad : good (view t) ≡ false → failed_of (view t) id ≡ refused (only 0)
  unfolding failed_of
  failed_bad g = rw g

  module _ (g : good (view t) ≡ true) where
    -- our own id
    pub failed_own : same_bytes t.own id ≡ true → failed_of (view t) id ≡ refused (only 20)
    unfolding failed_of
    failed_own mine = rw (g, mine)

    module _ (other : same_bytes t.own id ≡ false) (r : Option ℕ) (e : r ≡ first_of same_bytes id (entry_ids (view t))) where
      -- no entry
      pub failed_none : r ≡ None → failed_of (view t) id ≡ refused (only 29)
      unfolding failed_of miss_of
      failed_none h = rw (g, other, first_none same_bytes id (entry_ids (view t)) r e h)

      -- an entry
      pub failed_at : {at : ℕ} → r ≡ Some at → failed_of (view t) id ≡ fail_at_of (view t) at (log_distance_of t.own id) (get_or t.entries at no_entry).failures
      unfolding failed_of miss_of
      failed_at {at} h =
          let p = first_some same_bytes id (entry_ids (view t)) r e h in
          rw (g, other, p.0)
          (ap (λ (i : ℕ). fail_at_of (view t) i (log_distance_of t.own id) (get_or (view t).entries i no_entry).failures) (sym p.1)
          ∙ ap (λ (x : Entry). fail_at_of (view t) at (log_distance_of t.own id) x.failures) (get_firsts no_entry t.count t.entries at (entry_used t id r e h)))
