-- What a sighting comes to, case by case: each law is one way through the definition, from what the survey tells. Assumes nothing.
use Prim.Native.Nat.{ℕ, ◌+◌, ◌<◌, ◌≤◌}
use native.Mathlib.Omega.{arith}
use mathlib.Core.Path.{◌≡◌, refl, sym, ap, ap₂, ◌∙◌}
use mathlib.Core.Bool.{Bool, true, false, ◌&&◌}
use lib.Dec.{eqb, ltb}
use lib.ListN.{length, set}
use borrow.Author.Tests.{ltb-true, lt-ltb, le-ltb}
use Rattle.std.specs.Prelude.{Option, Some, None}
use Rattle.refusal.specs.Says.{only}
use Rattle.octets.specs.Equal.{same_bytes, holds}
use Rattle.distance.specs.Distance.{log_distance_of}
use Rattle.routing_table.specs.View.{view, entry_ids, replacement_ids, entry_logs, replacement_logs}
use Rattle.routing_table.specs.Places.{first_of, count_of}
use Rattle.routing_table.specs.Good.{sized, good}
use Rattle.routing_table.specs.declared.Contact.{Contact}
use Rattle.routing_table.specs.declared.Entry.{Entry}
use Rattle.routing_table.specs.declared.RoutingTable.{RoutingTable}
use Rattle.routing_calls.specs.Change.{entry_of, with_entries}
use Rattle.routing_calls.specs.Arrays.{table_entries, entry_put, replacement_added, Latest}
use Rattle.routing_calls.specs.Seen.{latest_for, wait_of, newcomer_of, meet_of, seen_of}
use Rattle.routing_calls.specs.SeenFor.{Given, back, as_entry, as_replacement, given_by, seen_for}
use Rattle.routing_table.specs.Survey.{Sized}
use Rattle.routing_calls.proofs.Views.{view_put, view_added, view_more, view_latest}
use Rattle.routing_table.proofs.Looked.{first_some, first_none}
use Rattle.routing_calls.proofs.Told.{entry_count, replacement_count, entry_used, replacement_used, oldest_used, good_count, good_waiting}

-- a refusal with the number that is due
said : (t : RoutingTable) {n m : ℕ} → n ≡ m → back (only n) t ≡ back (only m) t
said t s = ap (λ (k : ℕ). back (only k) t) s

-- a comparison of what k is
below : {k a : ℕ} (n : ℕ) → k ≡ a → k < n → ltb a n ≡ true
below {k} {a} n e h = lt-ltb a n (omega arith)

over : {k a : ℕ} (n : ℕ) → k ≡ a → n ≤ k → ltb a n ≡ false
over {k} {a} n e h = le-ltb a n (omega arith)

-- the log distance of a contact
abbrev pub log_for : RoutingTable → Contact → ℕ
log_for t c = log_distance_of t.own c.id

module _ (t : RoutingTable) (c : Contact) (n : ℕ) where
  -- a table that breaks its rules
  pub sight_bad : n ≡ 0 → good (view t) ≡ false → back (only n) t ≡ seen_for t c
  unfolding seen_of
  sight_bad s g = rw g (said t s)

  -- a record that does not fit
  pub sight_record : n ≡ 6 → good (view t) ≡ true → sized c ≡ false → back (only n) t ≡ seen_for t c
  unfolding seen_of
  sight_record s g f = rw (g, f) (said t s)

  -- our own id
  pub sight_own : n ≡ 20 → good (view t) ≡ true → sized c ≡ true → same_bytes t.own c.id ≡ true → back (only n) t ≡ seen_for t c
  unfolding seen_of
  sight_own s g f h = rw (g, f, h) (said t s)

-- a good table, a record that fits, and an id that is not ours
module _ (t : RoutingTable) (c : Contact) (g : good (view t) ≡ true) (f : sized c ≡ true) (other : same_bytes t.own c.id ≡ false) where
  -- an entry with this id
  pub sight_entry : Sized t → (r : Option ℕ) {at : ℕ} (e : Entry) → r ≡ first_of same_bytes c.id (entry_ids (view t)) → r ≡ Some at → e ≡ entry_of c
      → as_entry (view (entry_put t at e)) ≡ seen_for t c
  unfolding seen_of meet_of
  sight_entry z r {at} e is some new =
      let p = first_some same_bytes c.id (entry_ids (view t)) r is some in
      rw (g, f, other, p.0)
      (ap (λ (x : Entry). as_entry (view (entry_put t at x))) new
      ∙ ap as_entry (view_put t z at (entry_of c) (entry_used t c.id r is some) (good_count t g))
      ∙ ap (λ (i : ℕ). as_entry (with_entries (view t) (set (view t).entries i (entry_of c)))) p.1)

  module _ (r : Option ℕ) (e : r ≡ first_of same_bytes c.id (entry_ids (view t))) (none : r ≡ None)
      (s : Option ℕ) (q : s ≡ first_of same_bytes c.id (replacement_ids (view t))) where
    no_entry_lem : holds same_bytes c.id (entry_ids (view t)) ≡ false
    no_entry_lem = first_none same_bytes c.id (entry_ids (view t)) r e none

    -- a replacement with this id
    pub sight_replacement : Sized t → {at : ℕ} (i : ℕ) (u : RoutingTable) → Latest t i c u → s ≡ Some at → i ≡ at → as_replacement (view u) ≡ seen_for t c
    unfolding seen_of meet_of
    sight_replacement z {at} i u l some same =
        let p = first_some same_bytes c.id (replacement_ids (view t)) s q some in
        rw (g, f, other, no_entry_lem, p.0)
        (ap (λ (x : RoutingTable). as_replacement (view x)) l.is
        ∙ ap as_replacement (view_latest t z at (replacement_used t c.id s q some) (good_waiting t g) i same c)
        ∙ ap (λ (j : ℕ). given_by t (latest_for (view t) j c)) p.1)

    -- a newcomer
    pub sight_newcomer : {x : Given} → x ≡ given_by t (newcomer_of (view t) c (log_for t c)) → s ≡ None → x ≡ seen_for t c
    unfolding seen_of meet_of
    sight_newcomer l absent =
        rw (g, f, other, no_entry_lem, first_none same_bytes c.id (replacement_ids (view t)) s q absent) l

-- a newcomer whose log distance has k entries
module _ (t : RoutingTable) (c : Contact) (k : ℕ) (e : k ≡ count_of (log_for t c) (entry_logs (view t))) where
  pub new_waits : 16 ≤ k → given_by t (wait_of (view t) c (log_for t c)) ≡ given_by t (newcomer_of (view t) c (log_for t c))
  unfolding newcomer_of
  new_waits h = rw (over 16 e h)

  pub new_full : (n : ℕ) (u : RoutingTable) → n ≡ 21 → u ≡ t → k < 16 → 128 ≤ t.count → back (only n) u ≡ given_by t (newcomer_of (view t) c (log_for t c))
  unfolding newcomer_of
  new_full n u s same h m =
      rw (below 16 e h, over 128 (sym (entry_count t)) m) (ap (λ (x : RoutingTable). back (only n) x) same ∙ said t s)

  pub new_entry : Sized t → k < 16 → t.count < 128 → (i : ℕ) (x : Entry) → i ≡ t.count → x ≡ entry_of c
      → as_entry (view (table_entries t (t.count + 1) (set t.entries i x))) ≡ given_by t (newcomer_of (view t) c (log_for t c))
  unfolding newcomer_of
  new_entry z h m i x place new =
      rw (below 16 e h, below 128 (sym (entry_count t)) m)
      (ap₂ (λ (j : ℕ) (y : Entry). as_entry (view (table_entries t (t.count + 1) (set t.entries j y)))) place new
      ∙ ap as_entry (view_added t z (entry_of c) m))

-- a newcomer to a full log distance, which has k replacements
module _ (t : RoutingTable) (c : Contact) (k : ℕ) (e : k ≡ count_of (log_for t c) (replacement_logs (view t))) where
  pub wait_more : Sized t → k < 4 → t.waiting < 16 → as_replacement (view (replacement_added t c)) ≡ given_by t (wait_of (view t) c (log_for t c))
  unfolding wait_of
  wait_more z h m = rw (below 4 e h, below 16 (sym (replacement_count t)) m) (ap as_replacement (view_more t z c m))

  -- no room
  module _ (full : k < 4 → 16 ≤ t.waiting) (r : Option ℕ) (f : r ≡ first_of eqb (log_for t c) (replacement_logs (view t))) where
    no_room : (ltb (count_of (log_for t c) (replacement_logs (view t))) 4 && ltb (length (view t).replacements) 16) ≡ false
    no_room = go (ltb (count_of (log_for t c) (replacement_logs (view t))) 4) refl
      where
        go : (b : Bool) → ltb (count_of (log_for t c) (replacement_logs (view t))) 4 ≡ b → (b && ltb (length (view t).replacements) 16) ≡ false
        go true q = over 16 (sym (replacement_count t)) (full (omega (arith, ltb-true)))
        go false q = refl

    pub wait_latest : Sized t → t.waiting ≤ 16 → {at : ℕ} (i : ℕ) (u : RoutingTable) → Latest t i c u → r ≡ Some at → i ≡ at
        → as_replacement (view u) ≡ given_by t (wait_of (view t) c (log_for t c))
    unfolding wait_of
    wait_latest z w {at} i u l some same =
        let p = first_some eqb (log_for t c) (replacement_logs (view t)) r f some in
        rw (no_room, p.0)
        (ap (λ (x : RoutingTable). as_replacement (view x)) l.is
        ∙ ap as_replacement (view_latest t z at (oldest_used t (log_for t c) r f some) w i same c)
        ∙ ap (λ (j : ℕ). given_by t (latest_for (view t) j c)) p.1)

    pub wait_full : (n : ℕ) → n ≡ 22 → r ≡ None → back (only n) t ≡ given_by t (wait_of (view t) c (log_for t c))
    unfolding wait_of
    wait_full n s none =
        rw (no_room, first_none eqb (log_for t c) (replacement_logs (view t)) r f none) (said t s)
