-- The test of a table's rules says that it keeps them. Assumes nothing.
use Prim.Native.Nat.{ℕ, ◌≤◌}
use native.Mathlib.Omega.{arith}
use mathlib.Core.Path.{◌≡◌, ap, subst, ◌∙◌}
use mathlib.Core.Bool.{Bool, true, ◌&&◌}
use mathlib.Core.Logic.{◌↔◌}
use mathlib.Core.List.Memᴰ
use lib.Dec.{leb}
use lib.ListN.{length}
use borrow.Author.Tests.{leb-true, le-leb}
use Rattle.octets.specs.Equal.{same_bytes, all_different}
use Rattle.octets.proofs.Tests.{both, join}
use Rattle.distance.specs.Distance.{log_distance_of}
use Rattle.routing_table.specs.View.{View, contact_id, ids_of, entry_logs, replacement_ids, replacement_logs}
use Rattle.std.specs.List.{list_all}
use Rattle.routing_table.specs.Places.{count_of}
use Rattle.routing_table.specs.Good.{none_over, each_full, sized, sound_entry, sound, good}
use Rattle.routing_table.specs.Rules.{◌among◌, log_of, HasRecord, Rules}
use Rattle.routing_table.specs.declared.Contact.{Contact}
use Rattle.routing_table.specs.declared.Entry.{Entry}
use Rattle.routing_table.proofs.Counts.{every_one, one_every, none_over_lem, over_none, all_different_lem, different_all}

all_seven : (a b c d e f g : Bool) → (a && b && c && d && e && f && g) ≡ true
    → (a ≡ true) × (b ≡ true) × (c ≡ true) × (d ≡ true) × (e ≡ true) × (f ≡ true) × (g ≡ true)
all_seven a b c d e f g h =
    let p = both (a && b && c && d && e && f) g h in
    let q = both (a && b && c && d && e) f p.0 in
    let r = both (a && b && c && d) e q.0 in
    let s = both (a && b && c) d r.0 in
    let t = both (a && b) c s.0 in
    let u = both a b t.0 in
    (u.0, u.1, t.1, s.1, r.1, q.1, p.1)

-- the test of a record is its size
pub sized_record : (c : Contact) → sized c ≡ true → HasRecord c
sized_record c e =
    let b = both (leb 1 c.len) (leb c.len 300) e in
    (leb-true 1 c.len b.0, leb-true c.len 300 b.1)

pub record_sized : (c : Contact) → HasRecord c → sized c ≡ true
record_sized c h = join (leb 1 c.len) (leb c.len 300) (le-leb 1 c.len h.0) (le-leb c.len 300 h.1)

-- the test of an entry is that of its failures and of its record
sound_entry_lem : (e : Entry) → sound_entry e ≡ true → (e.failures ≤ 3) × HasRecord e.contact
sound_entry_lem e t =
    let b = both (leb e.failures 3) (sized e.contact) t in
    (leb-true e.failures 3 b.0, sized_record e.contact b.1)

entry_sound : (e : Entry) → e.failures ≤ 3 → HasRecord e.contact → sound_entry e ≡ true
entry_sound e f h = join (leb e.failures 3) (sized e.contact) (le-leb e.failures 3 f) (record_sized e.contact h)

module _ (v : View) where
  abbrev full_at : ℕ → Bool
  full_at d = leb 16 (count_of d (entry_logs v))

  -- the log distance of a replacement is among theirs, and these are all
  log_among : (c : Contact) → c among v.replacements → log_of v c among replacement_logs v
  log_among c m = Memᴰ.map (log_distance_of v.own) (Memᴰ.map contact_id m)

  among_log : (d : ℕ) → d among replacement_logs v → (c : Contact) × (c among v.replacements) × (log_of v c ≡ d)
  among_log d m =
      let i = Memᴰ.of_map (log_distance_of v.own) (replacement_ids v) m in
      let c = Memᴰ.of_map contact_id v.replacements i.1 in
      (c.0, c.1, ap (log_distance_of v.own) c.2 ∙ i.2)

  -- a table that passes the test keeps the rules
  pub good_keeps : good v ≡ true → Rules v
  unfolding good
  good_keeps g =
      let t =
      all_seven (leb (length v.entries) 128) (leb (length v.replacements) 16) (sound v)
      (all_different same_bytes (ids_of v)) (none_over 16 (entry_logs v)) (none_over 4 (replacement_logs v)) (each_full (entry_logs v) (replacement_logs v)) g in
      let each = none_over_lem 16 (entry_logs v) t.4 in
      let s = both (list_all sound_entry v.entries) (list_all sized v.replacements) t.2 in
      record {
        entries_most = leb-true (length v.entries) 128 t.0;
        entries_each = each;
        replacements_most = leb-true (length v.replacements) 16 t.1;
        replacements_each = none_over_lem 4 (replacement_logs v) t.5;
        full = λ c m.
            let l = leb-true 16 (count_of (log_of v c) (entry_logs v)) (every_one full_at (replacement_logs v) t.6 (log_among c m)) in
            omega (arith, each (log_of v c));
        different = all_different_lem (ids_of v) t.3;
        failures = λ e m. (sound_entry_lem e (every_one sound_entry v.entries s.0 m)).0;
        entry_records = λ e m. (sound_entry_lem e (every_one sound_entry v.entries s.0 m)).1;
        replacement_records = λ c m. sized_record c (every_one sized v.replacements s.1 m);
      }

  -- a table that keeps the rules passes the test
  pub keeps_good : Rules v → good v ≡ true
  unfolding good
  keeps_good r =
      rw (
        le-leb (length v.entries) 128 r.entries_most,
        le-leb (length v.replacements) 16 r.replacements_most,
        one_every sound_entry v.entries (λ e m. entry_sound e (r.failures e m) (r.entry_records e m)),
        one_every sized v.replacements (λ c m. record_sized c (r.replacement_records c m)),
        different_all (ids_of v) r.different,
        over_none 16 (entry_logs v) r.entries_each,
        over_none 4 (replacement_logs v) r.replacements_each,
      )
      (one_every full_at (replacement_logs v) (λ d m.
      let c = among_log d m in
      subst (λ (n : ℕ). full_at n ≡ true) c.2 (le-leb 16 (count_of (log_of v c.0) (entry_logs v)) (omega (arith, r.full c.0 c.1)))))

-- the test is the rules
pub good_rules : (v : View) → (good v ≡ true) ↔ Rules v
good_rules v = (good_keeps v, keeps_good v)
