-- The survey by what the code tests, in its order: the first rule that fails ends it, and the log distances come last. Assumes
-- nothing.
use Prim.Native.Nat.{ℕ, ◌<◌, ◌≤◌}
use native.Mathlib.Omega.{arith}
use mathlib.Core.Path.{◌≡◌}
use mathlib.Core.Bool.{Bool, true, false, cond, ◌&&◌}
use mathlib.Core.List.{List}
use lib.ListN.{length}
use borrow.Author.Tests.{le-leb, lt-leb}
use Rattle.octets.specs.Equal.{same_bytes, all_different}
use Rattle.distance.specs.Distance.{log_distance_of}
use Rattle.routing_table.specs.View.{View, view, no_contact, no_entry, ids_of, entry_logs, replacement_logs}
use Rattle.routing_table.specs.Good.{good, none_over, each_full, sound}
use Rattle.routing_table.specs.Survey.{survey_of, facts_of}
use Rattle.std.specs.Prelude.{Option, Some, None}
use Rattle.routing_table.specs.declared.Facts.{Facts}
use Rattle.routing_table.specs.declared.RoutingTable.{RoutingTable}
use Rattle.routing_table.proofs.Firsts.{length_firsts}

module _ (v : View) (id : List ℕ) where
  pub many_entries : 128 < length v.entries → survey_of v id ≡ None
  unfolding survey_of good
  many_entries h = rw (lt-leb (length v.entries) 128 h)

  module _ (few : length v.entries ≤ 128) where
    pub many_replacements : 16 < length v.replacements → survey_of v id ≡ None
    unfolding survey_of good
    many_replacements h = rw (le-leb (length v.entries) 128 few, lt-leb (length v.replacements) 16 h)

    module _ (less : length v.replacements ≤ 16) where
      pub not_sound : sound v ≡ false → survey_of v id ≡ None
      unfolding survey_of good
      not_sound e = rw (le-leb (length v.entries) 128 few, le-leb (length v.replacements) 16 less, e)

      module _ (well : sound v ≡ true) where
        pub some_same : all_different same_bytes (ids_of v) ≡ false → survey_of v id ≡ None
        unfolding survey_of good
        some_same e = rw (le-leb (length v.entries) 128 few, le-leb (length v.replacements) 16 less, well, e)

        module _ (different : all_different same_bytes (ids_of v) ≡ true) where
          pub by_logs : survey_of v id ≡ cond (none_over 16 (entry_logs v) && none_over 4 (replacement_logs v) && each_full (entry_logs v) (replacement_logs v)) (Some (facts_of v id (log_distance_of v.own id))) None
          unfolding survey_of good
          by_logs = rw (le-leb (length v.entries) 128 few, le-leb (length v.replacements) 16 less, well, different)

-- a count over its array's size
module _ (t : RoutingTable) (id : List ℕ) where
  pub count_over : 128 < t.count → survey_of (view t) id ≡ None
  count_over h = many_entries (view t) id (omega (arith, length_firsts no_entry t.count t.entries))

  pub waiting_over : t.count ≤ 128 → 16 < t.waiting → survey_of (view t) id ≡ None
  waiting_over few h =
      many_replacements (view t) id (omega (arith, length_firsts no_entry t.count t.entries)) (omega (arith, length_firsts no_contact t.waiting t.replacements))

-- facts that agree one by one
pub facts_are : (own own' : Bool) (entry entry' replacement replacement' oldest oldest' newest newest' : Option ℕ) (entries entries' replacements replacements' : ℕ)
    → own ≡ own' → entry ≡ entry' → replacement ≡ replacement' → entries ≡ entries' → replacements ≡ replacements' → oldest ≡ oldest'
    → newest ≡ newest'
    → ◌≡◌ {A = Facts}
    record {
      own = own;
      entry = entry;
      replacement = replacement;
      entries = entries;
      replacements = replacements;
      oldest = oldest;
      newest = newest;
    }
    record {
      own = own';
      entry = entry';
      replacement = replacement';
      entries = entries';
      replacements = replacements';
      oldest = oldest';
      newest = newest';
    }
facts_are own own' entry entry' replacement replacement' oldest oldest' newest newest' entries entries' replacements replacements' p q r s t u v = cc
