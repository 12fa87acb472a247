-- Our own id and the ids and log distances behind it, cut where the replacements begin: the parts are those of the entries and of the
-- replacements, and what is told of the parts is told of the view. Assumes nothing.
use Prim.Native.Nat.{ℕ, suc, ◌+◌, ◌-◌}
use native.Mathlib.Omega.{arith}
use mathlib.Core.Path.{◌≡◌, sym, ap, ap₂, ◌∙◌}
use mathlib.Core.Bool.{Bool, true, false, cond, ◌&&◌}
use mathlib.Core.List.{List, ◌∷◌, ◌++◌, map-append}
use lib.Dec.{eqb}
use lib.ListN.{length, take, drop, length-append, length-map}
use lib.Seq.{take-append_seam, drop-append_seam, take_all}
use Rattle.std.specs.Prelude.{Some, None}
use Rattle.octets.specs.Equal.{same_bytes}
use Rattle.distance.specs.Distance.{log_distance_of}
use Rattle.routing_table.specs.View.{View, entry_id, ids_of, logs_of, entry_ids, replacement_ids, entry_logs, replacement_logs}
use Rattle.routing_table.specs.Places.{first_of, last_of, count_of}
use Rattle.routing_table.specs.Good.{none_over, each_full}
use Rattle.routing_table.specs.Survey.{facts_of}
use Rattle.routing_table.specs.declared.Facts.{Facts}

-- the part before the middle, without the first, and the part from the middle on
abbrev before : {A : Type 0} → List A → ℕ → List A
before l middle = take (middle - 1) (drop 1 l)

abbrev behind : {A : Type 0} → List A → ℕ → List A
behind l middle = take (length l - middle) (drop middle l)

-- where the list is one, then some, then others
module _ {A : Type 0} (x : A) (a b l : List A) (is : l ≡ x ∷ (a ++ b)) (middle n : ℕ) (m : middle ≡ 1 + n) (long : length a ≡ n) where
  pub before_is : before l middle ≡ a
  before_is =
      let size : middle - 1 ≡ length a = omega arith in
      rw (size, is) (take-append_seam a b)

  pub behind_is : behind l middle ≡ b
  behind_is =
      let one : middle ≡ length (x ∷ a) = omega arith in
      let rest : drop middle l ≡ b = rw (one, is) (drop-append_seam (x ∷ a) b) in
      let size : length l ≡ suc (length a + length b) = ap length is ∙ ap suc (length-append a b) in
      rw rest (take_all (length l - middle) b (omega arith))

-- the rules of log distances
abbrev pub fits : List ℕ → List ℕ → Bool
fits entries replacements = none_over 16 entries && none_over 4 replacements && each_full entries replacements

module _ (v : View) (own id : List ℕ) (ids : List (List ℕ)) (logs : List ℕ) (middle : ℕ)
    (o : own ≡ v.own) (i : ids ≡ ids_of v) (l : logs ≡ logs_of own (ids_of v)) (m : middle ≡ 1 + length v.entries) where
  entries_are : before ids middle ≡ entry_ids v
  entries_are = before_is v.own (entry_ids v) (replacement_ids v) ids i middle (length v.entries) m (length-map v.entries entry_id)

  replacements_are : behind ids middle ≡ replacement_ids v
  replacements_are = behind_is v.own (entry_ids v) (replacement_ids v) ids i middle (length v.entries) m (length-map v.entries entry_id)

  parts : logs ≡ log_distance_of v.own v.own ∷ (entry_logs v ++ replacement_logs v)
  parts =
      l ∙ ap (λ (r : List ℕ). logs_of r (ids_of v)) o
      ∙ ap (λ (r : List ℕ). log_distance_of v.own v.own ∷ r) (map-append (log_distance_of v.own) (entry_ids v) (replacement_ids v))

  number : length (entry_logs v) ≡ length v.entries
  number = length-map (entry_ids v) (log_distance_of v.own) ∙ length-map v.entries entry_id

  logs_are : before logs middle ≡ entry_logs v
  logs_are = before_is _ (entry_logs v) (replacement_logs v) logs parts middle (length v.entries) m number

  waiting_are : behind logs middle ≡ replacement_logs v
  waiting_are = behind_is _ (entry_logs v) (replacement_logs v) logs parts middle (length v.entries) m number

  -- the log distances break a rule
  pub misfit : fits (before logs middle) (behind logs middle) ≡ false
      → None ≡ cond (fits (entry_logs v) (replacement_logs v)) (Some (facts_of v id (log_distance_of v.own id))) None
  misfit e =
      let broken : fits (entry_logs v) (replacement_logs v) ≡ false = ap₂ fits (sym logs_are) (sym waiting_are) ∙ e in
      rw broken

  -- they keep the rules, and d is the id's
  pub fitting : (d : ℕ) → d ≡ log_distance_of own id → fits (before logs middle) (behind logs middle) ≡ true → (f : Facts)
      → f ≡ record {
        own = same_bytes own id;
        entry = first_of same_bytes id (before ids middle);
        replacement = first_of same_bytes id (behind ids middle);
        entries = count_of d (before logs middle);
        replacements = count_of d (behind logs middle);
        oldest = first_of eqb d (behind logs middle);
        newest = last_of eqb d (behind logs middle);
      }
      → Some f ≡ cond (fits (entry_logs v) (replacement_logs v)) (Some (facts_of v id (log_distance_of v.own id))) None
  fitting d far e f is =
      let kept : fits (entry_logs v) (replacement_logs v) ≡ true = ap₂ fits (sym logs_are) (sym waiting_are) ∙ e in
      let same : d ≡ log_distance_of v.own id = rw o at far in
      rw kept (ap Some (rw (logs_are, waiting_are, entries_are, replacements_are, same, o) at is))
