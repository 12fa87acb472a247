-- What the reason of a refusal tells: its number is not 0, and a failure that is refused names no entry. Assumes nothing.
use Prim.Native.Nat.{ℕ}
use native.Mathlib.Omega.{arith}
use mathlib.Core.Path.{◌≡◌, sym}
use mathlib.Core.List.Memᴰ.{append_left as in_front}
use mathlib.Core.List.Memᴰ.{cast}
use mathlib.Core.List.{List}
use Rattle.refusal.specs.Says.{Said, number_in}
use Rattle.routing_table.specs.View.{View, entry_ids, replacement_ids}
use Rattle.routing_table.specs.Rules.{◌among◌, Rules}
use Rattle.routing_runs.specs.Step.{Call, failed}
use Rattle.routing_runs.specs.Refusing.{Refusing, bad_record, ours, ours_failed, entries_used, replacements_used, no_entry}

module _ {v : View} where
  pub not_zero : {c : Call} {r : Said} → Refusing v c r → ¬ (number_in r ≡ 0)
  not_zero (bad_record n) e = omega arith
  not_zero (ours q) e = omega arith
  not_zero (ours_failed q) e = omega arith
  not_zero (entries_used n room used) e = omega arith
  not_zero (replacements_used n full used none) e = omega arith
  not_zero (no_entry n) e = omega arith

  pub names_none : {id : List ℕ} {r : Said} → Rules v → Refusing v (failed id) r → ¬ (id among entry_ids v)
  names_none rules (ours_failed q) m = rules.different.0 (in_front (replacement_ids v) (cast (sym q) m))
  names_none rules (no_entry n) m = n m
