-- What the check does not find alone of `hexadecimal::decode`; the invariants beside it say how the loop goes. Assumes nothing.
use Rattle.std.proofs.Common.{rules, arith, true, false, Some, ◌≡◌, ◌∙◌, sym, length, length-set}
use Rattle.hexadecimal.specs.Digits.{bytes_of, all_digits}
use Rattle.hexadecimal.proofs.Texts.{pairs_of, bytes_of_pairs, no_bytes_other, no_bytes_odd}
use Rattle.hexadecimal.proofs.Passes.{digits_folded, digits_paired, put_byte, length_pairs, not_hex, no_room, put_all}
use Rattle.hexadecimal.proofs.decode.Goals as goal
use Rattle.hexadecimal.proofs.decode.Goals.{Else-not-all_digits}

-- past the second test all characters are digits
digits : (c : Else-not-all_digits) → all_digits c.args.text.now ≡ true
digits c = sym (digits_folded c.args.text.now) ∙ search rules

-- so the text stands for bytes
bytes : (c : Else-not-all_digits) → bytes_of c.args.text.now ≡ Some (pairs_of c.args.text.now)
bytes c = bytes_of_pairs c.args.text.now (digits c) (search rules)

pub returns-then-not-is_empty : goal.returns-then-not-is_empty
returns-then-not-is_empty c =
    let a = c.args in
    let clauses = not_hex a.text.now a.out.now (no_bytes_odd a.text.now (search rules)) in
    record { value = clauses.0; out_after = clauses.1 }

pub returns-then-not-all_digits : goal.returns-then-not-all_digits
returns-then-not-all_digits c =
    let a = c.args in
    let other : all_digits a.text.now ≡ false = sym (digits_folded a.text.now) ∙ search rules in
    let clauses = not_hex a.text.now a.out.now (no_bytes_other a.text.now other) in
    record { value = clauses.0; out_after = clauses.1 }

pub returns-then-out-pairs : goal.returns-then-out-pairs
returns-then-out-pairs c =
    let a = c.args in
    let n = length_pairs a.text.now in
    let clauses = no_room a.text.now a.out.now (pairs_of a.text.now) (bytes (goal.at.returns-then-out-pairs c).Else-not-all_digits) (search rules) in
    record { value = clauses.0; out_after = clauses.1 }

pub number-requires : goal.number-requires
number-requires c =
    (digits_paired c.args.text.now _ c.as_chunks.ensures.front (digits (goal.at.number-requires c).Else-not-all_digits) c.loop-i.i (search rules)).0

pub number-requires-in-loop-i : goal.number-requires-in-loop-i
number-requires-in-loop-i c =
    (digits_paired c.args.text.now _ c.as_chunks.ensures.front (digits (goal.at.number-requires-in-loop-i c).Else-not-all_digits) c.loop-i.i (search rules)).1

pub loop-i-preserved : goal.loop-i-preserved
loop-i-preserved c =
    let a = c.args in (
      simp length-set (search rules),
      put_byte a.out.now a.text.now _ c.as_chunks.ensures.front c.loop-i.i (search rules) (omega arith) c.loop-i.out c.loop-i.invariant.1 _ (search rules),
    )

pub returns : goal.returns
returns c =
    let a = c.args in
    let n = length_pairs a.text.now in
    let done = put_all a.text.now a.out.now (pairs_of a.text.now) (length c.as_chunks.result.0.now) c.loop-i.i
    (search rules) (search rules) (bytes (goal.at.returns c).Else-not-all_digits) (search rules) in
    record { value = done.0; out_after = c.loop-i.invariant.1 ∙ done.1 }
