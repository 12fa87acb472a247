-- `hexadecimal::decode` meets its contract. Past the tests the text is an even number of digits, so it stands for the bytes of its pairs.
-- The loop's invariant: the buffer starts with the first i of these bytes. Each turn is the law `put_byte`; a refusal comes before any store.
-- Assumes nothing.
use Rattle.std.proofs.Common.{◌≡◌, ◌++◌, length, take, drop}
use Rattle.hexadecimal.proofs.Texts.{pairs_of}
use Rattle.hexadecimal.proofs.decode.Given as goal

abbrev pub invariant-loop-i : goal.invariant-loop-i
invariant-loop-i l = (length l.out ≡ length l.initial.out) × (l.out ≡ take l.i (pairs_of l.text) ++ drop l.i l.initial.out)
