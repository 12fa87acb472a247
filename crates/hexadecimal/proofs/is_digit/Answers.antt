-- `hexadecimal::is_digit` meets its contract: a character is a digit where it is in one of two ranges. Assumes nothing.
use Rattle.hexadecimal.proofs.Digits.{digit_test}
use Rattle.hexadecimal.proofs.is_digit.Goals as goal

pub returns : goal.returns
returns c = digit_test c.args.c
