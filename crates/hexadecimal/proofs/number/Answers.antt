-- `hexadecimal::number` meets its contract: its caller knows that the character is a digit, so it is in one of two ranges. Assumes nothing.
use Rattle.std.proofs.Common.{rules, arith, sym}
use Rattle.hexadecimal.proofs.Digits.{decimal_number, letter_number}
use Rattle.hexadecimal.proofs.number.Goals as goal

pub overflow_sub-result : goal.overflow_sub-result
overflow_sub-result c =
    let d = decimal_number c.args.c c.requires (search rules) in
    omega (arith, d.0)

pub overflow_sub-result-else-c-le57-2 : goal.overflow_sub-result-else-c-le57-2
overflow_sub-result-else-c-le57-2 c =
    let l = letter_number c.args.c c.requires (search rules) in
    omega (arith, l.0)

pub returns-then-c-le57 : goal.returns-then-c-le57
returns-then-c-le57 c =
    let d = decimal_number c.args.c c.requires (search rules) in
    (sym d.1, omega (arith, d.0))

pub returns-else-c-le57 : goal.returns-else-c-le57
returns-else-c-le57 c =
    let l = letter_number c.args.c c.requires (search rules) in
    (sym l.2, omega (arith, l.0, l.1))
