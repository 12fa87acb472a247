-- `key_lines::line_end` meets its contract: where std finds the first line feed is where the definition has it. Assumes nothing.
use Rattle.std.proofs.Common.{ℕ, List, ◌≡◌, ◌-◌, ◌∙◌, ap, length, drop, take, arith, length-drop, Some, None, ◌==◌, position}
use lib.Seq.{take_all}
use Rattle.key_lines.specs.Lines.{line_length}
use Rattle.key_lines.proofs.Parts.{found}
use Rattle.key_lines.proofs.line_end.Goals as goal

-- the rest as the code takes it
rest : (from : ℕ) (s : List ℕ) → take (length s - from) (drop from s) ≡ drop from s
rest from s = take_all (length s - from) (drop from s) (omega (arith, length-drop from s))

pub returns-in-Some : goal.returns-in-Some
returns-in-Some c =
    let a = c.args in
    let here : line_length (drop a.from a.input.now) ≡ c.in-Some.n = found (Some c.in-Some.n) _ (c.in-Some.ensures ∙ ap (position (λ c. c == 10)) (rest a.from a.input.now)) in
    omega arith

pub returns-in-None : goal.returns-in-None
returns-in-None c =
    let a = c.args in
    let end : line_length (drop a.from a.input.now) ≡ length (drop a.from a.input.now) = found None _ (c.in-None.ensures ∙ ap (position (λ c. c == 10)) (rest a.from a.input.now)) in
    omega (arith, length-drop a.from a.input.now)
