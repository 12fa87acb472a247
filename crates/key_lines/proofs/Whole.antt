-- The whole input, however it is cut. A call of `list` is a step that takes a part of the input and prints; steps compose by the two laws of an
-- input in parts, so what is printed depends on the parts one after another and not on the cuts; `last` closes the output.
-- Assumes nothing.
use mathlib.Core.List.{List, [], ◌++◌}
use Prim.Native.Nat.{ℕ}
use mathlib.Core.Path.{◌≡◌, refl, ap, ap₂, sym, subst, ◌∙◌}
use lib.ListN.{take, drop}
use lib.Seq.{take_at}
use Rattle.key_lines.specs.Lines.{printed_from, begun_by, last_of, output_of}
use Rattle.key_lines.specs.State.{Begun, Lists, Step}
use Rattle.key_lines.specs.declared.Line.{Line}
use Rattle.key_lines.specs.declared.Listed.{Listed}
use Rattle.key_lines.proofs.Parts.{printed_append, begun_append}

-- an empty input prints nothing
pub output_empty : output_of [] ≡ []
unfolding printed_from begun_by
output_empty = refl

-- a call of `list` is a step: it takes what it used, and has printed what it wrote
pub listed : {line : Line} {input before after : List ℕ} {answer : Listed} → Lists line input before after answer
    → Step line (take answer.used input) (take answer.written after) answer.line
listed {line} {input} {before} {after} {answer} l =
    record {
      prints = λ text b.
          ap (take answer.written) (l.printed text b)
          ∙ take_at (printed_from text (take answer.used input)) (drop answer.written before) answer.written (sym (l.written text b));
      begins = l.begun;
    }

-- no call is a step too
pub no_step : (line : Line) → Step line [] [] line
unfolding printed_from begun_by
no_step line = record { prints = λ text b. refl; begins = λ text b. b }

-- two steps are one: wherever the input is cut, the same is printed and the same line has begun
pub chained : {a b c : Line} {xs ys p q : List ℕ} → Step a xs p b → Step b ys q c → Step a (xs ++ ys) (p ++ q) c
chained {a} {b} {c} {xs} {ys} {p} {q} s t =
    record {
      prints = λ text h.
          ap₂ (λ (x y : List ℕ). x ++ y) (s.prints text h) (t.prints (begun_by text xs) (s.begins text h)) ∙ sym (printed_append text xs ys);
      begins = λ text h. subst (Begun c) (sym (begun_append text xs ys)) (t.begins (begun_by text xs) (s.begins text h));
    }

-- so two ways through one input, each with cuts of its own, print the same
pub any_cuts : {a b c : Line} {input p q text : List ℕ} → Begun a text → Step a input p b → Step a input q c → p ≡ q
any_cuts {text = text} h s t = s.prints text h ∙ sym (t.prints text h)

-- steps from a fresh line over the whole input, and then what `last` prints, are the whole output
pub whole : {fresh line : Line} {input printed final : List ℕ} → Begun fresh [] → Step fresh input printed line
    → ((text : List ℕ) → Begun line text → final ≡ last_of text) → printed ++ final ≡ output_of input
whole {fresh} {line} {input} {printed} {final} b s l =
    ap₂ (λ (x y : List ℕ). x ++ y) (s.prints [] b) (l (begun_by [] input) (s.begins [] b))
