-- Answers and what they stand for: an accepted one needs its places, its values and its report, a refused one its refusal. Assumes nothing.
use Prim.Native.Nat.{ℕ}
use mathlib.Core.Path.{◌≡◌, refl, sym, ap, subst}
use mathlib.Core.List.{List}
use Rattle.std.specs.Prelude.{Result, Ok, Err}
use Rattle.refusal.specs.Says.{says_of}
use Rattle.refusal.specs.Outcome.{Outcome, given, refusal}
use Rattle.refusal.specs.declared.Refusal.{Refusal}
use Rattle.message.specs.Values.{Message}
use Rattle.message.specs.Report.{report_of}
use Rattle.message.specs.Reading.{values_of, Inside, ReadTo}
use Rattle.message.specs.declared.Reading.{Reading}

-- an answer stands for what its outcome is equal to
pub read_as_lem : {d e : Outcome Message} {s : List ℕ} {r : Result Reading Refusal} → d ≡ e → ReadTo e s r → ReadTo d s r
read_as_lem {s = s} {r = r} p t = subst (λ (o : Outcome Message). ReadTo o s r) (sym p) t

pub accepted_to : {d : Outcome Message} {s : List ℕ} (a : Reading) → Inside s a → d ≡ given (values_of s a) → a ≡ report_of s (values_of s a)
    → ReadTo d s (Ok a)
accepted_to {s = s} a i v w =
    read_as_lem v
    (record { value = refl; report = ap given w; inside = λ b e. let same : a ≡ b = cc in subst (Inside s) same i })

pub refused_to : {d : Outcome Message} {s : List ℕ} (why : Refusal) → d ≡ refusal (says_of why) → ReadTo d s (Err why)
refused_to why e = read_as_lem e (record { value = refl; report = refl; inside = λ b q. cc })

-- the refusal of a part is that of the whole
pub passed_on : {d : Outcome Message} {s : List ℕ} {r : Result Reading Refusal} (why : Refusal) → r ≡ Err why → ReadTo d s (Err why) → ReadTo d s r
passed_on {d = d} {s = s} why e t = subst (ReadTo d s) (sym e) t
