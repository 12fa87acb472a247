-- The ways to a verdict on a store call: it is refused with what is due, it is a key that fits, or the verdict was given on a part of the tests.
-- Assumes nothing.
use Prim.Native.Nat.{ℕ}
use native.Mathlib.Omega.{arith}
use mathlib.Core.Path.{◌≡◌, sym, ap, subst, ◌∙◌}
use Rattle.std.specs.Prelude.{Result, Ok, Err}
use Rattle.refusal.specs.Says.{says_of}
use Rattle.refusal.specs.declared.Refusal.{Refusal}
use Rattle.key_index.specs.View.{View}
use Rattle.key_store.specs.Store.{Storing, refused, put_of}
use Rattle.key_store.specs.Judge.{Says, Fits}
use Rattle.key_store.specs.declared.Fitting.{Fitting}

module _ (limit : ℕ) (v : View) (due : Storing) (r : Result Fitting Refusal) where
  -- refused
  pub refused_says : {why : Refusal} → r ≡ Err why → refused (says_of why) ≡ due → Says limit v due r
  refused_says {why} e is =
      record {
        refuses = λ other q. let same : why ≡ other = cc in sym is ∙ ap (λ (w : Refusal). refused (says_of w)) same;
        puts = λ f q. let z : ◌≡◌ {A = ℕ} 0 1 = cc in absurd (omega arith);
        fits = λ f q. let z : ◌≡◌ {A = ℕ} 0 1 = cc in absurd (omega arith);
      }

  -- a key that fits
  pub fitting_says : {f : Fitting} → r ≡ Ok f → put_of limit v f.key f.payload ≡ due → Fits limit v f.key f.place → Says limit v due r
  fitting_says {f} e is fits =
      record {
        refuses = λ why q. let z : ◌≡◌ {A = ℕ} 0 1 = cc in absurd (omega arith);
        puts = λ g q. let same : f ≡ g = cc in sym is ∙ ap (λ (h : Fitting). put_of limit v h.key h.payload) same;
        fits = λ g q. let same : f ≡ g = cc in subst (λ (h : Fitting). Fits limit v h.key h.place) same fits;
      }

  -- what comes to the same
  pub says_as : {other : Storing} → Says limit v other r → other ≡ due → Says limit v due r
  says_as s e = subst (λ (d : Storing). Says limit v d r) e s
