-- What a remove call comes to, case by case: each law is one way through the definition. What the tests of a call then say. Assumes
-- nothing.
use Prim.Native.Nat.{ℕ}
use native.Mathlib.Omega.{arith}
use mathlib.Core.Path.{◌≡◌, sym, ap, ◌∙◌}
use mathlib.Core.Bool.{true, false}
use mathlib.Core.List.{List}
use Rattle.std.specs.Prelude.{Option, Some, None, Result, Ok, Err}
use Rattle.std.specs.Option.{ok_or}
use Rattle.refusal.specs.Says.{Said, only, says_of}
use Rattle.refusal.specs.Outcome.{given, refusal}
use Rattle.refusal.specs.declared.Refusal.{Refusal}
use Rattle.content_key.specs.Key.{key_of}
use Rattle.key_index.specs.View.{View, with_keys}
use Rattle.key_index.specs.Good.{good}
use Rattle.key_index.specs.Calls.{is_held}
use Rattle.key_index.specs.Search.{place_of}
use Rattle.key_index.proofs.Places.{place_inside, at_held, nothing_held}
use Rattle.key_index.proofs.Rules.{good_facts}
use Rattle.key_remove.specs.Remove.{refused, removed, without, without_at, key_remove_of, remove_of}
use Rattle.key_remove.specs.Seek.{Seeks}
use Rattle.key_remove.proofs.Without.{without_place}

module _ (limit : ℕ) (v : View) (bytes : List ℕ) where
  -- a bad index is refused
  pub remove_bad : good limit v ≡ false → remove_of limit v bytes ≡ refused (only 0)
  unfolding remove_of
  remove_bad g = rw g

  key_cases : good limit v ≡ true → remove_of limit v bytes ≡ key_remove_of v (key_of bytes)
  unfolding remove_of
  key_cases g = rw g

  -- what is no key is refused, by 7 or 8
  pub remove_no_key : {says : Said} → good limit v ≡ true → refusal says ≡ key_of bytes → remove_of limit v bytes ≡ refused says
  remove_no_key g k = key_cases g ∙ ap (key_remove_of v) (sym k)

  -- a key that is not held
  pub remove_absent : {key : List ℕ} → good limit v ≡ true → given key ≡ key_of bytes → is_held key v ≡ false → remove_of limit v bytes ≡ refused (only 12)
  remove_absent g k h = key_cases g ∙ ap (key_remove_of v) (sym k) ∙ rw h

  -- a key that is held
  pub remove_held : {key : List ℕ} → good limit v ≡ true → given key ≡ key_of bytes → is_held key v ≡ true
      → remove_of limit v bytes ≡ removed (with_keys v (without key v.keys))
  remove_held g k h = key_cases g ∙ ap (key_remove_of v) (sym k) ∙ rw h

  -- the call is refused
  pub refused_seeks : {r : Result ℕ Refusal} {why : Refusal} → r ≡ Err why → refused (says_of why) ≡ remove_of limit v bytes → Seeks limit v bytes r
  refused_seeks {why = why} e is =
      record {
        refuses = λ other q. let same : why ≡ other = cc in sym is ∙ ap (λ (w : Refusal). refused (says_of w)) same;
        finds = λ place q. let z : ◌≡◌ {A = ℕ} 0 1 = cc in absurd (omega arith);
        inside = λ place q. let z : ◌≡◌ {A = ℕ} 0 1 = cc in absurd (omega arith);
      }

  -- the key stands at a place
  place_seeks : {r : Result ℕ Refusal} {key : List ℕ} (place : ℕ) → good limit v ≡ true → given key ≡ key_of bytes → place_of key v.keys ≡ Some place → r ≡ Ok place
      → Seeks limit v bytes r
  place_seeks {key = key} place g k e is =
      record {
        refuses = λ why q. let z : ◌≡◌ {A = ℕ} 0 1 = cc in absurd (omega arith);
        finds = λ other q.
            let same : place ≡ other = cc in
            remove_held g k (at_held key v.keys place e)
            ∙ ap (λ (l : List (List ℕ)). removed (with_keys v l)) (without_place key v.keys place e ∙ ap (λ (n : ℕ). without_at n v.keys) same);
        inside = λ other q.
            let same : place ≡ other = cc in
            (omega (arith, place_inside key v.keys place e), (good_facts limit v g).few);
      }

  -- the key is looked for, and refused where there is no place
  pub sought_seeks : {r : Result ℕ Refusal} {key : List ℕ} (found : Option ℕ) (why : Refusal) → good limit v ≡ true → given key ≡ key_of bytes
      → found ≡ place_of key v.keys → r ≡ ok_or found why → refused (says_of why) ≡ refused (only 12) → Seeks limit v bytes r
  sought_seeks {key = key} (Some place) why g k e is not = place_seeks place g k (sym e) is
  sought_seeks {key = key} None why g k e is not = refused_seeks is (not ∙ sym (remove_absent g k (nothing_held key v.keys (sym e))))
