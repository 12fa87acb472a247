-- Where only equal keys count as one: demand 3's "held", "the same set" and "the same keys" in terms of equality. Assumes nothing.
use mathlib.Core.Path.{◌≡◌, refl, sym, ap₂}
use mathlib.Core.Logic.{◌↔◌}
use mathlib.Core.List.Memᴰ
use mathlib.Core.List.{List, [], ◌∷◌}
use Rattle.nearest.specs.Sorted.{◌among◌}
use Rattle.runs.specs.Setting.{Setting}
use Rattle.runs.specs.Views.{View, Held}
use Rattle.runs.specs.Runs.{SameSet, SameKeys}

module _ (S : Setting) where
  open S use {Key, Owner, Same}

  module _ (o : Owner) (equal : (j k : Key) → Same o j k ↔ (j ≡ k)) where
    -- the same keys in the same places are equal lists
    pub same_keys_equal : (js ks : List Key) → SameKeys S o js ks → js ≡ ks
    same_keys_equal [] [] s = refl
    same_keys_equal [] (k ∷ ks) s = absurd s
    same_keys_equal (j ∷ js) [] s = absurd s
    same_keys_equal (j ∷ js) (k ∷ ks) s = ap₂ (λ (i : Key) (l : List Key). i ∷ l) ((equal j k).0 s.0) (same_keys_equal js ks s.1)

    -- sets with the same keys are the same
    pub same_set_iff : (P Q : Key → Type 0) → ((k : Key) → P k ↔ Q k) → SameSet S o P Q
    same_set_iff P Q iff = (λ k q. (k, (iff k).1 q, (equal k k).1 refl), λ k p. (k, (iff k).0 p, (equal k k).1 refl))

  -- a key counts as held exactly when it is held
  pub held_iff : (v : View S) → ((j k : Key) → Same v.owner j k ↔ (j ≡ k)) → (k : Key) → Held S v k ↔ (k among v.keys)
  held_iff v equal k = (λ h. Memᴰ.cast (sym ((equal h.0 k).0 h.2)) h.1, λ m. (k, m, (equal k k).1 refl))
