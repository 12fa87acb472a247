-- What decoding comes to, by the tests of the whole message: no bytes, too many, another type, and the layout of its type.
-- Assumes nothing.
use Prim.Native.Nat.{ℕ, ◌<◌, ◌≤◌}
use native.Mathlib.Omega.{arith}
use native.Mathlib.Nat.{suc-ne-zero}
use mathlib.Core.Path.{◌≡◌, refl, ap, ◌∙◌}
use mathlib.Core.Bool.{Bool, true, false, cond, ◌&&◌}
use mathlib.Core.List.{List, [], ◌∷◌}
use lib.Dec.{leb}
use lib.ListN.{length, get_or, drop}
use borrow.Author.Tests.{lt-ltb, le-ltb, leb-true}
use Rattle.refusal.specs.Outcome.{refused}
use Rattle.message.specs.Decode.{decode, layout_of, ruled_or4}

-- 1 for no bytes
pub decode_empty : (s : List ℕ) → length s ≡ 0 → decode s ≡ refused 1
unfolding decode
decode_empty [] h = refl
decode_empty (x ∷ s) h = absurd (suc-ne-zero (length s) h)

-- 2 for more than 1,280
pub decode_long : (s : List ℕ) → 1280 < length s → decode s ≡ refused 2
unfolding decode
decode_long [] h = absurd (omega arith)
decode_long (x ∷ s) h = rw (lt-ltb 1280 (length (x ∷ s)) h)

-- 3 for a type that is not 1 to 9
pub decode_type : (s : List ℕ) → (length s ≡ 0 → ⊥) → length s ≤ 1280 → (1 ≤ get_or s 0 0 → get_or s 0 0 ≤ 9 → ⊥) → decode s ≡ refused 3
unfolding decode
decode_type [] h k t = absurd (h refl)
decode_type (x ∷ s) h k t = rw (le-ltb 1280 (length (x ∷ s)) k, outside (leb 1 x) (leb x 9) refl refl)
  where
    outside : (a b : Bool) → leb 1 x ≡ a → leb x 9 ≡ b → (leb 1 x && leb x 9) ≡ false
    outside true true e f = absurd (t (leb-true 1 x e) (leb-true x 9 f))
    outside true false e f = rw (e, f)
    outside false b e f = rw e

-- the layout of the type and then the rules
pub decode_body : (s : List ℕ) (kind : ℕ) → (length s ≡ 0 → ⊥) → length s ≤ 1280 → get_or s 0 0 ≡ kind → (leb 1 kind && leb kind 9) ≡ true
    → decode s ≡ ruled_or4 (layout_of kind (drop 1 s))
unfolding decode
decode_body [] kind h k e t = absurd (h refl)
decode_body (x ∷ s) kind h k e t =
    rw (le-ltb 1280 (length (x ∷ s)) k)
    (ap (λ (b : Bool). cond b (ruled_or4 (layout_of x s)) (refused 3)) (ap (λ (n : ℕ). leb 1 n && leb n 9) e ∙ t)
    ∙ ap (λ (n : ℕ). ruled_or4 (layout_of n s)) e)
