-- The order of equally many bytes is the order of their numbers: the first byte that differs decides. The laws here, later and end
-- are one step each; the proof of at_most takes the same steps. Assumes nothing.
use Prim.Native.Nat.{ℕ, ◌+◌, ◌*◌, ◌^◌, ◌<◌}
use native.Mathlib.Nat.{suc_inj, suc-ne-zero, le_of_lt}
use native.Mathlib.Omega.{arith}
use mathlib.Core.Path.{◌≡◌, refl, sym, ap, ap₂, ◌∙◌}
use mathlib.Core.Bool.{Bool, true, false, cond}
use mathlib.Core.List.{List, [], ◌∷◌}
use lib.Dec.{leb, ltb, eqb}
use lib.Arith.{digits_lt, lt_of_le-ne}
use lib.ListN.{length}
use borrow.Author.Tests.{le-leb, lt-leb, leb-true, leb-false, ltb-true, ltb-false, eqb-true, eqb-false, eq-eqb, ne_eqb}
use Rattle.octets.specs.Bytes.{Bytes, be}
use Rattle.octets.specs.Order.{lex_leb}
use Rattle.octets.proofs.Numbers.{be_lt}

-- a smaller first byte makes a smaller number
pub be_less : (x y : ℕ) (xs ys : List ℕ) → length xs ≡ length ys → Bytes xs → x < y → be (x ∷ xs) < be (y ∷ ys)
unfolding be
be_less x y xs ys l h k =
    let p : x * 256 ^ length xs + be xs < y * 256 ^ length xs = digits_lt k (be_lt xs h) in
    let q : y * 256 ^ length xs ≡ y * 256 ^ length ys = ap (λ (n : ℕ). y * 256 ^ n) l in
    omega arith

-- here: a smaller first byte decides for the order
pub order_less : (x y : ℕ) (xs ys : List ℕ) → length xs ≡ length ys → Bytes xs → x < y → leb (be (x ∷ xs)) (be (y ∷ ys)) ≡ true
order_less x y xs ys l h k = le-leb _ _ (le_of_lt (be_less x y xs ys l h k))

-- here: a larger first byte decides against it
pub order_more : (x y : ℕ) (xs ys : List ℕ) → length xs ≡ length ys → Bytes ys → y < x → leb (be (x ∷ xs)) (be (y ∷ ys)) ≡ false
order_more x y xs ys l h k = lt-leb _ _ (be_less y x ys xs (sym l) h k)

-- a common summand does not change a test
leb_add : (k a b : ℕ) → leb (k + a) (k + b) ≡ leb a b
leb_add k a b = go (leb a b) refl
  where
    go : (t : Bool) → leb a b ≡ t → leb (k + a) (k + b) ≡ leb a b
    go true e = le-leb (k + a) (k + b) (omega (arith, leb-true a b e)) ∙ sym e
    go false e = lt-leb (k + a) (k + b) (omega (arith, leb-false a b e)) ∙ sym e

-- later: an equal first byte leaves the order to the rest
pub order_later : (x y : ℕ) (xs ys : List ℕ) → length xs ≡ length ys → x ≡ y → leb (be (x ∷ xs)) (be (y ∷ ys)) ≡ leb (be xs) (be ys)
unfolding be
order_later x y xs ys l k =
    ap₂ (λ (m n : ℕ). leb (x * 256 ^ length xs + be xs) (m * 256 ^ n + be ys)) (sym k) (sym l)
    ∙ leb_add (x * 256 ^ length xs) (be xs) (be ys)

-- end: where nothing is left, the order holds
pub order_end : leb (be []) (be []) ≡ true
unfolding be
order_end = refl

-- one step of the order of lists, by the two tests
lex_step : (x y : ℕ) (xs ys : List ℕ) → length xs ≡ length ys → Bytes xs → Bytes ys → lex_leb xs ys ≡ leb (be xs) (be ys)
    → cond (eqb x y) (lex_leb xs ys) (ltb x y) ≡ leb (be (x ∷ xs)) (be (y ∷ ys))
lex_step x y xs ys l h k ih = same (eqb x y) refl
  where
    differ : (t : Bool) → ltb x y ≡ t → (x ≡ y → ⊥) → ltb x y ≡ leb (be (x ∷ xs)) (be (y ∷ ys))
    differ true e n = e ∙ sym (order_less x y xs ys l h (ltb-true x y e))
    differ false e n = e ∙ sym (order_more x y xs ys l k (lt_of_le-ne (ltb-false x y e) (λ q. n (sym q))))

    same : (t : Bool) → eqb x y ≡ t → cond (eqb x y) (lex_leb xs ys) (ltb x y) ≡ leb (be (x ∷ xs)) (be (y ∷ ys))
    same true e = rw e (ih ∙ sym (order_later x y xs ys l (eqb-true x y e)))
    same false e = rw e (differ (ltb x y) refl (eqb-false x y e))

-- the order of equally many bytes is the order of their numbers
pub lex_be : (xs ys : List ℕ) → length xs ≡ length ys → Bytes xs → Bytes ys → lex_leb xs ys ≡ leb (be xs) (be ys)
unfolding lex_leb
lex_be [] [] l h k = sym order_end
lex_be [] (y ∷ ys) l h k = absurd (suc-ne-zero (length ys) (sym l))
lex_be (x ∷ xs) [] l h k = absurd (suc-ne-zero (length xs) l)
lex_be (x ∷ xs) (y ∷ ys) l h k = lex_step x y xs ys (suc_inj l) h.1 k.1 (lex_be xs ys (suc_inj l) h.1 k.1)

-- lists that begin with different bytes are in the order of these
pub lex_differ : (x y : ℕ) (xs ys xt yt : List ℕ) → xs ≡ x ∷ xt → ys ≡ y ∷ yt → (x ≡ y → ⊥) → lex_leb xs ys ≡ ltb x y
unfolding lex_leb
lex_differ x y xs ys xt yt p q n = rw (p, q, ne_eqb x y n)

-- those that begin with the same byte are in the order of what follows it
pub lex_equal : (x y : ℕ) (xs ys xt yt : List ℕ) → xs ≡ x ∷ xt → ys ≡ y ∷ yt → x ≡ y → lex_leb xs ys ≡ lex_leb xt yt
unfolding lex_leb
lex_equal x y xs ys xt yt p q e = rw (p, q, eq-eqb x y e)

-- a list of no bytes is at most any
pub lex_empty : (xs ys : List ℕ) → length xs ≡ 0 → lex_leb xs ys ≡ true
unfolding lex_leb
lex_empty [] ys e = refl
lex_empty (x ∷ xs) ys e = absurd (suc-ne-zero (length xs) e)
