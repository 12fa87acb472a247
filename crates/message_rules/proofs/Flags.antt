-- One pass with flags tells whether all bytes differ. `fresh` is the pass; it says that no byte is flagged already and that all differ,
-- for a flag that is set says of the rest that the byte is not in it. Assumes nothing.
use Prim.Native.Nat.{ℕ, suc, ◌+◌, ◌<◌, ◌≤◌}
use native.Mathlib.Numerals.{add-one}
use native.Mathlib.Omega.{arith}
use mathlib.Core.Path.{◌≡◌, refl, sym, ap, ap₂, ◌∙◌}
use mathlib.Core.Bool.{Bool, true, false, not, ◌&&◌, ◌||◌, and_assoc, and_comm, and-false}
use mathlib.Core.List.{List, [], ◌∷◌}
use lib.Dec.{eqb}
use lib.ListN.{length, get_or, set, drop, replicate, length-set, drop_of_length-le, get_or-replicate, length-replicate}
use lib.Seq.{drop-cons, get_or-set_same, get_or-set_other}
use borrow.Author.Tests.{eqb-true, eqb-false}
use Rattle.octets.specs.Bytes.{Bytes}
use Rattle.message.specs.Rules.{holds, all_different}

-- the pass: each byte is not flagged, and is flagged from then on
abbrev pub fresh : List Bool → List ℕ → Bool
fresh seen [] = true
fresh seen (b ∷ bs) = not (get_or seen b false) && fresh (set seen b true) bs

-- no byte is flagged
abbrev unseen : List Bool → List ℕ → Bool
unseen seen [] = true
unseen seen (b ∷ bs) = not (get_or seen b false) && unseen seen bs

-- a new flag is asked for at another byte or at its own
flagged : (seen : List Bool) (a b : ℕ) → a < length seen → not (get_or (set seen a true) b false) ≡ (not (get_or seen b false) && not (eqb a b))
flagged seen a b h = go (eqb a b) refl
  where
    go : (t : Bool) → eqb a b ≡ t → not (get_or (set seen a true) b false) ≡ (not (get_or seen b false) && not (eqb a b))
    go true e =
        rw e
        (ap (λ (n : ℕ). not (get_or (set seen a true) n false)) (sym (eqb-true a b e))
        ∙ ap not (get_or-set_same seen a true false h)
        ∙ sym (and-false (not (get_or seen b false))))
    go false e =
        rw e
        (ap not (get_or-set_other seen a b true false (λ q. eqb-false a b e (sym q)))
        ∙ sym (and_comm (not (get_or seen b false)) true))

-- four tests, the middle ones exchanged
exchange : (p q r t : Bool) → ((p && q) && (r && t)) ≡ ((p && r) && (q && t))
exchange true q r t = sym (and_assoc q r t) ∙ ap (λ (x : Bool). x && t) (and_comm q r) ∙ and_assoc r q t
exchange false q r t = refl

-- a new flag says of other bytes that they are not this one
unseen_set : (seen : List Bool) (a : ℕ) (bs : List ℕ) → a < length seen → unseen (set seen a true) bs ≡ (unseen seen bs && not (holds eqb a bs))
unfolding holds
unseen_set seen a [] h = refl
unseen_set seen a (b ∷ bs) h =
    ap₂ (λ (x y : Bool). x && y) (flagged seen a b h) (unseen_set seen a bs h)
    ∙ exchange (not (get_or seen b false)) (not (eqb a b)) (unseen seen bs) (not (holds eqb a bs))
    ∙ ap (λ (x : Bool). (not (get_or seen b false) && unseen seen bs) && x) (neither (eqb a b) (holds eqb a bs))
  where
    neither : (p q : Bool) → (not p && not q) ≡ not (p || q)
    neither true q = refl
    neither false q = refl

-- what the pass says
fresh_all : (seen : List Bool) (bs : List ℕ) → 256 ≤ length seen → Bytes bs → fresh seen bs ≡ (unseen seen bs && all_different eqb bs)
unfolding all_different
fresh_all seen [] l h = refl
fresh_all seen (b ∷ bs) l h =
    ap (λ (x : Bool). not (get_or seen b false) && x)
    (fresh_all (set seen b true) bs (rw length-set l) h.1
    ∙ ap (λ (x : Bool). x && all_different eqb bs) (unseen_set seen b bs (omega (arith, h.0)))
    ∙ and_assoc (unseen seen bs) (not (holds eqb b bs)) (all_different eqb bs))
    ∙ sym (and_assoc (not (get_or seen b false)) (unseen seen bs) (not (holds eqb b bs) && all_different eqb bs))

-- with no flag set, no byte is flagged
unseen_none : (bs : List ℕ) → Bytes bs → unseen (replicate 256 false) bs ≡ true
unseen_none [] h = refl
unseen_none (b ∷ bs) h =
    ap₂ (λ (x y : Bool). x && y) (ap not (get_or-replicate 256 b false false h.0)) (unseen_none bs h.1)

-- a pass with no flag set tells whether all differ
pub fresh_first : (bs : List ℕ) → Bytes bs → all_different eqb bs ≡ fresh (replicate 256 false) bs
fresh_first bs h =
    sym (fresh_all (replicate 256 false) bs flags h ∙ ap (λ (x : Bool). x && all_different eqb bs) (unseen_none bs h))
  where
    flags : 256 ≤ length (replicate 256 false)
    flags = omega (arith, length-replicate {A = Bool} 256 false)

-- the turns of the pass at place i, where the byte is b
module _ (seen : List Bool) (s : List ℕ) (i : ℕ) (h : i < length s) {b : ℕ} (e : b ≡ get_or s i 0) where
  fresh_here : fresh seen (drop i s) ≡ (not (get_or seen b false) && fresh (set seen b true) (drop (suc i) s))
  fresh_here = ap (fresh seen) (drop-cons s i 0 h ∙ ap (λ (n : ℕ). n ∷ drop (suc i) s) (sym e))

  pub fresh_bad : get_or seen b false ≡ true → fresh seen (drop i s) ≡ false
  fresh_bad t = fresh_here ∙ rw t

  pub fresh_next : get_or seen b false ≡ false → {whole : Bool} → whole ≡ fresh seen (drop i s) → whole ≡ fresh (set seen b true) (drop (i + 1) s)
  fresh_next t w = w ∙ fresh_here ∙ rw (t, add-one i)

-- at the end the pass has found nothing
pub fresh_end : (seen : List Bool) (s : List ℕ) (i : ℕ) → length s ≤ i → fresh seen (drop i s) ≡ true
fresh_end seen s i h = ap (fresh seen) (drop_of_length-le s h)
