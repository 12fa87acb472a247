-- Records that are lent by their places, as a relation: a part of the places lends the same part of the records, and the lengths are theirs.
-- Assumes nothing.
use Prim.Native.Nat.{ℕ, zero, suc, ◌-◌}
use native.Mathlib.Omega.{arith}
use mathlib.Core.Path.{◌≡◌, refl, sym, ap₂, subst, ◌∙◌}
use mathlib.Core.Bool.{Bool, true, false}
use mathlib.Core.List.{List, [], ◌∷◌, map}
use mathlib.Core.Option.{Option, some, none}
use lib.Dec.{leb}
use lib.ListN.{length, take, drop, length-drop}
use lib.Seq.{length-take-le}
use borrow.Author.Tests.{leb-true}
use Rattle.octets.proofs.Tests.{both}
use Rattle.message.specs.Reading.{part_at}
use Rattle.message_rules.specs.Good.{within}
use Rattle.message_write.specs.Lent.{lent}
use Rattle.message_write.proofs.Loans.{lent_more}
use Rattle.reply.specs.Ready.{length_of}

pub data Lends (s : List ℕ) : List ℕ → List ℕ → List (List ℕ) → Type 0 where
  nothing : Lends s [] [] []
  one_more : {a n : ℕ} {starts lens : List ℕ} {rs : List (List ℕ)} → within s a n ≡ true → Lends s starts lens rs
      → Lends s (a ∷ starts) (n ∷ lens) (part_at s a n ∷ rs)

-- the relation is the definition
pub lends_lent : {s starts lens : List ℕ} {rs : List (List ℕ)} → Lends s starts lens rs → lent s starts lens ≡ some rs
unfolding lent
lends_lent nothing = refl
lends_lent {s} (one_more {a} {n} {starts} {lens} {rs} w r) = lent_more s a n starts lens true w (some rs) (lends_lent r)

not_some : {A : Type 0} {X : Type 0} {a : A} → ◌≡◌ {A = Option A} none (some a) → X
not_some e = let z : ◌≡◌ {A = ℕ} 0 1 = cc in absurd (omega arith)

pub lent_lends : (s starts lens : List ℕ) (rs : List (List ℕ)) → lent s starts lens ≡ some rs → Lends s starts lens rs
unfolding lent
lent_lends s [] [] rs e = let q : [] ≡ rs = cc in subst (Lends s [] []) q nothing
lent_lends s [] (n ∷ lens) rs e = not_some e
lent_lends s (a ∷ starts) [] rs e = not_some e
lent_lends s (a ∷ starts) (n ∷ lens) rs e = go (within s a n) refl (lent s starts lens) refl (lent_lends s starts lens)
  where
    go : (w : Bool) → within s a n ≡ w → (o : Option (List (List ℕ))) → lent s starts lens ≡ o
        → ((qs : List (List ℕ)) → lent s starts lens ≡ some qs → Lends s starts lens qs) → Lends s (a ∷ starts) (n ∷ lens) rs
    go false p o q rest = not_some (sym (lent_more s a n starts lens false p o q) ∙ e)
    go true p none q rest = not_some (sym (lent_more s a n starts lens true p none q) ∙ e)
    go true p (some qs) q rest =
        let f : ◌≡◌ {A = Option (List (List ℕ))} (some (part_at s a n ∷ qs)) (some rs) = sym (lent_more s a n starts lens true p (some qs) q) ∙ e in
        let same : part_at s a n ∷ qs ≡ rs = cc in
        subst (Lends s (a ∷ starts) (n ∷ lens)) same (one_more p (rest qs q))

-- parts of the places
pub lends_drop : {s starts lens : List ℕ} {rs : List (List ℕ)} (j : ℕ) → Lends s starts lens rs → Lends s (drop j starts) (drop j lens) (drop j rs)
lends_drop zero r = r
lends_drop (suc j) nothing = nothing
lends_drop (suc j) (one_more w r) = lends_drop j r

pub lends_take : {s starts lens : List ℕ} {rs : List (List ℕ)} (k : ℕ) → Lends s starts lens rs → Lends s (take k starts) (take k lens) (take k rs)
lends_take zero r = nothing
lends_take (suc k) nothing = nothing
lends_take (suc k) (one_more w r) = one_more w (lends_take k r)

-- the lengths are the records'
within_length : (s : List ℕ) (a n : ℕ) → within s a n ≡ true → length (part_at s a n) ≡ n
within_length s a n w =
    let b = both (leb a (length s)) (leb n (length s - a)) w in
    let h = leb-true n (length s - a) b.1 in
    length-take-le n (drop a s) (omega (arith, length-drop a s))

pub lends_lengths : {s starts lens : List ℕ} {rs : List (List ℕ)} → Lends s starts lens rs → map length_of rs ≡ lens
lends_lengths nothing = refl
lends_lengths {s} (one_more {a} {n} w r) = ap₂ (λ (k : ℕ) (l : List ℕ). k ∷ l) (within_length s a n w) (lends_lengths r)

pub lends_even : {s starts lens : List ℕ} {rs : List (List ℕ)} → Lends s starts lens rs → length starts ≡ length lens
lends_even nothing = refl
lends_even (one_more w r) = let e = lends_even r in omega arith
