-- Records each once: no two are equal, each that was there is there, and no other. What holds of each record of a list, or of a part of
-- one, as facts and as the tests of a message. Assumes nothing.
use Prim.Native.Nat.{ℕ, suc, ◌+◌, ◌≤◌}
use native.Mathlib.Omega.{arith}
use mathlib.Core.Path.{◌≡◌, refl, sym, ap, subst, subst⁻¹, ◌∙◌}
use mathlib.Core.Bool.{Bool, true, false, cond, ◌&&◌, true≢false}
use mathlib.Core.Logic.{◌⊎◌, inl, inr, ⊎_elim}
use mathlib.Core.List.{List, [], ◌∷◌, ◌++◌}
use mathlib.Core.List.Memᴰ
use mathlib.Core.List.Memᴰ.{head as here}
use mathlib.Core.List.Memᴰ.{tail as there}
use lib.Dec.{leb}
use lib.ListN.{length, take, drop, length-append, take-append-drop}
use borrow.Author.Tests.{leb-true, le-leb}
use Rattle.octets.specs.Bytes.{Bytes}
use Rattle.octets.specs.Equal.{same_bytes, holds, all_different}
use Rattle.octets.proofs.Equal.{holds_member, member_holds}
use Rattle.octets.proofs.Tests.{both}
use Rattle.message.specs.Values.{AllBytes}
use Rattle.message.specs.Rules.{record_sizes}
use Rattle.routing_table.specs.Rules.{◌among◌, Different}
use Rattle.routing_table.proofs.Counts.{all_different_lem, different_all, different_left, different_right}
use Rattle.replies.specs.Chosen.{once_from, once}

module _ {A : Type 0} where
  -- one more that is not there
  different_end : (l : List A) (a : A) → Different l → ¬ (a among l) → Different (l ++ a ∷ [])
  different_end [] a d n = (Memᴰ.not-nil, tt)
  different_end (b ∷ l) a d n = (
    λ m. ⊎_elim d.0 (λ r. n (here (sym (Memᴰ.eq_of_singleton r)))) (Memᴰ.append_cases l m),
    different_end l a d.1 (λ m. n (there m)),
  )

-- a record kept unless it is there already
abbrev with_one : List ℕ → List (List ℕ) → List (List ℕ)
with_one r kept = cond (holds same_bytes r kept) kept (kept ++ r ∷ [])

module _ (r : List ℕ) (kept : List (List ℕ)) where
  with_stays : {a : List ℕ} → a among kept → a among with_one r kept
  with_stays {a} m = go (holds same_bytes r kept)
    where
      go : (t : Bool) → a among cond t kept (kept ++ r ∷ [])
      go true = m
      go false = Memᴰ.append_left (r ∷ []) m

  with_enters : r among with_one r kept
  with_enters = go (holds same_bytes r kept) refl
    where
      go : (t : Bool) → holds same_bytes r kept ≡ t → r among cond t kept (kept ++ r ∷ [])
      go true e = holds_member r kept e
      go false e = Memᴰ.append_right kept (here refl)

  with_only : {a : List ℕ} → a among with_one r kept → (a among kept) ⊎ (a ≡ r)
  with_only {a} m = go (holds same_bytes r kept) m
    where
      go : (t : Bool) → a among cond t kept (kept ++ r ∷ []) → (a among kept) ⊎ (a ≡ r)
      go true i = inl i
      go false i = ⊎_elim inl (λ s. inr (Memᴰ.eq_of_singleton s)) (Memᴰ.append_cases kept i)

  with_different : Different kept → Different (with_one r kept)
  with_different d = go (holds same_bytes r kept) refl
    where
      go : (t : Bool) → holds same_bytes r kept ≡ t → Different (cond t kept (kept ++ r ∷ []))
      go true e = d
      go false e = different_end kept r d (λ m. true≢false (sym (member_holds r kept m) ∙ e))

  with_length : length (with_one r kept) ≤ suc (length kept)
  with_length = go (holds same_bytes r kept)
    where
      go : (t : Bool) → length (cond t kept (kept ++ r ∷ [])) ≤ suc (length kept)
      go true = omega arith
      go false = omega (arith, length-append kept (r ∷ []))

from_stays : {a : List ℕ} (kept rs : List (List ℕ)) → a among kept → a among once_from kept rs
unfolding once_from
from_stays kept [] m = m
from_stays kept (r ∷ rs) m = from_stays (with_one r kept) rs (with_stays r kept m)

from_has : {a : List ℕ} (kept rs : List (List ℕ)) → a among rs → a among once_from kept rs
unfolding once_from
from_has kept [] m = absurd (Memᴰ.not-nil m)
from_has kept (r ∷ rs) m =
    ⊎_elim (λ e. from_stays (with_one r kept) rs (Memᴰ.cast e (with_enters r kept))) (from_has (with_one r kept) rs) (Memᴰ.cases_cons m)

from_only : {a : List ℕ} (kept rs : List (List ℕ)) → a among once_from kept rs → (a among kept) ⊎ (a among rs)
unfolding once_from
from_only kept [] m = inl m
from_only kept (r ∷ rs) m =
    ⊎_elim (λ k. ⊎_elim inl (λ e. inr (here e)) (with_only r kept k)) (λ k. inr (there k)) (from_only (with_one r kept) rs m)

from_different : (kept rs : List (List ℕ)) → Different kept → Different (once_from kept rs)
unfolding once_from
from_different kept [] d = d
from_different kept (r ∷ rs) d = from_different (with_one r kept) rs (with_different r kept d)

from_length : (kept rs : List (List ℕ)) → length (once_from kept rs) ≤ length kept + length rs
unfolding once_from
from_length kept [] = omega arith
from_length kept (r ∷ rs) = omega (arith, from_length (with_one r kept) rs, with_length r kept)

-- the last record is kept unless it is there already
pub once_from_end : (kept rs : List (List ℕ)) (r : List ℕ)
    → once_from kept (rs ++ r ∷ []) ≡ cond (holds same_bytes r (once_from kept rs)) (once_from kept rs) (once_from kept rs ++ r ∷ [])
unfolding once_from
once_from_end kept [] r = refl
once_from_end kept (x ∷ rs) r = once_from_end (with_one x kept) rs r

pub once_end : (rs : List (List ℕ)) (r : List ℕ) → once (rs ++ r ∷ []) ≡ cond (holds same_bytes r (once rs)) (once rs) (once rs ++ r ∷ [])
once_end = once_from_end []

module _ (rs : List (List ℕ)) where
  -- each record is in the list that has each once
  pub once_has : {a : List ℕ} → a among rs → a among once rs
  once_has = from_has [] rs

  -- and no other
  pub once_only : {a : List ℕ} → a among once rs → a among rs
  once_only m = ⊎_elim (λ k. absurd (Memᴰ.not-nil k)) (λ k. k) (from_only [] rs m)

  -- no two are equal
  pub once_different : all_different same_bytes (once rs) ≡ true
  once_different = different_all (once rs) (from_different [] rs tt)

  -- it is not longer
  pub once_most : length (once rs) ≤ length rs
  once_most = omega (arith, from_length [] rs)

  -- what holds of each record holds of each in it
  pub once_each : (Q : List ℕ → Type 0) → ((r : List ℕ) → r among rs → Q r) → (r : List ℕ) → r among once rs → Q r
  once_each Q f r m = f r (once_only m)

-- a record that may be sent: 1 to 300 bytes
abbrev pub Sendable : List ℕ → Type 0
Sendable r = (1 ≤ length r) × (length r ≤ 300)

-- the tests of records as facts of each
pub each_size : (rs : List (List ℕ)) → ((r : List ℕ) → r among rs → Sendable r) → record_sizes rs ≡ true
unfolding record_sizes
each_size [] f = refl
each_size (r ∷ rs) f =
    let s = f r (here refl) in
    rw (le-leb 1 (length r) s.0, le-leb (length r) 300 s.1) (each_size rs (λ q m. f q (there m)))

pub size_each : (rs : List (List ℕ)) → record_sizes rs ≡ true → (r : List ℕ) → r among rs → Sendable r
unfolding record_sizes
size_each [] e r m = absurd (Memᴰ.not-nil m)
size_each (q ∷ rs) e r m =
    let p = both (leb 1 (length q) && leb (length q) 300) (record_sizes rs) e in
    let s = both (leb 1 (length q)) (leb (length q) 300) p.0 in
    ⊎_elim (λ i. subst⁻¹ Sendable i (leb-true 1 (length q) s.0, leb-true (length q) 300 s.1)) (size_each rs p.1 r) (Memᴰ.cases_cons m)

pub each_bytes : (rs : List (List ℕ)) → ((r : List ℕ) → r among rs → Bytes r) → AllBytes rs
each_bytes [] f = tt
each_bytes (r ∷ rs) f = (f r (here refl), each_bytes rs (λ q m. f q (there m)))

pub bytes_each : (rs : List (List ℕ)) → AllBytes rs → (r : List ℕ) → r among rs → Bytes r
bytes_each [] b r m = absurd (Memᴰ.not-nil m)
bytes_each (q ∷ rs) b r m = ⊎_elim (λ i. subst⁻¹ Bytes i b.0) (bytes_each rs b.1 r) (Memᴰ.cases_cons m)

-- records of 1 to 300 bytes stay so
pub once_sizes : (rs : List (List ℕ)) → ((r : List ℕ) → r among rs → Sendable r) → record_sizes (once rs) ≡ true
once_sizes rs f = each_size (once rs) (once_each rs Sendable f)

-- a list cut at two places
pub cut_part : {A : Type 0} (j k : ℕ) (m : List A) → m ≡ take j m ++ (take k (drop j m) ++ drop k (drop j m))
cut_part {A} j k m =
    sym (ap (λ (l : List A). take j m ++ l) (take-append-drop k (drop j m)) ∙ take-append-drop j m)

-- what is in a part is in the whole
pub part_among : {A : Type 0} {a : A} (m front g back : List A) → m ≡ front ++ (g ++ back) → a among g → a among m
part_among {A} {a} m front g back e i = subst⁻¹ (λ (l : List A). a among l) e (Memᴰ.append_right front (Memᴰ.append_left back i))

-- the tests pass for a part
module _ (m front g back : List (List ℕ)) (e : m ≡ front ++ (g ++ back)) where
  pub part_different : all_different same_bytes m ≡ true → all_different same_bytes g ≡ true
  part_different d =
      different_all g (different_left g back (different_right front (g ++ back) (subst Different e (all_different_lem m d))))

  pub part_sizes : record_sizes m ≡ true → record_sizes g ≡ true
  part_sizes s = each_size g (λ r i. size_each m s r (part_among m front g back e i))

  pub part_bytes : AllBytes m → AllBytes g
  part_bytes b = each_bytes g (λ r i. bytes_each m b r (part_among m front g back e i))
