-- Items spread over groups: what the first group takes and what it leaves, and that the groups are all items in order, each group as full
-- as it can be. Over any item and any test. Assumes nothing.
use Prim.Native.Nat.{ℕ, zero, suc, ◌+◌, ◌*◌, ◌≤◌, ◌<◌}
use native.Mathlib.Nat.{mul-suc, mul-zero}
use native.Mathlib.Numerals.{add-one}
use native.Mathlib.Omega.{arith}
use mathlib.Core.Path.{◌≡◌, refl, sym, ap, subst, subst⁻¹, ◌∙◌}
use mathlib.Core.Bool.{Bool, true, false, cond, true≢false}
use mathlib.Core.Logic.{◌⊎◌, inl, inr, ⊎_elim}
use mathlib.Core.List.{List, [], ◌∷◌, ◌++◌, append-nil, append_assoc, nil≢cons, head-eq_of_cons-eq, tail-eq_of_cons-eq}
use mathlib.Core.List.Memᴰ
use mathlib.Core.List.Memᴰ.{head as here}
use mathlib.Core.List.Memᴰ.{tail as there}
use lib.Dec.{leb}
use lib.ListN.{length, take, drop, length-append, drop_of_length-le, take-append-drop}
use lib.Seq.{take_all, append_snoc}
use borrow.Author.Tests.{leb-true, leb-false}
use Rattle.nearest.specs.Sorted.{◌among◌}
use Rattle.replies.specs.Groups.{first_group, groups_from, groups, more}
use Rattle.replies.specs.Laws.{together, Full}

module _ {A : Type 0} where
  -- what is left of a list is of the list
  pub among_drop : {a : A} (n : ℕ) (l : List A) → a among drop n l → a among l
  among_drop zero l m = m
  among_drop (suc n) [] m = m
  among_drop (suc n) (x ∷ xs) m = there (among_drop n xs m)

  -- one more of a list
  pub one_more : (l : List A) (i : ℕ) → i < length l → (a : A) × (take (suc i) l ≡ take i l ++ a ∷ []) × (drop i l ≡ a ∷ drop (suc i) l)
  one_more [] i h = absurd (omega arith)
  one_more (x ∷ xs) zero h = (x, refl, refl)
  one_more (x ∷ xs) (suc i) h = let r = one_more xs i (omega arith) in (r.0, ap (λ (l : List A). x ∷ l) r.1, r.2)

  -- the items of groups before and behind a place
  pub together_append : (front back : List (List A)) → together (front ++ back) ≡ together front ++ together back
  unfolding together
  together_append [] back = refl
  together_append (g ∷ front) back =
      ap (λ (l : List A). g ++ l) (together_append front back) ∙ sym (append_assoc g (together front) (together back))

  -- an item of a group is one of all
  pub among_together : {a : A} {g : List A} (gs : List (List A)) → a among g → g among gs → a among together gs
  unfolding together
  among_together [] m i = absurd (Memᴰ.not-nil i)
  among_together {a} {g} (h ∷ gs) m i =
      ⊎_elim (λ e. Memᴰ.append_left (together gs) (subst (λ (l : List A). a among l) e m))
      (λ r. Memᴰ.append_right h (among_together gs m r)) (Memᴰ.cases_cons i)

  -- a list of groups cut before two of them: at its start, or behind its first
  cut : (f : List A) (gs front : List (List A)) (g h : List A) (back : List (List A)) → f ∷ gs ≡ front ++ g ∷ h ∷ back
      → ((f ≡ g) × (gs ≡ h ∷ back)) ⊎ ((front' : List (List A)) × (gs ≡ front' ++ g ∷ h ∷ back))
  cut f gs [] g h back e = inl (head-eq_of_cons-eq e, tail-eq_of_cons-eq e)
  cut f gs (f' ∷ front) g h back e = inr (front, tail-eq_of_cons-eq e)

module _ {A : Type 0} (fits : List A → Bool) where
  -- each item of a list fits alone
  abbrev pub Alone : List A → Type 0
  Alone l = (a : A) → a among l → fits (a ∷ []) ≡ true

  -- how many more the first group takes, where these are taken already
  unfoldable pub taken_by : (taken : List A) → List A → ℕ
  taken_by taken [] = 0
  taken_by taken (a ∷ rest) = cond (fits (taken ++ a ∷ [])) (suc (taken_by (taken ++ a ∷ []) rest)) 0

  -- the groups behind one that is closed
  abbrev begun : List A → List (List A)
  begun [] = []
  begun (a ∷ rest) = groups_from fits (a ∷ []) rest

  -- induction over those taken and the items: none is left; the next one fits; it does not, and begins a group
  pub by_items : (P : List A → List A → Type 0) → ((taken : List A) → P taken [])
      → ((taken : List A) (a : A) (rest : List A) → fits (taken ++ a ∷ []) ≡ true → P (taken ++ a ∷ []) rest → P taken (a ∷ rest))
      → ((taken : List A) (a : A) (rest : List A) → fits (taken ++ a ∷ []) ≡ false → P (a ∷ []) rest → P taken (a ∷ rest))
      → (taken l : List A) → P taken l
  by_items P done next stop taken [] = done taken
  by_items P done next stop taken (a ∷ rest) =
      go (fits (taken ++ a ∷ [])) refl (by_items P done next stop (taken ++ a ∷ []) rest) (by_items P done next stop (a ∷ []) rest)
    where
      go : (t : Bool) → fits (taken ++ a ∷ []) ≡ t → P (taken ++ a ∷ []) rest → P (a ∷ []) rest → P taken (a ∷ rest)
      go true e p q = next taken a rest e p
      go false e p q = stop taken a rest e q

  -- the first group is those taken and that many more
  pub first_prefix : (taken l : List A) → first_group fits taken l ≡ taken ++ take (taken_by taken l) l
  unfolding first_group taken_by
  first_prefix =
      by_items (λ (taken l : List A). first_group fits taken l ≡ taken ++ take (taken_by taken l) l)
      (λ taken. sym (append-nil taken))
      (λ taken a rest e p. rw e (p ∙ append_snoc taken a (take (taken_by (taken ++ a ∷ []) rest) rest)))
      (λ taken a rest e p. rw e (sym (append-nil taken)))

  -- so the items are that group and what is left
  pub first_split : (taken l : List A) → taken ++ l ≡ first_group fits taken l ++ drop (taken_by taken l) l
  first_split taken l =
      let n = taken_by taken l in
      sym (ap (λ (r : List A). r ++ drop n l) (first_prefix taken l)
      ∙ append_assoc taken (take n l) (drop n l)
      ∙ ap (λ (r : List A). taken ++ r) (take-append-drop n l))

  pub first_length : (taken l : List A) → length (first_group fits taken l) ≡ length taken + taken_by taken l
  unfolding first_group taken_by
  first_length =
      by_items (λ (taken l : List A). length (first_group fits taken l) ≡ length taken + taken_by taken l)
      (λ taken. omega arith)
      (λ taken a rest e p. rw e (omega (arith, length-append taken (a ∷ []))))
      (λ taken a rest e p. rw e (omega arith))

  pub taken_most : (taken l : List A) → taken_by taken l ≤ length l
  unfolding taken_by
  taken_most =
      by_items (λ (taken l : List A). taken_by taken l ≤ length l) (λ taken. omega arith) (λ taken a rest e p. rw e (omega arith))
      (λ taken a rest e p. rw e (omega arith))

  -- the first group fits
  pub first_fits : (taken l : List A) → fits taken ≡ true → fits (first_group fits taken l) ≡ true
  unfolding first_group
  first_fits =
      by_items (λ (taken l : List A). fits taken ≡ true → fits (first_group fits taken l) ≡ true) (λ taken h. h)
      (λ taken a rest e p h. rw e (p e)) (λ taken a rest e p h. rw e h)

  -- with the next item it would not
  pub first_full : (taken l : List A) (b : A) (left : List A) → drop (taken_by taken l) l ≡ b ∷ left
      → fits (first_group fits taken l ++ b ∷ []) ≡ false
  unfolding first_group taken_by
  first_full =
      by_items (λ (taken l : List A). (b : A) (left : List A) → drop (taken_by taken l) l ≡ b ∷ left → fits (first_group fits taken l ++ b ∷ []) ≡ false)
      (λ taken b left h. absurd (nil≢cons h))
      (λ taken a rest e p. rw e p)
      (λ taken a rest e p. rw e (λ b left h. ap (λ (x : A). fits (taken ++ x ∷ [])) (sym (head-eq_of_cons-eq h)) ∙ e))

  -- the groups are the first one and those behind it
  groups_first : (taken l : List A) → groups_from fits taken l ≡ first_group fits taken l ∷ begun (drop (taken_by taken l) l)
  unfolding first_group taken_by groups_from
  groups_first =
      by_items (λ (taken l : List A). groups_from fits taken l ≡ first_group fits taken l ∷ begun (drop (taken_by taken l) l)) (λ taken. refl)
      (λ taken a rest e p. rw e p) (λ taken a rest e p. rw e)

  begun_more : (l : List A) → Alone l → begun l ≡ more fits l
  unfolding groups_from
  begun_more [] f = refl
  begun_more (a ∷ rest) f = rw (f a (here refl))

  -- the first group of some items is a part of them, and not longer
  module _ (l : List A) where
    pub first_count : taken_by [] l ≡ length (first_group fits [] l)
    first_count = omega (arith, first_length [] l)

    pub first_most : length (first_group fits [] l) ≤ length l
    first_most = omega (arith, first_count, taken_most [] l)

    pub first_take : first_group fits [] l ≡ take (length (first_group fits [] l)) l
    first_take = first_prefix [] l ∙ ap (λ (n : ℕ). take n l) first_count

    -- the groups of some items are the first one, and those of what is left
    pub groups_next : Alone l → groups fits l ≡ first_group fits [] l ∷ more fits (drop (length (first_group fits [] l)) l)
    groups_next f =
        groups_first [] l
        ∙ ap (λ (gs : List (List A)). first_group fits [] l ∷ gs)
        (begun_more (drop (taken_by [] l) l) (λ a m. f a (among_drop (taken_by [] l) l m)) ∙ ap (λ (n : ℕ). more fits (drop n l)) first_count)

  -- the first group of some items has one at least
  pub first_some : (l : List A) → Alone l → 1 ≤ length l → 1 ≤ length (first_group fits [] l)
  unfolding first_group
  first_some [] f h = absurd (omega arith)
  first_some (a ∷ rest) f h = rw (f a (here refl)) (omega (arith, first_length (a ∷ []) rest))

  pub more_next : (l : List A) → Alone l → 1 ≤ length l → more fits l ≡ first_group fits [] l ∷ more fits (drop (length (first_group fits [] l)) l)
  more_next [] f h = absurd (omega arith)
  more_next (a ∷ rest) f h = groups_next (a ∷ rest) f

  -- a search for the end of the first group that has come to place i: the next item fits, does not, or there is none
  module _ (l : List A) (i : ℕ) where
    pub first_next : i < length l → fits (take (i + 1) l) ≡ true
        → first_group fits (take i l) (drop i l) ≡ first_group fits (take (i + 1) l) (drop (i + 1) l)
    unfolding first_group
    first_next h =
        rw add-one (λ e.
        let p = one_more l i h in
        rw (p.2, ← p.1, e))

    pub first_stop : i < length l → fits (take (i + 1) l) ≡ false → first_group fits (take i l) (drop i l) ≡ take i l
    unfolding first_group
    first_stop h =
        rw add-one (λ e.
        let p = one_more l i h in
        rw (p.2, ← p.1, e))

    pub first_end : length l ≤ i → first_group fits (take i l) (drop i l) ≡ l
    unfolding first_group
    first_end h = rw (drop_of_length-le l {i = i} h) (take_all i l h)

  pub first_start : (l : List A) → first_group fits [] l ≡ first_group fits (take 0 l) (drop 0 l)
  first_start l = refl

  -- the groups together are the items in order
  pub groups_from_lem : (taken l : List A) → together (groups_from fits taken l) ≡ taken ++ l
  unfolding groups_from together
  groups_from_lem =
      by_items (λ (taken l : List A). together (groups_from fits taken l) ≡ taken ++ l) (λ taken. refl)
      (λ taken a rest e p. rw e (p ∙ append_snoc taken a rest))
      (λ taken a rest e p. rw e (ap (λ (r : List A). taken ++ r) p))

  pub groups_together : (l : List A) → together (groups fits l) ≡ l
  groups_together = groups_from_lem []

  -- each group fits
  pub groups_fit : (taken l : List A) → fits taken ≡ true → Alone l → (g : List A) → g among groups_from fits taken l → fits g ≡ true
  unfolding groups_from
  groups_fit =
      by_items (λ (taken l : List A). fits taken ≡ true → Alone l → (g : List A) → g among groups_from fits taken l → fits g ≡ true)
      (λ taken h f g m. ap fits (Memᴰ.eq_of_singleton m) ∙ h)
      (λ taken a rest e p h f. rw e (p e (λ b m. f b (there m))))
      (λ taken a rest e p h f. rw e (λ g m.
      ⊎_elim (λ q. ap fits q ∙ h) (p (f a (here refl)) (λ b r. f b (there r)) g) (Memᴰ.cases_cons m)))

  -- each but the last is full
  pub groups_full : (taken l : List A) (front back : List (List A)) (g h : List A) → groups_from fits taken l ≡ front ++ g ∷ h ∷ back
      → Full fits g h
  unfolding groups_from
  groups_full =
      by_items (λ (taken l : List A). (front back : List (List A)) (g h : List A) → groups_from fits taken l ≡ front ++ g ∷ h ∷ back → Full fits g h)
      (λ taken front back g h q. absurd (omega (arith, ap length q, length-append front (g ∷ h ∷ back))))
      (λ taken a rest e p. rw e p)
      (λ taken a rest e p. rw e (λ front back g h q.
      ⊎_elim (λ s. last taken a rest g h back e s.0 s.1) (λ s. p s.0 back g h s.1) (cut taken (groups_from fits (a ∷ []) rest) front g h back q)))
    where
      last : (taken : List A) (a : A) (rest g h : List A) (back : List (List A)) → fits (taken ++ a ∷ []) ≡ false → taken ≡ g
          → groups_from fits (a ∷ []) rest ≡ h ∷ back → Full fits g h
      last taken a rest g h back e p q =
          subst⁻¹ (Full fits g) (head-eq_of_cons-eq (sym q ∙ groups_first (a ∷ []) rest) ∙ first_prefix (a ∷ []) rest)
          (ap (λ (x : List A). fits (x ++ a ∷ [])) (sym p) ∙ e)

  -- there is one at least
  pub groups_least : (l : List A) → 1 ≤ length (groups fits l)
  groups_least l = omega (arith, ap length (groups_first [] l))

  -- how many there are, where any k of these items fit together
  module _ (Q : A → Type 0) (k : ℕ) (some : 1 ≤ k) (few : (m : List A) → length m ≤ k → ((a : A) → a among m → Q a) → fits m ≡ true) where
    over : (m : List A) → ((a : A) → a among m → Q a) → fits m ≡ false → k < length m
    over m f e = go (leb (length m) k) refl
      where
        go : (t : Bool) → leb (length m) k ≡ t → k < length m
        go true q = absurd (true≢false (sym (few m (leb-true (length m) k q) f) ∙ e))
        go false q = leb-false (length m) k q

    number_from : (taken l : List A) → 1 ≤ length taken → ((a : A) → a among taken → Q a) → ((a : A) → a among l → Q a)
        → k * length (groups_from fits taken l) + 1 ≤ length taken + length l + k
    unfolding groups_from
    number_from =
        by_items (λ (taken l : List A). 1 ≤ length taken → ((a : A) → a among taken → Q a) → ((a : A) → a among l → Q a)
        → k * length (groups_from fits taken l) + 1 ≤ length taken + length l + k)
        (λ taken h f g. omega (arith, mul-suc k 0, mul-zero k))
        (λ taken a rest e p h f g. rw e (
        let n = length-append taken (a ∷ []) in
        omega (arith, p (omega arith) (both taken a rest f g) (λ b m. g b (there m)))))
        (λ taken a rest e p h f g. rw e (
        let n = length-append taken (a ∷ []) in
        omega (
          arith,
          mul-suc k (length (groups_from fits (a ∷ []) rest)),
          over (taken ++ a ∷ []) (both taken a rest f g) e,
          p (omega arith) (λ b m. g b (here (Memᴰ.eq_of_singleton m))) (λ b m. g b (there m)),
        )))
      where
        both : (taken : List A) (a : A) (rest : List A) → ((b : A) → b among taken → Q b) → ((b : A) → b among (a ∷ rest) → Q b)
            → (b : A) → b among (taken ++ a ∷ []) → Q b
        both taken a rest f g b m = ⊎_elim (f b) (λ r. g b (here (Memᴰ.eq_of_singleton r))) (Memᴰ.append_cases taken m)

    -- each but the last has k items or more, and the last has one
    pub groups_number : (l : List A) → ((a : A) → a among l → Q a) → 1 ≤ length l → k * length (groups fits l) + 1 ≤ length l + k
    unfolding groups_from
    groups_number [] f h = absurd (omega arith)
    groups_number (a ∷ rest) f h =
        let alone : ((b : A) → b among (a ∷ []) → Q b) = λ b m. f b (here (Memᴰ.eq_of_singleton m)) in
        rw (few (a ∷ []) some alone) (omega (arith, number_from (a ∷ []) rest (omega arith) alone (λ b m. f b (there m))))

    pub groups_most : (l : List A) → ((a : A) → a among l → Q a) → k * length (groups fits l) ≤ length l + k
    unfolding groups_from
    groups_most [] f = omega (arith, mul-suc k 0, mul-zero k)
    groups_most (a ∷ rest) f = omega (arith, groups_number (a ∷ rest) f (omega arith))
