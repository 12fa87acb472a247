-- Contacts that stand in the order of their last sightings, longest unseen first, as a recursion on the list. Assumes nothing.
use Prim.Native.Nat.{◌<◌}
use native.Mathlib.Omega.{arith}
use mathlib.Core.Path.{refl}
use mathlib.Core.List.Memᴰ.{append_right as behind}
use mathlib.Core.List.Memᴰ.{head as here}
use mathlib.Core.List.Memᴰ.{not-nil}
use mathlib.Core.List.Memᴰ.{tail as there}
use mathlib.Core.List.{List, [], ◌∷◌, ◌++◌}
use Rattle.nearest.proofs.Lists.{middle_among}
use Rattle.routing_table.specs.Rules.{◌among◌}
use Rattle.routing_table.specs.declared.Contact.{Contact}
use Rattle.routing_runs.specs.Story.{Told, unseen_for}
use Rattle.routing_runs.proofs.Around.{each_last}
use Rattle.routing_runs.proofs.Recall.{Unseen, unseen_longer}

-- b was seen after a
abbrev pub Later : List Told → Contact → Contact → Type 0
Later s a b = unseen_for b.id s < unseen_for a.id s

-- each was seen after those before it
abbrev pub Ordered : List Told → List Contact → Type 0
Ordered s [] = Unit {0}
Ordered s (a ∷ l) = ((b : Contact) → b among l → Later s a b) × Ordered s l

module _ (s : List Told) where
  -- the order stays where one is taken out,
  pub ordered_without : (front : List Contact) (x : Contact) (back : List Contact) → Ordered s (front ++ x ∷ back) → Ordered s (front ++ back)
  ordered_without [] x back o = o.1
  ordered_without (a ∷ front) x back o = (λ b m. o.0 b (middle_among front x back m), ordered_without front x back o.1)

  -- where one that was seen after all others comes last,
  pub ordered_last : (l : List Contact) (x : Contact) → ((a : Contact) → a among l → Later s a x) → Ordered s l → Ordered s (l ++ x ∷ [])
  ordered_last [] x later o = (λ b m. absurd (not-nil m), tt)
  ordered_last (a ∷ l) x later o = (
    each_last (Later s a) l x (later a (here refl)) o.0,
    ordered_last l x (λ b m. later b (there m)) o.1,
  )

  -- and where a call is a sighting of none of them
  pub ordered_still : (t : Told) (l : List Contact) → ((a : Contact) → a among l → Unseen a.id t) → Ordered s l → Ordered (t ∷ s) l
  ordered_still t [] unseen o = tt
  ordered_still t (a ∷ l) unseen o = (
    λ b m.
        let f = unseen_longer a.id t s (unseen a (here refl)) in
        let g = unseen_longer b.id t s (unseen b (there m)) in
        let h = o.0 b m in
        omega arith,
    ordered_still t l (λ b m. unseen b (there m)) o.1,
  )

  -- of any two the later one was seen later
  pub ordered_pair : (front middle back : List Contact) (a b : Contact) → Ordered s (front ++ a ∷ middle ++ b ∷ back) → Later s a b
  ordered_pair [] middle back a b o = o.0 b (behind middle (here refl))
  ordered_pair (c ∷ front) middle back a b o = ordered_pair front middle back a b o.1
