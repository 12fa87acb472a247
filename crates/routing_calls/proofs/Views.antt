-- The views of changed tables: what each helper does to the arrays, seen as a change of the lists. Assumes nothing.
use Prim.Native.Nat.{ℕ, ◌+◌, ◌-◌, ◌<◌, ◌≤◌}
use native.Mathlib.Numerals.{add-one}
use native.Mathlib.Omega.{arith}
use mathlib.Core.Path.{◌≡◌, ap, ap₂, ◌∙◌}
use mathlib.Core.List.{List, [], ◌∷◌, ◌++◌}
use lib.ListN.{length, set}
use Rattle.routing_table.specs.View.{view, firsts, no_contact, no_entry}
use Rattle.routing_table.specs.Places.{remove_at}
use Rattle.routing_table.specs.declared.Contact.{Contact}
use Rattle.routing_table.specs.declared.Entry.{Entry}
use Rattle.routing_table.specs.declared.RoutingTable.{RoutingTable}
use Rattle.routing_table.proofs.Firsts.{firsts_set, firsts_more}
use Rattle.routing_calls.specs.Change.{with_entries, with_replacements}
use Rattle.routing_calls.specs.Arrays.{closed, entry_put, entry_added, replacement_added, replacement_out}
use Rattle.routing_table.specs.Survey.{Sized}
use Rattle.routing_calls.proofs.Closed.{length_closed, closed_firsts}

-- a store right behind the first n, n counted as the code does
more : {A : Type 0} (other : A) (n : ℕ) (l : List A) (a : A) → n < length l → firsts other (n + 1) (set l n a) ≡ firsts other n l ++ a ∷ []
more other n l a h = ap (λ (k : ℕ). firsts other k (set l n a)) (add-one n) ∙ firsts_more other n l a h

module _ (t : RoutingTable) (z : Sized t) where
  -- an entry at a place
  entries_put : (at : ℕ) (e : Entry) → at < t.count → t.count ≤ 128 → firsts no_entry t.count (set t.entries at e) ≡ set (view t).entries at e
  entries_put at e h n = firsts_set no_entry t.count t.entries at e h (omega (arith, z.entries))

  pub view_put : (at : ℕ) (e : Entry) → at < t.count → t.count ≤ 128 → view (entry_put t at e) ≡ with_entries (view t) (set (view t).entries at e)
  view_put at e h n = ap (with_entries (view t)) (entries_put at e h n)

  -- an entry more
  pub view_added : (e : Entry) → t.count < 128 → view (entry_added t e) ≡ with_entries (view t) ((view t).entries ++ e ∷ [])
  view_added e h = ap (with_entries (view t)) (more no_entry t.count t.entries e (omega (arith, z.entries)))

  -- a replacement more
  pub view_more : (c : Contact) → t.waiting < 16 → view (replacement_added t c) ≡ with_replacements (view t) ((view t).replacements ++ c ∷ [])
  view_more c h = ap (with_replacements (view t)) (more no_contact t.waiting t.replacements c (omega (arith, z.replacements)))

  module _ (from : ℕ) (h : from < t.waiting) (n : t.waiting ≤ 16) where
    -- a replacement less
    left : firsts no_contact (t.waiting - 1) (closed from (t.waiting - 1) t.replacements) ≡ remove_at from (view t).replacements
    left = closed_firsts t.replacements from no_contact t.waiting h (omega (arith, z.replacements))

    left_size : length (closed from (t.waiting - 1) t.replacements) ≡ length t.replacements
    left_size = length_closed t.replacements from (t.waiting - 1) (omega arith) (omega (arith, z.replacements))

    -- a replacement less and then one more
    pub view_latest : (at : ℕ) → at ≡ from → (c : Contact)
        → view (replacement_added (replacement_out t at) c) ≡ with_replacements (view t) (remove_at from (view t).replacements ++ c ∷ [])
    view_latest at e c =
        let s = z.replacements in
        ap (λ (i : ℕ). view (replacement_added (replacement_out t i) c)) e
        ∙ ap (with_replacements (view t))
        (more no_contact (t.waiting - 1) (closed from (t.waiting - 1) t.replacements) c (omega (arith, left_size))
        ∙ ap (λ (l : List Contact). l ++ c ∷ []) left)

    -- a replacement less, and an entry at a place
    pub view_promoted : (at : ℕ) (e : Entry) → at < t.count → t.count ≤ 128
        → view (entry_put (replacement_out t from) at e)
        ≡ record { own = t.own; entries = set (view t).entries at e; replacements = remove_at from (view t).replacements }
    view_promoted at e k m =
        ap₂ (λ (es : List Entry) (cs : List Contact). record { own = t.own; entries = es; replacements = cs }) (entries_put at e k m) left
