-- In a view that keeps its rules all ids differ: those of other entries and replacements from the one that a call is about. Assumes nothing.
use Prim.Native.Nat.{ℕ}
use mathlib.Core.Path.{◌≡◌, sym, subst, ◌∙◌}
use mathlib.Core.Logic.{⊎_elim}
use mathlib.Core.List.Memᴰ
use mathlib.Core.List.Memᴰ.{append_left as in_front}
use mathlib.Core.List.Memᴰ.{append_right as behind}
use mathlib.Core.List.Memᴰ.{cast}
use mathlib.Core.List.Memᴰ.{map as mapped}
use mathlib.Core.List.Memᴰ.{tail as there}
use mathlib.Core.List.{List, [], ◌∷◌, ◌++◌, map, map-append}
use Rattle.routing_table.specs.View.{View, entry_id, contact_id, entry_ids, replacement_ids, ids_of}
use Rattle.routing_table.specs.Rules.{◌among◌, Different, Rules}
use Rattle.routing_table.specs.declared.Contact.{Contact}
use Rattle.routing_table.specs.declared.Entry.{Entry}
use Rattle.routing_table.proofs.Counts.{different_left, different_right}
use Rattle.routing_runs.proofs.Done.{EntryAt, ReplacementAt}
use Rattle.routing_runs.proofs.Distinct.{different_out}

module _ {A : Type 0} where
  -- where no two of a list are equal, none of the one part is in the other
  different_across : {a : A} (l m : List A) → Different (l ++ m) → a among l → ¬ (a among m)
  different_across [] m d n k = absurd (Memᴰ.not-nil n)
  different_across {a} (b ∷ l) m d n k =
      ⊎_elim (λ (e : a ≡ b). d.0 (behind l (cast (sym e) k))) (λ (o : a among l). different_across l m d.1 o k) (Memᴰ.cases_cons n)

-- where no two have the same f, the others have another than x
apart : {A B : Type 0} {a : A} (f : A → B) (front : List A) (x : A) (back : List A) → Different (map f (front ++ x ∷ back))
    → a among front ++ back → ¬ (f a ≡ f x)
apart f front x back d m e =
    (different_out (map f front) (f x) (map f back) (subst Different (map-append f front (x ∷ back)) d)).0
    (subst (λ (l : List _). f x among l) (map-append f front back) (cast (sym e) (mapped f m)))

-- a newcomer's id is no entry's and no replacement's
pub new_entry : (v : View) {id : List ℕ} {e : Entry} → ¬ (id among ids_of v) → e among v.entries → ¬ (e.contact.id ≡ id)
new_entry v n m q = n (there (in_front (replacement_ids v) (cast (sym q) (mapped entry_id m))))

pub new_replacement : (v : View) {id : List ℕ} {d : Contact} → ¬ (id among ids_of v) → d among v.replacements → ¬ (d.id ≡ id)
new_replacement v n m q = n (there (behind (entry_ids v) (cast (sym q) (mapped contact_id m))))

module _ {v : View} (rules : Rules v) where
  -- no entry has a replacement's id
  pub entry_apart : {e : Entry} {c : Contact} → e among v.entries → c among v.replacements → ¬ (e.contact.id ≡ c.id)
  entry_apart m n q =
      different_across (entry_ids v) (replacement_ids v) rules.different.1 (mapped entry_id m) (cast q (mapped contact_id n))

  -- other entries and other replacements have other ids
  pub entries_apart : {id : List ℕ} {front : List Entry} {e d : Entry} {back : List Entry} → EntryAt v id front e back
      → d among front ++ back → ¬ (d.contact.id ≡ id)
  entries_apart {front = front} {e = e} {back = back} at m q =
      apart entry_id front e back
      (subst (λ (es : List Entry). Different (map entry_id es)) at.stands (different_left (entry_ids v) (replacement_ids v) rules.different.1))
      m
      (q ∙ sym at.named)

  pub replacements_apart : {id : List ℕ} {front : List Contact} {c d : Contact} {back : List Contact} → ReplacementAt v id front c back
      → d among front ++ back → ¬ (d.id ≡ id)
  replacements_apart {front = front} {c = c} {back = back} at m q =
      apart contact_id front c back
      (subst (λ (cs : List Contact). Different (map contact_id cs)) at.stands
      (different_right (entry_ids v) (replacement_ids v) rules.different.1))
      m
      (q ∙ sym at.named)
