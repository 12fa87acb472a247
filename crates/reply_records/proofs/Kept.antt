-- Records kept one after another: one turn of the pass over the places, and the end. Assumes nothing.
use Prim.Native.Nat.{ℕ, suc, ◌+◌, ◌<◌, ◌≤◌}
use native.Mathlib.Numerals.{add-one}
use native.Mathlib.Omega.{arith}
use mathlib.Core.Path.{◌≡◌, refl, sym, ap, subst, ◌∙◌}
use mathlib.Core.Bool.{Bool, true, false, cond}
use mathlib.Core.Logic.{⊎_elim}
use mathlib.Core.List.Memᴰ
use mathlib.Core.List.{Memᴰ, List, [], ◌∷◌, ◌++◌, map}
use lib.ListN.{length, get_or, take, drop, drop_of_length-le}
use lib.Seq.{drop-cons, get_or-take, length-take-le}
use Rattle.octets.specs.Equal.{same_bytes, holds}
use Rattle.routing_table.specs.View.{View}
use Rattle.routing_table.specs.declared.Entry.{Entry}
use Rattle.replies.specs.Chosen.{chosen, entry_record, once_from}
use Rattle.replies.specs.Nodes.{sendable}
use Rattle.reply_records.specs.Order.{entry_at}
use Rattle.reply_records.specs.Records.{kept_with, Whole}

-- one record more is offered
pub kept_step : (r : List ℕ) (kept rest : List (List ℕ)) → once_from kept (chosen sendable (r ∷ rest)) ≡ once_from (kept_with r kept) (chosen sendable rest)
unfolding chosen once_from
kept_step r kept rest = go (sendable r)
  where
    go : (t : Bool) → once_from kept (cond t (r ∷ chosen sendable rest) (chosen sendable rest)) ≡ once_from (cond t (cond (holds same_bytes r kept) kept (kept ++ r ∷ [])) kept) (chosen sendable rest)
    go true = refl
    go false = refl

pub kept_end : (kept : List (List ℕ)) → once_from kept (chosen sendable []) ≡ kept
unfolding chosen once_from
kept_end kept = refl

-- it is kept, as the code keeps it
pub kept_turn : (r : List ℕ) (kept after rest : List (List ℕ)) → after ≡ kept_with r kept
    → once_from after (chosen sendable rest) ≡ once_from kept (chosen sendable (r ∷ rest))
kept_turn r kept after rest e = ap (λ (l : List (List ℕ)). once_from l (chosen sendable rest)) e ∙ sym (kept_step r kept rest)

-- the records of the entries at the first n places, from i on
abbrev pub records_from : View → ℕ → List ℕ → ℕ → List (List ℕ)
records_from v n places i = map entry_record (map (entry_at v) (drop i (take n places)))

module _ (v : View) (n : ℕ) (places : List ℕ) (long : n ≤ length places) where
  pub records_next : (i : ℕ) → i < n → records_from v n places i ≡ entry_record (entry_at v (get_or places i 0)) ∷ records_from v n places (i + 1)
  records_next i h =
      let l = length-take-le n places long in
      let e : drop i (take n places) ≡ get_or places i 0 ∷ drop (i + 1) (take n places) =
      drop-cons (take n places) i 0 (omega arith) ∙ rw (add-one, get_or-take n places i 0 h) in
      ap (λ (ps : List ℕ). map entry_record (map (entry_at v) ps)) e

  pub records_none : (i : ℕ) → n ≤ i → records_from v n places i ≡ []
  records_none i h =
      let l = length-take-le n places long in
      let k : length (take n places) ≤ i = omega arith in
      ap (λ (ps : List ℕ). map entry_record (map (entry_at v) ps)) (drop_of_length-le (take n places) k)

-- what is so at each place is so of each that stands there
among_at : (P : ℕ → Type 0) (l : List ℕ) → ((i : ℕ) → i < length l → P (get_or l i 0)) → (p : ℕ) → Memᴰ p l → P p
among_at P [] f p m = absurd (Memᴰ.not-nil m)
among_at P (x ∷ l) f p m = ⊎_elim (λ e. subst P (sym e) (f 0 (omega arith))) (λ r. among_at P l (λ i h. f (suc i) (omega arith)) p r) (Memᴰ.cases_cons m)

pub whole_of : (v : View) (n : ℕ) (places : List ℕ) → n ≤ length places → ((i : ℕ) → i < n → length (entry_at v (get_or places i 0)).contact.enr ≡ 300)
    → Whole (map (entry_at v) (take n places))
whole_of v n places long each =
    record {
      each = λ e m.
          let b = Memᴰ.of_map (entry_at v) (take n places) m in
          let l = length-take-le n places long in
          let P : ℕ → Type 0 = λ p. length (entry_at v p).contact.enr ≡ 300 in
          ap (λ (x : Entry). length x.contact.enr) (sym b.2)
          ∙ among_at P (take n places) (λ i h. subst P (sym (get_or-take n places i 0 (omega arith))) (each i (omega arith))) b.0 b.1;
    }
