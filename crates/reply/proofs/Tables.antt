-- What the types of a table's fields say: an entry of a table of the code has an id of 32 bytes and a record in 300. And the records copied
-- out of a table: where it keeps its rules, the record of each entry can be sent. Assumes nothing.
use Prim.Native.Nat.{ℕ, zero, suc, ◌≤◌}
use native.Mathlib.Omega.{arith}
use mathlib.Core.Path.{◌≡◌, sym, subst}
use mathlib.Core.Bool.{Bool, true}
use mathlib.Core.Logic.{⊎_elim}
use mathlib.Core.List.Memᴰ
use mathlib.Core.List.Memᴰ.{head as here}
use mathlib.Core.List.Memᴰ.{tail as there}
use mathlib.Core.List.{List, [], ◌∷◌, map}
use lib.ListN.{length, get_or, take}
use lib.Seq.{length-take-le}
use base.Fml.{Fml}
use mir.Val.{Val, Fits}
use mir.Syntax.{w8}
use denote.Array.{each}
use denote.Shadow.{shadow}
use denote.Laws.{Is}
use borrow.Author.Rules.{rules}
use Rattle.octets.proofs.Numbers.{bytes_all}
use Rattle.routing_table.specs.View.{view, no_entry}
use Rattle.routing_table.specs.Good.{good}
use Rattle.routing_table.specs.Rules.{◌among◌}
use Rattle.routing_table.specs.declared.Entry.{Entry}
use Rattle.routing_table.specs.declared.RoutingTable.{RoutingTable}
use Rattle.routing_table.specs.contracts.Entry as entry
use Rattle.routing_table.specs.contracts.RoutingTable as table
use Rattle.routing_table.proofs.Firsts.{length_firsts, firsts_take}
use Rattle.routing_table.proofs.Keeps.{good_keeps}
use Rattle.routing_table.proofs.Mapped.{length_mapped}
use Rattle.replies.specs.Chosen.{nearest_by, entry_record, once}
use Rattle.replies.specs.Laws.{Typed}
use Rattle.replies.proofs.Once.{Sendable}
use Rattle.replies.proofs.Chosen.{nearest_only}
use Rattle.reply_records.specs.Records.{Holds, Whole, sent}
use Rattle.reply_records.specs.declared.Records.{Records}
use Rattle.reply.proofs.Placed.{sent_none, sent_own}

-- what is shown of each element of an array is shown of one
each_one : {X : Type 0} (own : X → List Val → Fml) (xs : List X) (us : List Val) → shadow (each X own xs us)
    → {x : X} → x among xs → (u : Val) × shadow (own x (u ∷ []))
each_one own [] us s m = absurd (Memᴰ.not-nil m)
each_one own (y ∷ xs) [] s m = absurd s
each_one {X} own (y ∷ xs) (u ∷ us) s m =
    ⊎_elim (λ e. (u, subst (λ (z : X). shadow (own z (u ∷ []))) (sym e) s.0)) (λ r. each_one own xs us s.1 r) (Memᴰ.cases_cons m)

entry_typed : (e : Entry) (vs : List Val) → Is entry.the_row e vs → Typed e.contact
entry_typed e vs s =
    let n : length e.contact.id ≡ 32 = search rules in
    let l : length e.contact.enr ≡ 300 = search rules in
    let f : (i : ℕ) → Fits w8 (get_or e.contact.id i 0) = λ i. search rules in
    let g : (i : ℕ) → Fits w8 (get_or e.contact.enr i 0) = λ i. search rules in
    record { id = (bytes_all e.contact.id (λ i. (f i).fits), n); enr = (bytes_all e.contact.enr (λ i. (g i).fits), l) }

among_take : {A : Type 0} {a : A} (n : ℕ) (l : List A) → a among take n l → a among l
among_take zero l m = absurd (Memᴰ.not-nil m)
among_take (suc n) [] m = m
among_take (suc n) (b ∷ l) m = ⊎_elim here (λ r. there (among_take n l r)) (Memᴰ.cases_cons m)

module _ (t : RoutingTable) (vs : List Val) (s : Is table.the_row t vs) where
  -- an entry of the table
  pub table_typed : t.count ≤ 128 → (e : Entry) → e among (view t).entries → Typed e.contact
  table_typed h e m =
      let long : length t.entries ≡ 128 = search (rules, length_mapped) in
      let i : e among t.entries = among_take t.count t.entries (subst (λ (l : List Entry). e among l) (firsts_take no_entry t.count t.entries (omega arith)) m) in
      let one = each_one (entry.the_row).own_val t.entries _ s.1.1.1.1.0.1.1 i in
      entry_typed e (one.0 ∷ []) one.1

module _ (t : RoutingTable) (g : good (view t) ≡ true) where
  pub table_few : t.count ≤ 128
  table_few = omega (arith, (good_keeps (view t) g).entries_most, length_firsts no_entry t.count t.entries)

  -- the records of the entries that pass a test, copied: alone, or with our own
  module _ (id : List ℕ) (test : Entry → Bool) (f : Records) (whole : t.count ≤ 128 → Whole (nearest_by id test (view t))) where
    abbrev pub records : List (List ℕ)
    records = map entry_record (nearest_by id test (view t))

    pub records_send : (r : List ℕ) → r among records → Sendable r
    records_send r m =
        let e = Memᴰ.of_map entry_record (nearest_by id test (view t)) m in
        let size = (whole table_few).each e.0 e.1 in
        let fits = (good_keeps (view t) g).entry_records e.0 (nearest_only (view t) id test e.1).0 in
        let l = length-take-le e.0.contact.len e.0.contact.enr (omega arith) in
        let s : Sendable (entry_record e.0) = (omega arith, omega arith) in
        subst Sendable e.2 s

    pub copied : (t.count ≤ 128 → Holds (sent ([] ∷ records)) f) → Holds (once records) f
    copied h = subst (λ (rs : List (List ℕ)). Holds rs f) (sent_none records records_send) (h table_few)

    pub copied_own : (own : List ℕ) → Sendable own → (t.count ≤ 128 → Holds (sent (own ∷ records)) f) → Holds (once (own ∷ records)) f
    copied_own own o h = subst (λ (rs : List (List ℕ)). Holds rs f) (sent_own records records_send own o) (h table_few)
