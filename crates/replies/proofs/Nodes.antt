-- The reply to a FindNode: the records due, in order, over messages that are as full as can be, 33 of them at most. Assumes nothing.
use Prim.Native.Nat.{ℕ, ◌≤◌}
use native.Mathlib.Omega.{arith}
use mathlib.Core.Path.{◌≡◌, refl, sym, ap, subst, ◌∙◌}
use mathlib.Core.Bool.{Bool, true, false, not, cond, ◌&&◌, true≢false}
use mathlib.Core.Logic.{◌⊎◌, inl, inr, ⊎_elim}
use mathlib.Core.List.Memᴰ
use mathlib.Core.List.{List, [], ◌∷◌, ◌++◌, map}
use lib.Dec.{leb, lit≤}
use lib.ListN.{length, length-append, length-map}
use lib.Seq.{length-take-le}
use borrow.Author.Tests.{leb-true}
use Rattle.refusal.specs.Outcome.{given, refused}
use Rattle.refusal.proofs.Outcomes.{given_not}
use Rattle.octets.specs.Bytes.{Bytes}
use Rattle.octets.proofs.Numbers.{bytes_take}
use Rattle.octets.proofs.Tests.{both}
use Rattle.distance.specs.Distance.{asked_of}
use Rattle.message.specs.Values.{Message, Sized, found_nodes}
use Rattle.routing_table.specs.View.{View}
use Rattle.routing_table.specs.Rules.{◌among◌, Rules}
use Rattle.routing_table.specs.declared.Entry.{Entry}
use Rattle.replies.specs.Groups.{groups}
use Rattle.replies.specs.Chosen.{nearest_by, entry_record}
use Rattle.replies.specs.Nodes.{is_asked, own_first, nodes_records, nodes_fit, numbered, sendable, nodes_reply}
use Rattle.replies.specs.Laws.{Typed, NodesSent}
use Rattle.replies.proofs.Groups.{groups_together, groups_fit, groups_full, groups_least, groups_most}
use Rattle.replies.proofs.Once.{Sendable, once_only, once_most}
use Rattle.replies.proofs.Sizes.{Short, nodes_is, none_fits, one_fits, four_fit}
use Rattle.replies.proofs.Chosen.{nearest_most, record_of_lem, nearest_first}

-- the record of an entry has 1 to 300 bytes
module _ (v : View) (rules : Rules v) (typed : (e : Entry) → e among v.entries → Typed e.contact) (e : Entry) (m : e among v.entries) where
  pub entry_sends : Sendable (entry_record e)
  entry_sends =
      let h = rules.entry_records e m in
      let t = (typed e m).enr in
      let l = length-take-le e.contact.len e.contact.enr (omega arith) in
      (omega arith, omega arith)

  pub entry_bytes : Bytes (entry_record e)
  entry_bytes = bytes_take e.contact.len e.contact.enr (typed e m).enr.0

-- what a reply that is given says
pub sent_so : {A : Type 0} {a b : A} (t : Bool) (n : ℕ) → cond t (refused n) (given a) ≡ given b → (t ≡ false) × (a ≡ b)
sent_so true n e = given_not (sym e)
sent_so false n e = (refl, (cc))

asked_sends : (asked sends : Bool) → (asked && not sends) ≡ false → asked ≡ true → sends ≡ true
asked_sends true true e q = refl
asked_sends true false e q = absurd (true≢false e)
asked_sends false sends e q = absurd (true≢false (sym q))

-- our own record is sent only where it is asked for
own_first_lem : {r : List ℕ} (own distances : List ℕ) → r among own_first own distances → (asked_of distances 0 ≡ true) × (r ≡ own)
own_first_lem {r} own distances m = go (asked_of distances 0) refl m
  where
    go : (t : Bool) → asked_of distances 0 ≡ t → r among cond t (own ∷ []) [] → (asked_of distances 0 ≡ true) × (r ≡ own)
    go true e i = (e, Memᴰ.eq_of_singleton i)
    go false e i = absurd (Memᴰ.not-nil i)

own_most : (own distances : List ℕ) → length (own_first own distances) ≤ 1
own_most own distances = go (asked_of distances 0)
  where
    go : (t : Bool) → length (cond t (own ∷ []) []) ≤ 1
    go true = omega arith
    go false = omega arith

-- the records of a reply
module _ (v : View) (own distances : List ℕ) where
  abbrev entries : List (List ℕ)
  entries = map entry_record (nearest_by v.own (is_asked v distances) v)

  -- each is our own, asked for, or that of an entry whose log distance is asked for
  pub nodes_of : {r : List ℕ} → r among nodes_records v own distances
      → ((asked_of distances 0 ≡ true) × (r ≡ own))
      ⊎ ((e : Entry) × (e among v.entries) × (is_asked v distances e ≡ true) × (entry_record e ≡ r))
  nodes_of m =
      ⊎_elim (λ i. inl (own_first_lem own distances i)) (λ i. inr (record_of_lem v v.own (is_asked v distances) i))
      (Memᴰ.append_cases (own_first own distances) (once_only (own_first own distances ++ entries) m))

  pub nodes_each : (Q : List ℕ → Type 0) → (asked_of distances 0 ≡ true → Q own) → ((e : Entry) → e among v.entries → Q (entry_record e))
      → (r : List ℕ) → r among nodes_records v own distances → Q r
  nodes_each Q f g r m = ⊎_elim (λ o. subst Q (sym o.1) (f o.0)) (λ e. subst Q e.3 (g e.0 e.1)) (nodes_of m)

  -- 129 at most
  pub nodes_most : Rules v → length (nodes_records v own distances) ≤ 129
  nodes_most rules =
      omega (
        arith,
        once_most (own_first own distances ++ entries),
        length-append (own_first own distances) entries,
        own_most own distances,
        length-map (nearest_by v.own (is_asked v distances) v) entry_record,
        nearest_most v v.own (is_asked v distances),
        rules.entries_most,
      )

  module _ (rules : Rules v) (typed : (e : Entry) → e among v.entries → Typed e.contact) (ms : List Message)
      (answer : nodes_reply v own distances ≡ given ms) where
    parts : ((asked_of distances 0 && not (sendable own)) ≡ false) × (numbered (groups nodes_fit (nodes_records v own distances)) ≡ ms)
    unfolding nodes_reply
    parts = sent_so (asked_of distances 0 && not (sendable own)) 23 answer

    own_sends : asked_of distances 0 ≡ true → Sendable own
    own_sends a =
        let p = both (leb 1 (length own)) (leb (length own) 300) (asked_sends (asked_of distances 0) (sendable own) parts.0 a) in
        (leb-true 1 (length own) p.0, leb-true (length own) 300 p.1)

    -- each has 1 to 300 bytes
    pub nodes_sends : (r : List ℕ) → r among nodes_records v own distances → Sendable r
    nodes_sends = nodes_each Sendable own_sends (entry_sends v rules typed)

    short : (r : List ℕ) → r among nodes_records v own distances → Short r
    short r m = (nodes_sends r m).1

    pub nodes_sent : Sized 32 v.own → NodesSent v own distances ms
    nodes_sent whole =
        let records = nodes_records v own distances in
        let sent = groups nodes_fit records in
        let count : length ms ≡ length sent = ap length (sym parts.1) ∙ length-map sent (found_nodes (length sent)) in
        record {
          groups = sent;
          numbered = sym parts.1 ∙ ap (λ (n : ℕ). map (found_nodes n) sent) (sym count);
          nearest = nearest_first v rules (λ e m. (typed e m).id) v.own whole (is_asked v distances);
          records = groups_together nodes_fit records;
          fit = groups_fit nodes_fit [] records (nodes_is [] ∙ none_fits 6 (lit≤ tt)) (λ r m. nodes_is (r ∷ []) ∙ one_fits 6 (lit≤ tt) r (short r m));
          full = groups_full nodes_fit [] records;
          least = omega (arith, groups_least nodes_fit records);
          most = omega (
            arith,
            groups_most nodes_fit Short 4 (lit≤ tt) (λ m l f. nodes_is m ∙ four_fit 6 (lit≤ tt) m l f) records short,
            nodes_most rules,
          );
        }
