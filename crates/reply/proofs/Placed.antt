-- Records in slots are lent by the slots' places; how many messages they fill, and with how many bytes. Assumes nothing.
use Prim.Native.Nat.{ℕ, ◌+◌, ◌*◌, ◌≤◌}
use native.Mathlib.Omega.{arith}
use mathlib.Core.Path.{◌≡◌, refl, sym, ap, ap₂, subst, ◌∙◌}
use mathlib.Core.Bool.{Bool, true}
use mathlib.Core.List.Memᴰ.{head as here}
use mathlib.Core.List.Memᴰ.{tail as there}
use mathlib.Core.List.{List, [], ◌∷◌}
use mathlib.Core.Option.{some}
use lib.ListN.{length, take, length-map}
use lib.Seq.{length-take-le, take-take}
use borrow.Author.Tests.{le-leb}
use Rattle.octets.specs.Equal.{same_bytes, all_different}
use Rattle.message.specs.Values.{found_nodes}
use Rattle.message.specs.Encode.{joined}
use Rattle.message.specs.Rules.{record_sizes}
use Rattle.message_rules.proofs.Places.{records_length}
use Rattle.message_write.specs.Lent.{lent}
use Rattle.message_write.proofs.Loans.{lent_first}
use Rattle.routing_table.specs.Rules.{◌among◌}
use Rattle.replies.specs.Groups.{groups}
use Rattle.replies.specs.Chosen.{chosen, once}
use Rattle.replies.specs.Nodes.{nodes_fit, sendable}
use Rattle.replies.specs.Reply.{bytes_of}
use Rattle.replies.proofs.Groups.{groups_together}
use Rattle.replies.proofs.Once.{Sendable, once_sizes, once_different}
use Rattle.replies.proofs.Sizes.{nodes_room, nodes_total}
use Rattle.reply_records.specs.Records.{slots, Holds, sent}
use Rattle.reply_records.specs.declared.Records.{Records}
use Rattle.reply_records.proofs.Slotted.{slot_at, slots_length}
use Rattle.reply.specs.Ready.{Small, Planned, some_or, lent_in, Fair, messages_of, Ready, Sent, records_in, Found}
use Rattle.reply.specs.declared.groups.Spread.{Spread}
use Rattle.reply.proofs.Taking.{Of}
use Rattle.reply.proofs.Lends.{lends_lent, lent_lends, lends_take, lends_lengths}
use Rattle.reply.proofs.Spreading.{small_of}

-- all records that were found
module _ (f : Records) (p : Found f) where
  pub found_starts : f.count ≤ length f.starts
  found_starts = let few = p.slots.few in omega (arith, ap length p.starts, slots_length)

  pub found_lens : f.count ≤ length f.lens
  found_lens = let few = p.slots.few in let places = p.slots.places in omega arith

  pub found_lend : lent f.bytes (take f.count f.starts) (take f.count f.lens) ≡ some (records_in f)
  found_lend =
      let few = p.slots.few in
      let room = p.slots.room in
      ap (λ (l : List ℕ). lent f.bytes (take f.count l) (take f.count f.lens)) p.starts
      ∙ lent_first f.bytes slots f.lens f.count (omega (arith, slots_length)) found_lens (λ i less.
      omega (arith, slot_at i (omega arith), p.slots.small i less))

  pub found_of_lem : Of (take f.count f.lens) (records_in f)
  found_of_lem = lends_lengths (lent_lends f.bytes (take f.count f.starts) (take f.count f.lens) (records_in f) found_lend)

  pub found_small : Small (take f.count f.lens)
  found_small = small_of (take f.count f.lens) (records_in f) found_of_lem p.fair.sizes

  -- the first n of them
  pub found_part : (n : ℕ) → n ≤ f.count → lent f.bytes (take n f.starts) (take n f.lens) ≡ some (take n (records_in f))
  found_part n h =
      ap₂ (λ (a l : List ℕ). lent f.bytes a l) (sym (take-take n f.count f.starts h)) (sym (take-take n f.count f.lens h))
      ∙ lends_lent (lends_take n (lent_lends f.bytes (take f.count f.starts) (take f.count f.lens) (records_in f) found_lend))

  pub found_few : length (take f.count f.lens) ≤ 129
  found_few = let few = p.slots.few in omega (arith, length-take-le f.count f.lens found_lens)

  pub found_sent : {sizes before after : List ℕ} → Sent (messages_of (lent_in f.bytes (take f.count f.starts) (take f.count f.lens))) sizes before after
      → Sent (messages_of (records_in f)) sizes before after
  found_sent {sizes} {before} {after} s = subst (λ (rs : List (List ℕ)). Sent (messages_of rs) sizes before after) (ap some_or found_lend) s

-- records that were copied, where those to be copied can be sent
pub holds_found : (rs : List (List ℕ)) (f : Records) → Holds (once rs) f → ((r : List ℕ) → r among rs → Sendable r) → Found f
holds_found rs f h s =
    let few = h.slots.few in
    record {
      starts = h.starts;
      slots = h.slots;
      fair = record {
        few = omega (arith, records_length f.bytes slots f.lens f.count);
        sizes = ap record_sizes h.are ∙ once_sizes rs s;
        different = ap (all_different same_bytes) h.are ∙ once_different rs;
      };
    }

-- all records of entries can be sent, and no bytes are no record
chosen_each : {A : Type 0} (test : A → Bool) (l : List A) → ((a : A) → a among l → test a ≡ true) → chosen test l ≡ l
unfolding chosen
chosen_each test [] f = refl
chosen_each {A} test (a ∷ l) f = rw (f a (here refl)) (ap (λ (r : List A). a ∷ r) (chosen_each test l (λ b m. f b (there m))))

is_sendable : (r : List ℕ) → Sendable r → sendable r ≡ true
is_sendable r s = rw (le-leb 1 (length r) s.0, le-leb (length r) 300 s.1)

module _ (rs : List (List ℕ)) (s : (r : List ℕ) → r among rs → Sendable r) where
  all_sent : chosen sendable rs ≡ rs
  all_sent = chosen_each sendable rs (λ r m. is_sendable r (s r m))

  pub sent_none : sent ([] ∷ rs) ≡ once rs
  unfolding chosen
  sent_none = ap once all_sent

  pub sent_own : (own : List ℕ) → Sendable own → sent (own ∷ rs) ≡ once (own ∷ rs)
  unfolding chosen
  sent_own own o = rw (is_sendable own o) (ap (λ (l : List (List ℕ)). once (own ∷ l)) all_sent)

-- what a plan says of some records
module _ (lens : List ℕ) (r : Spread) (p : Planned lens r) (rs : List (List ℕ)) (e : Of lens rs) where
  pub plan_count : r.count ≡ length (groups nodes_fit rs)
  plan_count = p.count rs e ∙ ap (λ (fits : List (List ℕ) → Bool). length (groups fits rs)) (sym nodes_room)

  pub plan_bytes : r.size ≡ length (bytes_of (messages_of rs))
  plan_bytes =
      let gs = groups nodes_fit rs in
      p.size rs e
      ∙ ap₂ (λ (n : ℕ) (l : List (List ℕ)). 6 * n + (4 * length l + length (joined l))) plan_count (sym (groups_together nodes_fit rs))
      ∙ sym (nodes_total (length gs) gs)

pub numbered_length : (rs : List (List ℕ)) (n : ℕ) → n ≡ length (groups nodes_fit rs) → n ≡ length (messages_of rs)
numbered_length rs n e = let gs = groups nodes_fit rs in e ∙ sym (length-map gs (found_nodes (length gs)))

-- places that lend these records are ready
pub lends_ready : (bytes starts lens : List ℕ) (rs : List (List ℕ)) (count room : ℕ) → lent bytes starts lens ≡ some rs → Fair rs
    → count ≡ length (groups nodes_fit rs) → length (bytes_of (messages_of rs)) ≤ room → Ready bytes starts lens count room
lends_ready bytes starts lens rs count room e f n h =
    let same : rs ≡ lent_in bytes starts lens = sym (ap some_or e) in
    record {
      lends = e ∙ ap some same;
      fair = subst Fair same f;
      number = n ∙ ap (λ (l : List (List ℕ)). length (groups nodes_fit l)) same;
      room = omega (arith, ap (λ (l : List (List ℕ)). length (bytes_of (messages_of l))) same);
    }
