-- Slots of 300 bytes: where each starts, what stands in it, and what one more record does. Assumes nothing.
use Prim.Native.Nat.{ℕ, zero, suc, ◌+◌, ◌-◌, ◌*◌, ◌<◌, ◌≤◌, min}
use native.Mathlib.Decide.{ℕ_discrete, dec_lt}
use native.Mathlib.Nat.{zero-add}
use native.Mathlib.Omega.{arith}
use mathlib.Core.Path.{◌≡◌, refl, sym, ap, ap₂, subst, ◌∙◌}
use mathlib.Core.Bool.{Bool, true, false, ◌||◌, true≢false}
use mathlib.Core.List.{List, [], ◌∷◌, ◌++◌, append_assoc}
use lib.Dec.{leb}
use lib.ListN.{length, get_or, take, drop, set, take-append-drop, length-append, length-drop, length-set}
use lib.Seq.{take_all, length-take-le, take_at, drop_at, get_or-set_same, get_or-set_other, take-append-le, drop-append-le}
use borrow.Author.Tests.{leb-true}
use Rattle.std.proofs.Common.{Option, Some, None, Bor, nat_eq, eq-eqb}
use Rattle.std.specs.List.{slice_get, list_any, range_with_len}
use Rattle.std.specs.Option.{option_copied, option_eq}
use Rattle.std.proofs.lemmas.Option.{none-some}
use Rattle.octets.specs.Equal.{same_bytes, holds}
use Rattle.octets.specs.Buffer.{placed}
use Rattle.octets.proofs.Buffers.{placed_room}
use Rattle.octets.proofs.Equal.{differ_same}
use Rattle.octets.proofs.Tables.{table_length, entry_at}
use Rattle.octets.proofs.Tests.{both}
use Rattle.message.specs.Reading.{part_at, records_at}
use Rattle.message_rules.proofs.Places.{records_length, record_at_lem}
use Rattle.replies.specs.Nodes.{sendable}
use Rattle.reply_records.specs.Records.{slots, slotted, Slots, Keeps}

pub slot_at : (i : ℕ) → i < 129 → get_or slots i 0 ≡ 300 * i
unfolding slots
slot_at i h = entry_at (λ (k : ℕ). 300 * k) 129 i h

pub slots_length : length slots ≡ 129
unfolding slots
slots_length = table_length (λ (k : ℕ). 300 * k) 129

-- a part that ends before a place does not change with what stands from there on
part_front : (b q : List ℕ) (m a n : ℕ) → m ≤ length b → a + n ≤ m → part_at (take m b ++ q) a n ≡ part_at b a n
part_front b q m a n h e =
    let l = length-take-le m b h in
    ap (take n) (drop-append-le a (take m b) q (omega arith))
    ∙ take-append-le n (drop a (take m b)) q (omega (arith, length-drop a (take m b)))
    ∙ sym (ap (take n) (drop-append-le a (take m b) (drop m b) (omega arith))
    ∙ take-append-le n (drop a (take m b)) (drop m b) (omega (arith, length-drop a (take m b))))
    ∙ ap (λ (s : List ℕ). part_at s a n) (take-append-drop m b)

-- records that do not change
records_same : (s t starts ns ms : List ℕ) (k : ℕ)
    → ((i : ℕ) → i < k → part_at s (get_or starts i 0) (get_or ns i 0) ≡ part_at t (get_or starts i 0) (get_or ms i 0))
    → records_at s starts ns k ≡ records_at t starts ms k
unfolding records_at
records_same s t starts ns ms zero e = refl
records_same s t starts ns ms (suc k) e =
    ap₂ (λ (rs : List (List ℕ)) (r : List ℕ). rs ++ (r ∷ [])) (records_same s t starts ns ms k (λ i h. e i (omega arith))) (e k (omega arith))

-- what can be sent
pub sendable_is : (r : List ℕ) → sendable r ≡ true → (1 ≤ length r) × (length r ≤ 300)
sendable_is r e =
    let t = both (leb 1 (length r)) (leb (length r) 300) e in
    (leb-true 1 (length r) t.0, leb-true (length r) 300 t.1)

module _ (r : List ℕ) (count : ℕ) (lens bytes : List ℕ) (s : Slots count lens bytes) where
  -- it is left out
  pub keeps_not : sendable r ≡ false → Keeps r count lens bytes count lens bytes
  keeps_not e = record { most = omega arith; slots = s; are = rw e }

  module _ (e : sendable r ≡ true) where
    -- it is there already
    pub keeps_held : holds same_bytes r (slotted bytes lens count) ≡ true → Keeps r count lens bytes count lens bytes
    keeps_held q = record { most = omega arith; slots = s; are = rw (e, q) }

    -- it comes into the next slot
    module _ (q : holds same_bytes r (slotted bytes lens count) ≡ false) (h : count < 129) (small : length r ≤ 300) (len : ℕ) (is : len ≡ length r)
        (at : ℕ) (place : at ≡ 300 * count) (lens' bytes' : List ℕ) (ls : lens' ≡ set lens count len) (bs : bytes' ≡ placed bytes at r) where
      rest : List ℕ
      rest = drop (at + length r) bytes

      laid : bytes' ≡ take at bytes ++ (r ++ rest)
      unfolding rest
      laid = bs ∙ placed_room bytes at r (omega (arith, s.room)) ∙ append_assoc (take at bytes) r (drop (at + length r) bytes)

      front : length (take at bytes) ≡ at
      front = length-take-le at bytes (omega (arith, s.room))

      before : records_at bytes' slots lens' count ≡ records_at bytes slots lens count
      before =
          records_same bytes' bytes slots lens' lens count (λ i less.
          let a = slot_at i (omega arith) in
          let n = s.small i less in
          ap₂ (λ (b : List ℕ) (k : ℕ). part_at b (get_or slots i 0) k) laid
          (ap (λ (l : List ℕ). get_or l i 0) ls ∙ get_or-set_other lens count i len 0 (λ z. omega arith))
          ∙ part_front bytes (r ++ rest) at (get_or slots i 0) (get_or lens i 0) (omega (arith, s.room)) (omega arith))

      last : part_at bytes' (get_or slots count 0) (get_or lens' count 0) ≡ r
      unfolding rest
      last =
          let a : get_or slots count 0 ≡ at = slot_at count h ∙ sym place in
          let n : get_or lens' count 0 ≡ length r = ap (λ (l : List ℕ). get_or l count 0) ls ∙ get_or-set_same lens count len 0 (omega (arith, s.places)) ∙ is in
          ap (λ (b : List ℕ). part_at b (get_or slots count 0) (get_or lens' count 0)) laid
          ∙ ap₂ (λ (x y : ℕ). part_at (take at bytes ++ (r ++ rest)) x y) a n
          ∙ ap (take (length r)) (drop_at (take at bytes) (r ++ rest) at front)
          ∙ take_at r rest (length r) refl

      pub keeps_new : Keeps r count lens bytes (count + 1) lens' bytes'
      unfolding records_at rest
      keeps_new =
          let one : count + 1 ≡ suc count = omega arith in
          let l : length lens' ≡ length lens = ap length ls ∙ length-set lens count len in
          let b : length bytes' ≡ length bytes =
          ap length laid ∙ omega (arith, s.room, front, length-append (take at bytes) (r ++ rest), length-append r rest, length-drop (at + length r) bytes) in
          record {
            most = omega arith;
            slots = record {
              few = omega arith;
              places = l ∙ s.places;
              room = b ∙ s.room;
              small = λ i less. small_at i less (ℕ_discrete i count);
            };
            are = ap (slotted bytes' lens') one ∙ ap₂ (λ (rs : List (List ℕ)) (x : List ℕ). rs ++ (x ∷ [])) before last ∙ sym (rw (e, q));
          }
        where
          small_at : (i : ℕ) → i < count + 1 → Dec (i ≡ count) → get_or lens' i 0 ≤ 300
          small_at i less (yes z) =
              let n = ap (λ (l : List ℕ). get_or l i 0) ls ∙ ap (λ (k : ℕ). get_or (set lens count len) k 0) z ∙ get_or-set_same lens count len 0 (omega (arith, s.places)) in
              omega arith
          small_at i less (no z) =
              let n = ap (λ (l : List ℕ). get_or l i 0) ls ∙ get_or-set_other lens count i len 0 z in
              let k = s.small i (omega arith) in
              omega arith

-- records whose last bytes differ are two
pub last_differs : (x y : Option (Bor ℕ)) (a b : List ℕ) → option_copied x ≡ slice_get a (length a - 1) → option_copied y ≡ slice_get b (length b - 1)
    → option_eq (λ (p q : Bor ℕ). nat_eq p.now q.now) x y ≡ false → same_bytes a b ≡ false
last_differs x y a b p q e = differ_same a b (λ same. different x y (p ∙ ap (λ (l : List ℕ). slice_get l (length l - 1)) same ∙ sym q) e)
  where
    inner : {m n : ℕ} → ◌≡◌ {A = Option ℕ} (Some m) (Some n) → m ≡ n
    inner s = cc

    different : (x y : Option (Bor ℕ)) → option_copied x ≡ option_copied y → option_eq (λ (p q : Bor ℕ). nat_eq p.now q.now) x y ≡ false → ⊥
    different None None s d = true≢false d
    different None (Some y) s d = none-some _ s
    different (Some x) None s d = none-some _ (sym s)
    different (Some x) (Some y) s d = true≢false (sym (eq-eqb x.now y.now (inner s)) ∙ d)

-- a search by places finds what is in the list
any_holds : {A : Type 0} (same : A → A → Bool) (a none : A) (test : ℕ → Bool) (l : List A) (from n : ℕ) → length l ≡ n
    → ((i : ℕ) → i < n → test (from + i) ≡ same a (get_or l i none)) → list_any test (range_with_len from n) ≡ holds same a l
unfolding holds
any_holds same a none test [] from zero long is = refl
any_holds same a none test [] from (suc n) long is = absurd (omega arith)
any_holds same a none test (b ∷ l) from zero long is = absurd (omega arith)
any_holds same a none test (b ∷ l) from (suc n) long is =
    ap₂ (λ (s t : Bool). s || t)
    (ap test (omega arith) ∙ is 0 (omega arith))
    (any_holds same a none test l (from + 1) n (omega arith) (λ i h. ap test (omega arith) ∙ is (suc i) (omega arith)))

-- the search for a record in the slots
pub slots_hold : (offered : List ℕ) (count : ℕ) (lens bytes : List ℕ) → Slots count lens bytes
    → list_any (λ (i : ℕ). same_bytes offered (part_at bytes (300 * i) (get_or lens i 0))) (range_with_len 0 count) ≡ holds same_bytes offered (slotted bytes lens count)
slots_hold offered count lens bytes s =
    any_holds same_bytes offered [] _ (slotted bytes lens count) 0 count (records_length bytes slots lens count)
    (λ i h.
    ap (λ (k : ℕ). same_bytes offered (part_at bytes (300 * k) (get_or lens k 0))) (zero-add i)
    ∙ ap (λ (a : ℕ). same_bytes offered (part_at bytes a (get_or lens i 0))) (sym (slot_at i (omega (arith, s.few))))
    ∙ ap (same_bytes offered) (sym (record_at_lem bytes slots lens count i h)))

-- a length that is no more than the array has takes the same
pub take_capped : (l : List ℕ) (n len : ℕ) → n ≡ min len 300 → length l ≡ 300 → take n l ≡ take len l
take_capped l n len e long = go (dec_lt 300 len)
  where
    go : Dec (300 < len) → take n l ≡ take len l
    go (yes h) = take_all n l (omega arith) ∙ sym (take_all len l (omega arith))
    go (no h) =
        let q : n ≡ len = omega arith in
        ap (λ (k : ℕ). take k l) q

-- the same record offered
pub keeps_as : {r s : List ℕ} {count : ℕ} {lens bytes : List ℕ} {now : ℕ} {lens' bytes' : List ℕ} → r ≡ s → Keeps r count lens bytes now lens' bytes'
    → Keeps s count lens bytes now lens' bytes'
keeps_as {r} {s} {count} {lens} {bytes} {now} {lens'} {bytes'} e k = subst (λ (x : List ℕ). Keeps x count lens bytes now lens' bytes') e k
