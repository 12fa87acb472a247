-- Parts as they are written one behind the other, two of them or one on each side of a list of records: their size, and what is answered.
-- Assumes nothing.
use Prim.Native.Nat.{ℕ, ◌+◌, ◌*◌}
use native.Mathlib.Omega.{arith}
use mathlib.Core.Path.{◌≡◌, ap, subst, ◌∙◌}
use mathlib.Core.List.{List, ◌++◌, append_assoc}
use lib.ListN.{length, length-append}
use Rattle.std.specs.Prelude.{Ok}
use Rattle.refusal.specs.Says.{says_of}
use Rattle.refusal.specs.Outcome.{given, refusal}
use Rattle.refusal.specs.Buffer.{Writes}
use Rattle.refusal.specs.declared.Refusal.{Refusal}
use Rattle.octets.specs.Buffer.{placed}
use Rattle.message.specs.Encode.{joined, list_bytes}
use Rattle.message.specs.Reading.{records_of_places, PlacesInside}
use Rattle.message.specs.declared.Places.{Places}
use Rattle.message_write.specs.Write.{fitting}
use Rattle.message_write.specs.Parts.{Put, sized, sum_to, offsets_to}
use Rattle.message_write.proofs.Puts.{put_placed, put_more}
use Rattle.message_write.proofs.Answers.{Accepted, size_refused, size_accepted, wrote}
use Rattle.message_write.proofs.Turns.{offsets_size, joined_size, list_same, list_size}

-- two parts
module _ (head rest d : List ℕ) where
  two_size : length (head ++ rest) ≡ length head + 0 + length rest
  two_size = omega (arith, length-append head rest)

  pub two_refused : (why : Refusal) → refusal (says_of why) ≡ sized (length head + 0 + length rest) (length d)
      → fitting (head ++ rest) (length d) ≡ refusal (says_of why)
  two_refused why e = size_refused (head ++ rest) (length head + 0 + length rest) (length d) two_size why e

  pub two_wrote : (k room : ℕ) → given k ≡ sized (length head + 0 + length rest) room → room ≡ length d → (one a : List ℕ) (front behind n : ℕ)
      → one ≡ placed d front head → a ≡ placed one behind rest → front ≡ 0 → behind ≡ length head → n ≡ k
      → Writes (fitting (head ++ rest) (length d)) (Ok n) d a
  two_wrote k room t all one a front behind n h1 h2 e1 e2 en =
      let e : given k ≡ sized (length head + 0 + length rest) (length d) = t ∙ ap (sized (length head + 0 + length rest)) all in
      let size = size_accepted k (length head + 0 + length rest) (length d) e in
      let p1 = put_placed d 0 head one (omega (arith, size.fits)) (h1 ∙ ap (λ (m : ℕ). placed d m head) e1) in
      let p2 = put_placed one behind rest a (omega (arith, p1.kept, size.fits)) h2 in
      wrote (head ++ rest) d a (length head + 0 + length rest) k two_size e
      (put_more d 0 head one p1 behind (omega arith) rest a p2) n (en ∙ size.same)

-- a part, the list of some records, and another part
module _ (head s : List ℕ) (p : Places) (rest d : List ℕ) (i : PlacesInside s p) (size : ℕ) (is : size ≡ 4 * p.count + sum_to p.lens p.count) where
  abbrev list : List ℕ
  list = list_bytes (records_of_places s p)

  whole_size : length (head ++ list ++ rest) ≡ length head + size + length rest
  whole_size = omega (arith, length-append (head ++ list) rest, length-append head list, list_size s p i)

  pub whole_refused : (why : Refusal) → refusal (says_of why) ≡ sized (length head + size + length rest) (length d)
      → fitting (head ++ list ++ rest) (length d) ≡ refusal (says_of why)
  whole_refused why e = size_refused (head ++ list ++ rest) (length head + size + length rest) (length d) whole_size why e

  module _ (k : ℕ) (e : given k ≡ sized (length head + size + length rest) (length d)) where
    pub whole_room : Accepted k (length head + size + length rest) (length d)
    whole_room = size_accepted k (length head + size + length rest) (length d) e

    pub whole_wrote : (one two three a : List ℕ) (front at-list at_records at_rest n : ℕ)
        → one ≡ placed d front head
        → Put one at-list (offsets_to (4 * p.count) p.lens p.count) two
        → Put two at_records (joined (records_of_places s p)) three
        → a ≡ placed three at_rest rest
        → front ≡ 0
        → at-list ≡ length head
        → at_records ≡ length head + 4 * p.count
        → at_rest ≡ length head + size
        → n ≡ k
        → Writes (fitting (head ++ list ++ rest) (length d)) (Ok n) d a
    whole_wrote one two three a front at-list at_records at_rest n h1 p2 p3 h4 e1 e2 e3 e4 en =
        let room = whole_room.fits in
        let p1 = put_placed d 0 head one (omega arith) (h1 ∙ ap (λ (m : ℕ). placed d m head) e1) in
        let p4 = put_placed three at_rest rest a (omega (arith, p1.kept, p2.kept, p3.kept)) h4 in
        let offsets = offsets_to (4 * p.count) p.lens p.count in
        let records = joined (records_of_places s p) in
        let l1 = offsets_size (4 * p.count) p.lens p.count in
        let l2 = joined_size s p i p.count (omega arith) in
        let l3 = length-append head offsets in
        let q2 = put_more d 0 head one p1 at-list (omega arith) offsets two p2 in
        let q3 = put_more d 0 (head ++ offsets) two q2 at_records (omega arith) records three p3 in
        let q4 = put_more d 0 (head ++ offsets ++ records) three q3 at_rest
        (omega (arith, length-append (head ++ offsets) records)) rest a p4 in
        let same : head ++ offsets ++ records ≡ head ++ list =
        append_assoc head offsets records ∙ ap (λ (l : List ℕ). head ++ l) (list_same s p i) in
        wrote (head ++ list ++ rest) d a (length head + size + length rest) k whole_size e
        (subst (λ (l : List ℕ). Put d 0 (l ++ rest) a) same q4) n (en ∙ whole_room.same)
