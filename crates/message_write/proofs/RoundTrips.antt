-- The round trips of the code: what a write call wrote is read back as the values handed in, and what reading accepts, written again, gives the
-- same bytes. A call that answers how many bytes it wrote had values that keep the rules, and wrote their bytes; `written_read` and `read_written`
-- of `message` do the rest. Assumes nothing.
use Prim.Native.Nat.{ℕ, ◌≤◌, ◌<◌}
use native.Mathlib.Omega.{arith}
use mathlib.Core.Path.{◌≡◌, refl, sym, ap, subst, ◌∙◌}
use mathlib.Core.Bool.{Bool, true, false, cond}
use mathlib.Core.List.{List, ◌++◌}
use mathlib.Core.Option.{Option, some, none}
use lib.Dec.{ltb}
use lib.ListN.{length, take, drop, length-append}
use lib.Seq.{take_at}
use borrow.Author.Tests.{le-ltb, ltb-false}
use Rattle.refusal.specs.Outcome.{Outcome, given, refusal, refused, outcome_of}
use Rattle.refusal.specs.Buffer.{counted, written, Writes}
use Rattle.refusal.specs.declared.Refusal.{Refusal}
use Rattle.refusal.proofs.Outcomes.{given_not}
use Rattle.std.specs.Prelude.{Result, Ok, Err}
use Rattle.octets.specs.Bytes.{Bytes}
use Rattle.message.specs.Values.{Message, Sized, Formed, found_nodes, found_content}
use Rattle.message.specs.Encode.{encode}
use Rattle.message.specs.Rules.{rules_of}
use Rattle.message.specs.Decode.{decode}
use Rattle.message.specs.Reading.{part_of, records_of_places, values_of, reading_of, PlacesInside, Inside, ReadTo}
use Rattle.message.specs.declared.Places.{Places}
use Rattle.message.specs.declared.Reading.{Reading}
use Rattle.message.specs.declared.Reading.TheVariants.{Ping, Pong, FindNode, FoundNodes, FindContent, FoundContent, Offer, Accept, Store}
use Rattle.message.proofs.Rules.{Judged, kept, broken, judged}
use Rattle.message.proofs.Messages.{written_read, read_written, read_formed, read_short}
use Rattle.message.proofs.Reports.{Holding, Holds, read_holds}
use Rattle.message_write.specs.Lent.{lent}
use Rattle.message_write.specs.Write.{ruled_bytes, bytes_for, bytes_for_lent}
use Rattle.message_write.specs.RoundTrips.{WrittenBack, LentBack, lent_of, rewritten_as, rewritten}
use Rattle.message_write.proofs.Loans.{lent_bytes, lent_first}

-- bytes that are given keep the rules, are not too long, and are the message's
record Given (m : Message) (bytes : List ℕ) : Type 0 where
  rules : rules_of m ≡ given m
  short : length (encode m) ≤ 1280
  same : bytes ≡ encode m

bytes_given : (m : Message) (room : ℕ) (bytes : List ℕ) → bytes_for m room ≡ given bytes → Given m bytes
bytes_given m room bytes e = go (rules_of m) (judged m) refl e
  where
    fits : rules_of m ≡ given m → (a b : Bool) → ltb 1280 (length (encode m)) ≡ a
        → cond a (refused 2) (cond b (refused 13) (given (encode m))) ≡ given bytes → Given m bytes
    fits r true b p q = given_not (sym q)
    fits r false true p q = given_not (sym q)
    fits r false false p q = record { rules = r; short = ltb-false 1280 (length (encode m)) p; same = cc }

    go : (o : Outcome Message) → Judged m o → rules_of m ≡ o → ruled_bytes o room ≡ given bytes → Given m bytes
    go _ kept r q = fits r (ltb 1280 (length (encode m))) (ltb room (length (encode m))) refl q
    go _ (broken {n} low high) r q = given_not (sym q)

-- what a write call wrote is read back as the values handed in
pub written_back : (m : Message) → Formed m → (room n : ℕ) (before after : List ℕ) → Writes (bytes_for m room) (Ok n) before after
    → WrittenBack m n after
written_back m f room n before after w = go (bytes_for m room) refl w
  where
    go : (o : Outcome (List ℕ)) → bytes_for m room ≡ o → Writes o (Ok n) before after → WrittenBack m n after
    go (refusal k) e v = given_not v.answered
    go (given bytes) e v =
        let g = bytes_given m room bytes e in
        let long : length bytes ≡ n = cc v.answered in
        let front : take n after ≡ encode m = ap (take n) v.buffer ∙ take_at bytes (drop (length bytes) before) n long ∙ g.same in
        record {
          inside = omega (arith, ap length v.buffer, length-append bytes (drop (length bytes) before));
          bytes = front;
          read = ap decode front ∙ written_read m f g.rules g.short;
        }

-- so every answer that reading gives for those bytes stands for the values
pub written_reads : (m : Message) → Formed m → (room n : ℕ) (before after : List ℕ) → Writes (bytes_for m room) (Ok n) before after
    → (a : Result Reading Refusal) → ReadTo (decode (take n after)) (take n after) a → reading_of (take n after) a ≡ given m
written_reads m f room n before after w a r = r.value ∙ (written_back m f room n before after w).read

-- the same for a message of records that are lent
lent_back : (make : List (List ℕ) → Message) (o : Option (List (List ℕ))) → ((rs : List (List ℕ)) → o ≡ some rs → Formed (make rs))
    → (room n : ℕ) (before after : List ℕ) → Writes (bytes_for_lent make o room) (Ok n) before after → LentBack make o n after
lent_back make none f room n before after w = given_not w.answered
lent_back make (some rs) f room n before after w =
    record { records = rs; lent = refl; back = written_back (make rs) (f rs refl) room n before after w }

module _ (s starts lens : List ℕ) (are : Bytes s) (room n : ℕ) (before after : List ℕ) where
  pub nodes_back : (total : ℕ) → total < 256 → Writes (bytes_for_lent (found_nodes total) (lent s starts lens) room) (Ok n) before after
      → LentBack (found_nodes total) (lent s starts lens) n after
  nodes_back total small w =
      lent_back (found_nodes total) (lent s starts lens) (λ rs e. (small, lent_bytes s starts lens are rs e)) room n before after w

  pub content_back : (connection content : List ℕ) → Sized 4 connection → Bytes content
      → Writes (bytes_for_lent (λ (rs : List (List ℕ)). found_content connection rs content) (lent s starts lens) room) (Ok n) before after
      → LentBack (λ (rs : List (List ℕ)). found_content connection rs content) (lent s starts lens) n after
  content_back connection content four b w =
      lent_back (λ (rs : List (List ℕ)). found_content connection rs content) (lent s starts lens)
      (λ rs e. (four, (lent_bytes s starts lens are rs e, b))) room n before after w

-- what reading accepts, written again, gives the same bytes
module _ (s : List ℕ) (are : Bytes s) (a : Result Reading Refusal) (r : ReadTo (decode s) s a) (m : Message) (e : reading_of s a ≡ given m) where
  pub read_again : encode m ≡ s
  read_again = read_written s m are (sym r.value ∙ e)

  -- so a write call of those values into a buffer that has room writes these bytes
  pub read_rewritten : (room : ℕ) → length s ≤ room → bytes_for m room ≡ given s
  read_rewritten room h =
      let d : decode s ≡ given m = sym r.value ∙ e in
      let short : length s ≤ 1280 = subst (λ (l : List ℕ). length l ≤ 1280) read_again (read_short s m are d) in
      ap (λ (o : Outcome Message). ruled_bytes o room) (read_formed s m are d).1
      ∙ rw (read_again, le-ltb 1280 (length s) short, le-ltb room (length s) h)

-- the call of each message is handed the values that the answer stands for
lent_again : (s : List ℕ) (p : Places) → Holding p → PlacesInside s p → lent_of s p ≡ some (records_of_places s p)
lent_again s p h i = lent_first s p.starts p.lens p.count h.starts h.lens i.inside

as_values : (s : List ℕ) (room : ℕ) (a : Reading) → Holds a → Inside s a → rewritten_as s room a ≡ bytes_for (values_of s a) room
as_values s room (Ping radius) h i = refl
as_values s room (Pong radius) h i = refl
as_values s room (FindNode distances) h i = refl
as_values s room (FoundNodes total records) h i =
    ap (λ (o : Option (List (List ℕ))). bytes_for_lent (found_nodes total) o room) (lent_again s records h i)
as_values s room (FindContent key) h i = refl
as_values s room (FoundContent connection records content) h i =
    ap (λ (o : Option (List (List ℕ))). bytes_for_lent (λ (rs : List (List ℕ)). found_content connection rs (part_of s content)) o room)
    (lent_again s records h i.0)
as_values s room (Offer key) h i = refl
as_values s room (Accept key) h i = refl
as_values s room (Store connection content) h i = refl

-- so every answer that reading gives, if it accepts, is written again by the call of its message as the bytes that were read
pub read_back : (s : List ℕ) → Bytes s → (a : Result Reading Refusal) → ReadTo (decode s) s a → (m : Message) → reading_of s a ≡ given m
    → (room : ℕ) → length s ≤ room → rewritten s a room ≡ given s
read_back s are (Ok a) r m e room fits =
    as_values s room a (read_holds r a refl) (r.inside a refl)
    ∙ ap (λ (v : Message). bytes_for v room) (cc)
    ∙ read_rewritten s are (Ok a) r m e room fits
read_back s are (Err why) r m e room fits = given_not (sym e)

-- that call answers how many they are, and leaves them at the start of the buffer
pub rewrites : (s : List ℕ) → Bytes s → (a : Result Reading Refusal) → ReadTo (decode s) s a → (m : Message) → reading_of s a ≡ given m
    → (before after : List ℕ) → length s ≤ length before → (answer : Result ℕ Refusal) → Writes (rewritten s a (length before)) answer before after
    → (outcome_of answer ≡ given (length s)) × (after ≡ s ++ drop (length s) before)
rewrites s are a r m e before after fits answer w =
    let same = read_back s are a r m e (length before) fits in
    (w.answered ∙ ap counted same, w.buffer ∙ ap (λ (o : Outcome (List ℕ)). written o before) same)
