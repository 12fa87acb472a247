-- What is printed for a line, by what its state says: the tests of `finish`, in their order.
-- Assumes nothing.
use Prim.Native.Nat.{ℕ, ◌+◌, ◌-◌, ◌/◌, ◌%◌, ◌≤◌, ◌<◌}
use mathlib.Core.Bool.{Bool, true, false, cond}
use mathlib.Core.List.{List, [], ◌∷◌, ◌++◌, append-nil}
use Rattle.std.specs.Prelude.{Option, Some, None}
use mathlib.Core.Path.{◌≡◌, refl, ap, ap₂, sym, ◌∙◌}
use native.Mathlib.Omega.{arith}
use lib.Dec.{ltb, leb, lit≤}
use lib.ListN.{length, take, drop, replicate, length-append}
use lib.Seq.{take_all, take_at}
use borrow.Author.Tests.{not-true, not-false, lt-ltb, le-ltb}
use Rattle.refusal.specs.Says.{number_in}
use Rattle.refusal.specs.Outcome.{Outcome, given, refusal, refused, map_outcome}
use Rattle.octets.proofs.Buffers.{fits}
use Rattle.hexadecimal.specs.Digits.{text_of, bytes_of, all_digits}
use Rattle.hexadecimal.specs.Buffer.{encoded_to, filled, filled_of}
use Rattle.hexadecimal.proofs.Texts.{pairs_of, bytes_of_pairs, no_bytes_odd, no_bytes_other, length_text, length_of_bytes}
use Rattle.content_key.specs.Key.{selector_of, block_of, key_of, key_id, content_id_of}
use Rattle.content_key.proofs.Keys.{key_length}
use Rattle.content_key.proofs.Ids.{id_length}
use Rattle.key_lines.specs.Lines.{printed_of, decoded_id, line_of, padded}
use Rattle.key_lines.specs.State.{capped, Begun}
use Rattle.key_lines.specs.declared.Line.{Line}
use Rattle.key_lines.specs.declared.Printed.{Printed}
use Rattle.key_lines.proofs.Lengths.{parity, short}
use Rattle.key_lines.proofs.States.{first_of}

-- nine bytes fill the nine places
filled_nine : (bytes : List ℕ) → length bytes ≡ 9 → filled (Some bytes) (replicate 9 0) ≡ bytes
filled_nine bytes h = ap (λ (k : ℕ). cond (leb k 9) (bytes ++ drop k (replicate 9 0)) (replicate 9 0)) h ∙ append-nil bytes

module _ (line : Line) (text : List ℕ) (b : Begun line text) where
  -- another character
  pub other_char : line.bad ≡ true → refused 15 ≡ decoded_id (bytes_of text)
  other_char h = sym (ap decoded_id (no_bytes_other text (not-true (all_digits text) (sym b.digits ∙ h))))

  -- an odd number of characters
  pub odd_text : line.len % 2 ≡ 1 → refused 15 ≡ decoded_id (bytes_of text)
  odd_text h = sym (ap decoded_id (no_bytes_odd text (sym (parity line.len (length text) b.count) ∙ h)))

  -- past these tests the text stands for bytes
  pairs : line.bad ≡ false → line.len % 2 ≡ 0 → bytes_of text ≡ Some (pairs_of text)
  pairs h e =
      bytes_of_pairs text (not-false (all_digits text) (sym b.digits ∙ h)) (sym (parity line.len (length text) b.count) ∙ e)

  -- which are not nine
  pub wrong_length : line.bad ≡ false → line.len % 2 ≡ 0 → (line.len ≡ 18 → ⊥) → refused 7 ≡ decoded_id (bytes_of text)
  wrong_length h e n =
      let bytes = pairs h e in
      let two = length_of_bytes text (pairs_of text) bytes in
      let not-nine : length (pairs_of text) ≡ 9 → ⊥ = λ nine.
      let all : length text ≡ 18 = omega arith in
      n (b.count ∙ ap capped all) in
      sym (ap decoded_id bytes ∙ ap (map_outcome key_id) (key_length (pairs_of text) not-nine))

  -- or are the nine that the first 18 characters stand for
  pub nine_bytes : line.bad ≡ false → line.len ≡ 18 → content_id_of (filled_of line.first (replicate 9 0)) ≡ decoded_id (bytes_of text)
  nine_bytes h e =
      let n : length text ≡ 18 = short line.len (length text) b.count (omega arith) ∙ e in
      let bytes = pairs h (ap (λ (k : ℕ). k % 2) e) in
      let two = length_of_bytes text (pairs_of text) bytes in
      let nine : length (pairs_of text) ≡ 9 = omega arith in
      let all : line.first ≡ text = sym (take_all (length text) line.first (omega (arith, b.size)))
      ∙ first_of text line.first b.kept (omega arith) in
      ap (λ (t : List ℕ). content_id_of (filled_of t (replicate 9 0))) all
      ∙ ap (λ (o : Option (List ℕ)). content_id_of (filled o (replicate 9 0))) bytes
      ∙ ap content_id_of (filled_nine (pairs_of text) nine)
      ∙ sym (ap decoded_id bytes)

-- a line in the array that line feeds fill up
pub padded_is : (line text : List ℕ) (n : ℕ) → length line ≡ n → text ≡ line ++ replicate (65 - n) 10
    → ◌≡◌ {A = Printed} (record { text = text; len = n }) (padded line)
unfolding padded
padded_is line text n e t =
    ap₂ (λ (l : List ℕ) (k : ℕ). record { text = l; len = k }) (t ∙ ap (λ (k : ℕ). line ++ replicate (65 - k) 10) (sym e)) (sym e)

-- it is the front of the array
pub padded_front : (p : Printed) (line : List ℕ) → p ≡ padded line → take p.len p.text ≡ line
unfolding padded
padded_front p line e =
    ap (λ (q : Printed). take q.len q.text) e ∙ take_at line (replicate (65 - length line) 10) (length line) refl

-- the line of an id, as `encode` leaves it
pub id_text : (id text : List ℕ) → length id ≡ 32 → text ≡ encoded_to id (replicate 65 10) 0
    → ◌≡◌ {A = Printed} (record { text = text; len = 65 }) (padded (printed_of (given id)))
id_text id text h t =
    let d : List ℕ = replicate 65 10 in
    let n : length (text_of id) ≡ 64 = omega (arith, length_text id) in
    let room = fits d 0 (text_of id) (omega (arith, length_text id)) in
    padded_is (text_of id ++ (10 ∷ [])) text 65 (omega (arith, length-append (text_of id) (10 ∷ [])))
    (t
    ∙ ap (λ (t : Bool). cond t (take 0 d ++ text_of id ++ drop (0 + length (text_of id)) d) d) room
    ∙ ap (λ (k : ℕ). text_of id ++ drop (0 + k) d) n
    ∙ sym (append-nil (text_of id ++ (10 ∷ []))))

-- the line of a refusal, of one digit and of two
pub one_digit : (n : ℕ) (text : List ℕ) → n < 10
    → text ≡ (114 ∷ 101 ∷ 102 ∷ 117 ∷ 115 ∷ 101 ∷ 100 ∷ 32 ∷ (48 + n) ∷ []) ++ replicate 56 10
    → ◌≡◌ {A = Printed} (record { text = text; len = 10 }) (padded (printed_of (refused n)))
one_digit n text h t =
    padded_is (114 ∷ 101 ∷ 102 ∷ 117 ∷ 115 ∷ 101 ∷ 100 ∷ 32 ∷ (48 + n) ∷ 10 ∷ []) text 10 refl t ∙ ap padded (simp (lt-ltb n 10 h))

pub two_digits : (n : ℕ) (text : List ℕ) → 10 ≤ n
    → text ≡ (114 ∷ 101 ∷ 102 ∷ 117 ∷ 115 ∷ 101 ∷ 100 ∷ 32 ∷ (48 + n / 10) ∷ (48 + n % 10) ∷ []) ++ replicate 55 10
    → ◌≡◌ {A = Printed} (record { text = text; len = 11 }) (padded (printed_of (refused n)))
two_digits n text h t =
    padded_is (114 ∷ 101 ∷ 102 ∷ 117 ∷ 115 ∷ 101 ∷ 100 ∷ 32 ∷ (48 + n / 10) ∷ (48 + n % 10) ∷ 10 ∷ []) text 11 refl t
    ∙ ap padded (simp (le-ltb n 10 h))

-- no line is longer than an id's, 65 bytes
outcome_length : (o : Outcome (List ℕ)) → length (printed_of (map_outcome key_id o)) ≤ 65
outcome_length (given key) =
    let id : List ℕ = key_id key in
    omega (arith, length-append (text_of id) (10 ∷ []), length_text id, id_length (selector_of key) (block_of key))
outcome_length (refusal says) = let few = go (ltb (number_in says) 10) in omega arith
  where
    go : (t : Bool)
        → length (cond t ((48 + number_in says) ∷ []) ((48 + number_in says / 10) ∷ (48 + number_in says % 10) ∷ []) ++ (10 ∷ [])) ≤ 3
    go true = lit≤ tt
    go false = lit≤ tt

decoded_length : (o : Option (List ℕ)) → length (printed_of (decoded_id o)) ≤ 65
decoded_length None = lit≤ tt
decoded_length (Some bytes) = outcome_length (key_of bytes)

pub line_length_lem : (text : List ℕ) → length (line_of text) ≤ 65
unfolding line_of
line_length_lem text = decoded_length (bytes_of text)
