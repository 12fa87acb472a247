-- A line that has begun and one character more, by whether there is still room for the character among the first 18.
-- Assumes nothing.
use Prim.Native.Nat.{ℕ, suc, ◌+◌, ◌≤◌, ◌<◌}
use mathlib.Core.Bool.{Bool, true, false, ◌&&◌, ◌||◌, not, and-true}
use mathlib.Core.List.{List, [], ◌∷◌, ◌++◌, append_assoc}
use mathlib.Core.Path.{◌≡◌, refl, ap, ap₂, sym, ◌∙◌}
use native.Mathlib.Numerals.{add-one}
use native.Mathlib.Omega.{arith}
use lib.ListN.{length, get_or, take, set, length-append, length-set}
use lib.Seq.{take_all, take-suc, take-append-le, take-suc-set}
use Rattle.hexadecimal.specs.Digits.{value_of, is_digit, all_digits}
use Rattle.hexadecimal.proofs.Texts.{all_digits_append}
use Rattle.key_lines.specs.State.{capped, Begun}
use Rattle.key_lines.proofs.Lengths.{short, long}

-- the first 18 characters, and how many they are
pub first_of : (text first : List ℕ) → take (length (take 18 text)) first ≡ take 18 text → length text ≤ 18 → take (length text) first ≡ text
first_of text first e h =
    let all = take_all 18 text h in
    sym (ap (λ (l : List ℕ). take (length l) first) all) ∙ e ∙ all

not_and : (a b : Bool) → not (a && b) ≡ (not a || not b)
not_and true b = refl
not_and false b = refl

module _ (first : List ℕ) (len : ℕ) (bad : Bool) (text : List ℕ) (b : Begun (record { first = first; len = len; bad = bad }) text) (c : ℕ) where
  more : length (text ++ (c ∷ [])) ≡ length text + 1
  more = length-append text (c ∷ [])

  -- the length goes on by `capped_more`
  count_more : (l : ℕ) → ((n : ℕ) → len ≡ capped n → l ≡ capped (n + 1)) → l ≡ capped (length (text ++ (c ∷ [])))
  count_more l h = h (length text) b.count ∙ sym (ap capped more)

  -- and the digits by `worse`
  digits_more : (d : Bool) → d ≡ (bad || not (is_digit (value_of c))) → d ≡ not (all_digits (text ++ (c ∷ [])))
  digits_more d e =
      e
      ∙ ap (λ (x : Bool). x || not (is_digit (value_of c))) b.digits
      ∙ sym (ap not (all_digits_append text (c ∷ []))
      ∙ ap (λ (x : Bool). not (all_digits text && x)) (and-true (is_digit (value_of c)))
      ∙ not_and (all_digits text) (is_digit (value_of c)))

  -- there is room: the character is stored after those before it
  pub stored : (f : List ℕ) → len < 18 → f ≡ set first len c → (l : ℕ) → ((n : ℕ) → len ≡ capped n → l ≡ capped (n + 1))
      → (d : Bool) → d ≡ (bad || not (is_digit (value_of c)))
      → Begun (record { first = f; len = l; bad = d }) (text ++ (c ∷ []))
  stored f h e l hl d hd =
      let n : length text ≡ len = short len (length text) b.count (omega arith) in
      let small : length (text ++ (c ∷ [])) ≤ 18 = omega (arith, more) in
      let all = take_all 18 (text ++ (c ∷ [])) small in
      let room : len < length first = omega (arith, b.size) in
      let many : length (text ++ (c ∷ [])) ≡ suc len = omega (arith, more) in
      let old : take len first ≡ text = ap (λ (k : ℕ). take k first) (sym n) ∙ first_of text first b.kept (omega arith) in
      record {
        size = ap length e ∙ length-set first len c ∙ b.size;
        count = count_more l hl;
        kept = ap₂ (λ (s t : List ℕ). take (length s) t) all e
            ∙ ap (λ (k : ℕ). take k (set first len c)) many
            ∙ take-suc-set first len c room
            ∙ ap (λ (s : List ℕ). s ++ (c ∷ [])) old
            ∙ sym all;
        digits = digits_more d hd;
      }

  -- there is none: the first 18 stay
  pub passed : (f : List ℕ) → 18 ≤ len → f ≡ first → (l : ℕ) → ((n : ℕ) → len ≡ capped n → l ≡ capped (n + 1))
      → (d : Bool) → d ≡ (bad || not (is_digit (value_of c)))
      → Begun (record { first = f; len = l; bad = d }) (text ++ (c ∷ []))
  passed f h e l hl d hd =
      let same = take-append-le 18 text (c ∷ []) (long len (length text) b.count h) in
      record {
        size = ap length e ∙ b.size;
        count = count_more l hl;
        kept = ap₂ (λ (s t : List ℕ). take (length s) t) same e ∙ b.kept ∙ sym same;
        digits = digits_more d hd;
      }

-- the text with one character more of a part
pub next_of : (text part : List ℕ) (i : ℕ) → i < length part → text ++ take (i + 1) part ≡ text ++ take i part ++ (get_or part i 0 ∷ [])
next_of text part i h =
    rw (add-one, take-suc part i 0) (sym (append_assoc text (take i part) (get_or part i 0 ∷ [])))
