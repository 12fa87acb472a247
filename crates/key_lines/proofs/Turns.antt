-- A turn of the loop of `list`: the part up to the next line feed goes into the line, and a line feed prints it. `Through` is what holds at
-- the loop's head; `start`, `grown`, `ended` and `done` are its steps, by the laws of an input in parts.
-- Assumes nothing.
use Prim.Native.Nat.{ℕ, ◌+◌, ◌-◌, ◌≤◌, ◌<◌}
use mathlib.Core.List.{List, [], ◌∷◌, ◌++◌, append-nil}
use mathlib.Core.Path.{◌≡◌, refl, ap, ap₂, sym, subst, ◌∙◌}
use native.Mathlib.Decide.{dec_lt}
use native.Mathlib.Numerals.{add-one}
use native.Mathlib.Omega.{arith}
use lib.ListN.{length, get_or, take, drop, length-append, length-drop}
use lib.Seq.{take-suc, take-add, get_or-drop, take_at, drop_at, drop-drop}
use Rattle.octets.specs.Buffer.{placed}
use Rattle.octets.proofs.Buffers.{placed_room}
use Rattle.key_lines.specs.Lines.{line_of, line_length, printed_from, begun_by}
use Rattle.key_lines.specs.State.{Begun, Lists}
use Rattle.key_lines.specs.declared.Line.{Line}
use Rattle.key_lines.proofs.Parts.{printed_append, begun_append, printed_feed, begun_feed, printed_plain, begun_plain, line_inside, plain_before, feed_there}

-- the first `at` characters of the input are done with: `line` stands for what they leave begun, and `out` has what they print
pub record Through (line₀ : Line) (input before out : List ℕ) (line : Line) (at written : ℕ) : Type 0 where
  pub inside : at ≤ length input
  pub fits : written ≤ length before
  pub none : at ≡ 0 → written ≡ 0
  pub kept : length out ≡ length before
  pub begun : (text : List ℕ) → Begun line₀ text → Begun line (begun_by text (take at input))
  pub count : (text : List ℕ) → Begun line₀ text → written ≡ length (printed_from text (take at input))
  pub printed : (text : List ℕ) → Begun line₀ text → out ≡ printed_from text (take at input) ++ drop written before

module _ (line₀ : Line) (input before : List ℕ) where
  -- before the first turn
  pub start : Through line₀ input before before line₀ 0 0
  unfolding printed_from begun_by
  start =
      record {
        inside = omega arith;
        fits = omega arith;
        none = λ e. refl;
        kept = refl;
        begun = λ text b. b;
        count = λ text b. refl;
        printed = λ text b. refl;
      }

  module _ (out : List ℕ) (line : Line) (at written : ℕ) (t : Through line₀ input before out line at written)
      (end : ℕ) (is : end ≡ at + line_length (drop at input)) where
    -- the line's end is inside the input
    pub end_inside : end ≤ length input
    end_inside = omega (arith, line_inside (drop at input), length-drop at input, t.inside)

    -- the part before it has no line feed
    counted : end - at ≡ line_length (drop at input)
    counted = omega arith

    plain : line_length (take (end - at) (drop at input)) ≡ length (take (end - at) (drop at input))
    plain =
        ap (λ (k : ℕ). line_length (take k (drop at input))) counted
        ∙ plain_before (drop at input)
        ∙ sym (ap (λ (k : ℕ). length (take k (drop at input))) counted)

    joined : take end input ≡ take at input ++ take (end - at) (drop at input)
    joined =
        let sum : end ≡ at + (end - at) = omega arith in
        ap (λ (k : ℕ). take k input) sum ∙ take-add at (end - at) input

    -- what it leaves begun, and that it prints nothing
    begun_on : (text : List ℕ) → begun_by text (take end input) ≡ begun_by text (take at input) ++ take (end - at) (drop at input)
    begun_on text =
        ap (begun_by text) joined
        ∙ begun_append text (take at input) (take (end - at) (drop at input))
        ∙ begun_plain (begun_by text (take at input)) (take (end - at) (drop at input)) plain

    printed_on : (text : List ℕ) → printed_from text (take end input) ≡ printed_from text (take at input)
    printed_on text =
        ap (printed_from text) joined
        ∙ printed_append text (take at input) (take (end - at) (drop at input))
        ∙ ap (λ (l : List ℕ). printed_from text (take at input) ++ l)
        (printed_plain (begun_by text (take at input)) (take (end - at) (drop at input)) plain)
        ∙ append-nil (printed_from text (take at input))

    module _ (next : Line) (fed : (text : List ℕ) → Begun line text → Begun next (text ++ take (end - at) (drop at input))) where
      -- the line with that part
      pub grown : Through line₀ input before out next end written
      grown =
          record {
            inside = end_inside;
            fits = t.fits;
            none = λ e. t.none (omega arith);
            kept = t.kept;
            begun = λ text b. subst (Begun next) (sym (begun_on text)) (fed (begun_by text (take at input)) (t.begun text b));
            count = λ text b. t.count text b ∙ sym (ap length (printed_on text));
            printed = λ text b. t.printed text b ∙ sym (ap (λ (l : List ℕ). l ++ drop written before) (printed_on text));
          }

      module _ (more : end < length input) where
        -- what stands at its end is a line feed
        feed_at : get_or input end 0 ≡ 10
        feed_at =
            ap (λ (k : ℕ). get_or input k 0) is
            ∙ sym (get_or-drop at input (line_length (drop at input)) 0)
            ∙ feed_there (drop at input) (omega (arith, length-drop at input))

        with_feed : take (end + 1) input ≡ take end input ++ (10 ∷ [])
        with_feed =
            rw (add-one, take-suc input end 0) (ap (λ (k : ℕ). take end input ++ (k ∷ [])) feed_at)

        begun_ended : (text : List ℕ) → begun_by text (take (end + 1) input) ≡ []
        unfolding begun_by
        begun_ended text =
            ap (begun_by text) with_feed ∙ begun_append text (take end input) (10 ∷ []) ∙ begun_feed (begun_by text (take end input)) []

        printed_ended : (text : List ℕ)
            → printed_from text (take (end + 1) input) ≡ printed_from text (take end input) ++ line_of (begun_by text (take end input))
        unfolding printed_from
        printed_ended text =
            ap (printed_from text) with_feed
            ∙ printed_append text (take end input) (10 ∷ [])
            ∙ ap (λ (l : List ℕ). printed_from text (take end input) ++ l)
            (printed_feed (begun_by text (take end input)) [] ∙ append-nil (line_of (begun_by text (take end input))))

        -- the line is printed, and a new one begins
        pub ended : (room : written + 65 ≤ length before) (shown : List ℕ) → length shown ≤ 65
            → ((text : List ℕ) → Begun next text → shown ≡ line_of text)
            → (out' : List ℕ) → out' ≡ placed out written shown → length out' ≡ length out → (to : ℕ) → to ≡ written + length shown → (new : Line) → Begun new []
            → Through line₀ input before out' new (end + 1) to
        ended room shown small says out' is' long to sum new b' =
            record {
              inside = omega arith;
              fits = omega arith;
              none = λ e. absurd (omega arith);
              kept = long ∙ t.kept;
              begun = λ text b. subst (Begun new) (sym (begun_ended text)) b';
              count = λ text b.
                  let so = says (begun_by text (take end input)) (grown.begun text b) in
                  let P = printed_from text (take end input) in
                  let L = line_of (begun_by text (take end input)) in
                  omega (arith, grown.count text b, length-append P L, ap length (printed_ended text), ap length so);
              printed = λ text b.
                  let so = says (begun_by text (take end input)) (grown.begun text b) in
                  let P = printed_from text (take end input) in
                  let n = length shown in
                  let w : length P ≡ written = sym (grown.count text b) in
                  let head : take written out ≡ P = ap (take written) (grown.printed text b) ∙ take_at P (drop written before) written w in
                  let rest : drop written out ≡ drop written before = ap (drop written) (grown.printed text b) ∙ drop_at P (drop written before) written w in
                  let tail : drop (written + n) out ≡ drop (written + n) before = sym (drop-drop n written out) ∙ ap (drop n) rest ∙ drop-drop n written before in
                  is'
                  ∙ placed_room out written shown (omega (arith, t.kept))
                  ∙ ap₂ (λ (x y : List ℕ). x ++ y ++ drop (written + n) out) head so
                  ∙ ap₂ (λ (x y : List ℕ). x ++ y) (sym (printed_ended text)) (tail ∙ ap (λ (k : ℕ). drop k before) (sym sum));
            }

  -- after the last turn
  pub done : (out : List ℕ) (line : Line) (at written : ℕ) → Through line₀ input before out line at written
      → (at < length input → length before < written + 65)
      → Lists line₀ input before out (record { line = line; used = at; written = written })
  done out line at written t stop =
      record {
        inside = t.inside;
        stops = stop;
        moves = λ some room. used some room (dec_lt 0 at);
        begun = t.begun;
        written = t.count;
        printed = t.printed;
        fits = t.fits;
        kept = t.kept;
      }
    where
      used : 0 < length input → 65 ≤ length before → Dec (0 < at) → 0 < at
      used some room (yes h) = h
      used some room (no h) =
          let none : at ≡ 0 = omega arith in
          absurd (omega (arith, t.none none, stop (omega arith)))
