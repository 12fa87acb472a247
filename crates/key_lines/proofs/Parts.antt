-- Laws of an input in parts: what is printed and what is begun after one part and then another, a part with no line feed, and the first
-- line feed of a list. Each goes by recursion on the first part, with the two cases of the test for a line feed.
-- Assumes nothing.
use Prim.Native.Nat.{ℕ, suc, ◌+◌, ◌≤◌, ◌<◌}
use mathlib.Core.Bool.{Bool, true, false, cond}
use mathlib.Core.List.{List, [], ◌∷◌, ◌++◌, append_assoc, append-nil}
use mathlib.Core.Path.{◌≡◌, refl, ap, sym, subst, ◌∙◌}
use native.Mathlib.Omega.{arith}
use lib.Dec.{eqb, ltb}
use lib.ListN.{length, get_or, take}
use borrow.Author.Tests.{ltb-false, eqb-true}
use Rattle.std.specs.Prelude.{Option, MatchOption, position, Some, None, ◌==◌}
use Rattle.std.specs.List.{position_or_len}
use Rattle.std.proofs.lemmas.List.Recursion.{is_position_or_len}
use Rattle.key_lines.specs.Lines.{line_of, line_length, printed_from, begun_by}

printed_step : (c : ℕ) (begun xs ys : List ℕ) (t : Bool)
    → printed_from [] (xs ++ ys) ≡ printed_from [] xs ++ printed_from (begun_by [] xs) ys
    → printed_from (begun ++ (c ∷ [])) (xs ++ ys) ≡ printed_from (begun ++ (c ∷ [])) xs ++ printed_from (begun_by (begun ++ (c ∷ [])) xs) ys
    → cond t (line_of begun ++ printed_from [] (xs ++ ys)) (printed_from (begun ++ (c ∷ [])) (xs ++ ys))
    ≡ cond t (line_of begun ++ printed_from [] xs) (printed_from (begun ++ (c ∷ [])) xs)
    ++ printed_from (cond t (begun_by [] xs) (begun_by (begun ++ (c ∷ [])) xs)) ys
printed_step c begun xs ys true new more =
    ap (λ (l : List ℕ). line_of begun ++ l) new ∙ sym (append_assoc (line_of begun) (printed_from [] xs) (printed_from (begun_by [] xs) ys))
printed_step c begun xs ys false new more = more

-- what two parts print: what the first prints, and then what the second prints after the line that the first leaves begun
pub printed_append : (begun xs ys : List ℕ) → printed_from begun (xs ++ ys) ≡ printed_from begun xs ++ printed_from (begun_by begun xs) ys
unfolding printed_from begun_by
printed_append begun [] ys = refl
printed_append begun (c ∷ xs) ys =
    printed_step c begun xs ys (eqb c 10) (printed_append [] xs ys) (printed_append (begun ++ (c ∷ [])) xs ys)

begun_step : (c : ℕ) (begun xs ys : List ℕ) (t : Bool) → begun_by [] (xs ++ ys) ≡ begun_by (begun_by [] xs) ys
    → begun_by (begun ++ (c ∷ [])) (xs ++ ys) ≡ begun_by (begun_by (begun ++ (c ∷ [])) xs) ys
    → cond t (begun_by [] (xs ++ ys)) (begun_by (begun ++ (c ∷ [])) (xs ++ ys))
    ≡ begun_by (cond t (begun_by [] xs) (begun_by (begun ++ (c ∷ [])) xs)) ys
begun_step c begun xs ys true new more = new
begun_step c begun xs ys false new more = more

-- the line that two parts leave begun
pub begun_append : (begun xs ys : List ℕ) → begun_by begun (xs ++ ys) ≡ begun_by (begun_by begun xs) ys
unfolding begun_by
begun_append begun [] ys = refl
begun_append begun (c ∷ xs) ys =
    begun_step c begun xs ys (eqb c 10) (begun_append [] xs ys) (begun_append (begun ++ (c ∷ [])) xs ys)

-- a line feed ends the line
pub printed_feed : (begun ys : List ℕ) → printed_from begun (10 ∷ ys) ≡ line_of begun ++ printed_from [] ys
unfolding printed_from
printed_feed begun ys = refl

pub begun_feed : (begun ys : List ℕ) → begun_by begun (10 ∷ ys) ≡ begun_by [] ys
unfolding begun_by
begun_feed begun ys = refl

-- a part with no line feed prints nothing
printed_plain_step : (c : ℕ) (begun part : List ℕ) (t : Bool) → cond t 0 (suc (line_length part)) ≡ suc (length part)
    → (line_length part ≡ length part → printed_from (begun ++ (c ∷ [])) part ≡ [])
    → cond t (line_of begun ++ printed_from [] part) (printed_from (begun ++ (c ∷ [])) part) ≡ []
printed_plain_step c begun part true e more = absurd (omega arith)
printed_plain_step c begun part false e more = more (omega arith)

pub printed_plain : (begun part : List ℕ) → line_length part ≡ length part → printed_from begun part ≡ []
unfolding printed_from line_length
printed_plain begun [] e = refl
printed_plain begun (c ∷ part) e = printed_plain_step c begun part (eqb c 10) e (printed_plain (begun ++ (c ∷ [])) part)

-- and goes on with the line
begun_plain_step : (c : ℕ) (begun part : List ℕ) (t : Bool) → cond t 0 (suc (line_length part)) ≡ suc (length part)
    → (line_length part ≡ length part → begun_by (begun ++ (c ∷ [])) part ≡ begun ++ (c ∷ []) ++ part)
    → cond t (begun_by [] part) (begun_by (begun ++ (c ∷ [])) part) ≡ begun ++ (c ∷ part)
begun_plain_step c begun part true e more = absurd (omega arith)
begun_plain_step c begun part false e more = more (omega arith) ∙ append_assoc begun (c ∷ []) part

pub begun_plain : (begun part : List ℕ) → line_length part ≡ length part → begun_by begun part ≡ begun ++ part
unfolding begun_by line_length
begun_plain begun [] e = sym (append-nil begun)
begun_plain begun (c ∷ part) e = begun_plain_step c begun part (eqb c 10) e (begun_plain (begun ++ (c ∷ [])) part)

-- the first line feed is inside the list, or at its end
inside_step : (n m : ℕ) (t : Bool) → n ≤ m → cond t 0 (suc n) ≤ suc m
inside_step n m true h = omega arith
inside_step n m false h = omega arith

pub line_inside : (s : List ℕ) → line_length s ≤ length s
unfolding line_length
line_inside [] = omega arith
line_inside (c ∷ s) = inside_step (line_length s) (length s) (eqb c 10) (line_inside s)

-- the part before the first line feed has none
plain_step : (c : ℕ) (s : List ℕ) (t : Bool) → eqb c 10 ≡ t → line_length (take (line_length s) s) ≡ length (take (line_length s) s)
    → line_length (take (cond t 0 (suc (line_length s))) (c ∷ s)) ≡ length (take (cond t 0 (suc (line_length s))) (c ∷ s))
unfolding line_length
plain_step c s true e rest = refl
plain_step c s false e rest = rw e (ap suc rest)

pub plain_before : (s : List ℕ) → line_length (take (line_length s) s) ≡ length (take (line_length s) s)
unfolding line_length
plain_before [] = refl
plain_before (c ∷ s) = plain_step c s (eqb c 10) refl (plain_before s)

-- what stands there is a line feed
there_step : (c : ℕ) (s : List ℕ) (t : Bool) → eqb c 10 ≡ t → (line_length s < length s → get_or s (line_length s) 0 ≡ 10)
    → cond t 0 (suc (line_length s)) < suc (length s) → get_or (c ∷ s) (cond t 0 (suc (line_length s))) 0 ≡ 10
there_step c s true e rest h = eqb-true c 10 e
there_step c s false e rest h = rest (omega arith)

pub feed_there : (s : List ℕ) → line_length s < length s → get_or s (line_length s) 0 ≡ 10
unfolding line_length
feed_there [] h = absurd (omega arith)
feed_there (c ∷ s) h = there_step c s (eqb c 10) refl (feed_there s) h

-- its place is where std finds it
first_feed : (s : List ℕ) → line_length s ≡ position_or_len (λ c. eqb c 10) s
unfolding line_length
first_feed = is_position_or_len line_length (λ c. eqb c 10) refl
    (λ c s. let e : suc (line_length s) ≡ 1 + line_length s = omega arith in ap (λ (k : ℕ). cond (eqb c 10) 0 k) e)

pub found : (o : Option ℕ) (s : List ℕ) → o ≡ position (λ c. c == 10) s → MatchOption o (line_length s ≡ length s) (λ n. line_length s ≡ n)
found o s is = subst (λ (p : Option ℕ). MatchOption p (line_length s ≡ length s) (λ n. line_length s ≡ n)) (sym is) (go (ltb n (length s)) refl)
  where
    n : ℕ
    n = position_or_len (λ c. eqb c 10) s

    go : (t : Bool) → ltb n (length s) ≡ t → MatchOption (cond t (Some n) None) (line_length s ≡ length s) (λ k. line_length s ≡ k)
    go true e = first_feed s
    go false e = let end = ltb-false n (length s) e in omega (arith, first_feed s, line_inside s)
