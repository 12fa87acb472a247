-- The cases of `long_header`, `header_in`, `filled` and `content_of`, each by the tests that lead to it. Assumes nothing.
use Prim.Native.Nat.{ℕ, zero, suc, ◌+◌, ◌-◌, ◌≤◌, ◌<◌}
use native.Mathlib.Omega.{arith}
use mathlib.Core.List.{List, [], ◌∷◌, ◌++◌}
use mathlib.Core.Bool.{cond}
use mathlib.Core.Path.{◌≡◌, refl, sym, ap, ◌∙◌}
use lib.Dec.{leb}
use lib.ListN.{length, get_or, take, drop, replicate}
use borrow.Author.Tests.{lt-ltb, le-ltb, le-leb, lt-leb, eq-eqb, ne_eqb}
use Rattle.refusal.specs.Says.{Said}
use Rattle.refusal.specs.Outcome.{given, refusal, refused}
use Rattle.refusal.proofs.Outcomes.{given_not}
use Rattle.octets.specs.Bytes.{be}
use Rattle.octets.proofs.Numbers.{be_zero_first}
use Rattle.rlp.specs.Content.{Header, Wrong, Cut, Whole, begun, place, long_header, header_in, filled, content_by, content_of}
use Rattle.rlp.specs.declared.Payload.{Payload}

-- none of the length bytes is there
pub long_none : (k : ℕ) (rest : List ℕ) → length rest ≡ 0 → long_header k rest ≡ Cut
unfolding long_header
long_none k rest h = rw (eq-eqb (length rest) 0 h)

module _ (k : ℕ) (rest : List ℕ) (some : 0 < length rest) where
  -- the first is zero
  pub long_zero : get_or rest 0 0 ≡ 0 → long_header k rest ≡ Wrong
  unfolding long_header
  long_zero z = rw (ne_eqb (length rest) 0 (λ e. omega arith), eq-eqb (get_or rest 0 0) 0 z)

  -- the first is not zero, and some are missing
  pub long_missing : 0 < get_or rest 0 0 → length rest < k → long_header k rest ≡ Cut
  unfolding long_header
  long_missing z h = rw (ne_eqb (length rest) 0 (λ e. omega arith), ne_eqb (get_or rest 0 0) 0 (λ e. omega arith), lt-ltb (length rest) k h)

  -- all are there: the length decides
  pub long_counted : 0 < get_or rest 0 0 → k ≤ length rest
      → long_header k rest ≡ cond (leb (be (take k rest)) 55) Wrong (Whole (place (1 + k) (be (take k rest))))
  unfolding long_header
  long_counted z h = rw (ne_eqb (length rest) 0 (λ e. omega arith), ne_eqb (get_or rest 0 0) 0 (λ e. omega arith), le-ltb (length rest) k h)

  -- it has the short form
  pub long_small : 0 < get_or rest 0 0 → k ≤ length rest → be (take k rest) ≤ 55 → long_header k rest ≡ Wrong
  long_small z h s = long_counted z h ∙ rw (le-leb (be (take k rest)) 55 s)

  -- the header is whole
  pub long_whole : 0 < get_or rest 0 0 → k ≤ length rest → 55 < be (take k rest) → long_header k rest ≡ Whole (place (1 + k) (be (take k rest)))
  long_whole z h l = long_counted z h ∙ rw (lt-leb (be (take k rest)) 55 l)

-- no bytes
pub first_none : (s : List ℕ) → length s ≡ 0 → header_in s ≡ Wrong
unfolding header_in
first_none [] h = refl
first_none (b ∷ rest) h = absurd (omega arith)

-- a first byte below c0
pub first_low : (s : List ℕ) → get_or s 0 0 < 192 → header_in s ≡ Wrong
unfolding header_in
first_low [] h = refl
first_low (b ∷ rest) h = rw (lt-ltb b 192 h)

-- a first byte c0 to f7
pub first_short : (s : List ℕ) → 192 ≤ get_or s 0 0 → get_or s 0 0 ≤ 247 → header_in s ≡ Whole (place 1 (get_or s 0 0 - 192))
unfolding header_in
first_short [] h l = absurd (omega arith)
first_short (b ∷ rest) h l = rw (le-ltb b 192 h, le-leb b 247 l)

-- a first byte f8 to ff
pub first_long : (s : List ℕ) → 247 < get_or s 0 0 → header_in s ≡ long_header (get_or s 0 0 - 247) (drop 1 s)
unfolding header_in
first_long [] h = absurd (omega arith)
first_long (b ∷ rest) h = rw (le-ltb b 192 (omega arith), lt-leb b 247 h)

-- the payload runs past the end, bytes follow it, it fills them
pub filled_early : (p : Payload) (n : ℕ) → n < p.len → filled p n ≡ refused 16
filled_early p n h = rw (lt-ltb n p.len h)

pub filled_over : (p : Payload) (n : ℕ) → p.len < n → filled p n ≡ refused 9
filled_over p n h = rw (le-ltb n p.len (omega arith), lt-ltb p.len n h)

pub filled_whole : (p : Payload) (n : ℕ) → n ≡ p.len → filled p n ≡ given p
filled_whole p n h = rw (le-ltb n p.len (omega arith), le-ltb p.len n (omega arith))

-- content by its header
pub content_by_lem : (s : List ℕ) (h : Header) → header_in s ≡ h → content_of s ≡ content_by (length s) h
unfolding content_of
content_by_lem s h e = ap (content_by (length s)) e

-- content is refused as its header is
pub refused_begun : (s : List ℕ) {says : Said} → refusal says ≡ begun (header_in s) → refusal says ≡ content_of s
unfolding content_of
refused_begun s {says} e = go (header_in s) e
  where
    go : (h : Header) → refusal says ≡ begun h → refusal says ≡ content_by (length s) h
    go Wrong e = e
    go Cut e = e
    go (Whole p) e = given_not (sym e)

-- a header that gives a place is whole
pub whole_begun : (h : Header) {p : Payload} → given p ≡ begun h → h ≡ Whole p
whole_begun Wrong e = given_not e
whole_begun Cut e = given_not e
whole_begun (Whole q) {p} e = let same : q ≡ p = cc in ap Whole same

-- zeros in front do not change the number
pub be_behind : (n m : ℕ) (s : List ℕ) → be (take m (replicate n 0) ++ s) ≡ be s
be_behind n zero s = refl
be_behind zero (suc m) s = refl
be_behind (suc n) (suc m) s = be_zero_first (take m (replicate n 0) ++ s) ∙ be_behind n m s
