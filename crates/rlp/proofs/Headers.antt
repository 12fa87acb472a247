-- Headers of lists. What is read as a whole header is the one that RLP writes for its length, and the other way round; bytes behind a header
-- that is not cut change nothing; one that is cut can be completed. Assumes nothing.
use Prim.Native.Nat.{ℕ, suc, ◌+◌, ◌-◌, ◌*◌, ◌^◌, ◌≤◌, ◌<◌}
use native.Mathlib.Decide.{dec_lt}
use native.Mathlib.Nat.{pow-le-pow_right, one-le-pow}
use native.Mathlib.Omega.{arith}
use mathlib.Core.Bool.{cond}
use mathlib.Core.List.{List, [], ◌∷◌, ◌++◌}
use mathlib.Core.Path.{◌≡◌, refl, sym, ap, ap₂, subst, ◌∙◌}
use lib.Dec.{leb, lit<}
use lib.ListN.{length, get_or, take, drop, replicate, length-append, length-drop, length-replicate, take-append-drop, get_or-append}
use lib.Seq.{length-take-le, take_all, take-append-le, take-append_seam, drop-append-le, drop-drop, get_or-take}
use Rattle.octets.specs.Bytes.{Bytes, be}
use Rattle.octets.proofs.Numbers.{bytes_take, bytes_replicate, be_lt, be_append}
use Rattle.rlp.specs.Content.{Header, Wrong, Cut, Whole, place, long_header, header_in}
use Rattle.rlp.specs.Written.{fewest, header_of}
use Rattle.rlp.specs.declared.Payload.{Payload}
use Rattle.rlp.proofs.Cases.{long_none, long_zero, long_missing, long_counted, long_small, long_whole, first_none, first_low, first_short, first_long}
use Rattle.rlp.proofs.Written.{be_fewest, fewest_head, fewest_be, head_append, head_length, header_short, header_long}

-- two constructors are never equal
pub never : {A : Type 0} → ◌≡◌ {A = ℕ} 0 1 → A
never e = absurd (omega arith)

-- the first byte, what follows it, and how many length bytes it asks for, from f8 on
abbrev first : List ℕ → ℕ
first s = get_or s 0 0

abbrev behind : List ℕ → List ℕ
behind s = drop 1 s

abbrev asks : List ℕ → ℕ
asks s = get_or s 0 0 - 247

-- the length that they give
abbrev size : List ℕ → ℕ
size s = be (take (asks s) (behind s))

-- all the length bytes are there, and the first is not zero
record Counted (s : List ℕ) : Type 0 where
  some : 0 < length (behind s)
  high : 0 < first (behind s)
  all : asks s ≤ length (behind s)

-- content, and the header that it begins with
data Begins (s : List ℕ) : Header → Type 0 where
  empty : length s ≡ 0 → Begins s Wrong
  low : first s < 192 → Begins s Wrong
  short : 192 ≤ first s → first s ≤ 247 → Begins s (Whole (place 1 (first s - 192)))
  zeroed : 247 < first s → 0 < length (behind s) → first (behind s) ≡ 0 → Begins s Wrong
  cut : 247 < first s → length (behind s) < asks s → (0 < length (behind s) → 0 < first (behind s)) → Begins s Cut
  small : 247 < first s → Counted s → size s ≤ 55 → Begins s Wrong
  long : 247 < first s → Counted s → 55 < size s → Begins s (Whole (place (1 + asks s) (size s)))

-- a first byte from f8 on
begins_long : (s : List ℕ) → 247 < first s → Begins s (header_in s)
begins_long s b = there (dec_lt 0 (length (behind s)))
  where
    by : {h : Header} → long_header (asks s) (behind s) ≡ h → Begins s h → Begins s (header_in s)
    by e x = subst (Begins s) (sym (first_long s b ∙ e)) x

    valued : Counted s → Dec (55 < size s) → Begins s (header_in s)
    valued c (yes l) = by (long_whole (asks s) (behind s) c.some c.high c.all l) (long b c l)
    valued c (no l) = by (long_small (asks s) (behind s) c.some c.high c.all (omega arith)) (small b c (omega arith))

    counted : 0 < length (behind s) → 0 < first (behind s) → Dec (length (behind s) < asks s) → Begins s (header_in s)
    counted n z (yes l) = by (long_missing (asks s) (behind s) n z l) (cut b l (λ h. z))
    counted n z (no l) = valued (record { some = n; high = z; all = omega arith }) (dec_lt 55 (size s))

    high : 0 < length (behind s) → Dec (0 < first (behind s)) → Begins s (header_in s)
    high n (yes z) = counted n z (dec_lt (length (behind s)) (asks s))
    high n (no z) = by (long_zero (asks s) (behind s) n (omega arith)) (zeroed b n (omega arith))

    there : Dec (0 < length (behind s)) → Begins s (header_in s)
    there (yes n) = high n (dec_lt 0 (first (behind s)))
    there (no n) = by (long_none (asks s) (behind s) (omega arith)) (cut b (omega arith) (λ h. absurd (omega arith)))

begins : (s : List ℕ) → Begins s (header_in s)
begins s = there (dec_lt 0 (length s))
  where
    high : 192 ≤ first s → Dec (247 < first s) → Begins s (header_in s)
    high h (yes l) = begins_long s l
    high h (no l) = subst (Begins s) (sym (first_short s h (omega arith))) (short h (omega arith))

    tested : Dec (first s < 192) → Begins s (header_in s)
    tested (yes h) = subst (Begins s) (sym (first_low s h)) (low h)
    tested (no h) = high (omega arith) (dec_lt 247 (first s))

    there : Dec (0 < length s) → Begins s (header_in s)
    there (yes n) = tested (dec_lt (first s) 192)
    there (no n) = subst (Begins s) (sym (first_none s (omega arith))) (empty (omega arith))

-- bytes behind length bytes that are all there change nothing,
long_more : (k : ℕ) (rest t : List ℕ) → 0 < length rest → 0 < first rest → k ≤ length rest → long_header k (rest ++ t) ≡ long_header k rest
long_more k rest t n z all =
    let f : first (rest ++ t) ≡ first rest = get_or-append rest t 0 0 n in
    let j : length (rest ++ t) ≡ length rest + length t = length-append rest t in
    long_counted k (rest ++ t) (omega arith) (omega arith) (omega arith)
    ∙ ap (λ (len : ℕ). cond (leb len 55) Wrong (Whole (place (1 + k) len))) (ap be (take-append-le k rest t all))
    ∙ sym (long_counted k rest n z all)

-- nor do bytes behind a header that is not cut
pub header_more : (s t : List ℕ) (h : Header) → 0 < length s → header_in s ≡ h → ¬ (h ≡ Cut) → header_in (s ++ t) ≡ h
header_more s t h some is n = go (begins s) (λ c. n (sym is ∙ c)) ∙ is
  where
    same : first (s ++ t) ≡ first s
    same = get_or-append s t 0 0 some

    after : 247 < first s → header_in (s ++ t) ≡ long_header (asks s) (behind s ++ t)
    after l =
        let e = same in
        first_long (s ++ t) (omega arith)
        ∙ ap₂ (λ (b : ℕ) (rest : List ℕ). long_header (b - 247) rest) e (drop-append-le 1 s t (omega arith))

    counted : 247 < first s → Counted s → header_in (s ++ t) ≡ long_header (asks s) (behind s)
    counted b c = after b ∙ long_more (asks s) (behind s) t c.some c.high c.all

    go : {x : Header} → Begins s x → ¬ (x ≡ Cut) → header_in (s ++ t) ≡ x
    go (empty e) m = absurd (omega arith)
    go (low b) m = let e = same in first_low (s ++ t) (omega arith)
    go (short l u) m =
        let e = same in
        first_short (s ++ t) (omega arith) (omega arith) ∙ ap (λ (b : ℕ). Whole (place 1 (b - 192))) e
    go (zeroed b l z) m =
        after b
        ∙ long_zero (asks s) (behind s ++ t) (omega (arith, length-append (behind s) t)) (get_or-append (behind s) t 0 0 l ∙ z)
    go (cut b l z) m = absurd (m refl)
    go (small b c l) m = counted b c ∙ long_small (asks s) (behind s) c.some c.high c.all l
    go (long b c l) m = counted b c ∙ long_whole (asks s) (behind s) c.some c.high c.all l

-- content that begins with a whole header, and where its payload stands
data Shows (s : List ℕ) : Payload → Type 0 where
  in_one : 192 ≤ first s → first s ≤ 247 → Shows s (place 1 (first s - 192))
  in_more : 247 < first s → Counted s → 55 < size s → Shows s (place (1 + asks s) (size s))

shows : (s : List ℕ) (p : Payload) → header_in s ≡ Whole p → Shows s p
shows s p e = go (begins s) e
  where
    go : {h : Header} → Begins s h → h ≡ Whole p → Shows s p
    go (empty l) f = never (cc)
    go (low b) f = never (cc)
    go (short l u) f = let at : place 1 (first s - 192) ≡ p = cc in subst (Shows s) at (in_one l u)
    go (zeroed b l z) f = never (cc)
    go (cut b l z) f = never (cc)
    go (small b c l) f = never (cc)
    go (long b c l) f = let at : place (1 + asks s) (size s) ≡ p = cc in subst (Shows s) at (in_more b c l)

-- a whole header lies in the content
pub record Within (s : List ℕ) (p : Payload) : Type 0 where
  pub some : 0 < p.start
  pub all : p.start ≤ length s

pub header_within : (s : List ℕ) (p : Payload) → header_in s ≡ Whole p → Within s p
header_within s p e = go (shows s p e)
  where
    go : {q : Payload} → Shows s q → Within s q
    go (in_one l u) = record { some = omega arith; all = omega (arith, head_length s (omega arith)) }
    go (in_more b c l) = record { some = omega arith; all = omega (arith, c.some, c.all, length-drop 1 s) }

-- content that begins with the header of a payload's length, which has so many bytes
pub record Headed (s : List ℕ) (p : Payload) : Type 0 where
  pub whole : s ≡ header_of p.len ++ drop p.start s
  pub start : length (header_of p.len) ≡ p.start
  pub small : p.len < 2 ^ 64

-- one byte
short_headed : (b : ℕ) (rest : List ℕ) → 192 ≤ b → b ≤ 247 → Headed (b ∷ rest) (place 1 (b - 192))
short_headed b rest h l =
    let e : header_of (b - 192) ≡ b ∷ [] = header_short (b - 192) (omega arith) ∙ ap (λ (x : ℕ). x ∷ []) (omega arith) in
    record {
      whole = sym (ap (λ (xs : List ℕ). xs ++ rest) e);
      start = ap (length {A = ℕ}) e;
      small = omega arith;
    }

-- and k more
long_headed : (b : ℕ) (rest : List ℕ) → 247 < b → Bytes (b ∷ rest) → (k : ℕ) → k ≡ b - 247 → 0 < get_or rest 0 0 → k ≤ length rest → 55 < be (take k rest)
    → Headed (b ∷ rest) (place (1 + k) (be (take k rest)))
long_headed b rest h bytes k is z all l =
    let n : ℕ = be (take k rest) in
    let size : length (take k rest) ≡ k = length-take-le k rest all in
    let bs : Bytes (take k rest) = bytes_take k rest bytes.1 in
    let first : get_or (take k rest) 0 0 ≡ get_or rest 0 0 = get_or-take k rest 0 0 (omega arith) in
    let xs : fewest 8 n ≡ take k rest = fewest_be 8 (take k rest) bs (omega (arith, bytes.0)) (omega arith) in
    let e : header_of n ≡ b ∷ take k rest =
    header_long n l ∙ ap₂ (λ (x : ℕ) (ys : List ℕ). x ∷ ys) (omega (arith, ap (length {A = ℕ}) xs)) xs in
    record {
      whole = sym (ap (λ (ys : List ℕ). ys ++ drop (1 + k) (b ∷ rest)) e ∙ ap (λ (ys : List ℕ). b ∷ (take k rest ++ ys)) (sym (drop-drop k 1 (b ∷ rest))) ∙ ap (λ (ys : List ℕ). b ∷ ys) (take-append-drop k rest));
      start = ap (length {A = ℕ}) e ∙ omega arith;
      small = omega (arith, be_lt (take k rest) bs, pow-le-pow_right {n = 256} (lit< tt) {i = length (take k rest)} {j = 8} (omega (arith, bytes.0)));
    }

-- a header that is read is the one that RLP writes
pub header_written : (s : List ℕ) → Bytes s → (p : Payload) → header_in s ≡ Whole p → Headed s p
header_written s bytes p e = go s bytes (shows s p e)
  where
    go : (l : List ℕ) → Bytes l → {q : Payload} → Shows l q → Headed l q
    go [] bs (in_one x y) = absurd (omega arith)
    go [] bs (in_more b c y) = absurd (omega arith)
    go (b ∷ rest) bs (in_one x y) = short_headed b rest x y
    go (b ∷ rest) bs (in_more x c y) = long_headed b rest x bs (b - 247) refl c.high c.all y

-- a header that RLP writes is read, whatever follows it
long_read : (n : ℕ) (xs t : List ℕ) → be xs ≡ n → 0 < get_or xs 0 0 → 55 < n → header_in ((247 + length xs) ∷ (xs ++ t)) ≡ Whole (place (suc (length xs)) n)
long_read n xs t is z l =
    let some : 0 < length xs = head_length xs z in
    let k : 247 + length xs - 247 ≡ length xs = omega arith in
    let m : length (xs ++ t) ≡ length xs + length t = length-append xs t in
    let f : get_or (xs ++ t) 0 0 ≡ get_or xs 0 0 = head_append xs t z in
    let e : be (take (length xs) (xs ++ t)) ≡ n = ap be (take-append_seam xs t) ∙ is in
    first_long ((247 + length xs) ∷ (xs ++ t)) (omega arith)
    ∙ ap (λ (j : ℕ). long_header j (xs ++ t)) k
    ∙ long_whole (length xs) (xs ++ t) (omega arith) (omega arith) (omega arith) (omega arith)
    ∙ ap₂ (λ (start len : ℕ). Whole (place start len)) (omega arith) e

pub written_header : (n : ℕ) (t : List ℕ) → n < 2 ^ 64 → header_in (header_of n ++ t) ≡ Whole (place (length (header_of n)) n)
written_header n t below = go (dec_lt 55 n)
  where
    go : Dec (55 < n) → header_in (header_of n ++ t) ≡ Whole (place (length (header_of n)) n)
    go (yes l) = rw (header_long n l) (long_read n (fewest 8 n) t (be_fewest 8 n below) (fewest_head 8 n (omega arith) below) l)
    go (no l) =
        rw (header_short n (omega arith))
        (first_short ((192 + n) ∷ t) (omega arith) (omega arith) ∙ ap (λ (len : ℕ). Whole (place 1 len)) (omega arith))

-- bytes that complete a header, which then fills all there is
pub record Finishes (s : List ℕ) : Type 0 where
  pub more : List ℕ
  pub bytes : Bytes more
  pub payload : Payload
  pub header : header_in (s ++ more) ≡ Whole payload
  pub all : payload.start ≡ length (s ++ more)

-- length bytes of 255 make the first one not zero,
head_pad : (rest : List ℕ) (m : ℕ) → (0 < length rest → 0 < get_or rest 0 0) → 0 < get_or (rest ++ replicate (suc m) 255) 0 0
head_pad [] m h = omega arith
head_pad (x ∷ rest) m h = h (omega arith)

-- and the length over 55
be_pad : (rest : List ℕ) (m : ℕ) → 55 < be (rest ++ replicate (suc m) 255)
unfolding be
be_pad rest m =
    let e : be (rest ++ replicate (suc m) 255) ≡ be rest * 256 ^ length {A = ℕ} (replicate (suc m) 255) + (255 * 256 ^ length {A = ℕ} (replicate m 255) + be (replicate m 255)) =
    be_append rest (replicate (suc m) 255) in
    omega (arith, one-le-pow (length {A = ℕ} (replicate m 255)) 256 (lit< tt))

-- a header that is cut can be completed
pub header_cut : (s : List ℕ) → header_in s ≡ Cut → Finishes s
header_cut s e = go (begins s) e
  where
    finish : 247 < first s → (m : ℕ) → asks s ≡ length (behind s) + suc m → (0 < length (behind s) → 0 < first (behind s)) → Finishes s
    finish b m is z =
        let pad : List ℕ = replicate (suc m) 255 in
        let f : first (s ++ pad) ≡ first s = get_or-append s pad 0 0 (head_length s (omega arith)) in
        let n : length pad ≡ suc m = length-replicate (suc m) 255 in
        let l : length (behind s ++ pad) ≡ length (behind s) + length pad = length-append (behind s) pad in
        let ls : length (s ++ pad) ≡ length s + length pad = length-append s pad in
        let ld : length (behind s) ≡ length s - 1 = length-drop 1 s in
        let some : 0 < length s = head_length s (omega arith) in
        let v : be (take (asks s) (behind s ++ pad)) ≡ be (behind s ++ pad) = ap be (take_all (asks s) (behind s ++ pad) (omega arith)) in
        record {
          more = pad;
          bytes = bytes_replicate (suc m) 255 (omega arith);
          payload = place (1 + asks s) (be (take (asks s) (behind s ++ pad)));
          header = first_long (s ++ pad) (omega arith)
              ∙ ap₂ long_header (omega arith) (drop-append-le 1 s pad (omega arith))
              ∙ long_whole (asks s) (behind s ++ pad) (omega arith) (head_pad (behind s) m z) (omega arith) (omega (arith, be_pad (behind s) m));
          all = omega arith;
        }

    go : {h : Header} → Begins s h → h ≡ Cut → Finishes s
    go (empty l) f = never (cc)
    go (low b) f = never (cc)
    go (short l u) f = never (cc)
    go (zeroed b l z) f = never (cc)
    go (cut b l z) f = finish b (asks s - length (behind s) - 1) (omega arith) z
    go (small b c l) f = never (cc)
    go (long b c l) f = never (cc)
