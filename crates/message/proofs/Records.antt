-- A list of records is read back from its bytes, and its bytes come back from the records that were read. In between stand the
-- places where the records start. Assumes nothing.
use Prim.Native.Nat.{ℕ, zero, suc, ◌+◌, ◌*◌, ◌-◌, ◌%◌, ◌^◌, ◌<◌, ◌≤◌}
use native.Mathlib.Omega.{arith}
use mathlib.Core.Path.{◌≡◌, refl, sym, ap, ap₂, subst, subst⁻¹, ◌∙◌}
use mathlib.Core.Bool.{Bool, true, false, ◌&&◌, cond, false≢true}
use mathlib.Core.List.{List, [], ◌∷◌, ◌++◌, append_assoc, append-nil}
use mathlib.Core.Option.{some, none, none-ne-some, some-injective}
use lib.ListN.{length, take, drop, length-append, length-take, length-drop, take-append-drop}
use lib.Seq.{take_at, drop_at, drop-drop, take-add}
use lib.Dec.{leb, eqb}
use borrow.Author.Tests.{le-leb, leb-true, eq-eqb, eqb-true}
use Rattle.octets.specs.Bytes.{Bytes}
use Rattle.octets.proofs.Numbers.{bytes_take, bytes_drop, le_bytes_length}
use Rattle.octets.proofs.Tests.{both}
use Rattle.message.specs.Values.{AllBytes}
use Rattle.message.specs.Encode.{offset, offsets_from, joined, list_bytes}
use Rattle.message.specs.Records.{offset_of, offsets_of, count_of, ordered, between, laid_out, records_of}
use Rattle.message.proofs.Tests.{all_four}
use Rattle.message.proofs.Offsets.{offset_read, read_offset}

-- the places where the records start, the first at a place
abbrev starts : ℕ → List (List ℕ) → List ℕ
starts at [] = []
starts at (r ∷ rs) = at ∷ starts (at + length r) rs

-- the offsets have four bytes for each record
pub offsets_length : (at : ℕ) (rs : List (List ℕ)) → length (offsets_from at rs) ≡ 4 * length rs
unfolding offsets_from
offsets_length at [] = refl
offsets_length at (r ∷ rs) =
    omega (arith, length-append (offset at) (offsets_from (at + length r) rs), le_bytes_length 4 at, offsets_length (at + length r) rs)

-- a list has four bytes for each record, and the records
pub list_length : (rs : List (List ℕ)) → length (list_bytes rs) ≡ 4 * length rs + length (joined rs)
list_length rs =
    omega (arith, length-append (offsets_from (4 * length rs) rs) (joined rs), offsets_length (4 * length rs) rs)

-- no records have no bytes
pub list_empty : list_bytes [] ≡ []
unfolding offsets_from joined
list_empty = refl

-- the offsets read back are the starts
offsets_starts : (at : ℕ) (rs : List (List ℕ)) (t : List ℕ) → at + length (joined rs) < 2 ^ 32
    → offsets_of (length rs) (offsets_from at rs ++ t) ≡ starts at rs
unfolding offsets_of offsets_from joined
offsets_starts at [] t h = refl
offsets_starts at (r ∷ rs) t h =
    let l = length-append r (joined rs) in
    let rest = offsets_from (at + length r) rs in
    rw (append_assoc (offset at) rest t, offset_read at (rest ++ t) (omega arith), drop_at (offset at) (rest ++ t) 4 (le_bytes_length 4 at), offsets_starts (at + length r) rs t (omega arith))

-- the starts do not go down, and do not pass the end of the last record
starts_ordered : (at end : ℕ) (rs : List (List ℕ)) → at + length (joined rs) ≤ end → ordered end (starts at rs) ≡ true
unfolding ordered joined
starts_ordered at end [] h = refl
starts_ordered at end (r ∷ []) h = le-leb at end (omega arith)
starts_ordered at end (r ∷ q ∷ rs) h =
    let l = length-append r (joined (q ∷ rs)) in
    rw (le-leb at (at + length r) (omega arith), starts_ordered (at + length r) end (q ∷ rs) (omega arith))

-- the records stand between the starts
starts_between : (s : List ℕ) (at : ℕ) (rs : List (List ℕ)) → drop at s ≡ joined rs → between s (starts at rs) ≡ rs
unfolding between joined
starts_between s at [] h = refl
starts_between s at (r ∷ []) h = ap (λ (q : List ℕ). q ∷ []) (h ∙ append-nil r)
starts_between s at (r ∷ q ∷ rs) h =
    let n : at + length r - at ≡ length r = omega arith in
    let rest = joined (q ∷ rs) in
    ap₂ (λ (x : List ℕ) (xs : List (List ℕ)). x ∷ xs)
    (rw (n, h, take_at r rest (length r) refl))
    (starts_between s (at + length r) (q ∷ rs) (sym (drop-drop (length r) at s) ∙ rw (h, drop_at r rest (length r) refl)))

-- the layout of a list of n records, at least one: its first offset, its length and the order of its offsets
pub record Laid (s : List ℕ) (n : ℕ) : Type 0 where
  pub present : 1 ≤ n
  pub first : offset_of s ≡ 4 * n
  pub inside : 4 * n ≤ length s
  pub in_order_lem : ordered (length s) (offsets_of n s) ≡ true

-- a list that is laid out so is read by its offsets
pub laid_read : {s : List ℕ} {n : ℕ} → Laid s n → records_of s ≡ some (between s (offsets_of n s))
unfolding laid_out records_of count_of
laid_read {s} {n} k = by_test s tests ∙ ap (λ (m : ℕ). some (between s (offsets_of m s))) count
  where
    count : count_of s ≡ n
    count = omega arith

    tests : laid_out s ≡ true
    tests = rw (le-leb 4 (length s) (omega arith), le-leb 4 (offset_of s) (omega arith), eq-eqb (offset_of s % 4) 0 (omega arith), le-leb (offset_of s) (length s) (omega arith), count, k.in_order_lem)

    by_test : (t : List ℕ) → laid_out t ≡ true → records_of t ≡ some (between t (offsets_of (count_of t) t))
    by_test [] e = absurd (false≢true e)
    by_test (x ∷ t) e = rw e

-- records are read back from their list
pub list_read : (rs : List (List ℕ)) → 4 * length rs + length (joined rs) < 2 ^ 32 → records_of (list_bytes rs) ≡ some rs
unfolding records_of offsets_from offsets_of joined
list_read [] h = ap records_of list_empty
list_read (r ∷ rs) h =
    let all = r ∷ rs in
    let n = length all in
    let s = list_bytes all in
    let l = list_length all in
    let os : offsets_of n s ≡ starts (4 * n) all = offsets_starts (4 * n) all (joined all) h in
    let order : ordered (length s) (offsets_of n s) ≡ true = rw os (starts_ordered (4 * n) (length s) all (omega arith)) in
    let records : drop (4 * n) s ≡ joined all = drop_at (offsets_from (4 * n) all) (joined all) (4 * n) (offsets_length (4 * n) all) in
    let laid : Laid s n = record { present = omega arith; first = cc; inside = omega arith; in_order_lem = order } in
    laid_read laid ∙ rw (os, starts_between s (4 * n) all records)

-- there are as many records as offsets
pub between_length : (s os : List ℕ) → length (between s os) ≡ length os
unfolding between
between_length s [] = refl
between_length s (a ∷ []) = refl
between_length s (a ∷ b ∷ os) = ap suc (between_length s (b ∷ os))

-- n offsets are n
pub offsets_count : (n : ℕ) (s : List ℕ) → length (offsets_of n s) ≡ n
unfolding offsets_of
offsets_count zero s = refl
offsets_count (suc n) s = ap suc (offsets_count n (drop 4 s))

-- the records of bytes are bytes
between_bytes : (s os : List ℕ) → Bytes s → AllBytes (between s os)
unfolding between
between_bytes s [] b = tt
between_bytes s (a ∷ []) b = (bytes_drop a s b, tt)
between_bytes s (a ∷ c ∷ os) b = (bytes_take (c - a) (drop a s) (bytes_drop a s b), between_bytes s (c ∷ os) b)

-- the records together are what stands from the first offset on
between_joined : (s : List ℕ) (end a : ℕ) (os : List ℕ) → ordered end (a ∷ os) ≡ true → joined (between s (a ∷ os)) ≡ drop a s
unfolding between joined ordered
between_joined s end a [] e = append-nil (drop a s)
between_joined s end a (b ∷ os) e =
    let p = both (leb a b) (ordered end (b ∷ os)) e in
    let n : a + (b - a) ≡ b = omega (arith, leb-true a b p.0) in
    ap (λ (l : List ℕ). take (b - a) (drop a s) ++ l)
    (between_joined s end b os p.1 ∙ sym (drop-drop (b - a) a s ∙ ap (λ (m : ℕ). drop m s) n))
    ∙ take-append-drop (b - a) (drop a s)

-- the first offset does not pass the end
ordered_end : (end a : ℕ) (os : List ℕ) → ordered end (a ∷ os) ≡ true → a ≤ end
unfolding ordered
ordered_end end a [] e = leb-true a end e
ordered_end end a (b ∷ os) e =
    let p = both (leb a b) (ordered end (b ∷ os)) e in
    omega (arith, leb-true a b p.0, ordered_end end b os p.1)

-- the records start at the offsets
between_starts : (s : List ℕ) (a : ℕ) (os : List ℕ) → ordered (length s) (a ∷ os) ≡ true → starts a (between s (a ∷ os)) ≡ a ∷ os
unfolding between ordered
between_starts s a [] e = refl
between_starts s a (b ∷ os) e =
    let p = both (leb a b) (ordered (length s) (b ∷ os)) e in
    let le = leb-true a b p.0 in
    let end = ordered_end (length s) b os p.1 in
    let n : a + length (take (b - a) (drop a s)) ≡ b = simp (length-take, length-drop) (omega arith) in
    ap (λ (l : List ℕ). a ∷ l) (ap (λ (m : ℕ). starts m (between s (b ∷ os))) n ∙ between_starts s b os p.1)

-- the bytes of offsets that were read are the bytes that were read
starts_offsets : (at : ℕ) (rs : List (List ℕ)) (s : List ℕ) → Bytes s → 4 * length rs ≤ length s
    → starts at rs ≡ offsets_of (length rs) s → offsets_from at rs ≡ take (4 * length rs) s
unfolding offsets_from offsets_of
starts_offsets at [] s b h e = refl
starts_offsets at (r ∷ rs) s b h e =
    let head : at ≡ offset_of s = cc in
    let tail : starts (at + length r) rs ≡ offsets_of (length rs) (drop 4 s) = cc in
    let n : 4 * suc (length rs) ≡ 4 + 4 * length rs = omega arith in
    let l : 4 * length rs ≤ length (drop 4 s) = simp length-drop (omega arith) in
    ap₂ (λ (x y : List ℕ). x ++ y)
    (ap offset head ∙ read_offset s b (omega arith))
    (starts_offsets (at + length r) rs (drop 4 s) (bytes_drop 4 s b) l tail)
    ∙ sym (ap (λ (m : ℕ). take m s) n ∙ take-add 4 (4 * length rs) s)

-- a list that passes the test is laid out for as many records as its first offset says
pub test_laid : (s : List ℕ) → laid_out s ≡ true → Laid s (count_of s)
unfolding laid_out count_of
test_laid s e =
    let o = offset_of s in
    let p = both (leb 4 (length s) && leb 4 o && eqb (o % 4) 0 && leb o (length s)) (ordered (length s) (offsets_of (count_of s) s)) e in
    let q = all_four (leb 4 (length s)) (leb 4 o) (eqb (o % 4) 0) (leb o (length s)) p.0 in
    let least = leb-true 4 o q.1 in
    let whole = eqb-true (o % 4) 0 q.2 in
    let most = leb-true o (length s) q.3 in
    record { present = omega arith; first = omega arith; inside = omega arith; in_order_lem = p.1 }

-- where records were read from the bytes of a list: its layout, and the records between its offsets
pub record Listed (s : List ℕ) (rs : List (List ℕ)) : Type 0 where
  pub laid : Laid s (length rs)
  pub records : rs ≡ between s (offsets_of (length rs) s)

-- a list that has bytes and is read is such a one
pub read_laid : (x : ℕ) (s : List ℕ) (rs : List (List ℕ)) → records_of (x ∷ s) ≡ some rs → Listed (x ∷ s) rs
unfolding records_of
read_laid x t rs e = go (laid_out s) refl e
  where
    s : List ℕ
    s = x ∷ t

    go : (b : Bool) → laid_out s ≡ b → cond b (some (between s (offsets_of (count_of s) s))) none ≡ some rs → Listed s rs
    go true h w =
        let is = some-injective (between s (offsets_of (count_of s) s)) rs w in
        let n : length rs ≡ count_of s = ap length (sym is) ∙ between_length s (offsets_of (count_of s) s) ∙ offsets_count (count_of s) s in
        record { laid = rw n (test_laid s h); records = sym is ∙ ap (λ (m : ℕ). between s (offsets_of m s)) (sym n) }
    go false h w = absurd (none-ne-some rs w)

-- the bytes of a list that is laid out for n records come back from those between its offsets
listed_bytes : (n : ℕ) (s : List ℕ) (rs : List (List ℕ)) → Bytes s → Laid s n → length rs ≡ n → rs ≡ between s (offsets_of n s)
    → list_bytes rs ≡ s
unfolding offsets_of
listed_bytes zero s rs b k l is = absurd (omega arith)
listed_bytes (suc n) s rs b k l is =
    let o = offset_of s in
    let os = offsets_of n (drop 4 s) in
    let m : 4 * length rs ≡ o = omega arith in
    let places : starts o rs ≡ offsets_of (length rs) s =
    ap (starts o) is ∙ between_starts s o os k.in_order_lem ∙ ap (λ (i : ℕ). offsets_of i s) (sym l) in
    let front : offsets_from (4 * length rs) rs ≡ take o s =
    ap (λ (i : ℕ). offsets_from i rs) m ∙ starts_offsets o rs s b (omega arith) places ∙ ap (λ (i : ℕ). take i s) m in
    let back : joined rs ≡ drop o s = ap joined is ∙ between_joined s (length s) o os k.in_order_lem in
    ap₂ (λ (x y : List ℕ). x ++ y) front back ∙ take-append-drop o s

-- the bytes of a list come back from the records that were read
pub read_list : (s : List ℕ) (rs : List (List ℕ)) → Bytes s → records_of s ≡ some rs → list_bytes rs ≡ s
unfolding records_of offsets_from joined
read_list [] rs b e = ap list_bytes (sym (some-injective [] rs e))
read_list (x ∷ s) rs b e =
    let h = read_laid x s rs e in
    listed_bytes (length rs) (x ∷ s) rs b h.laid refl h.records

-- the records that were read from bytes are bytes
pub read_bytes : (s : List ℕ) (rs : List (List ℕ)) → Bytes s → records_of s ≡ some rs → AllBytes rs
unfolding records_of
read_bytes [] rs b e = subst AllBytes (some-injective [] rs e) tt
read_bytes (x ∷ s) rs b e =
    subst⁻¹ AllBytes (read_laid x s rs e).records (between_bytes (x ∷ s) (offsets_of (length rs) (x ∷ s)) b)
