-- The turns of the two loops that write a list of records: `Offsets` and `Records` are what holds at their heads, and each has its start, its
-- step and its end. The two together are the list's bytes. Assumes nothing.
use Prim.Native.Nat.{ℕ, zero, suc, ◌+◌, ◌*◌, ◌≤◌, ◌<◌}
use native.Mathlib.Numerals.{add-one, unary_clauses}
use native.Mathlib.Omega.{arith}
use mathlib.Core.Path.{◌≡◌, refl, sym, ap, ap₂, subst, ◌∙◌}
use mathlib.Core.List.{List, [], ◌∷◌, ◌++◌, append_assoc, append-nil}
use lib.ListN.{length, get_or, length-append}
use Rattle.octets.specs.Buffer.{placed}
use Rattle.octets.proofs.Numbers.{le_bytes_length}
use Rattle.message.specs.Encode.{offset, offsets_from, joined, list_bytes}
use Rattle.message.specs.Reading.{part_at, records_at, records_of_places, PlacesInside}
use Rattle.message.specs.declared.Places.{Places}
use Rattle.message_rules.proofs.Places.{part_length, records_length}
use Rattle.message_write.specs.Parts.{Put, sum_to, offsets_to}
use Rattle.message_write.proofs.Sums.{sum_none, sum_more, sum_rise}
use Rattle.message_write.proofs.Puts.{put_placed, put_none, put_more}

-- one record more
offsets_more : (first : ℕ) (lens : List ℕ) (i : ℕ) → offsets_to first lens (i + 1) ≡ offsets_to first lens i ++ offset (first + sum_to lens i)
unfolding offsets_to
offsets_more first lens i = rw add-one

pub offsets_size : (first : ℕ) (lens : List ℕ) (i : ℕ) → length (offsets_to first lens i) ≡ 4 * i
unfolding offsets_to
offsets_size first lens zero = refl
offsets_size first lens (suc i) =
    let o = offset (first + sum_to lens i) in
    omega (arith, length-append (offsets_to first lens i) o, le_bytes_length 4 (first + sum_to lens i), offsets_size first lens i)

records_more : (s starts lens : List ℕ) (i : ℕ)
    → records_at s starts lens (i + 1) ≡ records_at s starts lens i ++ (part_at s (get_or starts i 0) (get_or lens i 0) ∷ [])
unfolding records_at
records_more s starts lens i = rw add-one

joined_more : (rs : List (List ℕ)) (r : List ℕ) → joined (rs ++ (r ∷ [])) ≡ joined rs ++ r
unfolding joined
joined_more [] r = append-nil r
joined_more (q ∷ rs) r = ap (λ (l : List ℕ). q ++ l) (joined_more rs r) ∙ sym (append_assoc q (joined rs) r)

-- the offsets are written one by one
pub record Offsets (lens : List ℕ) (count at : ℕ) (d out : List ℕ) (next i : ℕ) : Type 0 where
  pub turn : i ≤ count
  pub few : count ≤ 32
  pub room : at + (4 * count + sum_to lens count) ≤ length d
  pub put : Put d at (offsets_to (4 * count) lens i) out
  pub same : length out ≡ length d
  pub to : next ≡ 4 * count + sum_to lens i

module _ (lens : List ℕ) (count at : ℕ) (d : List ℕ) where
  pub offsets_start : (next : ℕ) → next ≡ 4 * count → count ≤ 32 → at + (4 * count + sum_to lens count) ≤ length d → Offsets lens count at d d next 0
  unfolding offsets_to
  offsets_start next first few room =
      record {
        turn = omega arith;
        few = few;
        room = room;
        put = put_none d at (omega arith);
        same = refl;
        to = omega (arith, sum_none lens);
      }

  module _ (out : List ℕ) (next i : ℕ) (o : Offsets lens count at d out next i) where
    -- neither the next offset nor the one after it is past the buffer
    pub offsets_fit : i < count → (at + 4 * i + 4 ≤ length d) × (next + get_or lens i 0 ≤ length d)
    offsets_fit h =
        let rise = sum_rise lens (i + 1) count (omega arith) in
        let more = sum_more lens i in
        (omega arith, omega arith)

    pub offsets_next : i < count → (four a : List ℕ) (to : ℕ) → four ≡ offset next → a ≡ placed out to four → to ≡ at + 4 * i
        → (after : ℕ) → after ≡ next + get_or lens i 0 → Offsets lens count at d a after (i + 1)
    offsets_next h four a to is as-placed there after more =
        let size : length four ≡ 4 = ap length is ∙ le_bytes_length 4 next in
        let room = (offsets_fit h).0 in
        let p = put_placed out to four a (omega (arith, o.same)) as-placed in
        let q = put_more d at (offsets_to (4 * count) lens i) out o.put to (omega (arith, offsets_size (4 * count) lens i)) four a p in
        record {
          turn = omega arith;
          few = o.few;
          room = o.room;
          put = subst (λ (l : List ℕ). Put d at l a)
              (ap (λ (l : List ℕ). offsets_to (4 * count) lens i ++ l) (is ∙ ap offset o.to) ∙ sym (offsets_more (4 * count) lens i)) q;
          same = q.kept;
          to = omega (arith, sum_more lens i, o.to);
        }

    pub offsets_end : count ≤ i → Put d at (offsets_to (4 * count) lens count) out
    offsets_end h =
        let last : i ≡ count = omega (arith, o.turn) in
        subst (λ (k : ℕ). Put d at (offsets_to (4 * count) lens k) out) last o.put

-- the first records have as many bytes as their lengths say
pub joined_size : (s : List ℕ) (p : Places) → PlacesInside s p → (i : ℕ) → i ≤ p.count → length (joined (records_at s p.starts p.lens i)) ≡ sum_to p.lens i
unfolding records_at joined sum_to
joined_size s p k zero h = refl
joined_size s p k (suc i) h =
    let rs = records_at s p.starts p.lens i in
    let r = part_at s (get_or p.starts i 0) (get_or p.lens i 0) in
    omega (
      arith,
      ap length (joined_more rs r),
      length-append (joined rs) r,
      joined_size s p k i (omega arith),
      part_length s (get_or p.starts i 0) (get_or p.lens i 0) (k.inside i (omega arith)),
    )

-- the records are written one by one
pub record Records (s : List ℕ) (p : Places) (at : ℕ) (d out : List ℕ) (next i : ℕ) : Type 0 where
  pub turn : i ≤ p.count
  pub inside : PlacesInside s p
  pub room : at + sum_to p.lens p.count ≤ length d
  pub put : Put d at (joined (records_at s p.starts p.lens i)) out
  pub same : length out ≡ length d
  pub to : next ≡ at + sum_to p.lens i

module _ (s : List ℕ) (p : Places) (at : ℕ) (d : List ℕ) where
  pub records_start : (next : ℕ) → next ≡ at → PlacesInside s p → at + sum_to p.lens p.count ≤ length d → Records s p at d d next 0
  unfolding records_at joined
  records_start next first k room =
      record {
        turn = omega arith;
        inside = k;
        room = room;
        put = put_none d at (omega arith);
        same = refl;
        to = omega (arith, sum_none p.lens);
      }

  module _ (out : List ℕ) (next i : ℕ) (o : Records s p at d out next i) where
    -- the next record is not past the buffer, and within the bytes
    pub records_fit : i < p.count → (next + get_or p.lens i 0 ≤ length d) × (get_or p.starts i 0 + get_or p.lens i 0 ≤ length s)
    records_fit h =
        let rise = sum_rise p.lens (i + 1) p.count (omega arith) in
        let more = sum_more p.lens i in
        (omega arith, o.inside.inside i h)

    pub records_next : i < p.count → (r a : List ℕ) (to : ℕ) → r ≡ part_at s (get_or p.starts i 0) (get_or p.lens i 0) → a ≡ placed out to r → to ≡ next
        → (after : ℕ) → after ≡ next + get_or p.lens i 0 → Records s p at d a after (i + 1)
    records_next h r a to is as-placed there after more =
        let rs = records_at s p.starts p.lens i in
        let size = joined_size s p o.inside i (omega arith) in
        let long : length r ≡ get_or p.lens i 0 = ap length is ∙ part_length s (get_or p.starts i 0) (get_or p.lens i 0) (o.inside.inside i h) in
        let room = (records_fit h).0 in
        let p1 = put_placed out to r a (omega (arith, o.same)) as-placed in
        let q = put_more d at (joined rs) out o.put to (omega (arith, o.to)) r a p1 in
        record {
          turn = omega arith;
          inside = o.inside;
          room = o.room;
          put = subst (λ (l : List ℕ). Put d at l a)
              (ap (λ (l : List ℕ). joined rs ++ l) is
              ∙ sym (ap joined (records_more s p.starts p.lens i) ∙ joined_more rs (part_at s (get_or p.starts i 0) (get_or p.lens i 0)))) q;
          same = q.kept;
          to = omega (arith, sum_more p.lens i, o.to);
        }

    pub records_end : p.count ≤ i → Put d at (joined (records_of_places s p)) out
    records_end h =
        let last : i ≡ p.count = omega (arith, o.turn) in
        subst (λ (k : ℕ). Put d at (joined (records_at s p.starts p.lens k)) out) last o.put

-- one offset more at the end
offsets_behind : (first : ℕ) (rs : List (List ℕ)) (r : List ℕ)
    → offsets_from first (rs ++ (r ∷ [])) ≡ offsets_from first rs ++ offset (first + length (joined rs))
unfolding offsets_from joined
offsets_behind first [] r = append-nil (offset first) ∙ simp unary_clauses
offsets_behind first (q ∷ rs) r =
    let sum : first + length q + length (joined rs) ≡ first + length (q ++ joined rs) = omega (arith, length-append q (joined rs)) in
    ap (λ (l : List ℕ). offset first ++ l) (offsets_behind (first + length q) rs r)
    ∙ sym (append_assoc (offset first) (offsets_from (first + length q) rs) (offset (first + length q + length (joined rs))))
    ∙ ap (λ (n : ℕ). offset first ++ offsets_from (first + length q) rs ++ offset n) sum

module _ (s : List ℕ) (p : Places) (k : PlacesInside s p) where
  offsets_same : (first i : ℕ) → i ≤ p.count → offsets_from first (records_at s p.starts p.lens i) ≡ offsets_to first p.lens i
  unfolding offsets_from offsets_to records_at
  offsets_same first zero h = refl
  offsets_same first (suc i) h =
      offsets_behind first (records_at s p.starts p.lens i) (part_at s (get_or p.starts i 0) (get_or p.lens i 0))
      ∙ ap₂ (λ (l : List ℕ) (m : ℕ). l ++ offset (first + m)) (offsets_same first i (omega arith)) (joined_size s p k i (omega arith))

  -- what both loops write is the list
  pub list_same : offsets_to (4 * p.count) p.lens p.count ++ joined (records_of_places s p) ≡ list_bytes (records_of_places s p)
  list_same =
      let rs = records_of_places s p in
      ap (λ (l : List ℕ). l ++ joined rs)
      (sym (ap (λ (m : ℕ). offsets_from (4 * m) rs) (records_length s p.starts p.lens p.count) ∙ offsets_same (4 * p.count) p.count (omega arith)))

  -- and its size is what was counted
  pub list_size : length (list_bytes (records_of_places s p)) ≡ 4 * p.count + sum_to p.lens p.count
  list_size =
      let rs = records_of_places s p in
      sym (ap length list_same)
      ∙ omega (arith, length-append (offsets_to (4 * p.count) p.lens p.count) (joined rs), offsets_size (4 * p.count) p.lens p.count, joined_size s p k p.count (omega arith))
