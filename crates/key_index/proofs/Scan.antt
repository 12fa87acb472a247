-- The pass of `is_good`. `Scan` is what holds at the loop's head: the rules of the index are the rules on the keys from place i on, the
-- first of them farther than `last`. The laws on the key that a turn reads are the ways that a turn ends. Assumes nothing.
use Prim.Native.Nat.{ℕ, zero, suc, ◌+◌, ◌-◌, ◌*◌, ◌≤◌, ◌<◌}
use native.Mathlib.Numerals.{add-one}
use native.Mathlib.Omega.{arith}
use mathlib.Core.Path.{◌≡◌, sym, ap, ap₂, ◌∙◌}
use mathlib.Core.Bool.{true, false, ◌&&◌, and-false}
use mathlib.Core.List.{List, ◌∷◌}
use lib.Dec.{leb}
use lib.ListN.{get_or, take, drop}
use lib.Seq.{drop-drop, get_or-drop, get_or-take}
use borrow.Author.Tests.{le-leb, lt-leb}
use Rattle.octets.specs.Bytes.{be, le}
use Rattle.octets.specs.Parts.{bytes_at}
use Rattle.octets.proofs.Parts.{le_part}
use Rattle.distance.specs.Distance.{xor_of}
use Rattle.content_key.specs.Id.{id_of}
use Rattle.content_key.specs.Key.{selector_of, block_of, key_id}
use Rattle.key_index.specs.View.{view_of, chunks}
use Rattle.key_index.specs.Good.{away_from, good_from, good}
use Rattle.key_index.proofs.Chunks.{chunks_length, chunks_rest, drop_take}

-- an index with too many keys is bad
pub good_many : (limit : ℕ) (node cap bytes : List ℕ) (count : ℕ) → limit < count → good limit (view_of node cap bytes count) ≡ false
unfolding good
good_many limit node cap bytes count h = rw (chunks_length count bytes, lt-leb count limit h)

-- one step of the rules, by what is known of the first key
module _ (node : List ℕ) (cap from : ℕ) (k : List ℕ) (ks : List (List ℕ)) where
  bad_selector : 1 < selector_of k → good_from node cap from (k ∷ ks) ≡ false
  unfolding good_from
  bad_selector h = rw (lt-leb (selector_of k) 1 h)

  bad_order : away_from node k < from → good_from node cap from (k ∷ ks) ≡ false
  unfolding good_from
  bad_order h = rw (lt-leb from (away_from node k) h, and-false (leb (selector_of k) 1))

  bad_cap : cap < away_from node k → good_from node cap from (k ∷ ks) ≡ false
  unfolding good_from
  bad_cap h = rw (lt-leb (away_from node k) cap h, and-false (leb (selector_of k) 1 && leb from (away_from node k)))

  kept : selector_of k ≤ 1 → from ≤ away_from node k → away_from node k ≤ cap
      → good_from node cap from (k ∷ ks) ≡ good_from node cap (suc (away_from node k)) ks
  unfolding good_from
  kept s f w = rw (le-leb (selector_of k) 1 s, le-leb from (away_from node k) f, le-leb (away_from node k) cap w)

-- the least distance for the key at place i, after one at the distance `last`
abbrev low : ℕ → ℕ → ℕ
low zero last = 0
low (suc i) last = suc last

low_over : (i last d : ℕ) → 0 < i → d ≤ last → d < low i last
low_over zero last d h k = absurd (omega arith)
low_over (suc i) last d h k = omega arith

low_under : (i last d : ℕ) → (0 < i → last < d) → low i last ≤ d
low_under zero last d h = omega arith
low_under (suc i) last d h = h (omega arith)

pub record Scan (limit : ℕ) (node cap bytes : List ℕ) (count : ℕ) (last : List ℕ) (i : ℕ) : Type 0 where
  pub few : count ≤ limit
  pub inside : i ≤ count
  pub same : good limit (view_of node cap bytes count) ≡ good_from node (be cap) (low i (be last)) (chunks (count - i) (drop (9 * i) bytes))

-- before the first turn
pub scan_start : (limit : ℕ) (node cap bytes : List ℕ) (count : ℕ) (last : List ℕ) → count ≤ limit → Scan limit node cap bytes count last 0
unfolding good
scan_start limit node cap bytes count last few =
    let e : count ≡ count - 0 = omega arith in
    record {
      few = few;
      inside = omega arith;
      same = rw (chunks_length count bytes, le-leb count limit few) (ap (λ (n : ℕ). good_from node (be cap) 0 (chunks n bytes)) e);
    }

-- after the last one
pub scan_end : {limit : ℕ} {node cap bytes : List ℕ} {count : ℕ} {last : List ℕ} {i : ℕ} → Scan limit node cap bytes count last i → count ≤ i
    → true ≡ good limit (view_of node cap bytes count)
unfolding good_from chunks
scan_end {limit} {node} {cap} {bytes} {count} {last} {i} s h =
    let e : count - i ≡ 0 = omega arith in
    sym (s.same ∙ ap (λ (n : ℕ). good_from node (be cap) (low i (be last)) (chunks n (drop (9 * i) bytes))) e)

-- a key as the code reads it, its bytes past the end 0, and as the list has it: they have one selector and one id
part_selector : (n : ℕ) (bytes : List ℕ) → selector_of (bytes_at 9 n bytes) ≡ selector_of (take 9 (drop n bytes))
part_selector n bytes =
    let e : n ≡ n + 0 = omega arith in
    ap (λ (k : ℕ). get_or bytes k 0) e ∙ sym (get_or-take 9 (drop n bytes) 0 0 (omega arith) ∙ get_or-drop n bytes 0 0)

part_block : (n : ℕ) (bytes : List ℕ) → block_of (bytes_at 9 n bytes) ≡ block_of (take 9 (drop n bytes))
part_block n bytes =
    le_part 8 (suc n) bytes
    ∙ ap (λ (l : List ℕ). le (take 8 l)) (sym (drop-drop 1 n bytes ∙ ap (λ (k : ℕ). drop k bytes) (add-one n)))
    ∙ ap le (sym (drop_take 1 8 (drop n bytes)))

part_away : (node : List ℕ) (n : ℕ) (bytes : List ℕ) → away_from node (bytes_at 9 n bytes) ≡ away_from node (take 9 (drop n bytes))
part_away node n bytes = ap₂ (λ (s b : ℕ). be (xor_of node (id_of s b))) (part_selector n bytes) (part_block n bytes)

-- the distance of the key that a turn reads
abbrev read_away : List ℕ → List ℕ → ℕ → ℕ
read_away node bytes i = be (xor_of node (key_id (bytes_at 9 (i * 9) bytes)))

-- the ways that a turn at place i ends, by the key that it reads there. Each law begins with the test of the rules from place i on, by
-- which `grind` finds it at a return and at the next turn
module _ (node cap last bytes : List ℕ) (i count : ℕ) (more : i < count) where
  split : good_from node (be cap) (low i (be last)) (chunks (count - i) (drop (9 * i) bytes))
      ≡ good_from node (be cap) (low i (be last)) (take 9 (drop (9 * i) bytes) ∷ chunks (count - suc i) (drop (9 * suc i) bytes))
  split = ap (good_from node (be cap) (low i (be last))) (chunks_rest count i bytes more)

  its_selector : get_or (bytes_at 9 (i * 9) bytes) 0 0 ≡ selector_of (take 9 (drop (9 * i) bytes))
  its_selector = let e : i * 9 ≡ 9 * i = omega arith in ap (λ (n : ℕ). selector_of (bytes_at 9 n bytes)) e ∙ part_selector (9 * i) bytes

  its_distance : read_away node bytes i ≡ away_from node (take 9 (drop (9 * i) bytes))
  its_distance = let e : i * 9 ≡ 9 * i = omega arith in ap (λ (n : ℕ). away_from node (bytes_at 9 n bytes)) e ∙ part_away node (9 * i) bytes

  -- the selector is neither 0 nor 1
  pub turn_selector : 1 < get_or (bytes_at 9 (i * 9) bytes) 0 0
      → good_from node (be cap) (low i (be last)) (chunks (count - i) (drop (9 * i) bytes)) ≡ false
  turn_selector b = split ∙ bad_selector node (be cap) (low i (be last)) _ _ (omega (arith, its_selector))

  -- the key is not farther than the one before
  pub turn_order : 0 < i → read_away node bytes i ≤ be last
      → good_from node (be cap) (low i (be last)) (chunks (count - i) (drop (9 * i) bytes)) ≡ false
  turn_order z b =
      split ∙ bad_order node (be cap) (low i (be last)) _ _ (low_over i (be last) _ z (omega (arith, its_distance)))

  -- the key is beyond the cap
  pub turn_cap : be cap < read_away node bytes i
      → good_from node (be cap) (low i (be last)) (chunks (count - i) (drop (9 * i) bytes)) ≡ false
  turn_cap b = split ∙ bad_cap node (be cap) (low i (be last)) _ _ (omega (arith, its_distance))

  -- the key keeps the rules
  pub turn_next : get_or (bytes_at 9 (i * 9) bytes) 0 0 ≤ 1 → (0 < i → be last < read_away node bytes i) → read_away node bytes i ≤ be cap
      → good_from node (be cap) (low i (be last)) (chunks (count - i) (drop (9 * i) bytes))
      ≡ good_from node (be cap) (low (i + 1) (read_away node bytes i)) (chunks (count - (i + 1)) (drop (9 * (i + 1)) bytes))
  turn_next b o w =
      rw (add-one i)
      (split
      ∙ kept node (be cap) (low i (be last)) _ _ (omega (arith, its_selector))
      (low_under i (be last) _ (λ z. omega (arith, its_distance, o z)))
      (omega (arith, its_distance))
      ∙ ap (λ (n : ℕ). good_from node (be cap) (suc n) (chunks (count - suc i) (drop (9 * suc i) bytes))) (sym its_distance))
