-- Where a key stands in a list of keys. Each law goes by recursion on the list, with the two outcomes of the test for equal bytes as a
-- helper. Assumes nothing.
use Prim.Native.Nat.{ℕ, zero, suc, ◌+◌, ◌-◌, ◌*◌, ◌<◌}
use native.Mathlib.Decide.{dec_lt}
use native.Mathlib.Nat.{zero-add}
use native.Mathlib.Numerals.{add-one}
use native.Mathlib.Omega.{arith}
use mathlib.Core.Path.{◌≡◌, refl, sym, ap, ap₂, ◌∙◌}
use mathlib.Core.Bool.{Bool, true, false, cond, ◌||◌, true≢false}
use mathlib.Core.List.{List, [], ◌∷◌, ◌++◌}
use lib.ListN.{length, get_or, take, drop, length-take, length-drop}
use lib.Pointwise.{pointwise}
use lib.Seq.{take_all}
use Rattle.std.specs.Prelude.{Option, Some, None, nat_eq, position}
use Rattle.std.specs.List.{position_from}
use Rattle.std.specs.Option.{is_some}
use Rattle.std.proofs.lemmas.Iterator.Adapters.{position_from-zero}
use Rattle.octets.specs.Equal.{same_bytes, holds}
use Rattle.octets.proofs.Equal.{same_true, same_pointwise, differ_length}
use Rattle.key_index.specs.View.{chunks}
use Rattle.key_index.proofs.Chunks.{chunks_length, chunks_add, take_chunks}
use Rattle.key_index.specs.Search.{place_from, place_of}

-- the key stands at place j, with the places counted from i
record Found (i : ℕ) (key : List ℕ) (keys : List (List ℕ)) (j : ℕ) : Type 0 where
  place : ℕ
  counted : j ≡ i + place
  inside : place < length keys
  is : get_or keys place [] ≡ key

found : (i : ℕ) (key : List ℕ) (keys : List (List ℕ)) (j : ℕ) → place_from i key keys ≡ Some j → Found i key keys j
unfolding place_from
found i key [] j e = let z : ◌≡◌ {A = ℕ} 0 1 = cc in absurd (omega arith)
found i key (k ∷ ks) j e = go (same_bytes key k) refl e (λ f. found (suc i) key ks j f)
  where
    later : Found (suc i) key ks j → Found i key (k ∷ ks) j
    later f =
        record {
          place = suc f.place;
          counted = let h = f.counted in omega arith;
          inside = let h = f.inside in omega arith;
          is = f.is;
        }

    go : (t : Bool) → same_bytes key k ≡ t → cond t (Some i) (place_from (suc i) key ks) ≡ Some j
        → (place_from (suc i) key ks ≡ Some j → Found (suc i) key ks j) → Found i key (k ∷ ks) j
    go true q f below =
        let h : i ≡ j = cc in
        record { place = 0; counted = omega arith; inside = omega arith; is = sym (same_true key k q) }
    go false q f below = later (below f)

-- a place that is found is inside the list
pub place_inside : (key : List ℕ) (keys : List (List ℕ)) (i : ℕ) → place_of key keys ≡ Some i → i < length keys
place_inside key keys i e = let f = found 0 key keys i e in omega (arith, f.counted, f.inside)

-- and has the key
pub place_is : (key : List ℕ) (keys : List (List ℕ)) (i : ℕ) → place_of key keys ≡ Some i → get_or keys i [] ≡ key
place_is key keys i e =
    let f = found 0 key keys i e in
    ap (λ (n : ℕ). get_or keys n []) (f.counted ∙ zero-add f.place) ∙ f.is

from_held : (i : ℕ) (key : List ℕ) (keys : List (List ℕ)) → is_some (place_from i key keys) ≡ holds same_bytes key keys
unfolding place_from holds
from_held i key [] = refl
from_held i key (k ∷ ks) = go (same_bytes key k) (from_held (suc i) key ks)
  where
    go : (t : Bool) → is_some (place_from (suc i) key ks) ≡ holds same_bytes key ks
        → is_some (cond t (Some i) (place_from (suc i) key ks)) ≡ (t || holds same_bytes key ks)
    go true h = refl
    go false h = h

-- a place is found if the list holds the key, and else not
pub place_held : (key : List ℕ) (keys : List (List ℕ)) → is_some (place_of key keys) ≡ holds same_bytes key keys
place_held key keys = from_held 0 key keys

-- a key that is found is held
pub at_held : (key : List ℕ) (keys : List (List ℕ)) (i : ℕ) → place_of key keys ≡ Some i → holds same_bytes key keys ≡ true
at_held key keys i e = sym (place_held key keys) ∙ ap is_some e

-- a key that is not found is not held
pub nothing_held : (key : List ℕ) (keys : List (List ℕ)) → place_of key keys ≡ None → holds same_bytes key keys ≡ false
nothing_held key keys e = sym (place_held key keys) ∙ ap is_some e

-- a key that is held is found
pub held_at : (key : List ℕ) (keys : List (List ℕ)) → holds same_bytes key keys ≡ true → (i : ℕ) × (place_of key keys ≡ Some i)
held_at key keys h = go (place_of key keys) refl
  where
    go : (p : Option ℕ) → place_of key keys ≡ p → (i : ℕ) × (place_of key keys ≡ Some i)
    go (Some i) e = (i, e)
    go None e = absurd (true≢false (sym h ∙ nothing_held key keys e))

-- no key has the bytes where fewer than nine are left
none_left : (n i : ℕ) (key b : List ℕ) → length key ≡ 9 → length b < 9 → place_from i key (chunks n b) ≡ None
unfolding place_from chunks
none_left zero i key b l h = refl
none_left (suc n) i key b l h =
    rw (differ_length key (take 9 b) (λ e. omega (arith, length-take 9 b)))
    (none_left n (suc i) key (drop 9 b) l (omega (arith, length-drop 9 b)))

-- what stands behind the keys does not matter where the key is not in it
place_front : (i : ℕ) (key : List ℕ) (xs ys : List (List ℕ)) → ((j : ℕ) → place_from j key ys ≡ None) → place_from i key (xs ++ ys) ≡ place_from i key xs
unfolding place_from
place_front i key [] ys h = h i
place_front i key (x ∷ xs) ys h = ap (λ (p : Option ℕ). cond (same_bytes key x) (Some i) p) (place_front (suc i) key xs ys h)

-- a key is looked for among no more keys than the array has
pub place_taken : (limit count : ℕ) (key b : List ℕ) → length key ≡ 9 → length b < 9 + 9 * limit
    → place_of key (take limit (chunks count b)) ≡ place_of key (chunks count b)
place_taken limit count key b nine size = go (dec_lt limit count)
  where
    go : Dec (limit < count) → place_of key (take limit (chunks count b)) ≡ place_of key (chunks count b)
    go (yes h) =
        let e : count ≡ limit + (count - limit) = omega arith in
        ap (λ (k : ℕ). place_of key (take limit (chunks k b))) e
        ∙ ap (place_of key) (take_chunks limit (count - limit) b)
        ∙ sym (ap (λ (k : ℕ). place_of key (chunks k b)) e
        ∙ ap (place_of key) (chunks_add limit (count - limit) b)
        ∙ place_front 0 key (chunks limit b) (chunks (count - limit) (drop (9 * limit) b))
        (λ j. none_left (count - limit) j key (drop (9 * limit) b) nine (omega (arith, length-drop (9 * limit) b))))
    go (no h) = ap (place_of key) (take_all limit (chunks count b) (omega (arith, chunks_length count b)))

-- std's position, by the equality of slices, is the place
position_from_place : (i : ℕ) (key : List ℕ) (keys : List (List ℕ)) → position_from (λ (k : List ℕ). pointwise nat_eq key k) i keys ≡ place_from i key keys
unfolding place_from
position_from_place i key [] = refl
position_from_place i key (k ∷ ks) =
    ap₂ (λ (t : Bool) (p : Option ℕ). cond t (Some i) p) (same_pointwise key k)
    (ap (λ (j : ℕ). position_from (λ (x : List ℕ). pointwise nat_eq key x) j ks) (add-one i) ∙ position_from_place (suc i) key ks)

pub position_place : (key : List ℕ) (keys : List (List ℕ)) → position (λ (k : List ℕ). pointwise nat_eq key k) keys ≡ place_of key keys
position_place key keys = position_from-zero (λ (k : List ℕ). pointwise nat_eq key k) keys ∙ position_from_place 0 key keys
