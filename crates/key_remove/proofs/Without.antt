-- The keys without one of them: where it was found, what stays, what is gone, and that the rules of an index are kept. Each law goes by
-- recursion on the keys, with the two outcomes of the test for equal bytes as a helper. Assumes nothing.
use Prim.Native.Nat.{ℕ, suc, ◌+◌, ◌≤◌}
use native.Mathlib.Nat.{zero-add, le_trans}
use native.Mathlib.Omega.{arith}
use mathlib.Core.Path.{◌≡◌, refl, sym, ap, subst, ◌∙◌}
use mathlib.Core.Bool.{Bool, true, false, cond, not, ◌&&◌, ◌||◌, true≢false}
use mathlib.Core.Logic.{◌↔◌, ◌⊎◌, inl, inr}
use mathlib.Core.List.Memᴰ
use mathlib.Core.List.{List, [], ◌∷◌, ◌++◌, Memᴰ}
use lib.ListN.{length, take, drop}
use lib.Seq.{split_at}
use Rattle.octets.specs.Equal.{same_bytes, holds, all_different}
use Rattle.octets.proofs.Equal.{same_true, holds_member, member_holds}
use Rattle.key_index.specs.View.{View, with_keys}
use Rattle.key_index.specs.Good.{away_from, good}
use Rattle.key_index.specs.Calls.{is_held}
use Rattle.key_index.specs.Search.{place_from, place_of}
use Rattle.std.specs.Prelude.{Some}
use Rattle.key_index.specs.Keys.{Each}
use Rattle.key_index.specs.Rules.{SortedFrom}
use Rattle.key_index.proofs.Places.{place_inside, place_is, held_at}
use Rattle.key_index.proofs.Rules.{good_facts, facts_good}
use Rattle.key_remove.specs.Remove.{without, without_at, Split}

-- the keys around the place where the key was found, counted from i
record Around (i : ℕ) (key : List ℕ) (keys : List (List ℕ)) (j : ℕ) : Type 0 where
  place : ℕ
  counted : j ≡ i + place
  rest : without key keys ≡ without_at place keys

around : (i : ℕ) (key : List ℕ) (keys : List (List ℕ)) (j : ℕ) → place_from i key keys ≡ Some j → Around i key keys j
unfolding place_from without without_at
around i key [] j e = let z : ◌≡◌ {A = ℕ} 0 1 = cc in absurd (omega arith)
around i key (k ∷ ks) j e = go (same_bytes key k) refl e (λ f. around (suc i) key ks j f)
  where
    go : (t : Bool) → same_bytes key k ≡ t → cond t (Some i) (place_from (suc i) key ks) ≡ Some j
        → (place_from (suc i) key ks ≡ Some j → Around (suc i) key ks j) → Around i key (k ∷ ks) j
    go true q f below =
        let h : i ≡ j = cc in
        record { place = 0; counted = omega arith; rest = rw q }
    go false q f below =
        let b = below f in
        let h = b.counted in
        record { place = suc b.place; counted = omega arith; rest = rw q (ap (λ (l : List (List ℕ)). k ∷ l) b.rest) }

-- the keys before the place where the key is found, and those behind it, in the same order
pub without_place : (key : List ℕ) (keys : List (List ℕ)) (i : ℕ) → place_of key keys ≡ Some i → without key keys ≡ without_at i keys
without_place key keys i e =
    let a = around 0 key keys i e in
    a.rest ∙ sym (ap (λ (n : ℕ). without_at n keys) (a.counted ∙ zero-add a.place))

-- the others keep their order
pub without_split : (key : List ℕ) (keys : List (List ℕ)) → holds same_bytes key keys ≡ true → Split key keys
unfolding without_at
without_split key keys h =
    let at = held_at key keys h in
    let i = at.0 in
    record {
      before = take i keys;
      after = drop (suc i) keys;
      whole =
          split_at keys i [] (place_inside key keys i at.1)
          ∙ ap (λ (k : List ℕ). take i keys ++ k ∷ drop (suc i) keys) (place_is key keys i at.1);
      rest = without_place key keys i at.1;
    }

-- one key fewer
pub without_length : (key : List ℕ) (keys : List (List ℕ)) → holds same_bytes key keys ≡ true → suc (length (without key keys)) ≡ length keys
unfolding without holds
without_length key [] h = absurd (true≢false (sym h))
without_length key (k ∷ ks) h = go (same_bytes key k) h (without_length key ks)
  where
    go : (t : Bool) → (t || holds same_bytes key ks) ≡ true → (holds same_bytes key ks ≡ true → suc (length (without key ks)) ≡ length ks)
        → suc (length (cond t ks (k ∷ without key ks))) ≡ suc (length ks)
    go true f below = refl
    go false f below = ap suc (below f)

-- nothing new
pub without_in : (key : List ℕ) (keys : List (List ℕ)) {k : List ℕ} → Memᴰ k (without key keys) → Memᴰ k keys
unfolding without
without_in key [] m = m
without_in key (j ∷ ks) {k} m = go (same_bytes key j) m (without_in key ks)
  where
    kept : (Memᴰ k (without key ks) → Memᴰ k ks) → (k ≡ j) ⊎ Memᴰ k (without key ks) → Memᴰ k (j ∷ ks)
    kept below (inl e) = Memᴰ.head e
    kept below (inr n) = Memᴰ.tail (below n)

    go : (t : Bool) → Memᴰ k (cond t ks (j ∷ without key ks)) → (Memᴰ k (without key ks) → Memᴰ k ks) → Memᴰ k (j ∷ ks)
    go true n below = Memᴰ.tail n
    go false n below = kept below (Memᴰ.cases_cons n)

-- every other key stays
pub without_stays : (key : List ℕ) (keys : List (List ℕ)) {k : List ℕ} → Memᴰ k keys → (k ≡ key → ⊥) → Memᴰ k (without key keys)
unfolding without
without_stays key [] m other = m
without_stays key (j ∷ ks) {k} m other = go (same_bytes key j) refl (Memᴰ.cases_cons m) (λ n. without_stays key ks n other)
  where
    go : (t : Bool) → same_bytes key j ≡ t → (k ≡ j) ⊎ Memᴰ k ks → (Memᴰ k ks → Memᴰ k (without key ks))
        → Memᴰ k (cond t ks (j ∷ without key ks))
    go true q (inl e) below = absurd (other (e ∙ sym (same_true key j q)))
    go true q (inr n) below = n
    go false q (inl e) below = Memᴰ.head e
    go false q (inr n) below = Memᴰ.tail (below n)

differ_cons : (a b : Bool) → (not a && b) ≡ true → (a ≡ false) × (b ≡ true)
differ_cons true b e = absurd (true≢false (sym e))
differ_cons false b e = (refl, e)

-- the key is gone, where no two keys are equal
pub without_gone : (key : List ℕ) (keys : List (List ℕ)) → all_different same_bytes keys ≡ true → holds same_bytes key (without key keys) ≡ false
unfolding without holds all_different
without_gone key [] d = refl
without_gone key (k ∷ ks) d = go (same_bytes key k) refl (differ_cons (holds same_bytes k ks) (all_different same_bytes ks) d) (without_gone key ks)
  where
    go : (t : Bool) → same_bytes key k ≡ t → (holds same_bytes k ks ≡ false) × (all_different same_bytes ks ≡ true)
        → (all_different same_bytes ks ≡ true → holds same_bytes key (without key ks) ≡ false)
        → holds same_bytes key (cond t ks (k ∷ without key ks)) ≡ false
    go true q a below = ap (λ (l : List ℕ). holds same_bytes l ks) (same_true key k q) ∙ a.0
    go false q a below = rw q (below a.1)

-- a fact of each key is one of each that stays
pub without_each : (P : List ℕ → Type 0) (key : List ℕ) (keys : List (List ℕ)) → Each P keys → Each P (without key keys)
unfolding without
without_each P key [] h = tt
without_each P key (k ∷ ks) h = go (same_bytes key k) (without_each P key ks h.1)
  where
    go : (t : Bool) → Each P (without key ks) → Each P (cond t ks (k ∷ without key ks))
    go true below = h.1
    go false below = (h.0, below)

weaker : (node : List ℕ) (m n : ℕ) (keys : List (List ℕ)) → m ≤ n → SortedFrom node n keys → SortedFrom node m keys
weaker node m n [] l s = tt
weaker node m n (k ∷ ks) l s = (le_trans l s.0, s.1)

-- the keys stay strictly nearest first
pub without_sorted : (node : List ℕ) (from : ℕ) (key : List ℕ) (keys : List (List ℕ)) → SortedFrom node from keys → SortedFrom node from (without key keys)
unfolding without
without_sorted node from key [] s = tt
without_sorted node from key (k ∷ ks) s = go (same_bytes key k) (without_sorted node (suc (away_from node k)) key ks s.1)
  where
    go : (t : Bool) → SortedFrom node (suc (away_from node k)) (without key ks) → SortedFrom node from (cond t ks (k ∷ without key ks))
    go true below = weaker node from (suc (away_from node k)) ks (let h = s.0 in omega arith) s.1
    go false below = (s.0, below)

-- keys that are strictly nearest first are at least as far as the bound, and no two of them are equal
sorted_far : (node : List ℕ) (from : ℕ) (keys : List (List ℕ)) {k : List ℕ} → SortedFrom node from keys → Memᴰ k keys → from ≤ away_from node k
sorted_far node from [] s m = absurd (Memᴰ.not-nil m)
sorted_far node from (j ∷ ks) {k} s m = go (Memᴰ.cases_cons m) (sorted_far node (suc (away_from node j)) ks s.1)
  where
    go : (k ≡ j) ⊎ Memᴰ k ks → (Memᴰ k ks → suc (away_from node j) ≤ away_from node k) → from ≤ away_from node k
    go (inl e) below = subst (λ (l : List ℕ). from ≤ away_from node l) (sym e) s.0
    go (inr n) below = let h = s.0 in let f = below n in omega arith

sorted_different : (node : List ℕ) (from : ℕ) (keys : List (List ℕ)) → SortedFrom node from keys → all_different same_bytes keys ≡ true
unfolding all_different
sorted_different node from [] s = refl
sorted_different node from (k ∷ ks) s = go (holds same_bytes k ks) refl (sorted_different node (suc (away_from node k)) ks s.1)
  where
    go : (t : Bool) → holds same_bytes k ks ≡ t → all_different same_bytes ks ≡ true → (not t && all_different same_bytes ks) ≡ true
    go true q below =
        let h = sorted_far node (suc (away_from node k)) ks s.1 (holds_member k ks q) in
        absurd (omega arith)
    go false q below = below

module _ (limit : ℕ) (v : View) where
  -- no two keys of a good index are equal
  pub good_different : good limit v ≡ true → all_different same_bytes v.keys ≡ true
  good_different g = sorted_different v.node 0 v.keys (good_facts limit v g).each.sorted

  -- the members of a good index without a key: all its others
  pub good_members : (key : List ℕ) {k : List ℕ} → good limit v ≡ true
      → Memᴰ k (without key v.keys) ↔ (Memᴰ k v.keys × (k ≡ key → ⊥))
  good_members key {k} g = (λ m. (without_in key v.keys m, λ e. gone (Memᴰ.cast (sym e) m)), λ p. without_stays key v.keys p.0 p.1)
    where
      gone : Memᴰ key (without key v.keys) → ⊥
      gone m = true≢false (sym (member_holds key (without key v.keys) m) ∙ without_gone key v.keys (good_different g))

  -- an index with a key less is good
  pub good_without : (key : List ℕ) → good limit v ≡ true → is_held key v ≡ true → good limit (with_keys v (without key v.keys)) ≡ true
  good_without key g h =
      let f = good_facts limit v g in
      let few = f.few in
      facts_good limit (with_keys v (without key v.keys))
      (record {
        few = omega (arith, without_length key v.keys h);
        each =
            record {
              selectors = without_each _ key v.keys f.each.selectors;
              sorted = without_sorted v.node 0 key v.keys f.each.sorted;
              within = without_each _ key v.keys f.each.within;
            };
      })
