-- What a store call on a view of bytes comes to, case by case: each refusal with its reason, a key stored below the limit, and a key stored in
-- the place of the last one at the limit. The proof takes the tests in their order. Assumes nothing.
use Prim.Native.Nat.{ℕ, ◌≤◌, ◌<◌}
use native.Mathlib.Omega.{arith}
use mathlib.Core.Path.{◌≡◌, refl, sym, ap, subst, ◌∙◌}
use mathlib.Core.Bool.{Bool, true, false, true≢false}
use mathlib.Core.List.{List}
use lib.Dec.{leb, ltb, eqb}
use lib.ListN.{length}
use borrow.Author.Tests.{eqb-true, eqb-false, leb-true, leb-false, ltb-true, ltb-false}
use Rattle.refusal.specs.Says.{only}
use Rattle.refusal.specs.Outcome.{Outcome}
use Rattle.octets.specs.Bytes.{Bytes, be}
use Rattle.octets.proofs.Equal.{holds_member, member_holds}
use Rattle.content_key.specs.Key.{selector_of, block_of}
use Rattle.content_key.proofs.Keys.{key_length, key_selector, key_given}
use Rattle.rlp.specs.Content.{content_of}
use Rattle.rlp.specs.declared.Payload.{Payload}
use Rattle.key_index.specs.View.{View}
use Rattle.key_index.specs.Good.{away_from, good, radius_of}
use Rattle.key_index.specs.Calls.{is_held}
use Rattle.key_index.proofs.Rules.{good_facts}
use Rattle.key_store.specs.Store.{put_of, admit_of, store_of}
use Rattle.key_store.specs.Cases.{OfBytes, Asked, Fresh, Stores, bad, no_length, no_selector, future, no_content, held, beyond, room, full}
use Rattle.key_store.proofs.Answers.{examine_future, examine_known, store_bad, store_key, store_content, store_admit, admit_held, admit_far, admit_put}
use Rattle.key_index.proofs.Answers.{reach_room}
use Rattle.key_store.proofs.Facts.{new_distance, nearer_last, last_apart}
use Rattle.key_store.proofs.Putting.{put_room, put_full}

module _ (limit : ℕ) (v : View) (key content : List ℕ) (newest : ℕ) (some : 0 < limit) (o : OfBytes v) (bytes : Bytes key) where
  put_cases : (payload : Payload) → Asked limit v key content newest payload → Fresh v key → away_from v.node key ≤ be (radius_of limit v)
      → Stores limit v key content newest (put_of limit v key payload)
  put_cases payload a f w = go (ltb (length v.keys) limit) refl
    where
      go : (t : Bool) → ltb (length v.keys) limit ≡ t → Stores limit v key content newest (put_of limit v key payload)
      go true e =
          let h = ltb-true (length v.keys) limit e in
          subst (Stores limit v key content newest) (sym (put_room limit v key payload h)) (room a f h (omega (arith, ap be (reach_room limit v h))))
      go false e =
          let h = ltb-false (length v.keys) limit e in
          let few = (good_facts limit v a.kept).few in
          let s = last_apart v.keys (omega arith) in
          subst (Stores limit v key content newest) (sym (put_full limit v key payload h)) (full a f (omega arith) s.0 s.1 (nearer_last limit v key h some f.apart w))

  admit_cases : (payload : Payload) → Asked limit v key content newest payload → Stores limit v key content newest (admit_of limit v key payload)
  admit_cases payload a = go (is_held key v) refl
    where
      go : (t : Bool) → is_held key v ≡ t → Stores limit v key content newest (admit_of limit v key payload)
      go true h = subst (Stores limit v key content newest) (admit_held limit v key payload h) (held a (holds_member key v.keys h))
      go false h = near (leb (away_from v.node key) (be (radius_of limit v))) refl
        where
          fresh : Fresh v key
          fresh = record {
            out = λ m. true≢false (sym (member_holds key v.keys m) ∙ h);
            apart = new_distance v key o (record { size = a.size; bytes = bytes }) h;
          }

          near : (t : Bool) → leb (away_from v.node key) (be (radius_of limit v)) ≡ t → Stores limit v key content newest (admit_of limit v key payload)
          near true w = subst (Stores limit v key content newest) (admit_put limit v key payload h w) (put_cases payload a fresh (leb-true (away_from v.node key) (be (radius_of limit v)) w))
          near false w = subst (Stores limit v key content newest) (admit_far limit v key payload h w) (beyond a fresh (leb-false (away_from v.node key) (be (radius_of limit v)) w))

  key_cases : good limit v ≡ true → length key ≡ 9 → Stores limit v key content newest (store_of limit v key content newest)
  key_cases g l = go (leb (selector_of key) 1) refl
    where
      examined : selector_of key ≤ 1 → block_of key ≤ newest → (o : Outcome Payload) → content_of content ≡ o
          → Stores limit v key content newest (store_of limit v key content newest)
      examined s n (Outcome.given payload) e =
          subst (Stores limit v key content newest)
          (store_admit limit v key content newest key payload g (sym (key_given key l s)) (sym (examine_known key content newest n ∙ e)))
          (admit_cases payload (record { kept = g; size = l; selector = s; known = n; listed = e }))
      examined s n (Outcome.refusal says) e =
          subst (Stores limit v key content newest)
          (store_content limit v key content newest key says g (sym (key_given key l s)) (sym (examine_known key content newest n ∙ e)))
          (no_content g l s n e)

      numbered : selector_of key ≤ 1 → (t : Bool) → leb (block_of key) newest ≡ t → Stores limit v key content newest (store_of limit v key content newest)
      numbered s true e = examined s (leb-true (block_of key) newest e) (content_of content) refl
      numbered s false e =
          let n = leb-false (block_of key) newest e in
          subst (Stores limit v key content newest)
          (store_content limit v key content newest key (only 17) g (sym (key_given key l s)) (sym (examine_future key content newest n))) (future g l s n)

      go : (t : Bool) → leb (selector_of key) 1 ≡ t → Stores limit v key content newest (store_of limit v key content newest)
      go true e = numbered (leb-true (selector_of key) 1 e) (leb (block_of key) newest) refl
      go false e =
          let s = leb-false (selector_of key) 1 e in
          subst (Stores limit v key content newest) (store_key limit v key content newest (only 8) g (sym (key_selector key l s))) (no_selector g l s)

  -- every call is one of the cases
  pub store_cases : Stores limit v key content newest (store_of limit v key content newest)
  store_cases = go (good limit v) refl
    where
      sized : good limit v ≡ true → (t : Bool) → eqb (length key) 9 ≡ t → Stores limit v key content newest (store_of limit v key content newest)
      sized g true e = key_cases g (eqb-true (length key) 9 e)
      sized g false e =
          let l = eqb-false (length key) 9 e in
          subst (Stores limit v key content newest) (store_key limit v key content newest (only 7) g (sym (key_length key l))) (no_length g l)

      go : (t : Bool) → good limit v ≡ t → Stores limit v key content newest (store_of limit v key content newest)
      go true g = sized g (eqb (length key) 9) refl
      go false g = subst (Stores limit v key content newest) (store_bad limit v key content newest g) (bad g)
