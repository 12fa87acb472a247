-- The ways out of `store`, as cases of its definition. Assumes nothing.
use Prim.Native.Nat.{ℕ, ◌≤◌, ◌<◌}
use mathlib.Core.Path.{◌≡◌, refl, sym, ap, ◌∙◌}
use mathlib.Core.Bool.{Bool, true, false}
use mathlib.Core.List.{List}
use lib.Dec.{leb}
use borrow.Author.Tests.{le-leb, lt-leb, leb-true, leb-false}
use Rattle.refusal.specs.Says.{Said, only}
use Rattle.refusal.specs.Outcome.{Outcome}
use Rattle.refusal.proofs.Outcomes.{given_not}
use Rattle.octets.specs.Bytes.{be}
use Rattle.content_key.specs.Key.{block_of, key_of}
use Rattle.rlp.specs.Content.{content_of}
use Rattle.rlp.specs.declared.Payload.{Payload}
use Rattle.key_index.specs.View.{View}
use Rattle.key_index.specs.Good.{away_from, good, radius_of}
use Rattle.key_index.specs.Calls.{is_held}
use Rattle.key_store.specs.Store.{refused, put_of, admit_of, examine_of, content_store_of, key_store_of, store_of}

module _ (limit : ℕ) (v : View) (key : List ℕ) (payload : Payload) where
  pub admit_held : is_held key v ≡ true → refused (only 11) ≡ admit_of limit v key payload
  unfolding admit_of
  admit_held h = rw h

  pub admit_far : is_held key v ≡ false → leb (away_from v.node key) (be (radius_of limit v)) ≡ false → refused (only 10) ≡ admit_of limit v key payload
  unfolding admit_of
  admit_far h w = rw (h, w)

  pub admit_put : is_held key v ≡ false → leb (away_from v.node key) (be (radius_of limit v)) ≡ true → put_of limit v key payload ≡ admit_of limit v key payload
  unfolding admit_of
  admit_put h w = rw (h, w)

-- the number is tested before the content
module _ (key content : List ℕ) (newest : ℕ) where
  pub examine_future : newest < block_of key → examine_of key content newest ≡ Outcome.refusal (only 17)
  unfolding examine_of
  examine_future h = rw (lt-leb (block_of key) newest h)

  pub examine_known : block_of key ≤ newest → examine_of key content newest ≡ content_of content
  unfolding examine_of
  examine_known h = rw (le-leb (block_of key) newest h)

  -- a payload is given only for a known block, and is the content's
  pub examined_given : (payload : Payload) → examine_of key content newest ≡ Outcome.given payload
      → (block_of key ≤ newest) × (content_of content ≡ Outcome.given payload)
  examined_given payload e = go (leb (block_of key) newest) refl
    where
      go : (t : Bool) → leb (block_of key) newest ≡ t → (block_of key ≤ newest) × (content_of content ≡ Outcome.given payload)
      go true t = let n = leb-true (block_of key) newest t in (n, sym (examine_known n) ∙ e)
      go false t = given_not (sym e ∙ examine_future (leb-false (block_of key) newest t))

module _ (limit : ℕ) (v : View) (bytes content : List ℕ) (newest : ℕ) where
  pub store_bad : good limit v ≡ false → refused (only 0) ≡ store_of limit v bytes content newest
  unfolding store_of
  store_bad g = rw g

  store_read : (o : Outcome (List ℕ)) → good limit v ≡ true → o ≡ key_of bytes → key_store_of limit v content newest o ≡ store_of limit v bytes content newest
  unfolding store_of
  store_read o g k = rw g (ap (key_store_of limit v content newest) k)

  -- what is no key
  pub store_key : (says : Said) → good limit v ≡ true → Outcome.refusal says ≡ key_of bytes → refused says ≡ store_of limit v bytes content newest
  store_key says g k = store_read (Outcome.refusal says) g k

  -- a key, after it was examined with its content
  store_after : (key : List ℕ) (o : Outcome Payload) → good limit v ≡ true → Outcome.given key ≡ key_of bytes → o ≡ examine_of key content newest
      → content_store_of limit v key o ≡ store_of limit v bytes content newest
  store_after key o g k e = ap (content_store_of limit v key) e ∙ store_read (Outcome.given key) g k

  -- refused as these are
  pub store_content : (key : List ℕ) (says : Said) → good limit v ≡ true → Outcome.given key ≡ key_of bytes → Outcome.refusal says ≡ examine_of key content newest
      → refused says ≡ store_of limit v bytes content newest
  store_content key says g k e = store_after key (Outcome.refusal says) g k e

  -- or tested further, with the place of its payload
  pub store_admit : (key : List ℕ) (payload : Payload) → good limit v ≡ true → Outcome.given key ≡ key_of bytes → Outcome.given payload ≡ examine_of key content newest
      → admit_of limit v key payload ≡ store_of limit v bytes content newest
  store_admit key payload g k e = store_after key (Outcome.given payload) g k e
