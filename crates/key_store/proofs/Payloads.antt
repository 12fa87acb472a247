-- What an accepted store hands on is where the payload stands in its content. Assumes nothing.
use Prim.Native.Nat.{ℕ, ◌<◌}
use mathlib.Core.Path.{◌≡◌, sym, ◌∙◌}
use mathlib.Core.List.{List}
use Rattle.refusal.specs.Outcome.{given}
use Rattle.refusal.proofs.Outcomes.{given_not}
use Rattle.octets.specs.Bytes.{Bytes}
use Rattle.rlp.specs.Content.{content_of}
use Rattle.rlp.specs.Written.{Placed}
use Rattle.rlp.specs.declared.Payload.{Payload}
use Rattle.rlp.proofs.Contents.{given_iff}
use Rattle.key_index.specs.View.{View}
use Rattle.key_store.specs.Store.{Storing, store_of, handed_on}
use Rattle.key_store.specs.Cases.{OfBytes, Stores, bad, no_length, no_selector, future, no_content, held, beyond, room, full}
use Rattle.key_store.proofs.Cases.{store_cases}

module _ (limit : ℕ) (v : View) (key content : List ℕ) (newest : ℕ) where
  payload_case : {s : Storing} (payload : Payload) → Stores limit v key content newest s → handed_on s ≡ given payload → content_of content ≡ given payload
  payload_case p (bad h) e = given_not (sym e)
  payload_case p (no_length h l) e = given_not (sym e)
  payload_case p (no_selector h l s) e = given_not (sym e)
  payload_case p (future h l s n) e = given_not (sym e)
  payload_case p (no_content h l s n t) e = given_not (sym e)
  payload_case p (held a m) e = given_not (sym e)
  payload_case p (beyond a f h) e = given_not (sym e)
  payload_case p (room a f h w) e = a.listed ∙ e
  payload_case p (full a f h front q w) e = a.listed ∙ e

  pub store_placed : 0 < limit → OfBytes v → Bytes key → Bytes content → (payload : Payload)
      → handed_on (store_of limit v key content newest) ≡ given payload → Placed content payload
  store_placed some o b c payload e = (given_iff content c payload).0 (payload_case payload (store_cases limit v key content newest some o b) e)
