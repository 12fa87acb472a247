-- What the rules and the bytes of each message without records come to, by the tests of the code. Assumes nothing.
use Prim.Native.Nat.{ℕ, ◌+◌, ◌≤◌, ◌<◌}
use mathlib.Core.Path.{◌≡◌, sym, ap, ap₂, ◌∙◌}
use mathlib.Core.Bool.{Bool, true, false}
use mathlib.Core.List.{List, [], ◌∷◌, ◌++◌, reverse}
use lib.Dec.{eqb}
use lib.ListN.{length}
use borrow.Author.Tests.{le-leb, lt-leb, eq-eqb, ne_eqb}
use Rattle.refusal.specs.Says.{Said}
use Rattle.refusal.specs.Outcome.{given, refusal, refused}
use Rattle.content_key.specs.Key.{key_of}
use Rattle.message.specs.Values.{find_node, store}
use Rattle.message.specs.Encode.{offset, encode}
use Rattle.message.specs.Rules.{one, present, connected, all_different, rules_of}
use Rattle.refusal.specs.Buffer.{Writes}
use Rattle.std.specs.Prelude.{Result}
use Rattle.refusal.specs.declared.Refusal.{Refusal}
use Rattle.message_write.specs.Kinds.{probe_of, key_message_of, probe_type, key_type}
use Rattle.message_write.specs.Write.{fitting, bytes_for}
use Rattle.message_rules.specs.Things.{things_of}
use Rattle.message_rules.proofs.Present.{things_two}
use Rattle.message_write.proofs.Answers.{writes_as}
use Rattle.message_write.specs.declared.Probe.{Probe}
use Rattle.message_write.specs.declared.Probe.TheVariants.{Ping, Pong}
use Rattle.message_write.specs.declared.KeyMessage.{KeyMessage}
use Rattle.message_write.specs.declared.KeyMessage.TheVariants.{FindContent, Offer, Accept}

-- Ping and Pong
probe_good : (kind : Probe) (radius : List ℕ) (room : ℕ) (head rest : List ℕ) → head ≡ probe_type kind ∷ [] → rest ≡ reverse radius
    → bytes_for (probe_of kind radius) room ≡ fitting (head ++ rest) room
unfolding rules_of encode
probe_good Ping radius room head rest e f = ap₂ (λ (k l : List ℕ). fitting (k ++ l) room) (sym e) (sym f)
probe_good Pong radius room head rest e f = ap₂ (λ (k l : List ℕ). fitting (k ++ l) room) (sym e) (sym f)

pub probe_writes : (kind : Probe) (radius : List ℕ) {rest d a : List ℕ} {r : Result ℕ Refusal} (t : ℕ) → Writes (fitting (t ∷ [] ++ rest) (length d)) r d a
    → t ≡ probe_type kind → rest ≡ reverse radius → Writes (bytes_for (probe_of kind radius) (length d)) r d a
probe_writes kind radius {rest} {d} t w e f = writes_as w (probe_good kind radius (length d) (t ∷ []) rest (ap (λ (k : ℕ). k ∷ []) e) f)

-- FindNode
module _ (ds : List ℕ) (room : ℕ) where
  pub distances_many : 256 < length ds → bytes_for (find_node ds) room ≡ refused 5
  unfolding rules_of
  distances_many h = rw (lt-leb (length ds) 256 h)

  module _ (few : length ds ≤ 256) (t : Bool) (is : t ≡ all_different eqb ds) where
    pub distances_equal : t ≡ false → bytes_for (find_node ds) room ≡ refused 6
    unfolding rules_of
    distances_equal e = rw (le-leb (length ds) 256 few, ← is, e)

    pub distances_good : t ≡ true → (head : List ℕ) (k : ℕ) → head ≡ k ∷ offset 4 → k ≡ 3
        → bytes_for (find_node ds) room ≡ fitting (head ++ ds) room
    unfolding rules_of encode
    distances_good e head k h q = rw (le-leb (length ds) 256 few, ← is, e, h, q)

-- FindContent, Offer, Accept
pub key_bad : (kind : KeyMessage) (key : List ℕ) (room : ℕ) (says : Said) → refusal says ≡ key_of key → bytes_for (key_message_of kind key) room ≡ refusal says
unfolding rules_of
key_bad FindContent key room says e = rw (← e)
key_bad Offer key room says e = rw (← e)
key_bad Accept key room says e = rw (← e)

pub key_good : (kind : KeyMessage) (key : List ℕ) (room : ℕ) (k : List ℕ) → given k ≡ key_of key
    → (head : List ℕ) (t : ℕ) → head ≡ t ∷ offset 4 → t ≡ key_type kind → bytes_for (key_message_of kind key) room ≡ fitting (head ++ key) room
unfolding rules_of encode
key_good FindContent key room k e head t h q = rw (← e, h, q)
key_good Offer key room k e head t h q = rw (← e, h, q)
key_good Accept key room k e head t h q = rw (← e, h, q)

-- Store
module _ (connection content : List ℕ) (room n : ℕ) (is : n ≡ things_of connection 0 (length content)) where
  counted : one (connected connection) + one (present content) ≡ n
  counted = things_two connection content ∙ sym is

  pub store_bad : (n ≡ 1 → ⊥) → bytes_for (store connection content) room ≡ refused 6
  unfolding rules_of
  store_bad h = rw (counted, ne_eqb n 1 h)

  pub store_good : n ≡ 1 → (head : List ℕ) → head ≡ 9 ∷ (connection ++ offset 8) → bytes_for (store connection content) room ≡ fitting (head ++ content) room
  unfolding rules_of encode
  store_good h head e = rw (counted, eq-eqb n 1 h, e)
