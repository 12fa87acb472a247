-- Messages as values and as bytes: what is written is read back, and what is read and accepted has the bytes that it was read from,
-- is of its types and keeps the rules. Assumes nothing.
use Prim.Native.Nat.{ℕ, ◌≤◌}
use native.Mathlib.Omega.{arith}
use mathlib.Core.Path.{◌≡◌, refl, ap, subst, ◌∙◌}
use mathlib.Core.Bool.{Bool, true, false, ◌&&◌, cond}
use mathlib.Core.List.{List, [], ◌∷◌}
use mathlib.Core.Option.{Option, some, none}
use lib.Dec.{leb, ltb, lit≤}
use lib.ListN.{length, get_or, drop}
use borrow.Author.Tests.{le-leb, leb-true, le-ltb, ltb-false}
use Rattle.refusal.specs.Outcome.{Outcome, given, refused}
use Rattle.octets.specs.Bytes.{Bytes}
use Rattle.octets.proofs.Tests.{both}
use Rattle.message.specs.Values.{Message, ping, pong, find_node, found_nodes, find_content, found_content, offer, accept, store, Formed}
use Rattle.message.specs.Encode.{encode}
use Rattle.message.specs.Rules.{rules_of}
use Rattle.message.specs.Decode.{layout_of, ruled_or4, decode}
use Rattle.message.proofs.Rules.{rules_same}
use Rattle.message.proofs.Layouts.{Holds, read_layout, layout_read}

-- bytes that pass the first three tests and the layout are judged by the rules
pub laid_ruled : (s : List ℕ) (m : Message) → (1 ≤ get_or s 0 0) × (get_or s 0 0 ≤ 9) → length s ≤ 1280
    → layout_of (get_or s 0 0) (drop 1 s) ≡ some m → decode s ≡ rules_of m
unfolding decode
laid_ruled [] m k l e = absurd (omega arith)
laid_ruled (kind ∷ body) m k l e =
    rw (le-ltb 1280 (length (kind ∷ body)) l, le-leb 1 kind k.0, le-leb kind 9 k.1, e)

-- a message's type is from 1 to 9
kind_range : (m : Message) → (1 ≤ get_or (encode m) 0 0) × (get_or (encode m) 0 0 ≤ 9)
unfolding encode
kind_range (ping radius) = (lit≤ tt, lit≤ tt)
kind_range (pong radius) = (lit≤ tt, lit≤ tt)
kind_range (find_node ds) = (lit≤ tt, lit≤ tt)
kind_range (found_nodes total rs) = (lit≤ tt, lit≤ tt)
kind_range (find_content key) = (lit≤ tt, lit≤ tt)
kind_range (found_content connection rs content) = (lit≤ tt, lit≤ tt)
kind_range (offer key) = (lit≤ tt, lit≤ tt)
kind_range (accept key) = (lit≤ tt, lit≤ tt)
kind_range (store connection content) = (lit≤ tt, lit≤ tt)

-- what is written and not too long is read as the rules judge it
pub written_ruled : (m : Message) → Formed m → length (encode m) ≤ 1280 → decode (encode m) ≡ rules_of m
written_ruled m f l = laid_ruled (encode m) m (kind_range m) l (layout_read m f l)

-- a message that keeps the rules is read back
pub written_read : (m : Message) → Formed m → rules_of m ≡ given m → length (encode m) ≤ 1280 → decode (encode m) ≡ given m
written_read m f r l = written_ruled m f l ∙ r

-- a refusal gives nothing
refused_given : (n : ℕ) (m : Message) → ◌≡◌ {A = Outcome Message} (refused n) (given m) → ⊥
refused_given n m e = let z : ◌≡◌ {A = ℕ} 0 1 = cc in omega arith

-- what holds of bytes that are read as a message
pub record Accepted (kind : ℕ) (body : List ℕ) (m : Message) : Type 0 where
  pub short : length (kind ∷ body) ≤ 1280
  pub least : 1 ≤ kind
  pub most : kind ≤ 9
  pub laid : layout_of kind body ≡ some m
  pub rules : rules_of m ≡ given m

-- bytes that are read as a message pass every test
pub accepted : (kind : ℕ) (body : List ℕ) (m : Message) → decode (kind ∷ body) ≡ given m → Accepted kind body m
unfolding decode
accepted kind body m e = go (ltb 1280 (length (kind ∷ body))) refl (leb 1 kind && leb kind 9) refl (layout_of kind body) refl e
  where
    go : (long : Bool) → ltb 1280 (length (kind ∷ body)) ≡ long → (typed : Bool) → (leb 1 kind && leb kind 9) ≡ typed
        → (values : Option Message) → layout_of kind body ≡ values
        → cond long (refused 2) (cond typed (ruled_or4 values) (refused 3)) ≡ given m → Accepted kind body m
    go true p typed q values r w = absurd (refused_given 2 m w)
    go false p false q values r w = absurd (refused_given 3 m w)
    go false p true q none r w = absurd (refused_given 4 m w)
    go false p true q (some m') r w =
        let same = rules_same m' m w in
        let k = both (leb 1 kind) (leb kind 9) q in
        record {
          short = ltb-false 1280 (length (kind ∷ body)) p;
          least = leb-true 1 kind k.0;
          most = leb-true kind 9 k.1;
          laid = r ∙ ap some same;
          rules = subst (λ (x : Message). rules_of x ≡ given m) same w;
        }

-- a message that was read has the bytes of its container
held : (kind : ℕ) (body : List ℕ) (m : Message) → Bytes (kind ∷ body) → decode (kind ∷ body) ≡ given m → Holds kind body m
held kind body m b e = let a = accepted kind body m e in read_layout kind body m a.least a.most b.1 a.laid

-- what is read has the bytes that it was read from
pub read_written : (s : List ℕ) (m : Message) → Bytes s → decode s ≡ given m → encode m ≡ s
unfolding decode
read_written [] m b e = absurd (refused_given 1 m e)
read_written (kind ∷ body) m b e = (held kind body m b e).bytes

-- what is read is of its types and keeps the rules
pub read_formed : (s : List ℕ) (m : Message) → Bytes s → decode s ≡ given m → Formed m × (rules_of m ≡ given m)
unfolding decode
read_formed [] m b e = absurd (refused_given 1 m e)
read_formed (kind ∷ body) m b e = ((held kind body m b e).formed, (accepted kind body m e).rules)

-- what is read is not too long
pub read_short : (s : List ℕ) (m : Message) → Bytes s → decode s ≡ given m → length (encode m) ≤ 1280
unfolding decode
read_short [] m b e = absurd (refused_given 1 m e)
read_short (kind ∷ body) m b e = rw (read_written (kind ∷ body) m b e) (accepted kind body m e).short
