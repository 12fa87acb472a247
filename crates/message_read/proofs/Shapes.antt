-- What the layout and the rules come to for the shapes without records, by what the parts of reading say. Assumes nothing.
use Prim.Native.Nat.{ℕ, ◌+◌, ◌-◌, ◌<◌, ◌≤◌}
use native.Mathlib.Decide.{ℕ_discrete}
use native.Mathlib.Omega.{arith}
use mathlib.Core.Path.{◌≡◌, refl, sym, ap, ap₂, ◌∙◌}
use mathlib.Core.Bool.{Bool, true, false, cond, ◌&&◌}
use mathlib.Core.List.{List, reverse}
use mathlib.Core.Option.{Option, some, none}
use lib.Dec.{leb, eqb}
use lib.ListN.{length, take, drop, length-drop}
use lib.Seq.{drop-drop}
use borrow.Author.Tests.{le-leb, lt-leb, eq-eqb, ne_eqb, leb-true}
use Rattle.std.specs.Prelude.{Ok, Err}
use Rattle.refusal.specs.Says.{says_of}
use Rattle.refusal.specs.Outcome.{Outcome, given, refusal, refused, map_outcome}
use Rattle.refusal.proofs.Outcomes.{given_not}
use Rattle.refusal.specs.declared.Refusal.{Refusal}
use Rattle.refusal.specs.declared.Refusal.TheVariants.{Layout, ItemRule}
use Rattle.content_key.specs.Key.{key_of}
use Rattle.octets.proofs.Tests.{both}
use Rattle.message.specs.Values.{Message, ping, pong, find_node, find_content, offer, accept, store}
use Rattle.message.specs.Records.{offset_of}
use Rattle.message.specs.Rules.{one, present, connected, all_different, ruled, keyed, rules_of}
use Rattle.message.specs.Decode.{map_some, radius_of, rest_of, layout_of, ruled_or4}
use Rattle.message.specs.Report.{to_end, report_of}
use Rattle.message.specs.Reading.{part_of, values_of, PartInside, Inside, ReadTo}
use Rattle.message.specs.declared.Part.{Part}
use Rattle.message.specs.declared.Reading.{Reading}
use Rattle.message.specs.declared.Reading.TheVariants.{Ping, Pong, FindNode, FindContent, Offer, Accept, Store}
use Rattle.message.proofs.Rules.{rules_same}
use Rattle.message.proofs.Tests.{passed}
use Rattle.message_rules.specs.Things.{things_of}
use Rattle.message_rules.proofs.Present.{things_two}
use Rattle.message_read.specs.Shapes.{with_rest, radius_in, distances_in, key_in, Rest, NoRest}
use Rattle.message_read.proofs.Lists.{part_rest}
use Rattle.message_read.proofs.Answers.{accepted_to, refused_to}

-- a rest, by the tests of the code
module _ (n : ℕ) (s : List ℕ) (m : 4 ≤ n) where
  -- a message that does not reach behind its fixed part has none
  pub rest_short : length s ≤ n → NoRest n s Layout
  unfolding rest_of
  rest_short h =
      record {
        value =
            ap (λ (b : Bool). cond (b && eqb (offset_of (drop (n - 4) (drop 1 s))) n) (some (drop n (drop 1 s))) none)
            (lt-leb n (length (drop 1 s)) (rw (length-drop 1 s) (omega arith)));
        refused = refl;
      }

  behind : drop n (drop 1 s) ≡ drop (n + 1) s
  behind = let j : 1 + n ≡ n + 1 = omega arith in drop-drop n 1 s ∙ ap (λ (k : ℕ). drop k s) j

  module _ (h : n < length s) (r : ℕ) (e : r ≡ offset_of (drop (n - 3) s)) where
    tested : rest_of n (drop 1 s) ≡ cond (eqb r n) (some (drop (n + 1) s)) none
    unfolding rest_of
    tested =
        let i : 1 + (n - 4) ≡ n - 3 = omega arith in
        let at : offset_of (drop (n - 4) (drop 1 s)) ≡ r = ap offset_of (drop-drop (n - 4) 1 s ∙ ap (λ (k : ℕ). drop k s) i) ∙ sym e in
        rw (le-leb n (length (drop 1 s)) (rw (length-drop 1 s) (omega arith)), at, behind)

    -- else the offset before the rest decides
    pub rest_bad : (r ≡ n → ⊥) → NoRest n s Layout
    rest_bad f = record { value = tested ∙ rw (ne_eqb r n f); refused = refl }

    pub rest_good : r ≡ n → (t : List ℕ) → t ≡ drop (n + 1) s → Rest n s t
    rest_good f t same = record { value = tested ∙ rw (eq-eqb r n f, same); same = same; long = h }

  -- a rest that the definition gives is such a one
  rest_is : (r : List ℕ) → rest_of n (drop 1 s) ≡ some r → Rest n s r
  unfolding rest_of
  rest_is r e =
      let p = passed (leb n (length (drop 1 s)) && eqb (offset_of (drop (n - 4) (drop 1 s))) n) e in
      let fits = leb-true n (length (drop 1 s)) (both (leb n (length (drop 1 s))) _ p.0).0 in
      record { value = e; same = sym p.1 ∙ behind; long = omega (arith, fits, length-drop 1 s) }

-- Ping and Pong: a message of a radius, of which there is no rule
module _ (s : List ℕ) (make : List ℕ → Message) (free : (r : List ℕ) → rules_of (make r) ≡ given (make r)) where
  radius_ruled : ruled_or4 (map_some make (radius_of (drop 1 s))) ≡ map_outcome make (radius_in s)
  unfolding radius_of
  radius_ruled = go (eqb (length s) 33) (eqb (length (drop 1 s)) 32) same
    where
      by_length : Dec (length s ≡ 33) → eqb (length (drop 1 s)) 32 ≡ eqb (length s) 33
      by_length (yes h) = eq-eqb (length (drop 1 s)) 32 (omega (arith, length-drop 1 s)) ∙ sym (eq-eqb (length s) 33 h)
      by_length (no h) = ne_eqb (length (drop 1 s)) 32 (λ q. h (omega (arith, length-drop 1 s))) ∙ sym (ne_eqb (length s) 33 h)

      same : eqb (length (drop 1 s)) 32 ≡ eqb (length s) 33
      same = by_length (ℕ_discrete (length s) 33)

      go : (a b : Bool) → b ≡ a → ruled_or4 (map_some make (cond b (some (reverse (drop 1 s))) none)) ≡ map_outcome make (cond a (given (reverse (drop 1 s))) (refused 4))
      go true true e = free (reverse (drop 1 s))
      go true false e = cc
      go false true e = cc
      go false false e = refl

  pub radius_bad : (why : Refusal) → refusal (says_of why) ≡ radius_in s → ReadTo (ruled_or4 (map_some make (radius_of (drop 1 s)))) s (Err why)
  radius_bad why e = refused_to why (radius_ruled ∙ ap (map_outcome make) (sym e))

  pub radius_good : (a : Reading) (r : List ℕ) → given r ≡ radius_in s → Inside s a → values_of s a ≡ make r → a ≡ report_of s (values_of s a)
      → ReadTo (ruled_or4 (map_some make (radius_of (drop 1 s)))) s (Ok a)
  radius_good a r e i v w = accepted_to a i (radius_ruled ∙ ap (map_outcome make) (sym e) ∙ ap given (sym v)) w

pub radius_is : (s r : List ℕ) → given r ≡ radius_in s → r ≡ reverse (drop 1 s)
radius_is s r e = go (eqb (length s) 33) e
  where
    go : (t : Bool) → given r ≡ cond t (given (reverse (drop 1 s))) (refused 4) → r ≡ reverse (drop 1 s)
    go true q = cc
    go false q = given_not q

pub ping_good : (s r : List ℕ) → given r ≡ radius_in s → ReadTo (ruled_or4 (layout_of 1 (drop 1 s))) s (Ok (Ping r))
unfolding layout_of rules_of
ping_good s r e = radius_good s ping (λ q. refl) (Ping r) r e tt refl (ap Ping (radius_is s r e))

pub ping_bad : (s : List ℕ) (why : Refusal) → refusal (says_of why) ≡ radius_in s → ReadTo (ruled_or4 (layout_of 1 (drop 1 s))) s (Err why)
unfolding layout_of rules_of
ping_bad s why e = radius_bad s ping (λ q. refl) why e

pub pong_good : (s r : List ℕ) → given r ≡ radius_in s → ReadTo (ruled_or4 (layout_of 2 (drop 1 s))) s (Ok (Pong r))
unfolding layout_of rules_of
pong_good s r e = radius_good s pong (λ q. refl) (Pong r) r e tt refl (ap Pong (radius_is s r e))

pub pong_bad : (s : List ℕ) (why : Refusal) → refusal (says_of why) ≡ radius_in s → ReadTo (ruled_or4 (layout_of 2 (drop 1 s))) s (Err why)
unfolding layout_of rules_of
pong_bad s why e = radius_bad s pong (λ q. refl) why e

-- a message of one part behind an offset, whose own rules leave the place of the part or refuse it
module _ (s : List ℕ) (make : List ℕ → Message) (shown : Part → Reading) (own : List ℕ → Outcome Part)
    (rules : (r : List ℕ) → map_outcome (λ (m : Message). to_end s 5) (rules_of (make r)) ≡ own r)
    (values : (p : Part) → values_of s (shown p) ≡ make (part_of s p))
    (report : (r : List ℕ) → report_of s (make r) ≡ shown (to_end s 5))
    (inside : (p : Part) → PartInside s p → Inside s (shown p)) where
  pub part_good : (p : Part) → given p ≡ with_rest own (rest_of 4 (drop 1 s)) → ReadTo (ruled_or4 (map_some make (rest_of 4 (drop 1 s)))) s (Ok (shown p))
  part_good p e = go (rest_of 4 (drop 1 s)) refl e
    where
      there : (r : List ℕ) → Rest 4 s r → (o : Outcome Message) → rules_of (make r) ≡ o → given p ≡ map_outcome (λ (m : Message). to_end s 5) o
          → ReadTo o s (Ok (shown p))
      there r t (refusal says) q f = given_not f
      there r t (given m) q f =
          let at : p ≡ to_end s 5 = cc in
          let whole : part_of s (to_end s 5) ≡ r = part_rest s 5 ∙ sym t.same in
          let says : values_of s (shown p) ≡ make r = ap (λ (x : Part). values_of s (shown x)) at ∙ values (to_end s 5) ∙ ap make whole in
          accepted_to (shown p) (inside p (rw at (omega (arith, t.long)))) (ap given (sym (rules_same (make r) m q) ∙ sym says))
          (ap shown at ∙ sym (report r) ∙ ap (report_of s) (sym says))

      go : (o : Option (List ℕ)) → rest_of 4 (drop 1 s) ≡ o → given p ≡ with_rest own o → ReadTo (ruled_or4 (map_some make o)) s (Ok (shown p))
      go none q f = given_not f
      go (some r) q f = there r (rest_is 4 s (omega arith) r q) (rules_of (make r)) refl (f ∙ sym (rules r))

  pub part_bad : (why : Refusal) → refusal (says_of why) ≡ with_rest own (rest_of 4 (drop 1 s))
      → ReadTo (ruled_or4 (map_some make (rest_of 4 (drop 1 s)))) s (Err why)
  part_bad why e = go (rest_of 4 (drop 1 s)) e
    where
      there : (o : Outcome Message) → refusal (says_of why) ≡ map_outcome (λ (m : Message). to_end s 5) o → ReadTo o s (Err why)
      there (refusal says) f = refused_to why (cc)
      there (given m) f = given_not (sym f)

      go : (o : Option (List ℕ)) → refusal (says_of why) ≡ with_rest own o → ReadTo (ruled_or4 (map_some make o)) s (Err why)
      go none f = refused_to {d = refused 4} why (cc)
      go (some r) f = there (rules_of (make r)) (f ∙ sym (rules r))

-- the own rules of distances, and of a key
module _ (s : List ℕ) where
  distances_own : (ds : List ℕ) → map_outcome (λ (m : Message). to_end s 5) (rules_of (find_node ds))
      ≡ cond (leb (length ds) 256) (cond (all_different eqb ds) (given (to_end s 5)) (refused 6)) (refused 5)
  unfolding rules_of
  distances_own ds = go (leb (length ds) 256) (all_different eqb ds)
    where
      go : (a b : Bool) → map_outcome (λ (m : Message). to_end s 5) (ruled a b (find_node ds)) ≡ cond a (cond b (given (to_end s 5)) (refused 6)) (refused 5)
      go true true = refl
      go true false = refl
      go false b = refl

  keyed_own : (key : List ℕ) (m : Message) → map_outcome (λ (q : Message). to_end s 5) (keyed key m) ≡ map_outcome (λ (k : List ℕ). to_end s 5) (key_of key)
  keyed_own key m = go (key_of key)
    where
      go : (o : Outcome (List ℕ)) → map_outcome (λ (q : Message). to_end s 5) (map_outcome (λ (k : List ℕ). m) o) ≡ map_outcome (λ (k : List ℕ). to_end s 5) o
      go (given k) = refl
      go (refusal says) = refl

-- FindNode
pub distances_good : (s : List ℕ) (p : Part) → given p ≡ distances_in s → ReadTo (ruled_or4 (layout_of 3 (drop 1 s))) s (Ok (FindNode p))
unfolding layout_of
distances_good s p e = part_good s find_node FindNode _ (distances_own s) (λ q. refl) (λ r. refl) (λ q h. h) p e

pub distances_bad : (s : List ℕ) (why : Refusal) → refusal (says_of why) ≡ distances_in s → ReadTo (ruled_or4 (layout_of 3 (drop 1 s))) s (Err why)
unfolding layout_of
distances_bad s why e = part_bad s find_node FindNode _ (distances_own s) (λ q. refl) (λ r. refl) (λ q h. h) why e

-- FindContent, Offer, Accept
module _ (s : List ℕ) where
  pub find_content_good : (p : Part) → given p ≡ key_in s → ReadTo (ruled_or4 (layout_of 5 (drop 1 s))) s (Ok (FindContent p))
  unfolding layout_of rules_of
  find_content_good p e =
      part_good s find_content FindContent _ (λ key. keyed_own s key (find_content key)) (λ q. refl) (λ r. refl) (λ q h. h) p e

  pub find_content_bad : (why : Refusal) → refusal (says_of why) ≡ key_in s → ReadTo (ruled_or4 (layout_of 5 (drop 1 s))) s (Err why)
  unfolding layout_of rules_of
  find_content_bad why e =
      part_bad s find_content FindContent _ (λ key. keyed_own s key (find_content key)) (λ q. refl) (λ r. refl) (λ q h. h) why e

  pub offer_good : (p : Part) → given p ≡ key_in s → ReadTo (ruled_or4 (layout_of 7 (drop 1 s))) s (Ok (Offer p))
  unfolding layout_of rules_of
  offer_good p e = part_good s offer Offer _ (λ key. keyed_own s key (offer key)) (λ q. refl) (λ r. refl) (λ q h. h) p e

  pub offer_bad : (why : Refusal) → refusal (says_of why) ≡ key_in s → ReadTo (ruled_or4 (layout_of 7 (drop 1 s))) s (Err why)
  unfolding layout_of rules_of
  offer_bad why e = part_bad s offer Offer _ (λ key. keyed_own s key (offer key)) (λ q. refl) (λ r. refl) (λ q h. h) why e

  pub accept_good : (p : Part) → given p ≡ key_in s → ReadTo (ruled_or4 (layout_of 8 (drop 1 s))) s (Ok (Accept p))
  unfolding layout_of rules_of
  accept_good p e = part_good s accept Accept _ (λ key. keyed_own s key (accept key)) (λ q. refl) (λ r. refl) (λ q h. h) p e

  pub accept_bad : (why : Refusal) → refusal (says_of why) ≡ key_in s → ReadTo (ruled_or4 (layout_of 8 (drop 1 s))) s (Err why)
  unfolding layout_of rules_of
  accept_bad why e = part_bad s accept Accept _ (λ key. keyed_own s key (accept key)) (λ q. refl) (λ r. refl) (λ q h. h) why e

-- Store
module _ (s : List ℕ) where
  pub store_broken : (why : Refusal) → NoRest 8 s why → ReadTo (ruled_or4 (layout_of 9 (drop 1 s))) s (Err why)
  unfolding layout_of
  store_broken why t =
      refused_to why
      (ap (λ (o : Option (List ℕ)). ruled_or4 (map_some (store (take 4 (drop 1 s))) o)) t.value
      ∙ ap (λ (w : Refusal). refusal (says_of w)) (sym t.refused))

  -- exactly one is present of a connection id that is not zero and content
  module _ {r : List ℕ} (t : Rest 8 s r) (id : List ℕ) (is : id ≡ take 4 (drop 1 s)) (p : Part) (at : p ≡ to_end s 9)
      (n : ℕ) (c : n ≡ things_of id 0 p.len) where
    long : length r ≡ p.len
    long = omega (arith, ap length t.same, length-drop 9 s, ap (λ (q : Part). q.len) at)

    store_tested : ruled_or4 (layout_of 9 (drop 1 s)) ≡ cond (eqb n 1) (given (store id r)) (refused 6)
    unfolding layout_of rules_of
    store_tested =
        let k : one (connected id) + one (present r) ≡ n = things_two id r ∙ ap (things_of id 0) long ∙ sym c in
        ap (λ (o : Option (List ℕ)). ruled_or4 (map_some (store (take 4 (drop 1 s))) o)) t.value
        ∙ ap (λ (i : List ℕ). ruled_or4 (some (store i r))) (sym is)
        ∙ ap (λ (m : ℕ). cond (eqb m 1) (given (store id r)) (refused 6)) k

    pub store_bad : (n ≡ 1 → ⊥) → ReadTo (ruled_or4 (layout_of 9 (drop 1 s))) s (Err ItemRule)
    store_bad h = refused_to ItemRule (store_tested ∙ rw (ne_eqb n 1 h))

    pub store_good : n ≡ 1 → ReadTo (ruled_or4 (layout_of 9 (drop 1 s))) s (Ok (Store id p))
    store_good h =
        let whole : part_of s p ≡ r = ap (part_of s) at ∙ part_rest s 9 ∙ sym t.same in
        accepted_to (Store id p) (rw at (omega (arith, t.long))) (store_tested ∙ rw (eq-eqb n 1 h, whole)) (ap₂ Store is at)
