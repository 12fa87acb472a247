-- FoundNodes messages written one behind the other: a pass that has come to message i. Its start, a turn and its end; and what the write of
-- one message leaves. Assumes nothing.
use Prim.Native.Nat.{ℕ, suc, ◌+◌, ◌-◌, ◌≤◌, ◌<◌}
use native.Mathlib.Omega.{arith}
use mathlib.Core.Path.{◌≡◌, refl, sym, ap, ap₂, ◌∙◌}
use mathlib.Core.Bool.{Bool}
use mathlib.Core.List.{List, [], ◌∷◌, ◌++◌, map, map-append, append_assoc, append-nil}
use lib.Dec.{lit≤}
use lib.ListN.{length, take, drop, set, replicate, length-append, length-map, length-drop, take-append-drop, drop_of_length-le}
use lib.Seq.{length-take-le, take_all, take-add, take_at, drop_at, drop-drop, set_at, append_snoc}
use borrow.Author.Tests.{le-leb, le-ltb, lt-ltb}
use Rattle.refusal.specs.Outcome.{Outcome, given}
use Rattle.refusal.specs.Buffer.{Writes, written}
use Rattle.std.specs.Prelude.{Result}
use Rattle.refusal.specs.declared.Refusal.{Refusal}
use Rattle.message.specs.Values.{Message, found_nodes}
use Rattle.message.specs.Encode.{encode, joined}
use Rattle.message.specs.Rules.{rules_of}
use Rattle.message_write.specs.Lent.{lent}
use Rattle.message_write.specs.Write.{bytes_for_lent}
use Rattle.replies.specs.Groups.{first_group, groups, more}
use Rattle.replies.specs.Room.{room, bytes_with}
use Rattle.replies.specs.Nodes.{nodes_fit}
use Rattle.replies.specs.Reply.{bytes_of}
use Rattle.replies.proofs.Groups.{Alone, among_drop, first_most, first_fits, groups_next, groups_most}
use Rattle.replies.proofs.Once.{cut_part, part_sizes, part_different, size_each}
use Rattle.replies.proofs.Sizes.{nodes_is, nodes_room, nodes_length, Short, room_true, none_fits, one_fits, four_fit}
use Rattle.reply.specs.Answer.{size_of}
use Rattle.reply.specs.Ready.{Fair, messages_of, Sent}
use Rattle.reply.specs.declared.groups.Group.{Group}
use Rattle.reply.proofs.Lends.{Lends, lends_lent, lends_drop, lends_take}
use Rattle.reply.proofs.Spreading.{joined_append, Next}

-- the bytes of messages before and behind a place
pub bytes_append : (ms ns : List Message) → bytes_of (ms ++ ns) ≡ bytes_of ms ++ bytes_of ns
bytes_append ms ns = ap joined (map-append encode ms ns) ∙ joined_append (map encode ms) (map encode ns)

pub bytes_one : (m : Message) → bytes_of (m ∷ []) ≡ encode m
unfolding joined
bytes_one m = append-nil (encode m)

-- the rest of a buffer, written and put back
put_back : (out : List ℕ) (at : ℕ) (after bytes : List ℕ) (size : ℕ) → after ≡ bytes ++ drop size (take (length out - at) (drop at out))
    → take at out ++ (after ++ drop (length out - at) (drop at out)) ≡ take at out ++ (bytes ++ drop size (drop at out))
put_back out at after bytes size e =
    let whole : length (drop at out) ≤ length out - at = omega (arith, length-drop at out) in
    ap (λ (l : List ℕ). take at out ++ l)
    (ap₂ (λ (a b : List ℕ). a ++ b) (e ∙ ap (λ (l : List ℕ). bytes ++ drop size l) (take_all (length out - at) (drop at out) whole))
    (drop_of_length-le (drop at out) {i = length out - at} whole) ∙ append-nil (bytes ++ drop size (drop at out)))

-- a list whose rest is known, one further
rest_next : {A : Type 0} (l : List A) (i : ℕ) (a : A) (rest : List A) → drop i l ≡ a ∷ rest → (take (i + 1) l ≡ take i l ++ a ∷ []) × (drop (i + 1) l ≡ rest)
rest_next {A} l i a rest e = (
  take-add i 1 l ∙ ap (λ (r : List A). take i l ++ take 1 r) e,
  sym (drop-drop 1 i l) ∙ ap (drop 1) e,
)

module _ {A : Type 0} (fits : List A → Bool) where
  more_groups : (l : List A) → 1 ≤ length (more fits l) → more fits l ≡ groups fits l
  more_groups [] h = absurd (omega arith)
  more_groups (a ∷ l) h = refl

-- there are 33 at most
pub few_messages : (rs : List (List ℕ)) → Fair rs → length (groups nodes_fit rs) ≤ 33
few_messages rs fair =
    let few = fair.few in
    omega (arith, groups_most nodes_fit Short 4 (lit≤ tt) (λ m l f. nodes_is m ∙ four_fit 6 (lit≤ tt) m l f) rs (λ r m. (size_each rs fair.sizes r m).1))

-- the first i messages
abbrev pub first_of : List (List ℕ) → ℕ → List Message
first_of rs i = map (found_nodes (length (groups nodes_fit rs))) (take i (groups nodes_fit rs))

pub record Sending (rs : List (List ℕ)) (before : List ℕ) (i from at : ℕ) (sizes out : List ℕ) : Type 0 where
  pub passed : i ≤ length (groups nodes_fit rs)
  pub inside : from ≤ length rs
  pub left : i < length (groups nodes_fit rs) → drop i (groups nodes_fit rs) ≡ groups nodes_fit (drop from rs)
  pub end : at ≡ length (bytes_of (first_of rs i))
  pub lens : sizes ≡ map size_of (first_of rs i) ++ replicate (33 - i) 0
  pub bytes : out ≡ bytes_of (first_of rs i) ++ drop at before

pub sending_start : (rs : List (List ℕ)) (before : List ℕ) → Sending rs before 0 0 0 (replicate 33 0) before
unfolding joined
sending_start rs before =
    record { passed = omega arith; inside = omega arith; left = λ h. refl; end = refl; lens = refl; bytes = refl }

-- the buffer reaches as far
pub sending_at : (rs : List (List ℕ)) (before : List ℕ) (i from at : ℕ) (sizes out : List ℕ) → Sending rs before i from at sizes out → at ≤ length out
sending_at rs before i from at sizes out t =
    omega (arith, ap length t.bytes, length-append (bytes_of (first_of rs i)) (drop at before), t.end)

module _ (rs : List (List ℕ)) (fair : Fair rs) where
  abbrev all : List (List (List ℕ))
  all = groups nodes_fit rs

  abbrev message : List (List ℕ) → Message
  message g = found_nodes (length all) g

  alone : Alone nodes_fit rs
  alone r m = nodes_is (r ∷ []) ∙ one_fits 6 (lit≤ tt) r (size_each rs fair.sizes r m).1

  -- the bytes up to a message are at most all bytes
  bytes_most : (k : ℕ) → length (bytes_of (first_of rs k)) ≤ length (bytes_of (messages_of rs))
  bytes_most k =
      let e : messages_of rs ≡ first_of rs k ++ map message (drop k all) =
      ap (map message) (sym (take-append-drop k all)) ∙ map-append message (take k all) (drop k all) in
      let b = ap (λ (ms : List Message). length (bytes_of ms)) e ∙ ap length (bytes_append (first_of rs k) (map message (drop k all))) in
      omega (arith, length-append (bytes_of (first_of rs k)) (bytes_of (map message (drop k all))))

  -- the buffer keeps its length
  pub sending_length : (before : List ℕ) (i from at : ℕ) (sizes out : List ℕ) → Sending rs before i from at sizes out
      → length (bytes_of (messages_of rs)) ≤ length before → length out ≡ length before
  sending_length before i from at sizes out t k =
      omega (arith, ap length t.bytes, length-append (bytes_of (first_of rs i)) (drop at before), length-drop at before, t.end, bytes_most i)

  module _ (before : List ℕ) (i from at : ℕ) (sizes out : List ℕ) (t : Sending rs before i from at sizes out)
      (h : i < length all) (g : Group) (n : Next rs from g) where
    -- the records of message i
    abbrev pub group : List (List ℕ)
    group = take g.taken (drop from rs)

    is_group : first_group nodes_fit [] (drop from rs) ≡ group
    is_group = ap (λ (fits : List (List ℕ) → Bool). first_group fits [] (drop from rs)) nodes_room ∙ n.is

    here : drop i all ≡ group ∷ more nodes_fit (drop (from + g.taken) rs)
    here =
        let rest = drop from rs in
        let k : length (first_group nodes_fit [] rest) ≡ g.taken =
        ap (λ (fits : List (List ℕ) → Bool). length (first_group fits [] rest)) nodes_room ∙ sym n.count in
        t.left h ∙ groups_next nodes_fit rest (λ r m. alone r (among_drop from rs m))
        ∙ ap₂ (λ (a : List (List ℕ)) (l : List (List ℕ)). a ∷ more nodes_fit l) is_group
        (ap (λ (j : ℕ). drop j rest) k ∙ drop-drop g.taken from rs)

    -- it has room in a message
    pub group_fits : (length group ≤ 32) × (bytes_with 6 group ≤ 1280)
    group_fits = room_true 6 group (ap (room 6) (sym n.is) ∙ first_fits (room 6) [] (drop from rs) (none_fits 6 (lit≤ tt)))

    first_next : first_of rs (i + 1) ≡ first_of rs i ++ message group ∷ []
    first_next =
        ap (map message) (rest_next all i group (more nodes_fit (drop (from + g.taken) rs)) here).0 ∙ map-append message (take i all) (group ∷ [])

    size_is : g.size ≡ size_of (message group)
    size_is = n.size ∙ sym (nodes_length (length all) group)

    bytes_next : bytes_of (first_of rs (i + 1)) ≡ bytes_of (first_of rs i) ++ encode (message group)
    bytes_next =
        ap bytes_of first_next ∙ bytes_append (first_of rs i) (message group ∷ [])
        ∙ ap (λ (l : List ℕ). bytes_of (first_of rs i) ++ l) (bytes_one (message group))

    end_next : at + g.size ≡ length (bytes_of (first_of rs (i + 1)))
    end_next =
        let a = t.end in
        let z = size_is in
        omega (arith, ap length bytes_next, length-append (bytes_of (first_of rs i)) (encode (message group)))

    -- and in the buffer
    pub group_room : length (bytes_of (messages_of rs)) ≤ length before → at + g.size ≤ length before
    group_room k = omega (arith, end_next, bytes_most (i + 1))

    -- what writing it into the rest of the buffer leaves of the buffer
    abbrev part : List ℕ
    part = take (length out - at) (drop at out)

    pub one_written : length (bytes_of (messages_of rs)) ≤ length before → (bytes starts lens after : List ℕ) (total k : ℕ) (r : Result ℕ Refusal)
        → Lends bytes starts lens rs → total ≡ length all → k ≡ g.taken
        → Writes (bytes_for_lent (found_nodes total) (lent bytes (take k (drop from starts)) (take k (drop from lens))) (length part)) r part after
        → take at out ++ (after ++ drop (length out - at) (drop at out)) ≡ take at out ++ (encode (message group) ++ drop g.size (drop at out))
    unfolding rules_of
    one_written room' bytes starts lens after total k r l is taken w =
        put_back out at after (encode (message group)) g.size
        (w.buffer
        ∙ ap (λ (o : Outcome (List ℕ)). written o part)
        (ap₂ (λ (j c : ℕ). bytes_for_lent (found_nodes c) (lent bytes (take j (drop from starts)) (take j (drop from lens))) (length part)) taken is ∙ made)
        ∙ ap (λ (j : ℕ). encode (message group) ++ drop j part) (sym size_is))
      where
        made : bytes_for_lent (found_nodes (length all)) (lent bytes (take g.taken (drop from starts)) (take g.taken (drop from lens))) (length part)
            ≡ given (encode (message group))
        made =
            let p = cut_part from g.taken rs in
            let e = lends_lent (lends_take g.taken (lends_drop from l)) in
            let f = group_fits in
            let z = size_is in
            let s = nodes_length (length all) group in
            let fits : g.size ≤ length part =
            omega (
              arith,
              group_room room',
              sending_length before i from at sizes out t room',
              length-take-le (length out - at) (drop at out) (omega (arith, length-drop at out)),
            ) in
            rw (
              e,
              le-leb (length group) 32 f.0,
              lt-ltb 0 (length all) (omega arith),
              part_sizes rs (take from rs) group (drop g.taken (drop from rs)) p fair.sizes,
              part_different rs (take from rs) group (drop g.taken (drop from rs)) p fair.different,
              le-ltb 1280 (size_of (message group)) (omega arith),
              le-ltb (length part) (size_of (message group)) (omega arith),
            )

    -- one message more
    pub sending_next : length (bytes_of (messages_of rs)) ≤ length before → length all ≤ 33 → (sizes' out' : List ℕ) (len to end : ℕ)
        → sizes' ≡ set sizes i len → len ≡ g.size → to ≡ from + g.taken → end ≡ at + g.size
        → out' ≡ take at out ++ (encode (message group) ++ drop g.size (drop at out))
        → Sending rs before (i + 1) to end sizes' out'
    sending_next room' few sizes' out' len to end ls is on e os =
        let taken-few = first_most (room 6) (drop from rs) in
        let taken_is = n.count in
        let inside = t.inside in
        record {
          passed = omega arith;
          inside = omega (arith, length-drop from rs);
          left = λ less.
              let r = (rest_next all i group (more nodes_fit (drop (from + g.taken) rs)) here).1 in
              r ∙ more_groups nodes_fit (drop (from + g.taken) rs) (omega (arith, ap length r, length-drop (i + 1) all))
              ∙ ap (λ (j : ℕ). groups nodes_fit (drop j rs)) (sym on);
          end = e ∙ end_next;
          lens = ls ∙ ap₂ (λ (l : List ℕ) (k : ℕ). set l i k) (t.lens ∙ ap (λ (k : ℕ). map size_of (first_of rs i) ++ replicate k 0) tail) (is ∙ size_is)
              ∙ set_at (map size_of (first_of rs i)) 0 (replicate (33 - (i + 1)) 0) (size_of (message group)) i front
              ∙ sym (append_snoc (map size_of (first_of rs i)) (size_of (message group)) (replicate (33 - (i + 1)) 0))
              ∙ sym (ap (λ (l : List ℕ). l ++ replicate (33 - (i + 1)) 0) (ap (map size_of) first_next ∙ map-append size_of (first_of rs i) (message group ∷ [])));
          bytes = os
              ∙ ap₂ (λ (a b : List ℕ). a ++ (encode (message group) ++ drop g.size b))
              (ap (take at) t.bytes ∙ take_at done (drop at before) at (sym t.end))
              (ap (drop at) t.bytes ∙ drop_at done (drop at before) at (sym t.end))
              ∙ sym (append_assoc done (encode (message group)) (drop g.size (drop at before)))
              ∙ ap₂ (λ (a b : List ℕ). a ++ b) (sym bytes_next) (drop-drop g.size at before ∙ ap (λ (k : ℕ). drop k before) (sym e));
        }
      where
        done : List ℕ
        done = bytes_of (first_of rs i)

        tail : 33 - i ≡ suc (33 - (i + 1))
        tail = omega arith

        front : length (map size_of (first_of rs i)) ≡ i
        front = length-map (first_of rs i) size_of ∙ length-map (take i all) message ∙ length-take-le i all (omega arith)

  -- all are written
  pub sending_end : (before : List ℕ) (i from at : ℕ) (sizes out : List ℕ) → Sending rs before i from at sizes out → length all ≤ i
      → Sent (messages_of rs) sizes before out
  sending_end before i from at sizes out t h =
      let same : i ≡ length all = let p = t.passed in omega arith in
      let whole : first_of rs i ≡ messages_of rs = ap (map message) (take_all i all h) in
      let count : length (map size_of (messages_of rs)) ≡ i = length-map (messages_of rs) size_of ∙ length-map all message ∙ sym same in
      record {
        sizes = t.lens ∙ ap₂ (λ (ms : List Message) (k : ℕ). map size_of ms ++ replicate (33 - k) 0) whole (sym count);
        buffer = t.bytes ∙ ap₂ (λ (l : List ℕ) (k : ℕ). l ++ drop k before) (ap bytes_of whole) (t.end ∙ ap (λ (ms : List Message). length (bytes_of ms)) whole);
      }
