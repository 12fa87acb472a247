-- How long the messages of a reply are, and which records one message holds: both tests are one, over the number of bytes of the
-- message's head. Assumes nothing.
use Prim.Native.Nat.{ℕ, ◌+◌, ◌*◌, ◌≤◌, ◌<◌}
use native.Mathlib.Numerals.{add-one}
use native.Mathlib.Omega.{arith}
use mathlib.Core.Path.{◌≡◌, refl, ap, ap₂, fun_ext, ◌∙◌}
use mathlib.Core.Bool.{true, ◌&&◌}
use mathlib.Core.List.Memᴰ.{head as here}
use mathlib.Core.List.Memᴰ.{tail as there}
use mathlib.Core.List.{List, [], ◌∷◌, ◌++◌, map}
use lib.Dec.{leb}
use lib.ListN.{length, get_or, take, length-append}
use lib.Seq.{length-take-le, take-suc}
use borrow.Author.Tests.{leb-true, le-leb}
use Rattle.octets.proofs.Numbers.{le_bytes_length}
use Rattle.octets.proofs.Tests.{both}
use Rattle.message.specs.Values.{found_nodes, found_content}
use Rattle.message.specs.Encode.{offset, joined, list_bytes, encode}
use Rattle.message.proofs.Records.{offsets_length, list_length}
use Rattle.routing_table.specs.Rules.{◌among◌}
use Rattle.replies.specs.Room.{bytes_with, room}
use Rattle.replies.specs.Nodes.{nodes_fit}
use Rattle.replies.specs.Content.{no_connection, content_fit}
use Rattle.replies.specs.Laws.{together}

-- the bytes of a FoundNodes
pub nodes_length : (total : ℕ) (rs : List (List ℕ)) → length (encode (found_nodes total rs)) ≡ bytes_with 6 rs
unfolding encode
nodes_length total rs = omega (arith, length-append (offset 5) (list_bytes rs), le_bytes_length 4 5, list_length rs)

-- the bytes of a FoundContent
pub content_length : (connection : List ℕ) (rs : List (List ℕ)) (content : List ℕ) → length connection ≡ 4
    → length (encode (found_content connection rs content)) ≡ bytes_with 13 rs + length content
unfolding encode
content_length connection rs content l =
    let n = offsets_length (4 * length rs) rs in
    simp (length-append, le_bytes_length) (omega arith)

-- the tests of one message are one test
module _ (rs : List (List ℕ)) where
  pub nodes_is : nodes_fit rs ≡ room 6 rs
  unfolding room
  nodes_is = ap (λ (n : ℕ). leb (length rs) 32 && leb n 1280) (nodes_length 1 rs)

  pub content_is : content_fit rs ≡ room 13 rs
  unfolding room
  content_is =
      let n : length (encode (found_content no_connection rs [])) ≡ bytes_with 13 rs = omega (arith, content_length no_connection rs [] refl) in
      ap (λ (k : ℕ). leb (length rs) 32 && leb k 1280) n

pub nodes_room : nodes_fit ≡ room 6
nodes_room = fun_ext nodes_is

pub content_room : content_fit ≡ room 13
content_room = fun_ext content_is

-- one record more
pub joined_end : (rs : List (List ℕ)) (r : List ℕ) → length (joined (rs ++ r ∷ [])) ≡ length (joined rs) + length r
unfolding joined
joined_end [] r = omega (arith, length-append r [])
joined_end (q ∷ rs) r = omega (arith, length-append q (joined (rs ++ r ∷ [])), length-append q (joined rs), joined_end rs r)

pub bytes_end : (head : ℕ) (rs : List (List ℕ)) (r : List ℕ) → bytes_with head (rs ++ r ∷ []) ≡ bytes_with head rs + (4 + length r)
bytes_end head rs r = omega (arith, joined_end rs r, length-append rs (r ∷ []))

-- the bytes and the test with one record more, at place i of a list
module _ (head : ℕ) (l : List (List ℕ)) (i : ℕ) (h : i < length l) where
  pub bytes_take : bytes_with head (take (i + 1) l) ≡ bytes_with head (take i l) + (4 + length (get_or l i []))
  bytes_take = rw add-one (ap (bytes_with head) (take-suc l i [] h) ∙ bytes_end head (take i l) (get_or l i []))

  pub room_take : room head (take (i + 1) l) ≡ (leb (i + 1) 32 && leb (bytes_with head (take i l) + (4 + length (get_or l i []))) 1280)
  unfolding room
  room_take =
      let n : length (take (i + 1) l) ≡ i + 1 = length-take-le (i + 1) l (omega arith) in
      ap₂ (λ (m k : ℕ). leb m 32 && leb k 1280) n bytes_take

-- all bytes of messages for groups of records
joined_append : (a b : List (List ℕ)) → length (joined (a ++ b)) ≡ length (joined a) + length (joined b)
unfolding joined
joined_append [] b = omega arith
joined_append (r ∷ a) b = omega (arith, length-append r (joined (a ++ b)), length-append r (joined a), joined_append a b)

pub nodes_total : (total : ℕ) (gs : List (List (List ℕ)))
    → length (joined (map encode (map (found_nodes total) gs))) ≡ 6 * length gs + (4 * length (together gs) + length (joined (together gs)))
unfolding joined together
nodes_total total [] = omega arith
nodes_total total (g ∷ gs) =
    omega (
      arith,
      length-append (encode (found_nodes total g)) (joined (map encode (map (found_nodes total) gs))),
      nodes_length total g,
      nodes_total total gs,
      length-append g (together gs),
      joined_append g (together gs),
    )

-- the test as facts
module _ (head : ℕ) (rs : List (List ℕ)) where
  pub room_true : room head rs ≡ true → (length rs ≤ 32) × (bytes_with head rs ≤ 1280)
  unfolding room
  room_true e =
      let p = both (leb (length rs) 32) (leb (bytes_with head rs) 1280) e in
      (leb-true (length rs) 32 p.0, leb-true (bytes_with head rs) 1280 p.1)

  pub true_room : length rs ≤ 32 → bytes_with head rs ≤ 1280 → room head rs ≡ true
  unfolding room
  true_room h k = rw (le-leb (length rs) 32 h, le-leb (bytes_with head rs) 1280 k)

-- records of at most 300 bytes
abbrev pub Short : List ℕ → Type 0
Short r = length r ≤ 300

pub joined_most : (rs : List (List ℕ)) → ((r : List ℕ) → r among rs → Short r) → length (joined rs) ≤ 300 * length rs
unfolding joined
joined_most [] f = omega arith
joined_most (r ∷ rs) f =
    omega (arith, length-append r (joined rs), f r (here refl), joined_most rs (λ q m. f q (there m)))

-- four of them fit, and one does, where the head has at most 64 bytes
module _ (head : ℕ) (h : head ≤ 64) where
  pub four_fit : (rs : List (List ℕ)) → length rs ≤ 4 → ((r : List ℕ) → r among rs → Short r) → room head rs ≡ true
  four_fit rs l f = let n = joined_most rs f in true_room head rs (omega arith) (omega arith)

  pub one_fits : (r : List ℕ) → Short r → room head (r ∷ []) ≡ true
  unfolding joined
  one_fits r s = true_room head (r ∷ []) (omega arith) (omega (arith, length-append r []))

  pub none_fits : room head [] ≡ true
  unfolding joined
  none_fits = true_room head [] (omega arith) (omega arith)
