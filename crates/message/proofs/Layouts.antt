-- The container of each type of message: the values are read back from its bytes, and its bytes come back from the values that were
-- read. Assumes nothing.
use Prim.Native.Nat.{ℕ, zero, suc, ◌+◌, ◌*◌, ◌-◌, ◌^◌, ◌<◌, ◌≤◌}
use native.Mathlib.Omega.{arith}
use mathlib.Core.Path.{◌≡◌, refl, sym, ap, ap₂, subst, ◌∙◌}
use mathlib.Core.Bool.{Bool, true, false, cond}
use mathlib.Core.List.{List, [], ◌∷◌, ◌++◌, reverse, append_assoc}
use mathlib.Core.Option.{Option, some, none, none-ne-some, some-injective}
use lib.Dec.{leb, eqb}
use lib.ListN.{length, get_or, take, drop, length-append, length-take, length-drop, take-append-drop}
use lib.Seq.{take_at, drop_at, drop-drop, length-take-le}
use borrow.Author.Tests.{le-leb, leb-true, eq-eqb, eqb-true}
use Rattle.octets.specs.Bytes.{Bytes}
use Rattle.octets.proofs.Numbers.{bytes_take, bytes_drop, le_bytes_length}
use Rattle.message.specs.Values.{Message, ping, pong, find_node, found_nodes, find_content, found_content, offer, accept, store, Sized, Formed}
use Rattle.message.specs.Encode.{offset, joined, list_bytes, encode}
use Rattle.message.specs.Records.{offset_of, records_of}
use Rattle.message.specs.Decode.{map_some, radius_of, rest_of, two_offsets, found_content_of, found_nodes_of, layout_of}
use Rattle.message.proofs.Tests.{all_four}
use Rattle.message.proofs.Offsets.{offset_read, offset_inside}
use Rattle.message.proofs.Records.{list_length, list_read, read_list, read_bytes}
use Rattle.message.proofs.Parts.{radius_read, read_radius, rest_read, read_rest}

-- the layout of FoundContent: its first offset is 12, and its second one is from 12 to the container's length
pub record TwoOffsets (s : List ℕ) : Type 0 where
  pub long : 12 ≤ length s
  pub first : offset_of (drop 4 s) ≡ 12
  pub least : 12 ≤ offset_of (drop 8 s)
  pub most : offset_of (drop 8 s) ≤ length s

-- the layout passes the test
pub two_pass : {s : List ℕ} → TwoOffsets s → two_offsets s ≡ true
unfolding two_offsets
two_pass {s} t =
    rw (le-leb 12 (length s) t.long, eq-eqb (offset_of (drop 4 s)) 12 t.first, le-leb 12 (offset_of (drop 8 s)) t.least, le-leb (offset_of (drop 8 s)) (length s) t.most)

-- what passes the test has the layout
pub pass_two : (s : List ℕ) → two_offsets s ≡ true → TwoOffsets s
unfolding two_offsets
pass_two s e =
    let o = offset_of (drop 8 s) in
    let p = all_four (leb 12 (length s)) (eqb (offset_of (drop 4 s)) 12) (leb 12 o) (leb o (length s)) e in
    record { long = leb-true 12 (length s) p.0; first = eqb-true (offset_of (drop 4 s)) 12 p.1; least = leb-true 12 o p.2; most = leb-true o (length s) p.3 }

-- what is read of that layout, where its list holds records
two_read : (s : List ℕ) (rs : List (List ℕ)) → TwoOffsets s → records_of (take (offset_of (drop 8 s) - 12) (drop 12 s)) ≡ some rs
    → found_content_of s ≡ some (found_content (take 4 s) rs (drop (offset_of (drop 8 s)) s))
unfolding found_content_of
two_read s rs t e = rw (two_pass t, e)

-- FoundContent is read back
pub found_content_read : (connection list : List ℕ) (rs : List (List ℕ)) (content : List ℕ) → length connection ≡ 4
    → 12 + length list < 2 ^ 32 → records_of list ≡ some rs
    → found_content_of (connection ++ offset 12 ++ offset (12 + length list) ++ list ++ content) ≡ some (found_content connection rs content)
found_content_read connection list rs content l h e =
    let n = 12 + length list in
    let s = connection ++ offset 12 ++ offset n ++ list ++ content in
    let all : s ≡ connection ++ (offset 12 ++ (offset n ++ (list ++ content))) = simp append_assoc in
    let size : length s ≡ n + length content = simp (length-append, le_bytes_length) (omega arith) in
    let front : take 4 s ≡ connection =
    ap (take 4) all ∙ take_at connection (offset 12 ++ (offset n ++ (list ++ content))) 4 l in
    let from4 : drop 4 s ≡ offset 12 ++ (offset n ++ (list ++ content)) =
    ap (drop 4) all ∙ drop_at connection (offset 12 ++ (offset n ++ (list ++ content))) 4 l in
    let from8 : drop 8 s ≡ offset n ++ (list ++ content) =
    sym (drop-drop 4 4 s) ∙ ap (drop 4) from4 ∙ drop_at (offset 12) (offset n ++ (list ++ content)) 4 (le_bytes_length 4 12) in
    let from12 : drop 12 s ≡ list ++ content =
    sym (drop-drop 4 8 s) ∙ ap (drop 4) from8 ∙ drop_at (offset n) (list ++ content) 4 (le_bytes_length 4 n) in
    let rest : drop n s ≡ content =
    sym (drop-drop (length list) 12 s) ∙ ap (drop (length list)) from12 ∙ drop_at list content (length list) refl in
    let first : offset_of (drop 4 s) ≡ 12 = ap offset_of from4 ∙ offset_read 12 (offset n ++ (list ++ content)) (omega arith) in
    let second : offset_of (drop 8 s) ≡ n = ap offset_of from8 ∙ offset_read n (list ++ content) h in
    let two : TwoOffsets s = record { long = omega arith; first = first; least = omega arith; most = omega arith } in
    let less : offset_of (drop 8 s) - 12 ≡ length list = omega arith in
    let middle : take (offset_of (drop 8 s) - 12) (drop 12 s) ≡ list =
    ap₂ (λ (k : ℕ) (x : List ℕ). take k x) less from12 ∙ take_at list content (length list) refl in
    two_read s rs two (ap records_of middle ∙ e)
    ∙ ap₂ (λ (c x : List ℕ). some (found_content c rs x)) front (ap (λ (k : ℕ). drop k s) second ∙ rest)

-- what a container of a type holds: the values whose bytes it has, and they are of their types
pub record Holds (kind : ℕ) (body : List ℕ) (m : Message) : Type 0 where
  pub bytes : encode m ≡ kind ∷ body
  pub formed : Formed m

-- where the values come from one part, it is enough to look at that part
from_part : {A : Type 0} (kind : ℕ) (body : List ℕ) (m : Message) (f : A → Message) (part : Option A)
    → ((a : A) → part ≡ some a → Holds kind body (f a)) → map_some f part ≡ some m → Holds kind body m
from_part kind body m f none h e = absurd (none-ne-some m e)
from_part kind body m f (some a) h e = subst (Holds kind body) (some-injective (f a) m e) (h a refl)

-- FoundContent of that layout has the bytes that it was read from
two_held : (s : List ℕ) (rs : List (List ℕ)) → Bytes s → TwoOffsets s → records_of (take (offset_of (drop 8 s) - 12) (drop 12 s)) ≡ some rs
    → Holds 6 s (found_content (take 4 s) rs (drop (offset_of (drop 8 s)) s))
unfolding encode
two_held s rs b t r =
    let o = offset_of (drop 8 s) in
    let part = take (o - 12) (drop 12 s) in
    let part_bytes : Bytes part = bytes_take (o - 12) (drop 12 s) (bytes_drop 12 s b) in
    let same : list_bytes rs ≡ part = read_list part rs part_bytes r in
    let size : length part ≡ o - 12 = simp (length-take, length-drop) (omega arith) in
    let second : 12 + length (list_bytes rs) ≡ o = omega (arith, ap length same) in
    let long : 4 ≤ length (drop 8 s) = simp length-drop (omega arith) in
    let o-less : o ≡ 12 + (o - 12) = omega arith in
    let back : part ++ drop o s ≡ drop 12 s =
    ap (λ (x : List ℕ). part ++ x) (ap (λ (k : ℕ). drop k s) o-less ∙ sym (drop-drop (o - 12) 12 s))
    ∙ take-append-drop (o - 12) (drop 12 s) in
    let middle : offset o ++ drop 12 s ≡ drop 8 s =
    ap (λ (x : List ℕ). offset o ++ x) (sym (drop-drop 4 8 s)) ∙ offset_inside 0 (drop 8 s) (bytes_drop 8 s b) long in
    let front : take 4 s ++ offset 12 ++ drop 8 s ≡ s =
    ap (λ (k : ℕ). take 4 s ++ offset k ++ drop 8 s) (sym t.first) ∙ offset_inside 4 s b (omega arith) in
    let whole : take 4 s ++ offset 12 ++ offset (12 + length (list_bytes rs)) ++ list_bytes rs ++ drop o s ≡ s =
    ap₂ (λ (k : ℕ) (x : List ℕ). take 4 s ++ offset 12 ++ offset k ++ x ++ drop o s) second same
    ∙ append_assoc (take 4 s ++ offset 12 ++ offset o) part (drop o s)
    ∙ append_assoc (take 4 s ++ offset 12) (offset o) (part ++ drop o s)
    ∙ ap (λ (x : List ℕ). take 4 s ++ offset 12 ++ x) (ap (λ (x : List ℕ). offset o ++ x) back ∙ middle)
    ∙ front in
    record {
      bytes = ap (λ (x : List ℕ). 6 ∷ x) whole;
      formed = ((bytes_take 4 s b, length-take-le 4 s (omega arith)), (read_bytes part rs part_bytes r, bytes_drop o s b));
    }

-- FoundContent has the bytes that it was read from
read_found_content : (s : List ℕ) (m : Message) → Bytes s → found_content_of s ≡ some m → Holds 6 s m
unfolding found_content_of
read_found_content s m b e = go (two_offsets s) refl e
  where
    o : ℕ
    o = offset_of (drop 8 s)

    values : List (List ℕ) → Message
    values rs = found_content (take 4 s) rs (drop o s)

    go : (t : Bool) → two_offsets s ≡ t → cond t (map_some values (records_of (take (o - 12) (drop 12 s)))) none ≡ some m → Holds 6 s m
    go true t w = from_part 6 s m values (records_of (take (o - 12) (drop 12 s))) (λ rs. two_held s rs b (pass_two s t)) w
    go false t w = absurd (none-ne-some m w)

-- FoundNodes whose rest holds records has the bytes that it was read from
nodes_held : (s list : List ℕ) (rs : List (List ℕ)) → Bytes s → rest_of 5 s ≡ some list → records_of list ≡ some rs
    → Holds 4 s (found_nodes (get_or s 0 0) rs)
unfolding encode
nodes_held [] list rs b r e = let p = read_rest 5 [] list (omega arith) b r in absurd (omega arith)
nodes_held (total ∷ s) list rs b r e =
    let p = read_rest 5 (total ∷ s) list (omega arith) b r in
    record {
      bytes = ap (λ (x : List ℕ). 4 ∷ total ∷ (offset 5 ++ x)) (read_list list rs p.2 e) ∙ ap (λ (x : List ℕ). 4 ∷ x) p.1;
      formed = (b.0, read_bytes list rs p.2 e);
    }

-- FoundNodes has the bytes that it was read from
read_found_nodes : (s : List ℕ) (m : Message) → Bytes s → found_nodes_of (get_or s 0 0) (rest_of 5 s) ≡ some m → Holds 4 s m
unfolding found_nodes_of
read_found_nodes s m b e = go (rest_of 5 s) refl e
  where
    go : (rest : Option (List ℕ)) → rest_of 5 s ≡ rest → found_nodes_of (get_or s 0 0) rest ≡ some m → Holds 4 s m
    go none r w = absurd (none-ne-some m w)
    go (some list) r w = from_part 4 s m (found_nodes (get_or s 0 0)) (records_of list) (λ rs. nodes_held s list rs b r) w

-- a message that is a radius has the bytes that it was read from
radius_held : (kind : ℕ) (s : List ℕ) (f : List ℕ → Message) (m : Message) → Bytes s
    → ((r : List ℕ) → encode (f r) ≡ kind ∷ reverse r) → ((r : List ℕ) → Sized 32 r → Formed (f r))
    → map_some f (radius_of s) ≡ some m → Holds kind s m
radius_held kind s f m b is fits e = from_part kind s m f (radius_of s) held e
  where
    held : (r : List ℕ) → radius_of s ≡ some r → Holds kind s (f r)
    held r h =
        let p = read_radius s r b h in
        record { bytes = is r ∙ ap (λ (x : List ℕ). kind ∷ x) p.0; formed = fits r p.1 }

-- a message that is one list behind its offset has the bytes that it was read from
list_held : (kind : ℕ) (s : List ℕ) (f : List ℕ → Message) (m : Message) → Bytes s
    → ((r : List ℕ) → encode (f r) ≡ kind ∷ (offset 4 ++ r)) → ((r : List ℕ) → Bytes r → Formed (f r))
    → map_some f (rest_of 4 s) ≡ some m → Holds kind s m
list_held kind s f m b is fits e = from_part kind s m f (rest_of 4 s) held e
  where
    held : (r : List ℕ) → rest_of 4 s ≡ some r → Holds kind s (f r)
    held r h =
        let p = read_rest 4 s r (omega arith) b h in
        record { bytes = is r ∙ ap (λ (x : List ℕ). kind ∷ x) p.1; formed = fits r p.2 }

-- Store has the bytes that it was read from
store_held : (s content : List ℕ) → Bytes s → rest_of 8 s ≡ some content → Holds 9 s (store (take 4 s) content)
unfolding encode
store_held s content b e =
    let p = read_rest 8 s content (omega arith) b e in
    record {
      bytes = ap (λ (x : List ℕ). 9 ∷ x) p.1;
      formed = ((bytes_take 4 s b, length-take-le 4 s (omega arith)), p.2);
    }

-- the values that are read from a container have its bytes, and are of their types
pub read_layout : (kind : ℕ) (s : List ℕ) (m : Message) → 1 ≤ kind → kind ≤ 9 → Bytes s → layout_of kind s ≡ some m → Holds kind s m
unfolding layout_of encode
read_layout zero s m l h b e = absurd (omega arith)
read_layout (suc zero) s m l h b e = radius_held 1 s ping m b (λ r. refl) (λ r k. k) e
read_layout (suc (suc zero)) s m l h b e = radius_held 2 s pong m b (λ r. refl) (λ r k. k) e
read_layout (suc (suc (suc zero))) s m l h b e = list_held 3 s find_node m b (λ r. refl) (λ r k. k) e
read_layout (suc (suc (suc (suc zero)))) s m l h b e = read_found_nodes s m b e
read_layout (suc (suc (suc (suc (suc zero))))) s m l h b e = list_held 5 s find_content m b (λ r. refl) (λ r k. k) e
read_layout (suc (suc (suc (suc (suc (suc zero)))))) s m l h b e = read_found_content s m b e
read_layout (suc (suc (suc (suc (suc (suc (suc zero))))))) s m l h b e = list_held 7 s offer m b (λ r. refl) (λ r k. k) e
read_layout (suc (suc (suc (suc (suc (suc (suc (suc zero)))))))) s m l h b e = list_held 8 s accept m b (λ r. refl) (λ r k. k) e
read_layout (suc (suc (suc (suc (suc (suc (suc (suc (suc zero))))))))) s m l h b e = from_part 9 s m (store (take 4 s)) (rest_of 8 s) (λ content. store_held s content b) e
read_layout (suc (suc (suc (suc (suc (suc (suc (suc (suc (suc k)))))))))) s m l h b e = absurd (omega arith)

-- the values of their types are read back from a container that is not too long
pub layout_read : (m : Message) → Formed m → length (encode m) ≤ 1280 → layout_of (get_or (encode m) 0 0) (drop 1 (encode m)) ≡ some m
unfolding layout_of found_nodes_of encode
layout_read (ping radius) f l = rw (radius_read radius f.1)
layout_read (pong radius) f l = rw (radius_read radius f.1)
layout_read (find_node ds) f l = rw (rest_read 4 [] ds refl (omega arith))
layout_read (found_nodes total rs) f l =
    let list = list_bytes rs in
    let small : 4 * length rs + length (joined rs) < 2 ^ 32 = omega (arith, list_length rs, length-append (offset 5) list) in
    rw (rest_read 5 (total ∷ []) list refl (omega arith), list_read rs small)
layout_read (find_content key) f l = rw (rest_read 4 [] key refl (omega arith))
layout_read (found_content connection rs content) f l =
    let list = list_bytes rs in
    let front = connection ++ offset 12 ++ offset (12 + length list) in
    let size : length list ≤ 1280 = omega (arith, length-append front list, length-append (front ++ list) content) in
    found_content_read connection list rs content f.0.1 (omega arith) (list_read rs (omega (arith, list_length rs)))
layout_read (offer key) f l = rw (rest_read 4 [] key refl (omega arith))
layout_read (accept key) f l = rw (rest_read 4 [] key refl (omega arith))
layout_read (store connection content) f l =
    let s = connection ++ offset 8 ++ content in
    let front : take 4 s ≡ connection =
    ap (take 4) (append_assoc connection (offset 8) content) ∙ take_at connection (offset 8 ++ content) 4 f.0.1 in
    ap (map_some (store (take 4 s))) (rest_read 8 connection content (omega arith) (omega arith))
    ∙ ap (λ (x : List ℕ). some (store x content)) front
