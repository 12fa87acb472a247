-- The pass of `load`. `Through` is what holds at the loop's head: what the text gives is the keys so far in front of what its rest gives.
-- The laws are its steps: the first line, a bad line, a good one, and the two ends; and what `load` and `reload` answer. Assumes nothing.
use Prim.Native.Nat.{ℕ, suc, ◌+◌, ◌-◌, ◌*◌, ◌≤◌, ◌<◌}
use native.Mathlib.Numerals.{add-one}
use native.Mathlib.Omega.{arith}
use mathlib.Core.Path.{◌≡◌, refl, sym, ap, ap₂, subst, ◌∙◌}
use mathlib.Core.Bool.{Bool, true, false, cond}
use mathlib.Core.List.{List, [], ◌∷◌, ◌++◌, append-nil, append_assoc}
use Rattle.std.specs.Prelude.{Option, Some, None}
use lib.ListN.{length, take, drop, length-drop, drop_of_length-le}
use lib.Seq.{append_snoc, take_at, drop_at, drop-drop, length-take-le}
use Rattle.octets.specs.Bytes.{be}
use Rattle.octets.specs.Buffer.{placed}
use Rattle.octets.proofs.Buffers.{placed_room}
use Rattle.refusal.specs.Says.{only}
use Rattle.key_index.specs.declared.KeyIndex.{KeyIndex}
use Rattle.key_index.specs.View.{key_limit, view, chunks, fresh_of, with_keys}
use Rattle.key_index.specs.Good.{away_from, good}
use Rattle.key_index.proofs.Chunks.{chunks_more, chunks_only}
use Rattle.snapshot.specs.Text.{Kind, kind01, kind11, head_size}
use Rattle.snapshot.specs.Load.{Loading, bad_line, loaded, after_frame, key_in, is_key_line, before, ending, keys_of, node_in, cap_in, count_in, is_header, read_as, kind_in, load_of}
use Rattle.snapshot.specs.Parts.{lowest, header_said, header_from, KeyLine, key_said, key_line_from}
use Rattle.snapshot.specs.Calls.{back, reloaded_by, reload_for}
use Rattle.snapshot.specs.declared.loading.Header.{Header}
use Rattle.snapshot.proofs.Frames.{framed}
use Rattle.snapshot.proofs.KeyLines.{key_facts, key_nine}
use Rattle.snapshot.proofs.RoundTrip.{header_facts}

-- keys in front of those that follow
abbrev onto : List (List ℕ) → Loading → Loading
onto ks (bad_line line) = bad_line line
onto ks (loaded v) = loaded (with_keys v (ks ++ v.keys))

onto_none : (l : Loading) → onto [] l ≡ l
onto_none (bad_line line) = refl
onto_none (loaded v) = refl

onto_more : (ks : List (List ℕ)) (k : List ℕ) (l : Loading) → onto (ks ++ (k ∷ [])) l ≡ onto ks (before k l)
onto_more ks k (bad_line line) = refl
onto_more ks k (loaded v) = ap (λ (js : List (List ℕ)). loaded (with_keys v js)) (append_snoc ks k v.keys)

-- what the text gives from place i on, after a first line of so many bytes and a key at the distance `last`
abbrev rest_of : List ℕ → ℕ → List ℕ → List ℕ → ℕ → Option (List ℕ) → ℕ → Loading
rest_of text first node cap count last i = keys_of node cap (i + 2) (lowest last) (count - i) (drop (first + 21 * i) text)

pub record Through (text : List ℕ) (first : ℕ) (node cap : List ℕ) (count : ℕ) (keys : List ℕ) (last : Option (List ℕ)) (i : ℕ) : Type 0 where
  pub inside : i ≤ count
  pub few : count ≤ key_limit
  pub head : first ≤ 135
  pub fits : first + 21 * i ≤ length text
  pub size : length keys ≡ 9 * key_limit
  pub same : load_of text ≡ onto (chunks i keys) (rest_of text first node cap count last i)

-- no kind lists more keys than an index, or has a longer first line than kind 11
kind_sizes : (text : List ℕ) → ((kind_in text).limit ≤ key_limit) × (2 * head_size (kind_in text) + 1 ≤ 135)
unfolding kind_in
kind_sizes text = go (is_header kind11 text)
  where
    go : (b : Bool) → ((cond b kind11 kind01).limit ≤ key_limit) × (2 * head_size (cond b kind11 kind01) + 1 ≤ 135)
    go true = (omega arith, omega arith)
    go false = (omega arith, omega arith)

-- the keys behind a first line
abbrev keys_in : Kind → List ℕ → Loading
keys_in kind text = keys_of (node_in kind text) (cap_in kind text) 2 0 (count_in kind text) (after_frame (head_size kind) text)

-- the first line is bad
pub first_bad : (text : List ℕ) → header_from (kind_in text) text ≡ None → bad_line 1 ≡ load_of text
unfolding read_as header_from
first_bad text e = go (is_header (kind_in text) text) e
  where
    go : (b : Bool) → cond b (Some (header_said (kind_in text) text)) None ≡ None → bad_line 1 ≡ cond b (keys_in (kind_in text) text) (bad_line 1)
    go true f = let z : ◌≡◌ {A = ℕ} 0 1 = cc in absurd (omega arith)
    go false f = refl

-- it is good
pub first_good : (text : List ℕ) {h : Header} → header_from (kind_in text) text ≡ Some h → (keys : List ℕ)
    → length keys ≡ 9 * key_limit → Through text h.size h.node h.cap h.count keys None 0
unfolding read_as header_from chunks
first_good text {h} e keys size = go (is_header (kind_in text) text) refl e
  where
    go : (b : Bool) → is_header (kind_in text) text ≡ b → cond b (Some (header_said (kind_in text) text)) None ≡ Some h
        → Through text h.size h.node h.cap h.count keys None 0
    go true good f =
        let kind = kind_in text in
        let said : header_said kind text ≡ h = cc in
        let facts = header_facts kind text good in
        let few = facts.few in
        let sizes = kind_sizes text in
        let all : count_in kind text ≡ count_in kind text - 0 = omega arith in
        let inside = (framed (head_size kind) text facts.frame).inside in
        let start : 2 * head_size kind + 1 ≡ 2 * head_size kind + 1 + 21 * 0 = omega arith in
        subst (λ (x : Header). Through text x.size x.node x.cap x.count keys None 0) said
        (record {
          inside = omega arith;
          few = omega (arith, sizes.0);
          head = omega (arith, sizes.1);
          fits = omega arith;
          size = size;
          same = ap (λ (t : Bool). cond t (keys_in kind text) (bad_line 1)) good
              ∙ ap₂ (λ (k m : ℕ). keys_of (node_in kind text) (cap_in kind text) 2 0 k (drop m text)) all start
              ∙ sym (onto_none (rest_of text (2 * head_size kind + 1) (node_in kind text) (cap_in kind text) (count_in kind text) None 0));
        })
    go false good f = let z : ◌≡◌ {A = ℕ} 0 1 = cc in absurd (omega arith)

-- a key put at place i comes after those before it
put_more : (keys key : List ℕ) (i : ℕ) → length key ≡ 9 → 9 * i + 9 ≤ length keys
    → chunks (i + 1) (placed keys (9 * i) key) ≡ chunks i keys ++ (key ∷ [])
put_more keys key i n h =
    let b : List ℕ = placed keys (9 * i) key in
    let front : length (take (9 * i) keys) ≡ 9 * i = length-take-le (9 * i) keys (omega arith) in
    let parts : b ≡ take (9 * i) keys ++ (key ++ drop (9 * i + 9) keys) =
    placed_room keys (9 * i) key (omega arith)
    ∙ append_assoc (take (9 * i) keys) key (drop (9 * i + length key) keys)
    ∙ ap (λ (k : ℕ). take (9 * i) keys ++ (key ++ drop (9 * i + k) keys)) n in
    ap (λ (k : ℕ). chunks k b) (add-one i)
    ∙ chunks_more i b
    ∙ ap₂ (λ (l : List (List ℕ)) (k : List ℕ). l ++ (k ∷ []))
    (chunks_only i b keys
    (ap (take (9 * i)) parts ∙ take_at (take (9 * i) keys) (key ++ drop (9 * i + 9) keys) (9 * i) front))
    (ap (λ (l : List ℕ). take 9 (drop (9 * i) l)) parts
    ∙ ap (take 9) (drop_at (take (9 * i) keys) (key ++ drop (9 * i + 9) keys) (9 * i) front)
    ∙ take_at key (drop (9 * i + 9) keys) 9 n)

module _ (text : List ℕ) (first : ℕ) (node cap : List ℕ) (count : ℕ) (keys : List ℕ) (last : Option (List ℕ)) (i : ℕ)
    (t : Through text first node cap count keys last i) where
  -- after the last line the text ends
  pub all_read : count ≤ i → length text ≡ first + 21 * count
      → load_of text ≡ loaded (record { node = node; cap = cap; keys = chunks count keys })
  unfolding keys_of
  all_read h e =
      let none : count - i ≡ 0 = omega arith in
      let last_one : i ≡ count = let l = t.inside in omega arith in
      t.same
      ∙ ap₂ (λ (n : ℕ) (rest : List ℕ). onto (chunks i keys) (keys_of node cap (i + 2) (lowest last) n rest)) none
      (drop_of_length-le text {i = first + 21 * i} (omega arith))
      ∙ ap (λ (ks : List (List ℕ)). loaded (record { node = node; cap = cap; keys = ks }))
      (append-nil (chunks i keys) ∙ ap (λ (n : ℕ). chunks n keys) last_one)

  -- it goes on
  pub too_long : count ≤ i → (length text ≡ first + 21 * count → ⊥) → load_of text ≡ bad_line (count + 2)
  unfolding keys_of
  too_long h n =
      let none : count - i ≡ 0 = omega arith in
      let last_one : i ≡ count = let l = t.inside in omega arith in
      t.same
      ∙ ap (λ (n : ℕ). onto (chunks i keys) (keys_of node cap (i + 2) (lowest last) n (drop (first + 21 * i) text))) none
      ∙ go (drop (first + 21 * i) text) (λ e. n (let f = t.fits in omega (arith, length-drop (first + 21 * i) text, ap length e)))
      ∙ ap (λ (n : ℕ). bad_line (n + 2)) last_one
    where
      go : (rest : List ℕ) → (rest ≡ [] → ⊥) → onto (chunks i keys) (ending (fresh_of node cap) (i + 2) rest) ≡ bad_line (i + 2)
      go [] n = absurd (n refl)
      go (c ∷ rest) n = refl

  -- a line is read
  module _ (h : i < count) where
    -- what its test leaves
    split : (b : Bool) → is_key_line node (be cap) (lowest last) (drop (first + 21 * i) text) ≡ b → rest_of text first node cap count last i
        ≡ cond b
        (before (key_in (drop (first + 21 * i) text))
        (keys_of node cap (suc (i + 2)) (suc (away_from node (key_in (drop (first + 21 * i) text)))) (count - suc i) (after_frame 10 (drop (first + 21 * i) text))))
        (bad_line (i + 2))
    unfolding keys_of
    split b tested =
        let rest = drop (first + 21 * i) text in
        let more : count - i ≡ suc (count - suc i) = omega arith in
        ap (λ (n : ℕ). keys_of node cap (i + 2) (lowest last) n rest) more
        ∙ ap (λ (b : Bool). cond b (before (key_in rest) (keys_of node cap (suc (i + 2)) (suc (away_from node (key_in rest))) (count - suc i) (after_frame 10 rest))) (bad_line (i + 2)))
        tested

    -- it is bad
    pub line_bad : key_line_from node cap last (drop (first + 21 * i) text) ≡ None → bad_line (i + 2) ≡ load_of text
    unfolding key_line_from
    line_bad e = go (is_key_line node (be cap) (lowest last) (drop (first + 21 * i) text)) refl e
      where
        go : (b : Bool) → is_key_line node (be cap) (lowest last) (drop (first + 21 * i) text) ≡ b
            → cond b (Some (key_said node (drop (first + 21 * i) text))) None ≡ None → bad_line (i + 2) ≡ load_of text
        go true q f = let z : ◌≡◌ {A = ℕ} 0 1 = cc in absurd (omega arith)
        go false q f = sym (t.same ∙ ap (onto (chunks i keys)) (split false q))

    -- it is good, and its key is put at its place
    pub line_good : {line : KeyLine} → key_line_from node cap last (drop (first + 21 * i) text) ≡ Some line → (next : List ℕ)
        → next ≡ placed keys (9 * i) line.key → length next ≡ 9 * key_limit → {past : Option (List ℕ)} → past ≡ Some line.far
        → Through text first node cap count next past (i + 1)
    unfolding key_line_from
    line_good {line} e next p long {past} far =
        subst (λ (o : Option (List ℕ)). Through text first node cap count next o (i + 1)) (sym far)
        (go (is_key_line node (be cap) (lowest last) (drop (first + 21 * i) text)) refl e)
      where
        good : is_key_line node (be cap) (lowest last) (drop (first + 21 * i) text) ≡ true → key_said node (drop (first + 21 * i) text) ≡ line
            → Through text first node cap count next (Some line.far) (i + 1)
        good q said =
            let rest = drop (first + 21 * i) text in
            let key_is : line.key ≡ key_in rest = ap (λ (k : KeyLine). k.key) (sym said) in
            let far_is = ap (λ (k : KeyLine). k.far) (sym said) in
            let facts = key_facts node (be cap) (lowest last) rest q in
            let inside = (framed 10 rest facts.frame).inside in
            let n : length line.key ≡ 9 = ap length key_is ∙ (key_nine rest facts.frame).size in
            let few = t.few in
            let size = t.size in
            let fits : first + 21 * (i + 1) ≤ length text = let f = t.fits in omega (arith, length-drop (first + 21 * i) text) in
            let room : 9 * i + 9 ≤ length keys = omega arith in
            let after : after_frame 10 rest ≡ drop (first + 21 * (i + 1)) text =
            let sum : first + 21 * i + 21 ≡ first + 21 * (i + 1) = omega arith in
            drop-drop 21 (first + 21 * i) text ∙ ap (λ (k : ℕ). drop k text) sum in
            let low : suc (away_from node (key_in rest)) ≡ lowest (Some line.far) = ap (λ (d : List ℕ). suc (be d)) (sym far_is) in
            let number : suc (i + 2) ≡ i + 1 + 2 = omega arith in
            let left : count - suc i ≡ count - (i + 1) = omega arith in
            record {
              inside = omega arith;
              few = few;
              head = t.head;
              fits = fits;
              size = long;
              same = t.same
                  ∙ ap (onto (chunks i keys)) (split true q)
                  ∙ sym (onto_more (chunks i keys) (key_in rest) (keys_of node cap (suc (i + 2)) (suc (away_from node (key_in rest))) (count - suc i) (after_frame 10 rest)))
                  ∙ ap₂ onto
                  (ap (λ (k : List ℕ). chunks i keys ++ (k ∷ [])) (sym key_is)
                  ∙ sym (ap (chunks (i + 1)) p ∙ put_more keys line.key i n room))
                  (ap₂ (λ (a b : ℕ). keys_of node cap a b (count - suc i) (after_frame 10 rest)) number low
                  ∙ ap₂ (λ (a : ℕ) (b : List ℕ). keys_of node cap (i + 1 + 2) (lowest (Some line.far)) a b) left after);
            }

        go : (b : Bool) → is_key_line node (be cap) (lowest last) (drop (first + 21 * i) text) ≡ b
            → cond b (Some (key_said node (drop (first + 21 * i) text))) None ≡ Some line
            → Through text first node cap count next (Some line.far) (i + 1)
        go true q f = good q (cc)
        go false q f = let z : ◌≡◌ {A = ℕ} 0 1 = cc in absurd (omega arith)

-- what `reload` answers for a bad index, and for a good one
module _ (limit : ℕ) (index : KeyIndex) (text : List ℕ) where
  pub reload_bad : good limit (view index) ≡ false → back (only 0) index ≡ reload_for limit index text
  reload_bad g = sym (ap (λ (b : Bool). cond b (reloaded_by index (load_of text)) (back (only 0) index)) g)

  pub reload_good : {l : Loading} → good limit (view index) ≡ true → l ≡ load_of text → reloaded_by index l ≡ reload_for limit index text
  reload_good g e =
      ap (reloaded_by index) e ∙ sym (ap (λ (b : Bool). cond b (reloaded_by index (load_of text)) (back (only 0) index)) g)
