-- The lines of keys, both ways. A key's line is a frame and five facts; the reading of n lines goes by recursion on n, the text of keys by
-- recursion on the keys. Assumes nothing.
use Prim.Native.Nat.{ℕ, zero, suc, ◌*◌, ◌≤◌}
use native.Mathlib.Omega.{arith}
use mathlib.Core.Path.{◌≡◌, refl, sym, ap, ap₂, subst, ◌∙◌}
use mathlib.Core.Bool.{Bool, true, false, cond, ◌&&◌, and-eq-true_iff}
use mathlib.Core.List.{List, [], ◌∷◌, ◌++◌}
use lib.Dec.{eqb, leb, lit<}
use lib.ListN.{length, get_or, drop, length-append, length-drop}
use lib.Seq.{drop-cons}
use borrow.Author.Tests.{eqb-true, eq-eqb, leb-true, le-leb}
use Rattle.octets.specs.Bytes.{be}
use Rattle.octets.proofs.Numbers.{bytes_drop}
use Rattle.hexadecimal.specs.Digits.{text_of}
use Rattle.hexadecimal.proofs.Texts.{length_text}
use Rattle.content_key.specs.Key.{selector_of}
use Rattle.key_index.specs.View.{View, fresh_of, with_keys}
use Rattle.key_index.specs.Good.{away_from}
use Rattle.key_index.specs.Keys.{Each, NineBytes}
use Rattle.key_index.specs.Rules.{GoodKeys}
use Rattle.snapshot.specs.Text.{line_of, key_lines}
use Rattle.snapshot.specs.Load.{Loading, bad_line, loaded, is_frame, frame_of, after_frame, key_in, is_key_line, before, ending, keys_of}
use Rattle.snapshot.proofs.Frames.{framed, line_frame, line_gives, line_rest}

-- the facts of a key's line
pub record KeyFacts (node : List ℕ) (cap from : ℕ) (text : List ℕ) : Type 0 where
  pub frame : is_frame 10 text ≡ true
  pub tag : get_or (frame_of 10 text) 0 0 ≡ 2
  pub selector : selector_of (key_in text) ≤ 1
  pub farther : from ≤ away_from node (key_in text)
  pub within : away_from node (key_in text) ≤ cap

module _ (node : List ℕ) (cap from : ℕ) (text : List ℕ) where
  -- a text that passes the test has them
  pub key_facts : is_key_line node cap from text ≡ true → KeyFacts node cap from text
  unfolding is_key_line
  key_facts e =
      let k = key_in text in
      let a = (and-eq-true_iff (is_frame 10 text && eqb (get_or (frame_of 10 text) 0 0) 2 && leb (selector_of k) 1 && leb from (away_from node k)) (leb (away_from node k) cap)).0 e in
      let b = (and-eq-true_iff (is_frame 10 text && eqb (get_or (frame_of 10 text) 0 0) 2 && leb (selector_of k) 1) (leb from (away_from node k))).0 a.0 in
      let d = (and-eq-true_iff (is_frame 10 text && eqb (get_or (frame_of 10 text) 0 0) 2) (leb (selector_of k) 1)).0 b.0 in
      let f = (and-eq-true_iff (is_frame 10 text) (eqb (get_or (frame_of 10 text) 0 0) 2)).0 d.0 in
      record {
        frame = f.0;
        tag = eqb-true (get_or (frame_of 10 text) 0 0) 2 f.1;
        selector = leb-true (selector_of k) 1 d.1;
        farther = leb-true from (away_from node k) b.1;
        within = leb-true (away_from node k) cap a.1;
      }

  -- a text that has them passes it
  pub facts_key : KeyFacts node cap from text → is_key_line node cap from text ≡ true
  unfolding is_key_line
  facts_key f =
      let k = key_in text in
      rw (f.frame, eq-eqb (get_or (frame_of 10 text) 0 0) 2 f.tag, le-leb (selector_of k) 1 f.selector, le-leb from (away_from node k) f.farther, le-leb (away_from node k) cap f.within)

  -- the line is 02 and the key, and the text after it
  pub key_line_whole : KeyFacts node cap from text → line_of (2 ∷ key_in text) ++ after_frame 10 text ≡ text
  key_line_whole f =
      let w = framed 10 text f.frame in
      let s = w.size in
      ap (λ (l : List ℕ). line_of l ++ after_frame 10 text)
      (ap (λ (x : ℕ). x ∷ key_in text) (sym f.tag) ∙ sym (drop-cons (frame_of 10 text) 0 0 (omega arith)))
      ∙ w.whole

-- a key on a line has nine bytes
pub key_nine : (text : List ℕ) → is_frame 10 text ≡ true → NineBytes (key_in text)
key_nine text e =
    let w = framed 10 text e in
    record {
      size = let s = w.size in omega (arith, length-drop 1 (frame_of 10 text));
      bytes = bytes_drop 1 (frame_of 10 text) w.bytes;
    }

-- what n lines gave: n keys that keep the rules, whose lines are the text
pub record Got (node cap : List ℕ) (from n : ℕ) (text : List ℕ) (v : View) : Type 0 where
  pub node_is : v.node ≡ node
  pub cap_is : v.cap ≡ cap
  pub count : length v.keys ≡ n
  pub nine : Each NineBytes v.keys
  pub rules : GoodKeys node (be cap) from v.keys
  pub lines : key_lines v.keys ≡ text

module _ (node cap : List ℕ) where
  -- no lines
  got_none : (from line : ℕ) (text : List ℕ) (v : View) → ending (fresh_of node cap) line text ≡ loaded v → Got node cap from 0 text v
  unfolding key_lines
  got_none from line [] v e =
      let same : fresh_of node cap ≡ v = cc in
      subst (Got node cap from 0 [])
      same
      (record {
        node_is = refl;
        cap_is = refl;
        count = refl;
        nine = tt;
        rules = record { selectors = tt; sorted = tt; within = tt };
        lines = refl;
      })
  got_none from line (c ∷ text) v e = let z : ◌≡◌ {A = ℕ} 0 1 = cc in absurd (omega arith)

  -- one line more
  got_more : (from n : ℕ) (text : List ℕ) (v : View) → KeyFacts node (be cap) from text
      → Got node cap (suc (away_from node (key_in text))) n (after_frame 10 text) v
      → Got node cap from (suc n) text (with_keys v (key_in text ∷ v.keys))
  unfolding key_lines
  got_more from n text v f g =
      record {
        node_is = g.node_is;
        cap_is = g.cap_is;
        count = ap suc g.count;
        nine = (key_nine text f.frame, g.nine);
        rules = record {
          selectors = (f.selector, g.rules.selectors);
          sorted = (f.farther, g.rules.sorted);
          within = (f.within, g.rules.within);
        };
        lines = ap (λ (l : List ℕ). line_of (2 ∷ key_in text) ++ l) g.lines ∙ key_line_whole node (be cap) from text f;
      }

  -- what the reading of n lines gives
  pub keys_got : (line from n : ℕ) (text : List ℕ) (v : View) → keys_of node cap line from n text ≡ loaded v → Got node cap from n text v
  unfolding keys_of
  keys_got line from zero text v e = got_none from line text v e
  keys_got line from (suc n) text v e =
      go (is_key_line node (be cap) from text) refl
      (keys_of node cap (suc line) (suc (away_from node (key_in text))) n (after_frame 10 text)) refl e
      (λ w. keys_got (suc line) (suc (away_from node (key_in text))) n (after_frame 10 text) w)
    where
      go : (t : Bool) → is_key_line node (be cap) from text ≡ t
          → (rest : Loading) → keys_of node cap (suc line) (suc (away_from node (key_in text))) n (after_frame 10 text) ≡ rest
          → cond t (before (key_in text) rest) (bad_line line) ≡ loaded v
          → ((w : View) → keys_of node cap (suc line) (suc (away_from node (key_in text))) n (after_frame 10 text) ≡ loaded w
          → Got node cap (suc (away_from node (key_in text))) n (after_frame 10 text) w)
          → Got node cap from (suc n) text v
      go true q (loaded w) r f below =
          let same : with_keys w (key_in text ∷ w.keys) ≡ v = cc in
          subst (Got node cap from (suc n) text) same (got_more from n text w (key_facts node (be cap) from text q) (below w r))
      go true q (bad_line l) r f below = let z : ◌≡◌ {A = ℕ} 0 1 = cc in absurd (omega arith)
      go false q rest r f below = let z : ◌≡◌ {A = ℕ} 0 1 = cc in absurd (omega arith)

  -- the written line of a key that keeps the rules is one
  line_key : (from : ℕ) (k rest : List ℕ) → NineBytes k → selector_of k ≤ 1 → from ≤ away_from node k → away_from node k ≤ be cap
      → is_key_line node (be cap) from (line_of (2 ∷ k) ++ rest) ≡ true
  line_key from k rest n s f w =
      let is = line_gives 10 (2 ∷ k) rest (ap suc n.size) (lit< tt, n.bytes) in
      let key : key_in (line_of (2 ∷ k) ++ rest) ≡ k = ap (drop 1) is in
      facts_key node (be cap) from (line_of (2 ∷ k) ++ rest)
      (record {
        frame = line_frame 10 (2 ∷ k) rest (ap suc n.size) (lit< tt, n.bytes);
        tag = ap (λ (l : List ℕ). get_or l 0 0) is;
        selector = subst (λ (j : List ℕ). selector_of j ≤ 1) (sym key) s;
        farther = subst (λ (j : List ℕ). from ≤ away_from node j) (sym key) f;
        within = subst (λ (j : List ℕ). away_from node j ≤ be cap) (sym key) w;
      })

  -- the lines of keys that keep the rules give them back
  pub keys_back : (line from : ℕ) (ks : List (List ℕ)) → Each NineBytes ks → GoodKeys node (be cap) from ks
      → keys_of node cap line from (length ks) (key_lines ks) ≡ loaded (record { node = node; cap = cap; keys = ks })
  unfolding keys_of key_lines
  keys_back line from [] n g = refl
  keys_back line from (k ∷ ks) n g =
      let rest = key_lines ks in
      let text : List ℕ = line_of (2 ∷ k) ++ rest in
      let key : key_in text ≡ k = ap (drop 1) (line_gives 10 (2 ∷ k) rest (ap suc n.0.size) (lit< tt, n.0.bytes)) in
      let after : after_frame 10 text ≡ rest = line_rest 10 (2 ∷ k) rest (ap suc n.0.size) (lit< tt, n.0.bytes) in
      let is = line_key from k rest n.0 g.selectors.0 g.sorted.0 g.within.0 in
      ap (λ (t : Bool). cond t (before (key_in text) (keys_of node cap (suc line) (suc (away_from node (key_in text))) (length ks) (after_frame 10 text))) (bad_line line)) is
      ∙ ap₂ (λ (j : List ℕ) (t : List ℕ). before j (keys_of node cap (suc line) (suc (away_from node j)) (length ks) t)) key after
      ∙ ap (before k) (keys_back (suc line) (suc (away_from node k)) ks n.1
      (record { selectors = g.selectors.1; sorted = g.sorted.1; within = g.within.1 }))

-- 21 characters for each key
pub lines_length : (ks : List (List ℕ)) → Each (λ (k : List ℕ). length k ≡ 9) ks → length (key_lines ks) ≡ 21 * length ks
unfolding key_lines
lines_length [] h = refl
lines_length (k ∷ ks) h =
    omega (arith, h.0, lines_length ks h.1, length-append (line_of (2 ∷ k)) (key_lines ks), length-append (text_of (2 ∷ k)) (10 ∷ []), length_text (2 ∷ k))
