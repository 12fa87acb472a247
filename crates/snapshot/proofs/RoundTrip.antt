-- The saved text and its reading belong together, in each kind: a shaped, good view comes back from its text, and a text that is accepted is
-- the text of the view that it gave, which is shaped and good. The first line goes by its parts, the rest by the laws on lines of keys. What
-- holds of a kind is proved once, for any kind whose count has room for its limit. Assumes nothing.
use Prim.Native.Nat.{ℕ, ◌+◌, ◌*◌, ◌^◌, ◌≤◌, ◌<◌}
use native.Mathlib.Omega.{arith}
use mathlib.Core.Path.{◌≡◌, refl, sym, ap, ap₂, subst, subst₂, ◌∙◌}
use mathlib.Core.Bool.{Bool, true, false, cond, ◌&&◌, and-eq-true_iff}
use mathlib.Core.Logic.{◌↔◌}
use mathlib.Core.List.{List, [], ◌∷◌, ◌++◌, append_assoc}
use lib.Dec.{eqb, leb}
use lib.ListN.{length, get_or, take, drop, length-append, length-drop, take-append-drop}
use lib.Seq.{drop-cons, drop-drop, take-add, take_at, drop_at, length-take-le}
use borrow.Author.Tests.{eqb-true, eq-eqb, leb-true, le-leb}
use Rattle.octets.specs.Bytes.{Bytes, be, le, le_bytes}
use Rattle.octets.proofs.Numbers.{bytes_append, bytes_drop, bytes_take, le_bytes_length, le_bytes_bytes, le_le_bytes_below, le_bytes_le}
use Rattle.hexadecimal.specs.Digits.{text_of}
use Rattle.hexadecimal.proofs.Texts.{length_text}
use Rattle.key_index.specs.View.{View}
use Rattle.key_index.specs.Good.{good}
use Rattle.key_index.specs.Keys.{Each, NineBytes}
use Rattle.key_index.specs.Rules.{GoodKeys}
use Rattle.key_index.proofs.Rules.{good_facts, facts_good}
use Rattle.snapshot.specs.Text.{Kind, line_of, head_frame, head_size, header_of, key_lines, form_of}
use Rattle.snapshot.specs.Load.{bad_line, loaded, is_frame, frame_of, after_frame, keys_of, node_in, cap_in, count_in, is_header, read_as}
use Rattle.snapshot.specs.Shape.{Shaped, Form}
use Rattle.snapshot.proofs.Frames.{framed, line_frame, line_gives, line_rest}
use Rattle.snapshot.proofs.KeyLines.{Got, keys_got, keys_back, lines_length}

-- a kind is sound: its mark is a byte, and its count has room for its limit
pub record Sound (kind : Kind) : Type 0 where
  pub marked : kind.mark < 256
  pub roomy : kind.limit < 256 ^ kind.width

module _ (kind : Kind) where
  -- as many bytes as a first frame has, with the mark in front, are one
  head_parts : (f : List ℕ) → length f ≡ head_size kind → Bytes f → get_or f 0 0 ≡ kind.mark
      → head_frame kind (take 32 (drop 1 f)) (take 32 (drop 33 f)) (le (drop 65 f)) ≡ f
  head_parts f h b e =
      let g : List ℕ = drop 1 f in
      let n : kind.width ≡ length (drop 65 f) = omega (arith, length-drop 65 f) in
      ap₂ (λ (x : ℕ) (l : List ℕ). x ∷ l) (sym e)
      (ap₂ (λ (c w : List ℕ). take 32 g ++ take 32 c ++ w) (sym (drop-drop 32 1 f))
      (ap (λ (k : ℕ). le_bytes k (le (drop 65 f))) n ∙ le_bytes_le (drop 65 f) (bytes_drop 65 f b) ∙ sym (drop-drop 64 1 f))
      ∙ ap (λ (l : List ℕ). l ++ drop 64 g) (sym (take-add 32 32 g))
      ∙ take-append-drop 64 g)
      ∙ sym (drop-cons f 0 0 (omega arith))

  -- the parts of such a frame
  module _ (node cap : List ℕ) (count : ℕ) (node_size : length node ≡ 32) (cap_size : length cap ≡ 32) where
    abbrev number : List ℕ
    number = le_bytes kind.width count

    pub head_size_lem : length (head_frame kind node cap count) ≡ head_size kind
    head_size_lem =
        omega (arith, length-append (node ++ cap) number, length-append node cap, le_bytes_length kind.width count)

    head_node : take 32 (drop 1 (head_frame kind node cap count)) ≡ node
    head_node = ap (take 32) (append_assoc node cap number) ∙ take_at node (cap ++ number) 32 node_size

    head_cap : take 32 (drop 33 (head_frame kind node cap count)) ≡ cap
    head_cap =
        ap (λ (l : List ℕ). take 32 (drop 32 l)) (append_assoc node cap number)
        ∙ ap (take 32) (drop_at node (cap ++ number) 32 node_size)
        ∙ take_at cap number 32 cap_size

    head_count : count < 256 ^ kind.width → le (drop 65 (head_frame kind node cap count)) ≡ count
    head_count h =
        ap le (drop_at (node ++ cap) number 64 (omega (arith, length-append node cap))) ∙ le_le_bytes_below kind.width count h

  -- the facts of a first line
  pub record HeaderFacts (text : List ℕ) : Type 0 where
    pub frame : is_frame (head_size kind) text ≡ true
    pub tag : get_or (frame_of (head_size kind) text) 0 0 ≡ kind.mark
    pub few : count_in kind text ≤ kind.limit

module _ (kind : Kind) (text : List ℕ) where
  abbrev tagged : Bool
  tagged = eqb (get_or (frame_of (head_size kind) text) 0 0) kind.mark

  pub header_facts : is_header kind text ≡ true → HeaderFacts kind text
  unfolding is_header
  header_facts e =
      let a = (and-eq-true_iff (is_frame (head_size kind) text && tagged) (leb (count_in kind text) kind.limit)).0 e in
      let b = (and-eq-true_iff (is_frame (head_size kind) text) tagged).0 a.0 in
      record {
        frame = b.0;
        tag = eqb-true (get_or (frame_of (head_size kind) text) 0 0) kind.mark b.1;
        few = leb-true (count_in kind text) kind.limit a.1;
      }

  facts_header : HeaderFacts kind text → is_header kind text ≡ true
  unfolding is_header
  facts_header f =
      rw (f.frame, eq-eqb (get_or (frame_of (head_size kind) text) 0 0) kind.mark f.tag, le-leb (count_in kind text) kind.limit f.few)

  -- what was accepted, in parts
  header_got : (v : View) → read_as kind text ≡ loaded v
      → HeaderFacts kind text × Got (node_in kind text) (cap_in kind text) 0 (count_in kind text) (after_frame (head_size kind) text) v
  unfolding read_as
  header_got v e = go (is_header kind text) refl e
    where
      go : (t : Bool) → is_header kind text ≡ t
          → cond t (keys_of (node_in kind text) (cap_in kind text) 2 0 (count_in kind text) (after_frame (head_size kind) text)) (bad_line 1) ≡ loaded v
          → HeaderFacts kind text × Got (node_in kind text) (cap_in kind text) 0 (count_in kind text) (after_frame (head_size kind) text) v
      go true q f =
          (header_facts q, keys_got (node_in kind text) (cap_in kind text) 2 0 (count_in kind text) (after_frame (head_size kind) text) v f)
      go false q f = let z : ◌≡◌ {A = ℕ} 0 1 = cc in absurd (omega arith)

  -- a text that is accepted starts with a first line
  pub read_header : (v : View) → read_as kind text ≡ loaded v → is_header kind text ≡ true
  read_header v e = facts_header (header_got v e).0

  -- it is the text of the view that it gave, which is shaped and good
  pub read_form : (v : View) → read_as kind text ≡ loaded v → Form kind v text
  unfolding form_of
  read_form v e =
      let h = (header_got v e).0 in
      let g = (header_got v e).1 in
      let w = framed (head_size kind) text h.frame in
      let f : List ℕ = frame_of (head_size kind) text in
      let size = w.size in
      let frame : head_frame kind v.node v.cap (length v.keys) ≡ f =
      ap₂ (λ (n c : List ℕ). head_frame kind n c (length v.keys)) g.node_is g.cap_is
      ∙ ap (head_frame kind (node_in kind text) (cap_in kind text)) g.count
      ∙ head_parts kind f size w.bytes h.tag in
      record {
        written = ap₂ (λ (l r : List ℕ). line_of l ++ r) frame g.lines ∙ w.whole;
        shaped = record {
          node_size = ap length g.node_is ∙ length-take-le 32 (drop 1 f) (omega (arith, length-drop 1 f));
          node_bytes = subst Bytes (sym g.node_is) (bytes_take 32 (drop 1 f) (bytes_drop 1 f w.bytes));
          cap_size = ap length g.cap_is ∙ length-take-le 32 (drop 33 f) (omega (arith, length-drop 33 f));
          cap_bytes = subst Bytes (sym g.cap_is) (bytes_take 32 (drop 33 f) (bytes_drop 33 f w.bytes));
          nine = g.nine;
        };
        kept = facts_good kind.limit v
            (record {
              few = let n = g.count in let l = h.few in omega arith;
              each = subst₂ (λ (n c : List ℕ). GoodKeys n (be c) 0 v.keys) (sym g.node_is) (sym g.cap_is) g.rules;
            });
      }

-- the length of a form, by the sizes of its parts
pub sized_length : (kind : Kind) (v : View) → length v.node ≡ 32 → length v.cap ≡ 32 → Each (λ (k : List ℕ). length k ≡ 9) v.keys
    → length (form_of kind v) ≡ 2 * head_size kind + 1 + 21 * length v.keys
unfolding form_of
sized_length kind v n c h =
    let f : List ℕ = head_frame kind v.node v.cap (length v.keys) in
    omega (arith, head_size_lem kind v.node v.cap (length v.keys) n c, lines_length v.keys h, length-append (header_of kind v) (key_lines v.keys), length-append (text_of f) (10 ∷ []), length_text f)

module _ (kind : Kind) (v : View) (s : Shaped v) where
  size : length (head_frame kind v.node v.cap (length v.keys)) ≡ head_size kind
  size = head_size_lem kind v.node v.cap (length v.keys) s.node_size s.cap_size

  -- the length of a form
  pub form_length : length (form_of kind v) ≡ 2 * head_size kind + 1 + 21 * length v.keys
  form_length = sized_length kind v s.node_size s.cap_size (nines v.keys s.nine)
    where
      nines : (ks : List (List ℕ)) → Each NineBytes ks → Each (λ (k : List ℕ). length k ≡ 9) ks
      nines [] h = tt
      nines (k ∷ ks) h = (h.0.size, nines ks h.1)

  -- a form starts with a first line of its kind, and comes back as the view
  module _ (sound : Sound kind) (g : good kind.limit v ≡ true) where
    abbrev frame : List ℕ
    frame = head_frame kind v.node v.cap (length v.keys)

    abbrev text : List ℕ
    text = header_of kind v ++ key_lines v.keys

    few : length v.keys ≤ kind.limit
    few = (good_facts kind.limit v g).few

    bytes : Bytes frame
    bytes = (
      sound.marked,
      bytes_append (v.node ++ v.cap) (le_bytes kind.width (length v.keys)) (bytes_append v.node v.cap s.node_bytes s.cap_bytes)
          (le_bytes_bytes kind.width (length v.keys)),
    )

    is : frame_of (head_size kind) text ≡ frame
    is = line_gives (head_size kind) frame (key_lines v.keys) size bytes

    count : count_in kind text ≡ length v.keys
    count =
        let roomy = sound.roomy in
        ap (λ (l : List ℕ). le (drop 65 l)) is
        ∙ head_count kind v.node v.cap (length v.keys) s.node_size s.cap_size (omega (arith, few))

    header : is_header kind text ≡ true
    header =
        facts_header kind text
        (record {
          frame = line_frame (head_size kind) frame (key_lines v.keys) size bytes;
          tag = ap (λ (l : List ℕ). get_or l 0 0) is;
          few = omega (arith, count, few);
        })

    pub form_header : is_header kind (form_of kind v) ≡ true
    unfolding form_of
    form_header = header

    pub form_read : read_as kind (form_of kind v) ≡ loaded v
    unfolding form_of read_as
    form_read =
        let node : node_in kind text ≡ v.node =
        ap (λ (l : List ℕ). take 32 (drop 1 l)) is ∙ head_node kind v.node v.cap (length v.keys) s.node_size s.cap_size in
        let cap : cap_in kind text ≡ v.cap =
        ap (λ (l : List ℕ). take 32 (drop 33 l)) is ∙ head_cap kind v.node v.cap (length v.keys) s.node_size s.cap_size in
        ap (λ (t : Bool). cond t (keys_of (node_in kind text) (cap_in kind text) 2 0 (count_in kind text) (after_frame (head_size kind) text)) (bad_line 1)) header
        ∙ ap₂ (λ (a b : List ℕ). keys_of a b 2 0 (count_in kind text) (after_frame (head_size kind) text)) node cap
        ∙ ap₂ (λ (a : ℕ) (b : List ℕ). keys_of v.node v.cap 2 0 a b) count (line_rest (head_size kind) frame (key_lines v.keys) size bytes)
        ∙ keys_back v.node v.cap 2 0 v.keys s.nine (good_facts kind.limit v g).each

-- a text is accepted as one of a kind exactly when it is the form of that kind of a view that keeps the rules, and it gives that view
pub form_iff : (kind : Kind) (text : List ℕ) (v : View) → Sound kind → (read_as kind text ≡ loaded v) ↔ Form kind v text
form_iff kind text v sound = (
  read_form kind text v,
  λ w. subst (λ (t : List ℕ). read_as kind t ≡ loaded v) w.written (form_read kind v w.shaped sound w.kept),
)
