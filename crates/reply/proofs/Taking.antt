-- The first group of some records, by their lengths alone: a pass over the lengths that has come to place i. Its start, a turn, and the two
-- ways in which it ends. Assumes nothing.
use Prim.Native.Nat.{ℕ, ◌+◌, ◌≤◌, ◌<◌}
use native.Mathlib.Omega.{arith}
use mathlib.Core.Path.{◌≡◌, sym, ap, ◌∙◌}
use mathlib.Core.Bool.{false, ◌&&◌, and-false}
use mathlib.Core.Logic.{◌⊎◌, ⊎_elim}
use mathlib.Core.List.{List, [], map}
use lib.Dec.{leb}
use lib.ListN.{length, get_or, take, drop, length-map, get_or-map}
use lib.Seq.{length-take-le, take_all}
use borrow.Author.Tests.{le-leb, lt-leb}
use Rattle.message.specs.Encode.{joined}
use Rattle.replies.specs.Groups.{first_group}
use Rattle.replies.specs.Room.{room, bytes_with}
use Rattle.replies.proofs.Groups.{first_start, first_next, first_stop, first_end}
use Rattle.replies.proofs.Sizes.{bytes_take, room_take}
use Rattle.reply.specs.Ready.{length_of, First}
use Rattle.reply.specs.declared.groups.Group.{Group}

-- records of these lengths
abbrev pub Of : List ℕ → List (List ℕ) → Type 0
Of lens rs = map length_of rs ≡ lens

pub of_length : (lens : List ℕ) (rs : List (List ℕ)) → Of lens rs → length rs ≡ length lens
of_length lens rs e = sym (length-map rs length_of) ∙ ap length e

pub of_at : (lens : List ℕ) (rs : List (List ℕ)) → Of lens rs → (i : ℕ) → length (get_or rs i []) ≡ get_or lens i 0
of_at lens rs e i = sym (get_or-map length_of rs i []) ∙ ap (λ (l : List ℕ). get_or l i 0) e

-- the first i are taken, and make a message of this size
pub record Taking (head : ℕ) (lens : List ℕ) (i size : ℕ) : Type 0 where
  pub few : i ≤ 32
  pub inside : i ≤ length lens
  pub small : size ≤ 1280
  pub so : (rs : List (List ℕ)) → Of lens rs → first_group (room head) [] rs ≡ first_group (room head) (take i rs) (drop i rs)
  pub bytes : (rs : List (List ℕ)) → Of lens rs → size ≡ bytes_with head (take i rs)

module _ (head : ℕ) (lens : List ℕ) where
  pub taking_start : head ≤ 64 → Taking head lens 0 head
  unfolding joined
  taking_start h =
      record { few = omega arith; inside = omega arith; small = omega arith; so = λ rs e. first_start (room head) rs; bytes = λ rs e. omega arith }

  module _ (i size : ℕ) (t : Taking head lens i size) where
    -- the pass ends with those that are taken
    taken_as : (g : Group) → g.taken ≡ i → g.size ≡ size
        → ((rs : List (List ℕ)) → Of lens rs → first_group (room head) (take i rs) (drop i rs) ≡ take i rs) → First head lens g
    taken_as g k s f =
        let few = t.few in
        let inside = t.inside in
        let small = t.small in
        let is : (rs : List (List ℕ)) → Of lens rs → first_group (room head) [] rs ≡ take i rs = λ rs e. t.so rs e ∙ f rs e in
        record {
          small = omega arith;
          inside = omega arith;
          few = omega arith;
          taken = λ rs e.
              k ∙ sym (ap length (is rs e) ∙ length-take-le i rs (omega (arith, of_length lens rs e)));
          size = λ rs e. s ∙ t.bytes rs e ∙ ap (bytes_with head) (sym (is rs e));
        }

    -- there is no further one
    pub taking_end : length lens ≤ i → (g : Group) → g.taken ≡ i → g.size ≡ size → First head lens g
    taking_end h g k s =
        taken_as g k s (λ rs e.
        let l : length rs ≤ i = omega (arith, of_length lens rs e) in
        first_end (room head) rs i l ∙ sym (take_all i rs l))

    module _ (h : i < length lens) (len : ℕ) (is : len ≡ get_or lens i 0) where
      -- whether the next one fits
      fits : (rs : List (List ℕ)) → Of lens rs → room head (take (i + 1) rs) ≡ (leb (i + 1) 32 && leb (size + (4 + len)) 1280)
      fits rs e =
          let n : bytes_with head (take i rs) + (4 + length (get_or rs i [])) ≡ size + (4 + len) =
          omega (arith, of_at lens rs e i, t.bytes rs e) in
          room_take head rs i (omega (arith, of_length lens rs e)) ∙ ap (λ (k : ℕ). leb (i + 1) 32 && leb k 1280) n

      -- it does not
      pub taking_stop : (32 ≤ i) ⊎ (1280 < size + (4 + len)) → (g : Group) → g.taken ≡ i → g.size ≡ size → First head lens g
      taking_stop w g k s =
          taken_as g k s (λ rs e.
          first_stop (room head) rs i (omega (arith, of_length lens rs e)) (fits rs e ∙ no))
        where
          no : (leb (i + 1) 32 && leb (size + (4 + len)) 1280) ≡ false
          no =
              ⊎_elim (λ (m : 32 ≤ i). rw (lt-leb (i + 1) 32 (omega arith)))
              (λ (m : 1280 < size + (4 + len)). rw (lt-leb (size + (4 + len)) 1280 m) (and-false (leb (i + 1) 32))) w

      -- it does
      pub taking_next : i < 32 → size + (4 + len) ≤ 1280 → (size' : ℕ) → size' ≡ size + (4 + len) → Taking head lens (i + 1) size'
      taking_next m n size' s =
          record {
            few = omega arith;
            inside = omega arith;
            small = omega arith;
            so = λ rs e.
                t.so rs e
                ∙ first_next (room head) rs i (omega (arith, of_length lens rs e))
                (fits rs e ∙ rw (le-leb (i + 1) 32 (omega arith), le-leb (size + (4 + len)) 1280 n));
            bytes = λ rs e.
                let b = bytes_take head rs i (omega (arith, of_length lens rs e)) in
                omega (arith, of_at lens rs e i, t.bytes rs e);
          }
