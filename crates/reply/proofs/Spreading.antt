-- All groups of some records, by their lengths alone: a pass over the groups that has come to place `from`. Its start, a turn and its end.
-- Assumes nothing.
use Prim.Native.Nat.{ℕ, zero, suc, ◌+◌, ◌-◌, ◌*◌, ◌≤◌, ◌<◌}
use native.Mathlib.Omega.{arith}
use mathlib.Core.Path.{◌≡◌, refl, sym, ap, ap₂, subst, ◌∙◌}
use mathlib.Core.Bool.{true, ◌&&◌}
use mathlib.Core.Logic.{⊎_elim}
use mathlib.Core.List.Memᴰ
use mathlib.Core.List.Memᴰ.{head as here}
use mathlib.Core.List.{List, [], ◌∷◌, ◌++◌, map, append_assoc}
use lib.Dec.{leb, lit≤}
use lib.ListN.{length, take, drop, replicate, length-append, length-drop, length-replicate, drop_of_length-le}
use lib.Seq.{length-take-le, take_all, take-add, drop-drop, get_or-drop}
use Rattle.octets.proofs.Tests.{both}
use Rattle.message.specs.Encode.{joined}
use Rattle.message.specs.Rules.{record_sizes}
use Rattle.message_read.proofs.Lists.{part_rest}
use Rattle.routing_table.specs.Rules.{◌among◌}
use Rattle.replies.specs.Groups.{first_group, groups, more}
use Rattle.replies.specs.Room.{room, bytes_with}
use Rattle.replies.proofs.Groups.{Alone, among_drop, first_take, first_some, groups_next, more_next}
use Rattle.replies.proofs.Once.{size_each}
use Rattle.replies.proofs.Sizes.{one_fits}
use Rattle.reply.specs.Ready.{Small, length_of, First, Planned}
use Rattle.reply.specs.declared.groups.Group.{Group}
use Rattle.reply.specs.declared.groups.Spread.{Spread}
use Rattle.reply.proofs.Taking.{Of, of_length}

pub part_inside : (lens : List ℕ) (from n : ℕ) → from ≤ length lens → n ≤ length (take (length lens - from) (drop from lens)) → from + n ≤ length lens
part_inside lens from n h k = omega (arith, ap length (part_rest lens from), length-drop from lens)

pub small_left : (lens : List ℕ) (from : ℕ) → from ≤ length lens → Small lens → (p : List ℕ) → p ≡ drop from lens → Small p
small_left lens from h s p is =
    subst Small (sym is) (λ i less. omega (arith, get_or-drop from lens i 0, s (from + i) (omega (arith, length-drop from lens))))

-- records of 1 to 300 bytes
sizes_small : (rs : List (List ℕ)) → record_sizes rs ≡ true → Small (map length_of rs)
unfolding record_sizes
sizes_small [] e i h = absurd (omega arith)
sizes_small (r ∷ rs) e zero h = (size_each (r ∷ rs) e r (here refl)).1
sizes_small (r ∷ rs) e (suc i) h = sizes_small rs (both (leb 1 (length r) && leb (length r) 300) (record_sizes rs) e).1 i (omega arith)

pub small_of : (lens : List ℕ) (rs : List (List ℕ)) → Of lens rs → record_sizes rs ≡ true → Small lens
small_of lens rs e s = subst Small e (sizes_small rs s)

drop_map : {A B : Type 0} (f : A → B) (n : ℕ) (l : List A) → map f (drop n l) ≡ drop n (map f l)
drop_map f zero l = refl
drop_map f (suc n) [] = refl
drop_map f (suc n) (a ∷ l) = drop_map f n l

pub of_left : (lens : List ℕ) (rs : List (List ℕ)) (from : ℕ) → Of lens rs → Of (drop from lens) (drop from rs)
of_left lens rs from e = drop_map length_of from rs ∙ ap (drop from) e

-- some records of these lengths
abbrev blanks : List ℕ → List (List ℕ)
blanks [] = []
blanks (n ∷ lens) = replicate n 0 ∷ blanks lens

of_blanks : (lens : List ℕ) → Of lens (blanks lens)
of_blanks [] = refl
of_blanks (n ∷ lens) = ap₂ (λ (k : ℕ) (l : List ℕ). k ∷ l) (length-replicate n 0) (of_blanks lens)

-- each fits alone
small_among : {n : ℕ} (lens : List ℕ) → Small lens → n among lens → n ≤ 300
small_among [] s m = absurd (Memᴰ.not-nil m)
small_among {n} (k ∷ lens) s m =
    ⊎_elim (λ (e : n ≡ k). omega (arith, s 0 (omega arith))) (λ (i : n among lens). small_among lens (λ j less. s (suc j) (omega arith)) i)
    (Memᴰ.cases_cons m)

pub fit_alone : (lens : List ℕ) → Small lens → (rs : List (List ℕ)) → Of lens rs → Alone (room 6) rs
fit_alone lens s rs e r m =
    one_fits 6 (lit≤ tt) r (small_among lens s (subst (λ (l : List ℕ). length r among l) e (Memᴰ.map length_of m)))

pub joined_append : (a b : List (List ℕ)) → joined (a ++ b) ≡ joined a ++ joined b
unfolding joined
joined_append [] b = refl
joined_append (r ∷ a) b = ap (λ (l : List ℕ). r ++ l) (joined_append a b) ∙ sym (append_assoc r (joined a) (joined b))

-- groups of the first `from` records are counted, and their bytes
pub record Spreading (lens : List ℕ) (from count size : ℕ) : Type 0 where
  pub inside : from ≤ length lens
  pub few : count ≤ from + 1
  pub small : size ≤ 1280 * count
  pub number : (rs : List (List ℕ)) → Of lens rs → length (groups (room 6) rs) ≡ count + length (more (room 6) (drop from rs))
  pub bytes : (rs : List (List ℕ)) → Of lens rs → size ≡ 6 * count + (4 * from + length (joined (take from rs)))

-- the first group of what is left from a place on
pub record Next (rs : List (List ℕ)) (from : ℕ) (g : Group) : Type 0 where
  pub count : g.taken ≡ length (first_group (room 6) [] (drop from rs))
  pub is : first_group (room 6) [] (drop from rs) ≡ take g.taken (drop from rs)
  pub size : g.size ≡ bytes_with 6 (take g.taken (drop from rs))

pub next : (lens : List ℕ) (from : ℕ) (p : List ℕ) → p ≡ drop from lens → (head : ℕ) → head ≡ 6 → (g : Group) → First head p g
    → (rs : List (List ℕ)) → Of lens rs → Next rs from g
next lens from p part head six g f rs e =
    let rest = drop from rs in
    let o : Of p rest = of_left lens rs from e ∙ sym part in
    let count : g.taken ≡ length (first_group (room 6) [] rest) = f.taken rest o ∙ ap (λ (k : ℕ). length (first_group (room k) [] rest)) six in
    let is : first_group (room 6) [] rest ≡ take g.taken rest = first_take (room 6) rest ∙ ap (λ (k : ℕ). take k rest) (sym count) in
    record {
      count = count;
      is = is;
      size = f.size rest o ∙ ap (λ (k : ℕ). bytes_with k (first_group (room k) [] rest)) six ∙ ap (bytes_with 6) is;
    }

module _ (lens : List ℕ) (s : Small lens) where
  -- it has one at least
  pub next_some : (from : ℕ) (g : Group) (rs : List (List ℕ)) → Of lens rs → Next rs from g → from < length lens → 1 ≤ g.taken
  next_some from g rs e n h =
      let c = n.count in
      let k = first_some (room 6) (drop from rs) (fit_left from rs e) (omega (arith, length-drop from rs, of_length lens rs e)) in
      omega arith
    where
      fit_left : (from : ℕ) (rs : List (List ℕ)) → Of lens rs → Alone (room 6) (drop from rs)
      fit_left from rs e r m = fit_alone lens s rs e r (among_drop from rs m)

  -- one group more is passed
  bytes_more : (rs : List (List ℕ)) (from n : ℕ) → length (joined (take (from + n) rs)) ≡ length (joined (take from rs)) + length (joined (take n (drop from rs)))
  bytes_more rs from n =
      ap (λ (l : List (List ℕ)). length (joined l)) (take-add from n rs)
      ∙ ap length (joined_append (take from rs) (take n (drop from rs)))
      ∙ length-append (joined (take from rs)) (joined (take n (drop from rs)))

  left_on : (rs : List (List ℕ)) (from : ℕ) (g : Group) → Next rs from g
      → more (room 6) (drop (length (first_group (room 6) [] (drop from rs))) (drop from rs)) ≡ more (room 6) (drop (from + g.taken) rs)
  left_on rs from g n =
      ap (more (room 6)) (ap (λ (k : ℕ). drop k (drop from rs)) (sym n.count) ∙ drop-drop g.taken from rs)

  module _ (from : ℕ) (p : List ℕ) (part : p ≡ drop from lens) (head : ℕ) (six : head ≡ 6) (g : Group) (f : First head p g) where
    taken_inside : from ≤ length lens → from + g.taken ≤ length lens
    taken_inside h = let i = f.inside in omega (arith, ap length part, length-drop from lens)

    size_of : (rs : List (List ℕ)) → Of lens rs → from ≤ length lens → g.size ≡ 6 + (4 * g.taken + length (joined (take g.taken (drop from rs))))
    size_of rs e h =
        let n = next lens from p part head six g f rs e in
        let k = length-take-le g.taken (drop from rs) (omega (arith, taken_inside h, length-drop from rs, of_length lens rs e)) in
        let z = n.size in
        omega arith

  pub spread_start : (p : List ℕ) (part : p ≡ lens) (head : ℕ) (six : head ≡ 6) (g : Group) (f : First head p g) (count : ℕ) → count ≡ 1
      → Spreading lens g.taken count g.size
  spread_start p part head six g f count is =
      let small = f.small in
      let zero-on : (k : ℕ) → 0 + k ≡ k = λ k. omega arith in
      record {
        inside = omega (arith, taken_inside 0 p part head six g f (omega arith));
        few = omega arith;
        small = omega arith;
        number = λ rs e.
            let n = next lens 0 p part head six g f rs e in
            ap length (groups_next (room 6) rs (fit_alone lens s rs e))
            ∙ ap (λ (gs : List (List (List ℕ))). suc (length gs)) (left_on rs 0 g n ∙ ap (λ (k : ℕ). more (room 6) (drop k rs)) (zero-on g.taken))
            ∙ omega arith;
        bytes = λ rs e. let z = size_of 0 p part head six g f rs e (omega arith) in omega arith;
      }

  module _ (from count size : ℕ) (t : Spreading lens from count size) where
    module _ (h : from < length lens) (p : List ℕ) (part : p ≡ drop from lens) (head : ℕ) (six : head ≡ 6) (g : Group) (f : First head p g) where
      pub spread_some : 1 ≤ g.taken
      spread_some =
          next_some from g (blanks lens) (of_blanks lens) (next lens from p part head six g f (blanks lens) (of_blanks lens)) h

      pub spread_next : Spreading lens (from + g.taken) (count + 1) (size + g.size)
      spread_next =
          let small = f.small in
          let one = spread_some in
          let few = t.few in
          let most = t.small in
          record {
            inside = taken_inside from p part head six g f (omega arith);
            few = omega arith;
            small = omega arith;
            number = λ rs e.
                let n = next lens from p part head six g f rs e in
                let m =
                ap length (more_next (room 6) (drop from rs) (λ r i. fit_alone lens s rs e r (among_drop from rs i)) (omega (arith, length-drop from rs, of_length lens rs e))) in
                let l = ap length (left_on rs from g n) in
                omega (arith, t.number rs e);
            bytes = λ rs e.
                let z = size_of from p part head six g f rs e (omega arith) in
                omega (arith, t.bytes rs e, bytes_more rs from g.taken);
          }

    -- no record is left
    pub spread_end : length lens ≤ from → (r : Spread) → r.count ≡ count → r.size ≡ size → Planned lens r
    spread_end h r k z =
        record {
          count = λ rs e.
              let n : length (more (room 6) (drop from rs)) ≡ 0 = ap (λ (l : List (List ℕ)). length (more (room 6) l)) (drop_of_length-le rs {i = from} (omega (arith, of_length lens rs e))) in
              omega (arith, t.number rs e);
          size = λ rs e.
              let b : length (joined (take from rs)) ≡ length (joined rs) = ap (λ (l : List (List ℕ)). length (joined l)) (take_all from rs (omega (arith, of_length lens rs e))) in
              let i = t.inside in
              omega (arith, t.bytes rs e, of_length lens rs e);
        }
