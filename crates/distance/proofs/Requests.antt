-- What a FindNode asks for: the turns of the search that `asked` makes, what its answer means, and that 256 is never asked for and 0 draws
-- no neighbour. Assumes nothing.
use Prim.Native.Nat.{ℕ, ◌≤◌, ◌<◌}
use native.Mathlib.Omega.{arith}
use mathlib.Core.Path.{◌≡◌, refl, ap, ap₂, ◌∙◌}
use mathlib.Core.Bool.{Bool, true, false, ◌&&◌, ◌||◌, and-eq-true_iff}
use mathlib.Core.Logic.{◌↔◌}
use mathlib.Core.List.{List, [], ◌∷◌, ◌++◌, Memᴰ}
use lib.Dec.{eqb, leb}
use lib.ListN.{length}
use borrow.Author.Tests.{eqb-true, eq-eqb, ne_eqb, leb-true, le-leb}
use Rattle.octets.specs.Bytes.{Bytes}
use Rattle.octets.specs.Equal.{holds}
use Rattle.octets.proofs.Equal.{found_member, member_found}
use Rattle.std.specs.List.{list_any}
use Rattle.std.proofs.lemmas.Cmp.{nat_eq_equiv}
use Rattle.distance.specs.Distance.{log_distance_of, asked_of}
use Rattle.distance.proofs.LogDistances.{log_zero}

-- the search of std, which compares the other way round
holds_any : (ds : List ℕ) (log : ℕ) → list_any (λ d. eqb d log) ds ≡ holds eqb log ds
unfolding holds
holds_any [] log = refl
holds_any (d ∷ ds) log = ap₂ (λ (s t : Bool). s || t) (nat_eq_equiv.symm d log) (holds_any ds log)

-- what it finds of a log distance that fits a byte is asked for
pub asked_any : (ds : List ℕ) (log w : ℕ) (r : Bool) → r ≡ list_any (λ d. eqb d w) ds → w ≡ log → w < 256 → r ≡ asked_of ds log
asked_any ds log w r f e h = f ∙ holds_any ds w ∙ rw (e, le-leb log 255 (omega arith))

equal : (m n : ℕ) → (eqb m n ≡ true) ↔ (m ≡ n)
equal m n = (eqb-true m n, eq-eqb m n)

-- a log distance is asked for exactly when it is one of the distances and at most 255
pub asked_iff : (ds : List ℕ) (log : ℕ) → (asked_of ds log ≡ true) ↔ (Memᴰ log ds × (log ≤ 255))
asked_iff ds log = (
  (λ e.
      let t = (and-eq-true_iff (leb log 255) (holds eqb log ds)).0 e in
      (found_member eqb equal log ds t.1, leb-true log 255 t.0)),
  (λ m. (and-eq-true_iff (leb log 255) (holds eqb log ds)).1 (le-leb log 255 m.1, member_found eqb equal log ds m.0)),
)

-- 256 is never asked for
pub never_256 : (ds : List ℕ) → asked_of ds 256 ≡ false
never_256 ds = refl

-- 0 asks for us
pub own_asked : (ds own : List ℕ) → length own ≡ 32 → Bytes own → asked_of ds (log_distance_of own own) ≡ holds eqb 0 ds
own_asked ds own l b = ap (asked_of ds) ((log_zero own own l l b b).1 refl)

-- a distance that is not looked for may go
without : (front back : List ℕ) (log d : ℕ) → (log ≡ d → ⊥) → holds eqb log (front ++ d ∷ back) ≡ holds eqb log (front ++ back)
unfolding holds
without [] back log d n = rw (ne_eqb log d n)
without (e ∷ front) back log d n = ap (λ (t : Bool). eqb log e || t) (without front back log d n)

-- and for nobody else: of the neighbours, distances with a 0 among them ask for those that they ask for without it
pub zero_draws_none : (front back own id : List ℕ) → length own ≡ 32 → length id ≡ 32 → Bytes own → Bytes id → (own ≡ id → ⊥)
    → asked_of (front ++ 0 ∷ back) (log_distance_of own id) ≡ asked_of (front ++ back) (log_distance_of own id)
zero_draws_none front back own id lo li bo bi n =
    ap (λ (t : Bool). leb (log_distance_of own id) 255 && t)
    (without front back (log_distance_of own id) 0 (λ e. n ((log_zero own id lo li bo bi).0 e)))
