-- Laws of the capped length: a line of up to 18 characters keeps its own, a longer one only whether it is odd. Each goes by the two cases
-- of `capped`, and `omega` does the rest.
-- Assumes nothing.
use Prim.Native.Nat.{ℕ, ◌+◌, ◌-◌, ◌%◌, ◌≤◌, ◌<◌}
use mathlib.Core.Bool.{Bool, true, false, cond}
use mathlib.Core.Path.{◌≡◌, refl, ap}
use mathlib.Core.Logic.{◌⊎◌, inl, inr, ⊎_elim}
use native.Mathlib.Omega.{arith}
use lib.Dec.{leb}
use borrow.Author.Tests.{leb-true, leb-false}
use Rattle.key_lines.specs.State.{capped}

-- the two cases
pub cases : (n : ℕ) → ((n ≤ 18) × (capped n ≡ n)) ⊎ ((18 < n) × (capped n ≡ 20 - n % 2))
cases n = go (leb n 18) refl
  where
    go : (b : Bool) → leb n 18 ≡ b → ((n ≤ 18) × (capped n ≡ n)) ⊎ ((18 < n) × (capped n ≡ 20 - n % 2))
    go true e = inl (leb-true n 18 e, ap (λ (t : Bool). cond t n (20 - n % 2)) e)
    go false e = inr (leb-false n 18 e, ap (λ (t : Bool). cond t n (20 - n % 2)) e)

-- one character more, below 20 and at 20
pub longer_below : (len n : ℕ) → len < 20 → len ≡ capped n → len + 1 ≡ capped (n + 1)
longer_below len n h e =
    ⊎_elim (λ w. ⊎_elim (λ v. omega arith) (λ v. omega arith) (cases (n + 1)))
    (λ w. ⊎_elim (λ v. omega arith) (λ v. omega arith) (cases (n + 1))) (cases n)

pub longer_at : (len n r : ℕ) → 20 ≤ len → len ≡ capped n → r ≡ 19 → r ≡ capped (n + 1)
longer_at len n r h e is =
    ⊎_elim (λ w. ⊎_elim (λ v. omega arith) (λ v. omega arith) (cases (n + 1)))
    (λ w. ⊎_elim (λ v. omega arith) (λ v. omega arith) (cases (n + 1))) (cases n)

-- the capped length is odd where the length is
pub parity : (len n : ℕ) → len ≡ capped n → len % 2 ≡ n % 2
parity len n e = ⊎_elim (λ w. omega arith) (λ w. omega arith) (cases n)

-- up to 18 it is the length, and only there
pub short : (len n : ℕ) → len ≡ capped n → len ≤ 18 → n ≡ len
short len n e h = ⊎_elim (λ w. omega arith) (λ w. omega arith) (cases n)

pub long : (len n : ℕ) → len ≡ capped n → 18 ≤ len → 18 ≤ n
long len n e h = ⊎_elim (λ w. omega arith) (λ w. omega arith) (cases n)
