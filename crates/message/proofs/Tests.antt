-- What is known where tests have passed: each of those that pass together, and what stands behind one.
-- Assumes nothing.
use mathlib.Core.Path.{◌≡◌, refl}
use mathlib.Core.Bool.{Bool, true, false, cond, ◌&&◌}
use mathlib.Core.Option.{some, none, none-ne-some, some-injective}
use Rattle.octets.proofs.Tests.{both}

-- each of four
pub all_four : (a b c d : Bool) → (a && b && c && d) ≡ true → (a ≡ true) × (b ≡ true) × (c ≡ true) × (d ≡ true)
all_four a b c d e =
    let p = both (a && b && c) d e in
    let q = both (a && b) c p.0 in
    let r = both a b q.0 in
    (r.0, r.1, q.1, p.1)

-- what a test lets through: the test passed, and this is what stood behind it
pub passed : {A : Type 0} {a b : A} (t : Bool) → cond t (some a) none ≡ some b → (t ≡ true) × (a ≡ b)
passed {a = a} {b = b} true e = (refl, some-injective a b e)
passed {b = b} false e = absurd (none-ne-some b e)
