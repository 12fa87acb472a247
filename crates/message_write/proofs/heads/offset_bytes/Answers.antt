-- `message_write::heads::offset_bytes` meets its contract: std's bytes of a number are those of the definition. Assumes nothing.
use Prim.Native.Nat.{ℕ, ◌/◌, ◌%◌}
use native.Mathlib.Omega.{arith}
use mathlib.Core.Path.{◌≡◌, ap₂, ◌∙◌}
use mathlib.Core.List.{[], ◌∷◌}
use Rattle.octets.specs.Bytes.{le_bytes}
use Rattle.message_write.proofs.heads.offset_bytes.Goals as goal

pub returns : goal.returns
unfolding le_bytes
returns c =
    let n = c.args.n in
    let third : c.args.n / 65536 ≡ c.args.n / 256 / 256 = omega arith in
    let fourth : c.args.n / 16777216 ≡ c.args.n / 256 / 256 / 256 = omega arith in
    c.to_le_bytes.ensures ∙ ap₂ (λ (x y : ℕ). n % 256 ∷ n / 256 % 256 ∷ x % 256 ∷ y % 256 ∷ []) third fourth
