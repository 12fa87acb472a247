-- `octets::reversed` meets its contract: each byte is that of the other order. Assumes nothing.
use Prim.Native.Nat.{◌-◌}
use native.Mathlib.Omega.{arith}
use mathlib.Core.Path.{◌≡◌, sym, ap, ◌∙◌}
use mathlib.Core.List.{reverse}
use lib.ListN.{length, get_or, length-reverse}
use borrow.Author.Rules.{rules}
use Rattle.std.proofs.lemmas.List.{ext_get_or, get_or-reverse}
use Rattle.octets.proofs.Made.{made_at}
use Rattle.octets.proofs.reversed.Goals as goal

pub returns : goal.returns
returns g c =
    let n = g.row.N in
    let bytes = c.args.bytes in
    let made = c.from_fn.ensures.items in
    let long : length bytes ≡ n = search rules in
    let many : length c.from_fn.result ≡ n = search rules in
    ext_get_or 0 c.from_fn.result (reverse bytes) (omega (arith, length-reverse bytes))
    (λ k l.
    made_at _ _ (λ i. get_or bytes (n - 1 - i) 0) _ n (λ j y q s call. (search rules, search rules)) made k 0 (omega arith)
    ∙ ap (λ m. get_or bytes (m - 1 - k) 0) (sym long)
    ∙ sym (get_or-reverse bytes k 0 (omega arith)))
