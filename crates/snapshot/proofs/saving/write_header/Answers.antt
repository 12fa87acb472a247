-- `saving::write_header` meets its contract: the pieces of the line make it up (`header_placed` of `proofs/Writing.antt`). Assumes nothing.
use mathlib.Core.Path.{◌≡◌}
use mathlib.Core.List.{[], ◌∷◌}
use Rattle.hexadecimal.specs.Buffer.{encoded_to}
use Rattle.snapshot.proofs.Writing.{header_placed}
use borrow.Author.Rules.{rules}
use Rattle.snapshot.proofs.saving.write_header.Goals as goal

pub returns : goal.returns
returns c =
    let a = c.args in
    let first : c.encode.new.out ≡ encoded_to (0x11 ∷ []) a.out.now 0 = search rules in
    (header_placed a.node a.cap a.count (search rules) (search rules) (search rules) a.out.now (search rules)
    first c.encode-2.ensures.out_after c.encode-3.ensures.out_after (search rules) c.encode-4.ensures.out_after).is
