-- `saving::write_key` meets its contract: the pieces of the line make it up (`key_placed` of `proofs/Writing.antt`). Assumes nothing.
use Rattle.snapshot.proofs.Writing.{key_placed}
use borrow.Author.Rules.{rules}
use Rattle.snapshot.proofs.saving.write_key.Goals as goal

pub returns : goal.returns
returns c =
    let a = c.args in
    (key_placed a.key (search rules) a.out.now a.at (search rules) c.encode.ensures.out_after c.encode-2.ensures.out_after).is
