-- `key_remove::without_at` meets its contract: the keys behind the place copied one place down (`proofs/Moved.antt`). Assumes nothing.
use native.Mathlib.Omega.{arith}
use borrow.Author.Rules.{rules}
use Rattle.key_remove.proofs.Moved.{moved_keys}
use Rattle.key_remove.proofs.without_at.Goals as goal

pub returns : goal.returns
returns c =
    let a = c.args in
    let pre = c.requires in
    moved_keys a.keys.now a.place a.count _ pre.place_lt_count.0 (omega (arith, pre.place_lt_count.1, pre.len)) (search rules)
