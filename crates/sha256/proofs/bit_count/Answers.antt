-- `sha256::bit_count` meets its contract: what the product loses by wrapping has no place in eight bytes. Assumes nothing.
use borrow.Author.Rules.{rules}
use Rattle.sha256.proofs.Written.{bits_are}
use Rattle.sha256.proofs.bit_count.Goals as goal

pub returns : goal.returns
returns c = bits_are c.args.n _ _ c.to_be_bytes.ensures (search rules)
