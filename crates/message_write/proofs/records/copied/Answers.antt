-- `message_write::records::copied` meets its contract: the places are laid over zeros. Assumes nothing.
use Prim.Native.Nat.{ℕ}
use mathlib.Core.Path.{ap₂}
use mathlib.Core.List.{List, ◌++◌}
use lib.ListN.{length}
use Rattle.message_write.proofs.Loans.{zeros_behind}
use Rattle.message_write.proofs.records.copied.Goals as goal

pub returns : goal.returns
returns c = ap₂ (λ (x y : List ℕ). x ++ y) c.copy_from_slice.ensures.after (zeros_behind (length c.args.places.now) 32)
