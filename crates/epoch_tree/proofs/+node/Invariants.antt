-- The proof of the cycle of calls {node}. The measure is the height. Assumes nothing.
use Rattle.epoch_tree.proofs.+node.Given as goal

abbrev pub decreases-node : goal.decreases-node
decreases-node l = l.height
