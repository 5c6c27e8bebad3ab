use Rattle.std.proofs.Common.{◌+◌, ◌*◌, length}
use Rattle.gen_text.proofs.tree.+trees.Given as goal

abbrev pub decreases-tree : goal.decreases-tree
decreases-tree l = 2 * length l.pieces.now.items

abbrev pub decreases-boxed_tree : goal.decreases-boxed_tree
decreases-boxed_tree l = 2 * length l.pieces.now.items + 1
