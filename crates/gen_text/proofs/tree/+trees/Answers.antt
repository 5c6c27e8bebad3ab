use Rattle.gen_text.proofs.Piles.{none_left}
use Rattle.gen_text.proofs.tree.+trees.Goals as goal

pub tree-returns-in-None-clause-tree : goal.tree-returns-in-None-clause-tree
tree-returns-in-None-clause-tree t c = (none_left c.args.pieces.now.items c.pop.new.self.items _ c.in-None.ensures.cases.0 c.in-None.ensures.rest c.in-None.ensures.items).0

pub tree-returns-in-None-clause-rest : goal.tree-returns-in-None-clause-rest
tree-returns-in-None-clause-rest t c = (none_left c.args.pieces.now.items c.pop.new.self.items _ c.in-None.ensures.cases.0 c.in-None.ensures.rest c.in-None.ensures.items).1
