use Rattle.block_net.proofs.TermLists.{read_tree, read_below}
use Rattle.block_net.proofs.terms.Terms.term.Goals as goal

pub returns-clause-tree : goal.returns-clause-tree
returns-clause-tree c = read_tree _ _ _ _ c.self.view_is c.self.invariant c.requires c.index.ensures

pub returns-clause-below : goal.returns-clause-below
returns-clause-below c = read_below _ _ _ _ c.self.view_is c.self.invariant c.requires c.index.ensures
