use Rattle.std.proofs.Common.{length}
use Rattle.names.specs.Maps.{value_of}
use Rattle.block_net.specs.Terms.{tree_at, trees_of}
use Rattle.term_net.specs.Leaves.{IsReady, leaf_id, leaf_tree}
use Rattle.term_net.specs.Growth.{Grown, Stay}
use Rattle.term_net.specs.Memos.{Fits}
use Rattle.term_net.specs.Pending.{Fall, IsPending, work}
use Rattle.term_net.proofs.evaluation.evaluate_term.Given as goal

abbrev pub invariant-loop-memo : goal.invariant-loop-memo
invariant-loop-memo l = record {
  fits : Fits l.builder (value_of l.places) l.nodes l.terms l.memo;
  grown : Grown l.initial.builder l.builder;
  stay : Stay l.initial.memo l.memo;
  falls : Fall (IsPending l.builder (value_of l.places) l.nodes l.terms l.memo) (length l.terms) l.stack.items;
  ready : IsReady (leaf_id (value_of l.places) l.nodes) (leaf_tree l.builder (value_of l.places) l.nodes) (tree_at (trees_of l.terms) l.root.0);
}

abbrev pub decreases-loop-memo : goal.decreases-loop-memo
decreases-loop-memo l = work l.root.0 l.memo l.stack.items
