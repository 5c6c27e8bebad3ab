use Rattle.std.proofs.Common.{◌++◌, drop}
use Rattle.list_core.specs.Lists.{EachOf}
use Rattle.names.specs.Maps.{value_of}
use Rattle.place_core.specs.Assigned.{names_at}
use Rattle.term_net.specs.Growth.{Grown}
use Rattle.term_net.specs.Leaves.{leaf_id, leaf_tree}
use Rattle.term_net.specs.Memos.{Fits}
use Rattle.row_net.specs.Told.{AreHeld, RowReady, Replayed, name_rows, names_by}
use Rattle.row_net.proofs.replay.replay.Given as goal

abbrev pub invariant-loop-effect : goal.invariant-loop-effect
invariant-loop-effect l = record {
  fits : Fits l.builder (value_of l.places) l.nodes l.block.terms l.memo;
  grown : Grown l.initial.builder l.builder;
  held : AreHeld l.block.terms (value_of l.held);
  ready : EachOf (RowReady (leaf_id (value_of l.places) l.nodes) (leaf_tree l.builder (value_of l.places) l.nodes) (names_at l.signals ++ names_at l.lets)) (name_rows l.block.terms (drop l.effect-index l.log) (names_by l.block.terms (value_of l.held)));
  told : Replayed l.builder (leaf_tree l.builder (value_of l.places) l.nodes) l.instance (names_at l.signals ++ names_at l.lets) (name_rows l.block.terms l.log (names_by l.block.terms (value_of l.initial.held))) (name_rows l.block.terms (drop l.effect-index l.log) (names_by l.block.terms (value_of l.held))) l.rows.items;
}
