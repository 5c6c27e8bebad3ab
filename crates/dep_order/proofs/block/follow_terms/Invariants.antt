use Rattle.names.specs.Maps.{value_of}
use Rattle.dep_order.proofs.Blocks.{Way}
use Rattle.dep_order.proofs.block.follow_terms.Given as goal

-- the vertices so far
abbrev pub invariant-loop-term : goal.invariant-loop-term
invariant-loop-term l = Way l.initial.graph l.graph (value_of l.numbers) l.terms l.term-index l.vertices.items
