use Rattle.std.proofs.Common.{◌∙◌}
use Rattle.io_edge.proofs.Pieces.{rest_are_pieces}
use Rattle.io_edge.proofs.memory_source.MemSource.take.Goals as goal

pub invariant_of-self : goal.invariant_of-self
invariant_of-self c = rest_are_pieces c.self.inside.pieces.items c.self.inside.taken c.len.result c.in_ok-piece.piece (c.len.ensures ∙ c.self.inside.pieces.ok.0) c.if-self-len.false c.self.invariant
