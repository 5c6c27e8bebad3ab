use Rattle.std.proofs.Common.{rules}
use Rattle.io_edge.proofs.Parts.{front_taken}
use Rattle.io_edge.proofs.memory_sink.MemSinkSink.put.Goals as goal

pub returns-then-failing-2-clause-front : goal.returns-then-failing-2-clause-front
returns-then-failing-2-clause-front c = front_taken c.args.self.now c.args.piece.now _ (search rules)
