use Rattle.std.proofs.Common.{◌≡◌, ◌-◌, length, map}
use Rattle.gen_token.specs.Words.{placed}
use Rattle.gen_tree.specs.View.{port_of}
use Rattle.gen_text.specs.Reading.{each_at, begins_port, port_at, ports_at}
use Rattle.gen_text.proofs.Loops.{with_front}
use Rattle.gen_text.proofs.modules.ports.Given as goal

abbrev pub invariant-turns : goal.invariant-turns
invariant-turns l = with_front (map port_of l.all.items) (each_at begins_port (port_at (l.room - 1)) (placed l.rest)) ≡ ports_at l.room (placed l.tokens)

abbrev pub decreases-turns : goal.decreases-turns
decreases-turns l = length l.rest
