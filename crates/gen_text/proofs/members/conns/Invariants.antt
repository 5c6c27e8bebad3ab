use Rattle.std.proofs.Common.{◌≡◌, ◌-◌, length, map}
use Rattle.gen_token.specs.Words.{placed}
use Rattle.gen_tree.specs.View.{conn_of}
use Rattle.gen_text.specs.Reading.{until_at, conn_at, conns_at}
use Rattle.gen_text.proofs.Loops.{with_front}
use Rattle.gen_text.proofs.members.conns.Given as goal

abbrev pub invariant-turns : goal.invariant-turns
invariant-turns l = with_front (map conn_of l.all.items) (until_at (conn_at (l.room - 1)) (placed l.rest)) ≡ conns_at l.room (placed l.tokens)

abbrev pub decreases-turns : goal.decreases-turns
decreases-turns l = length l.rest
