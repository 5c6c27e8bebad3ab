use Rattle.std.proofs.Common.{length, ap, arith}
use Rattle.vcd_read.proofs.BeginLemmas.{length-path_in, path_in-none}
use Rattle.vcd_read.proofs.scopes.len_in.Goals as goal

pub returns-then-around-eq0 : goal.returns-then-around-eq0
returns-then-around-eq0 c path e = omega (arith, ap length (path_in-none path c.args.name.now (omega arith)))

pub returns : goal.returns
returns c path e = omega (arith, length-path_in path c.args.name.now (omega arith))
