use Rattle.std.proofs.Common.{true≢false, sym, arith}
use Rattle.vcd_read.proofs.BeginLemmas.{none-contained}
use Rattle.vcd_read.proofs.scopes.Scopes.has.Goals as goal

pub returns : goal.returns
returns c =
    (λ h. absurd (true≢false (sym h)), λ found. absurd (none-contained c.args.self.now c.args.path.now c.loop-i.i (omega arith) c.loop-i.invariant.1 found))
