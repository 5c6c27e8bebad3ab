use Rattle.std.proofs.Common.{length, ap, arith}
use Rattle.vcd_read.proofs.VarLemmas.{length-numbered_of}
use Rattle.vcd_read.proofs.vars.Vars.len.Goals as goal

pub returns : goal.returns
returns c =
    let s = c.self.inside in
    omega (arith, c.len.ensures, length-numbered_of s.names s.rows.items c.self.invariant, ap length c.self.view_is)
