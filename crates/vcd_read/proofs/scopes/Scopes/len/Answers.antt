use Rattle.std.proofs.Common.{length, ap, arith}
use Rattle.vcd_read.proofs.ScopeLemmas.{length-scopes_of}
use Rattle.vcd_read.proofs.scopes.Scopes.len.Goals as goal

pub returns-clause-len : goal.returns-clause-len
returns-clause-len c =
    let s = c.self.inside in
    omega (arith, c.len.ensures, length-scopes_of s.names s.rows.items c.self.invariant, ap length c.self.view_is)
