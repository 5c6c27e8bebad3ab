use Rattle.std.proofs.Common.{length, ap, arith}
use Rattle.vcd_read.specs.Changes.{Story}
use Rattle.vcd_read.proofs.Rows.{length-changes_of}
use Rattle.vcd_read.proofs.changes.Changes.len.Goals as goal

pub returns : goal.returns
returns c =
    let s = c.self.inside in
    omega (arith, c.len.ensures, length-changes_of s.times.items s.digits.items 0 s.rows.items, ap (λ (s : Story). length s.changes) c.self.view_is)
