use Rattle.std.proofs.Common.{length, ap, sym, ◌∙◌, arith}
use Rattle.std.specs.Prelude.{slice_get}
use Rattle.vcd_read.proofs.VarLemmas.{length-numbered_of, numbered_at}
use Rattle.vcd_read.proofs.vars.Vars.var.Goals as goal

pub row_at-row-requires : goal.row_at-row-requires
row_at-row-requires c =
    let s = c.self.inside in
    rw (c.deref.ensures.value) (omega (arith, length-numbered_of s.names s.rows.items c.self.invariant, ap length c.self.view_is))

pub text-requires : goal.text-requires
text-requires c =
    let s = c.self.inside in
    omega (arith, c.self.invariant, length-numbered_of s.names s.rows.items c.self.invariant, ap length c.self.view_is)

pub returns : goal.returns
returns c =
    let s = c.self.inside in
    rw (← c.self.view_is) (numbered_at s.names s.rows.items c.args.i c.text.result.now c.row_at-row.result c.text.ensures (ap (λ rows. slice_get rows c.args.i) (sym c.deref.ensures.value) ∙ c.row_at-row.ensures))
