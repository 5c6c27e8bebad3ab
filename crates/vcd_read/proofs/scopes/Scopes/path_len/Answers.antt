use Rattle.std.proofs.Common.{◌≡◌, ◌-◌, suc, length, ap, sym, ◌∙◌, arith, List}
use Rattle.std.specs.Prelude.{slice_get}
use Rattle.vcd_read.specs.Scopes.{path_at}
use Rattle.vcd_read.specs.Nesting.{Scope, paths_of}
use Rattle.vcd_read.proofs.ScopeLemmas.{length-scopes_of, len_is}
use Rattle.vcd_read.proofs.scopes.Scopes.path_len.Goals as goal

pub row_at-row-requires : goal.row_at-row-requires
row_at-row-requires c =
    let s = c.self.inside in
    rw (c.deref.ensures.value) (omega (arith, length-scopes_of s.names s.rows.items c.self.invariant, ap length c.self.view_is))

pub returns-clause-len : goal.returns-clause-len
returns-clause-len c =
    let s = c.self.inside in
    let row = ap (λ rows. slice_get rows (c.args.number - 1)) (sym c.deref.ensures.value) ∙ c.row_at-row.ensures in
    let number : suc (c.args.number - 1) ≡ c.args.number = omega arith in
    len_is s.names s.rows.items (c.args.number - 1) c.row_at-row.result c.self.invariant row
    ∙ ap (λ (scopes : List Scope). length (path_at (paths_of scopes) (suc (c.args.number - 1)))) c.self.view_is
    ∙ ap (λ number. length (path_at (paths_of c.args.self.now) number)) number
