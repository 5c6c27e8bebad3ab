use Rattle.std.proofs.Common.{◌≡◌, ◌+◌, suc, List, length, ap, sym, ◌∙◌, subst, arith}
use Rattle.std.specs.Prelude.{slice_get}
use Rattle.vcd_read.specs.Nesting.{Scope, paths_of}
use Rattle.vcd_read.specs.Scopes.{path_at}
use Rattle.vcd_read.proofs.ScopeLemmas.{IsKept, length-scopes_of, scope_kept}
use Rattle.vcd_read.proofs.scopes.Scopes.scope.Goals as goal

pub row_at-row-requires : goal.row_at-row-requires
row_at-row-requires c =
    let s = c.self.inside in
    rw (c.deref.ensures.value) (omega (arith, length-scopes_of s.names s.rows.items c.self.invariant, ap length c.self.view_is))

pub text-requires : goal.text-requires
text-requires c =
    let s = c.self.inside in
    omega (arith, c.self.invariant.same, length-scopes_of s.names s.rows.items c.self.invariant, ap length c.self.view_is)

pub returns : goal.returns
returns c =
    let s = c.self.inside in
    let row = ap (λ rows. slice_get rows c.args.i) (sym c.deref.ensures.value) ∙ c.row_at-row.ensures in
    let name = c.text.result.now in
    let P : List Scope → Type 0 = λ scopes. IsKept scopes c.args.i c.row_at-row.result.parent name in
    let kept = subst P c.self.view_is (scope_kept s.names s.rows.items c.args.i name c.row_at-row.result c.self.invariant c.text.ensures row) in
    let next : c.args.i + 1 ≡ suc c.args.i = omega arith in
    record { path = ap (path_at (paths_of c.args.self.now)) next ∙ kept.path_is; parent = kept.around.within }
