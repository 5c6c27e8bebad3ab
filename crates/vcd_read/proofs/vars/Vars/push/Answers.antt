use Rattle.std.proofs.Common.{◌≡◌, ◌++◌, ◌∷◌, [], ap, rules}
use Rattle.vcd_read.specs.Nesting.{numbered}
use Rattle.vcd_read.specs.declared.vars.VarRow.{VarRow}
use Rattle.vcd_read.proofs.VarLemmas.{numbered-push}
use Rattle.vcd_read.proofs.vars.Vars.push.Goals as goal

pub returns-clause-ok : goal.returns-clause-ok
returns-clause-ok c =
    let s = c.self.inside in
    let var = c.args.var in
    let row : VarRow = record { scope = var.scope; code = var.code; size = var.size; counted = var.counted } in
    let put : c.push.new.self.items ≡ s.rows.items ++ row ∷ [] = search rules in
    let named : c.push-2.new.self ≡ s.names ++ var.name.now ∷ [] = search rules in
    rw (put, named, numbered-push s.names s.rows.items var.name.now row c.self.invariant) (ap (λ vars. vars ++ numbered var ∷ []) c.self.view_is)
