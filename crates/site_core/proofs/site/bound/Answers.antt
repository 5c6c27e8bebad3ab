use Rattle.std.proofs.Common.{rules, sym, subst}
use Rattle.symtab.specs.Lookups.{binding_of}
use Rattle.cond_lang.specs.Bound.{scope_of}
use Rattle.cond_lang.specs.Judged.{judged}
use Rattle.cond_lang.specs.Meaning.{tree_of, leaves}
use Rattle.cond_lang.specs.TextShown.{text_expr, text_offsets}
use Rattle.cond_lang.proofs.Ascii.{finds_each}
use Rattle.machine_core.specs.Arming.{fit_refusal}
use Rattle.site_core.specs.Sites.{TellsNone}
use Rattle.site_core.proofs.Sites.{bound_made, told_fit}
use Rattle.site_core.proofs.site.bound.Goals as goal

pub returns-in-Ok-clause-tells : goal.returns-in-Ok-clause-tells
returns-in-Ok-clause-tells c =
    let places = binding_of c.args.table.now c.args.slot c.args.instance in
    let width = c.in-Ok.ensures.width places (finds_each _ _ places (leaves (tree_of (text_expr c.args.text.now))) (λ name found post. search rules)) in
    subst (λ j. TellsNone c.demanded.result (fit_refusal c.args.bit c.args.slot j)) (sym width) (c.demanded.ensures.tells c.args.slot)

pub returns-in-Ok-clause-made : goal.returns-in-Ok-clause-made
returns-in-Ok-clause-made c =
    let places = binding_of c.args.table.now c.args.slot c.args.instance in
    let width = c.in-Ok.ensures.width places (finds_each _ _ places (leaves (tree_of (text_expr c.args.text.now))) (λ name found post. search rules)) in
    let tree = c.in-Ok.ensures.bound places (finds_each _ _ places (leaves (tree_of (text_expr c.args.text.now))) (λ name found post. search rules)) in
    bound_made c.args.bit c.demanded.result c.in-Ok.cond c.args.table.now c.args.slot c.args.instance c.args.text.now c.demanded.ensures.same c.demanded.ensures.bit width tree

pub returns-in-Err-clause-tells : goal.returns-in-Err-clause-tells
returns-in-Err-clause-tells c =
    let places = binding_of c.args.table.now c.args.slot c.args.instance in
    let refused = c.in-Err.ensures.refused places (finds_each _ _ places (leaves (tree_of (text_expr c.args.text.now))) (λ name found post. search rules)) in
    let found = judged (scope_of places) (text_expr c.args.text.now) (text_offsets c.args.text.now) in
    told_fit c.args.bit c.args.slot _ found (c.fault_of.ensures.bit found refused) (c.fault_of.ensures.value found refused)
