use Rattle.std.proofs.Common.{IsUtf8, Err, sym, subst, ap, ◌∙◌}
use Rattle.std.proofs.lemmas.List.Elements.{All-get_or}
use Rattle.std.proofs.lemmas.Result.{err_from_is_err_and}
use Rattle.gen_tree.specs.declared.source.Import.{Import}
use Rattle.project_read.proofs.Numbers.{number_refused}
use Rattle.project_read.proofs.names.number_all.Goals as goal

pub number-requires : goal.number-requires
number-requires c =
    subst (λ (i : Import). IsUtf8 i.name) (sym c.import-item.is) (All-get_or (λ (i : Import). IsUtf8 i.name) c.args.imports.now c.loop-import.import-index c.import-item.result c.loop-import-test.true c.requires)

pub returns-in_err-number : goal.returns-in_err-number
returns-in_err-number c =
    let p = err_from_is_err_and c.from_residual.result c.from_residual.ensures.1 in
    number_refused (Unit {0}) _ _ _ _ _ _ _ _ _ (p.1 ∙ ap (λ x. Err x) p.2) c.loop-import-test.true c.import-item.is c.loop-import.invariant c.in_err-number.ensures
