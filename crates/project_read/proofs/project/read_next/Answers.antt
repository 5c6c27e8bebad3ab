use Rattle.std.proofs.Common.{Err, ap, ◌∙◌}
use Rattle.std.proofs.lemmas.Result.{err_from_is_err_and}
use Rattle.project_read.specs.Names.{names_in}
use Rattle.project_read.proofs.Next.{imports_utf8, is_read, next_read, next_refused}
use Rattle.project_read.proofs.project.read_next.Goals as goal

pub number_all-requires : goal.number_all-requires
number_all-requires g c = imports_utf8 c.args.file c.in_ok-source.source c.deref.result.now c.deref.ensures.value c.in_ok-source.ensures.is

pub returns-in_err-number_all-clause-told : goal.returns-in_err-number_all-clause-told
returns-in_err-number_all-clause-told g c =
    let p = err_from_is_err_and c.from_residual-in_err-number_all.result c.from_residual-in_err-number_all.ensures.1 in
    next_refused (Unit {0}) _ _ _ _ _ c.in_ok-source.source c.deref.result.now _ _ (p.1 ∙ ap (λ x. Err x) p.2)
    (is_read _ c.args.names.now.items c.args.file c.in_ok-source.source c.deref.result.now _ c.as_str.result.now c.requires.file c.index.ensures c.as_str.ensures.value c.in_ok-source.ensures.told c.deref.ensures.value)
    c.in_err-number_all.ensures

pub returns-clause-told : goal.returns-clause-told
returns-clause-told g c =
    next_read _ _ (names_in c.args.names.now.items) _ _ c.in_ok-source.source c.deref.result.now
    (is_read _ c.args.names.now.items c.args.file c.in_ok-source.source c.deref.result.now _ c.as_str.result.now c.requires.file c.index.ensures c.as_str.ensures.value c.in_ok-source.ensures.told c.deref.ensures.value)
    c.in_ok-number_all.ensures
