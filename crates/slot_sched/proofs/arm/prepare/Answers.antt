use Rattle.std.proofs.Common.{Err, option_map, subst, sym, ap, ◌∙◌}
use Rattle.std.proofs.lemmas.Result.{err_from_is_err_and}
use Rattle.machine_core.proofs.Sited.{breakpoint_sited}
use Rattle.site_core.proofs.Told.{told}
use Rattle.slot_sched.specs.Arm.{IsFor}
use Rattle.slot_sched.proofs.Prepared.{found_for, refused_for}
use Rattle.slot_sched.proofs.arm.prepare.Goals as goal

pub returns-in_err-found-clause-told : goal.returns-in_err-found-clause-told
returns-in_err-found-clause-told c = λ read s armed next reader.
    let path = option_map (λ p. p.now) c.args.path in
    let text = option_map (λ t. t.now) c.args.cond in
    let p = err_from_is_err_and c.from_residual.result c.from_residual.ensures.1 in
    subst (IsFor armed next c.from_residual.result) (sym (breakpoint_sited read (told c.args.table.now s) armed next c.args.line path text))
    (refused_for armed next _ c.from_residual.result c.in_err-found.field-0.0 (p.1 ∙ ap (λ x. Err x) p.2) (c.in_err-found.ensures.told read s reader))

pub returns-clause-told : goal.returns-clause-told
returns-clause-told c = λ read s armed next reader.
    let path = option_map (λ p. p.now) c.args.path in
    let text = option_map (λ t. t.now) c.args.cond in
    sym (sym (found_for armed next _ c.in_ok-found.found (c.in_ok-found.ensures.told read s reader)) ∙ sym (breakpoint_sited read (told c.args.table.now s) armed next c.args.line path text))
