use Rattle.std.proofs.Common.{refl}
use Rattle.show_net.specs.Over.{Shows}
use Rattle.serve_net.specs.Attending.{starved}
use Rattle.serve_net.proofs.Attending.{visited, halted}
use Rattle.serve_net.proofs.attend.visit.Goals as goal

pub returns-in-Ok-clause-ok : goal.returns-in-Ok-clause-ok
returns-in-Ok-clause-ok g c =
    visited _ (λ over. Shows c.args.service.now over) _ _ _ _ _ _ _ _ c.args.number _ _ c.in-Ok.visit c.in-Ok.ensures.ok c.write_visit.result c.write_visit.ensures.ok

pub returns-in-Ok-clause-err : goal.returns-in-Ok-clause-err
returns-in-Ok-clause-err g c =
    halted _ (λ over. Shows c.args.service.now over) _ _ _ _ _ _ _ _ c.args.number _ _ c.in-Ok.visit c.in-Ok.ensures.ok c.write_visit.result c.write_visit.ensures.front

pub returns-in-Err-clause-err : goal.returns-in-Err-clause-err
returns-in-Err-clause-err g c = λ over sh. starved refl (c.in-Err.ensures.err over sh) refl
