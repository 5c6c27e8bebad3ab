use Rattle.std.proofs.Common.{rules, ◌≡◌}
use Rattle.std.proofs.lemmas.Result.{on_ok_weaker, on_err_weaker}
use Rattle.dbg_app.proofs.Writing.{on_err_always, nothing_written, usage_written, requests_written, alone_taken, alone_front, over_taken, over_front, session_taken, session_front}
use Rattle.dbg_app.proofs.write.write.Goals as goal

pub returns-in_err-design_line-in-NoDesign-clause-front : goal.returns-in_err-design_line-in-NoDesign-clause-front
returns-in_err-design_line-in-NoDesign-clause-front g c = on_err_always c.from_residual.result _ (nothing_written _ c.args.judged (g.S.Sink.taken c.args.out.now))

pub returns-in-NoCommand-clause-ok : goal.returns-in-NoCommand-clause-ok
returns-in-NoCommand-clause-ok g c = on_ok_weaker c.write_line.result (usage_written _ c.args.judged _ _ c.in-NoCommand.is) c.write_line.ensures.ok

pub returns-in-Alone-clause-ok : goal.returns-in-Alone-clause-ok
returns-in-Alone-clause-ok g c = on_ok_weaker c.write_alone.result (alone_taken _ c.args.judged c.in-Alone.task c.in-Alone.mode c.in-Alone.accepted _ _ c.in-Alone.is) c.write_alone.ensures.ok

pub returns-in-Alone-clause-front : goal.returns-in-Alone-clause-front
returns-in-Alone-clause-front g c = on_err_weaker c.write_alone.result (alone_front _ c.args.judged c.in-Alone.task c.in-Alone.mode c.in-Alone.accepted _ _ c.in-Alone.is) c.write_alone.ensures.front

pub returns-in-Over-clause-ok : goal.returns-in-Over-clause-ok
returns-in-Over-clause-ok g c = on_ok_weaker c.write_over.result (over_taken _ c.args.judged c.in-Over.task c.in-Over.mode c.in-Over.accepted c.in-Over.stim _ _ c.in-Over.is) c.write_over.ensures.ok

pub returns-in-Over-clause-front : goal.returns-in-Over-clause-front
returns-in-Over-clause-front g c = on_err_weaker c.write_over.result (over_front _ c.args.judged c.in-Over.task c.in-Over.mode c.in-Over.accepted c.in-Over.stim _ _ c.in-Over.is) c.write_over.ensures.front

pub returns-in-NoRequests-clause-ok : goal.returns-in-NoRequests-clause-ok
returns-in-NoRequests-clause-ok g c = on_ok_weaker c.write_line-in-NoRequests.result (requests_written _ c.args.judged _ _ c.in-NoRequests.is) c.write_line-in-NoRequests.ensures.ok

pub returns-in-Session-clause-ok : goal.returns-in-Session-clause-ok
returns-in-Session-clause-ok g c =
    let bytes : c.deref-in-Session.result.now ≡ c.in-Session.requests.items = search rules in
    on_ok_weaker c.write_asked.result (session_taken _ c.args.judged c.in-Session.mode c.in-Session.accepted c.in-Session.stim c.in-Session.requests c.deref-in-Session.result.now _ _ c.in-Session.is bytes) c.write_asked.ensures.ok

pub returns-in-Session-clause-front : goal.returns-in-Session-clause-front
returns-in-Session-clause-front g c =
    let bytes : c.deref-in-Session.result.now ≡ c.in-Session.requests.items = search rules in
    on_err_weaker c.write_asked.result (session_front _ c.args.judged c.in-Session.mode c.in-Session.accepted c.in-Session.stim c.in-Session.requests c.deref-in-Session.result.now _ _ c.in-Session.is bytes) c.write_asked.ensures.front
