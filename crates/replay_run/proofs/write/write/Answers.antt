use Rattle.std.proofs.lemmas.Result.{on_ok_weaker}
use Rattle.replay_run.proofs.Ending.{on_err_always, nothing_written, requests_written}
use Rattle.replay_run.proofs.write.write.Goals as goal

pub returns-in_err-trace_line-in-NoTrace-clause-front : goal.returns-in_err-trace_line-in-NoTrace-clause-front
returns-in_err-trace_line-in-NoTrace-clause-front g c =
    on_err_always c.from_residual-in_err-trace_line-in-NoTrace.result _ (nothing_written _ c.args.judged (g.S.Sink.taken c.args.out.now))

pub returns-in-NoRequests-clause-ok : goal.returns-in-NoRequests-clause-ok
returns-in-NoRequests-clause-ok g c = on_ok_weaker c.write_line-in-NoRequests.result (requests_written _ c.args.judged _ _ c.in-NoRequests.is) c.write_line-in-NoRequests.ensures.ok
