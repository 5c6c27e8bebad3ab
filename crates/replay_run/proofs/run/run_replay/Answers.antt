use Rattle.std.proofs.Common.{◌<◌, lit<, arith, refl}
use Rattle.io_edge.proofs.Stops.{grows_not}
use Rattle.replay_run.proofs.Ending.{file_line_taken, requests_line_taken, files_asked, files_late, ends_grown, front_taken, done_taken, written_completes}
use Rattle.replay_run.proofs.run.run_replay.Goals as goal

pub returns-in-Ok-clause-file_line : goal.returns-in-Ok-clause-file_line
returns-in-Ok-clause-file_line g c = λ five.
    let e = c.end.ensures in
    let early : c.end.result < 7 = rw five (lit< tt) in
    file_line_taken _ c.end.result c.in-Ok.judged _ _ five (e.status early) c.in-Ok.ensures.line (e.done early)

pub returns-in-Ok-clause-requests_line : goal.returns-in-Ok-clause-requests_line
returns-in-Ok-clause-requests_line g c = λ six.
    let e = c.end.ensures in
    let early : c.end.result < 7 = rw six (lit< tt) in
    requests_line_taken _ c.end.result c.in-Ok.judged _ _ six (e.status early) (e.done early)

pub returns-in-Ok-clause-front : goal.returns-in-Ok-clause-front
returns-in-Ok-clause-front g c = λ late.
    front_taken _ (g.F.Files.told c.args.files.now) _ c.in-Ok.judged _ _ c.in-Ok.ensures.judged (c.end.ensures.front late)

pub returns-in-Ok-clause-done : goal.returns-in-Ok-clause-done
returns-in-Ok-clause-done g c = λ early.
    let e = c.end.ensures in
    done_taken _ (g.F.Files.told c.args.files.now) _ c.in-Ok.judged _ _ _ c.in-Ok.ensures.judged (e.status early) (e.done early)

pub returns-in-Ok-clause-complete : goal.returns-in-Ok-clause-complete
returns-in-Ok-clause-complete g c =
    let e = c.end.ensures in
    written_completes _ (g.F.Files.told c.args.files.now) _ c.in-Ok.judged c.end.result _ _ _ _ e.statuses c.in-Ok.ensures.judged e.status e.done e.no_read e.write

pub returns-in-Ok-clause-files : goal.returns-in-Ok-clause-files
returns-in-Ok-clause-files g c =
    let e = c.end.ensures in files_asked _ _ c.in-Ok.judged c.end.result _ _ _ _ c.in-Ok.ensures.line c.in-Ok.ensures.asked e.status e.done

pub returns-in-Ok-clause-unread : goal.returns-in-Ok-clause-unread
returns-in-Ok-clause-unread g c = λ seven. absurd (c.end.ensures.no_read seven)

pub returns-in-Ok-clause-kept : goal.returns-in-Ok-clause-kept
returns-in-Ok-clause-kept g c =
    let e = c.end.ensures in ends_grown _ c.in-Ok.judged c.end.result _ _ e.statuses e.done e.no_read e.front

pub returns-in-Err-Failed-clause-files : goal.returns-in-Err-Failed-clause-files
returns-in-Err-Failed-clause-files g c = rw c.status.ensures (files_late _ 7 _ _ _ _ (omega arith))

pub returns-in-Err-Failed-clause-kept : goal.returns-in-Err-Failed-clause-kept
returns-in-Err-Failed-clause-kept g c = grows_not _ _ refl
