use Rattle.std.proofs.Common.{◌<◌, lit<, arith, refl}
use Rattle.io_edge.proofs.Stops.{grows_not}
use Rattle.demo_run.proofs.Ending.{design_line_taken, stimulus_line_taken, requests_line_taken, files_asked, files_late, front_taken, done_taken, written_completes}
use Rattle.demo_run.proofs.run.run_demo.Goals as goal

pub returns-in-Ok-clause-design_line : goal.returns-in-Ok-clause-design_line
returns-in-Ok-clause-design_line g c = λ three.
    let e = c.end.ensures in
    let early : c.end.result < 7 = rw three (lit< tt) in
    design_line_taken _ c.end.result c.in-Ok.judged _ _ three (e.status early) c.in-Ok.ensures.text (e.done early)

pub returns-in-Ok-clause-stimulus_line : goal.returns-in-Ok-clause-stimulus_line
returns-in-Ok-clause-stimulus_line g c = λ four.
    let e = c.end.ensures in
    let early : c.end.result < 7 = rw four (lit< tt) in
    stimulus_line_taken _ c.end.result c.in-Ok.judged _ _ four (e.status early) c.in-Ok.ensures.text (e.done early)

pub returns-in-Ok-clause-requests_line : goal.returns-in-Ok-clause-requests_line
returns-in-Ok-clause-requests_line g c = λ six.
    let e = c.end.ensures in
    let early : c.end.result < 7 = rw six (lit< tt) in
    requests_line_taken _ c.end.result c.in-Ok.judged _ _ six (e.status early) (e.done early)

pub returns-in-Ok-clause-front : goal.returns-in-Ok-clause-front
returns-in-Ok-clause-front g c = λ late.
    front_taken _ (g.F.Files.told c.args.files.now) _ c.in-Ok.judged _ _ c.in-Ok.ensures.judged c.in-Ok.ensures.text (c.end.ensures.front late)

pub returns-in-Ok-clause-done : goal.returns-in-Ok-clause-done
returns-in-Ok-clause-done g c = λ early.
    let e = c.end.ensures in
    done_taken _ (g.F.Files.told c.args.files.now) _ c.in-Ok.judged _ _ _ c.in-Ok.ensures.judged c.in-Ok.ensures.text (e.status early) (e.done early)

pub returns-in-Ok-clause-complete : goal.returns-in-Ok-clause-complete
returns-in-Ok-clause-complete g c =
    let e = c.end.ensures in
    written_completes _ (g.F.Files.told c.args.files.now) _ c.in-Ok.judged c.end.result _ _ _ _ e.statuses c.in-Ok.ensures.judged c.in-Ok.ensures.text e.status e.done e.no_read e.write

pub returns-in-Ok-clause-files : goal.returns-in-Ok-clause-files
returns-in-Ok-clause-files g c = files_asked _ c.in-Ok.judged c.end.result _ _ c.in-Ok.ensures.asked c.end.ensures.status

pub returns-in-Ok-clause-unread : goal.returns-in-Ok-clause-unread
returns-in-Ok-clause-unread g c = λ seven. absurd (c.end.ensures.no_read seven)

pub returns-in-Err-Failed-clause-files : goal.returns-in-Err-Failed-clause-files
returns-in-Err-Failed-clause-files g c = rw c.status.ensures (files_late _ 7 _ _ (omega arith))

pub returns-in-Err-Failed-clause-kept : goal.returns-in-Err-Failed-clause-kept
returns-in-Err-Failed-clause-kept g c = grows_not _ _ refl
