use Rattle.std.proofs.Common.{◌<◌, lit<, refl}
use Rattle.io_edge.proofs.Stops.{grows_not}
use Rattle.dbg_app.proofs.Statuses.{files_asked, row_told, ends_grown}
use Rattle.dbg_app.proofs.Compiling.{command_compiles}
use Rattle.dbg_app.specs.Command.{command_of}
use Rattle.dbg_app.proofs.Ending.{usage_taken, design_line_taken, stimulus_line_taken, requests_line_taken, front_taken, done_taken, written_completes}
use Rattle.dbg_app.proofs.program.run_design.Goals as goal

pub returns-in-Ok-clause-usage_front : goal.returns-in-Ok-clause-usage_front
returns-in-Ok-clause-usage_front g c = λ none.
    let e = c.end.ensures in
    usage_taken _ c.end.result.status c.in-Ok.judged _ _ e.statuses (c.in-Ok.ensures.command.1 none) e.done e.no_read e.front

pub returns-in-Ok-clause-design_line : goal.returns-in-Ok-clause-design_line
returns-in-Ok-clause-design_line g c = λ three.
    let e = c.end.ensures in
    let early : c.end.result.status < 7 = rw three (lit< tt) in
    design_line_taken _ c.end.result.status c.in-Ok.judged _ _ three (e.status early) c.in-Ok.ensures.text (e.done early)

pub returns-in-Ok-clause-stimulus_line : goal.returns-in-Ok-clause-stimulus_line
returns-in-Ok-clause-stimulus_line g c = λ four.
    let e = c.end.ensures in
    let early : c.end.result.status < 7 = rw four (lit< tt) in
    stimulus_line_taken _ c.end.result.status c.in-Ok.judged _ _ four (e.status early) c.in-Ok.ensures.text (e.done early)

pub returns-in-Ok-clause-requests_line : goal.returns-in-Ok-clause-requests_line
returns-in-Ok-clause-requests_line g c = λ six.
    let e = c.end.ensures in
    let early : c.end.result.status < 7 = rw six (lit< tt) in
    requests_line_taken _ c.end.result.status c.in-Ok.judged _ _ six (e.status early) (e.done early)

pub returns-in-Ok-clause-front : goal.returns-in-Ok-clause-front
returns-in-Ok-clause-front g c = λ late.
    front_taken _ (g.F.Files.told c.args.files.now) _ c.in-Ok.judged _ _ c.in-Ok.ensures.judged c.in-Ok.ensures.text (c.end.ensures.front late)

pub returns-in-Ok-clause-done : goal.returns-in-Ok-clause-done
returns-in-Ok-clause-done g c = λ early.
    let e = c.end.ensures in
    done_taken _ (g.F.Files.told c.args.files.now) _ c.in-Ok.judged _ _ _ c.in-Ok.ensures.judged c.in-Ok.ensures.text (e.status early) (e.done early)

pub returns-in-Ok-clause-complete : goal.returns-in-Ok-clause-complete
returns-in-Ok-clause-complete g c =
    let e = c.end.ensures in
    written_completes _ (g.F.Files.told c.args.files.now) _ c.in-Ok.judged c.end.result.status _ _ _ _ e.statuses c.in-Ok.ensures.judged e.status e.done e.no_read e.write

pub returns-in-Ok-clause-row : goal.returns-in-Ok-clause-row
returns-in-Ok-clause-row g c =
    let e = c.end.ensures in
    row_told (command_of c.args.words.now) c.in-Ok.judged c.end.result.status e.statuses c.in-Ok.ensures.command c.in-Ok.ensures.named e.status e.no_read

pub returns-in-Ok-clause-files : goal.returns-in-Ok-clause-files
returns-in-Ok-clause-files g c = files_asked (g.F.Files.told c.args.files.now) (command_of c.args.words.now) c.in-Ok.judged c.end.result.status _ _ c.in-Ok.ensures.asked c.end.ensures.status

pub returns-in-Ok-clause-unread : goal.returns-in-Ok-clause-unread
returns-in-Ok-clause-unread g c = λ seven. absurd (c.end.ensures.no_read seven)

pub returns-in-Ok-clause-kept : goal.returns-in-Ok-clause-kept
returns-in-Ok-clause-kept g c =
    let e = c.end.ensures in
    ends_grown _ c.in-Ok.judged c.end.result.status _ _ c.in-Ok.ensures.text e.statuses e.done e.no_read e.front

pub returns-in-Ok-clause-compiled : goal.returns-in-Ok-clause-compiled
returns-in-Ok-clause-compiled g c = λ zero.
    let e = c.end.ensures in
    command_compiles (g.F.Files.told c.args.files.now) (command_of c.args.words.now) c.in-Ok.judged c.end.result.status zero (e.status (rw zero (lit< tt))) c.in-Ok.ensures.judged (e.compiled zero)

pub returns-in-Err-clause-kept : goal.returns-in-Err-clause-kept
returns-in-Err-clause-kept g c = grows_not _ _ refl
