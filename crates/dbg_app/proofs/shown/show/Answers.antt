use Rattle.std.proofs.Common.{refl}
use Rattle.dbg_app.specs.Asked.{command_as}
use Rattle.dbg_app.proofs.Judging.{session_refused}
use Rattle.dbg_app.proofs.Offering.{shown_over, held_over}
use Rattle.dbg_app.proofs.shown.show.Goals as goal

pub returns-in-Ok-clause-judged : goal.returns-in-Ok-clause-judged
returns-in-Ok-clause-judged g c =
    held_over (g.F.Files.told c.args.files.now) (command_as c.args.command.now) c.args.stimulus.now (record { mode = c.args.command.now.mode; accepted = c.args.accepted; stimulus = c.in-Ok.stimulus }) refl c.requires.stimulus
    (rw c.in-Ok.is at c.in_ok-stimulus.ensures.found)

pub returns-in-Ok-clause-shown : goal.returns-in-Ok-clause-shown
returns-in-Ok-clause-shown g c = shown_over (record { mode = c.args.command.now.mode; accepted = c.args.accepted; stimulus = c.in-Ok.stimulus }) c.requires.kept (rw c.in-Ok.is at c.in_ok-stimulus.ensures.rows)

pub returns-in-Err-clause-judged : goal.returns-in-Err-clause-judged
returns-in-Err-clause-judged g c =
    session_refused (g.F.Files.told c.args.files.now) (command_as c.args.command.now) c.args.stimulus.now c.args.accepted c.in-Err.fault c.requires.stimulus c.requires.kept
    (rw c.in-Err.is at c.in_ok-stimulus.ensures.found)
