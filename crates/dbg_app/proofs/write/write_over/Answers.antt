use Rattle.dbg_app.proofs.Writing.{trail_written}
use Rattle.dbg_app.proofs.write.write_over.Goals as goal

pub returns-in_ok-write_trail-in-Trail-clause-ok : goal.returns-in_ok-write_trail-in-Trail-clause-ok
returns-in_ok-write_trail-in-Trail-clause-ok g c =
    trail_written c.args.task c.args.mode c.args.accepted.now c.args.stim _ _ c.in-Trail.is c.in_ok-write_trail-in-Trail.ensures.ok
