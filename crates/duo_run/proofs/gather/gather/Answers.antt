use Rattle.duo_run.specs.Journals.{requests_of}
use Rattle.duo_run.proofs.Joining.{carried, applied}
use Rattle.duo_run.proofs.gather.gather.Goals as goal

pub returns-clause-carried : goal.returns-clause-carried
returns-clause-carried g c = λ start pump.
    let side = c.args.side in
    rw c.end_in_two.ensures
    (carried start _ side.journal.items _ _ _ _ (c.gather-outlet.ensures.passes start (requests_of side.journal.items) side.pushed.items side.end pump c.requires.side))

pub returns-clause-applied : goal.returns-clause-applied
returns-clause-applied g c = λ start pump read w m was.
    let side = c.args.side in
    rw c.end_in_two.ensures
    (applied start _ c.gather-outlet.result.outlet side.journal.items side.pushed.items side.kept.items side.end
    (c.gather-outlet.ensures.told start (requests_of side.journal.items) side.pushed.items side.end pump c.requires.side) read w m was)
