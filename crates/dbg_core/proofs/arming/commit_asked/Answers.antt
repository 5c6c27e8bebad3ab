use Rattle.dbg_core.proofs.arming.commit_asked.Goals as goal

pub returns-in-Ok-clause-own : goal.returns-in-Ok-clause-own
returns-in-Ok-clause-own c = λ own. c.commit.ensures.own c.args.table.now c.requires.armable own
