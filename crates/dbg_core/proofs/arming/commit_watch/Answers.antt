use Rattle.dbg_core.proofs.arming.commit_watch.Goals as goal

pub returns-in-Err-clause-own : goal.returns-in-Err-clause-own
returns-in-Err-clause-own c = λ own. c.commit.ensures.own c.args.table.now c.requires.armable own

pub returns-in-Ok-clause-own : goal.returns-in-Ok-clause-own
returns-in-Ok-clause-own c = λ own. c.commit.ensures.own c.args.table.now c.requires.armable own
