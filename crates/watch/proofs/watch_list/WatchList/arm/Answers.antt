use Rattle.watch.proofs.watch_list.WatchList.arm.Goals as goal

pub returns-clause-own : goal.returns-clause-own
returns-clause-own c = λ own. c.commit.ensures.own c.args.table.now c.in_ok-unwatched.ensures.armable own
