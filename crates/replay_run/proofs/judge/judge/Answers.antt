use Rattle.std.proofs.Common.{rules, refl, [], ◌∷◌}
use Rattle.io_edge.specs.Unread.{StopsAt}
use Rattle.io_edge.proofs.Growth.{front_after, front_of_front}
use Rattle.io_edge.proofs.Stops.{stops_of_front, stops_after}
use Rattle.replay_run.proofs.judge.judge.Goals as goal

pub returns-in_err-table-clause-front : goal.returns-in_err-table-clause-front
returns-in_err-table-clause-front g c =
    front_of_front _ _ (c.args.replay.now.symbols.now ∷ []) (c.args.replay.now.dump.now ∷ c.args.replay.now.requests.now ∷ []) _ refl c.judge_table.ensures.front

pub returns-in-Ok-clause-front : goal.returns-in-Ok-clause-front
returns-in-Ok-clause-front g c =
    front_after _ _ _ (c.args.replay.now.symbols.now ∷ []) (c.args.replay.now.dump.now ∷ c.args.replay.now.requests.now ∷ []) [] _ refl c.in_ok-table.ensures.asked c.judge_walk.ensures.front

pub returns-in_err-table-clause-unread : goal.returns-in_err-table-clause-unread
returns-in_err-table-clause-unread g c e =
    let q : StopsAt g.F.Files.asked g.F.Files.fault_count c.args.files.now c.judge_table.new.files (c.args.replay.now.symbols.now ∷ []) = search rules in
    stops_of_front _ _ _ _ (c.args.replay.now.symbols.now ∷ []) (c.args.replay.now.dump.now ∷ c.args.replay.now.requests.now ∷ []) _ refl q

pub returns-in-Ok-clause-unread : goal.returns-in-Ok-clause-unread
returns-in-Ok-clause-unread g c e =
    stops_after _ _ _ _ _ (c.args.replay.now.symbols.now ∷ []) (c.args.replay.now.dump.now ∷ c.args.replay.now.requests.now ∷ []) [] _ refl c.in_ok-table.ensures.asked c.judge_table.ensures.later (c.judge_walk.ensures.unread e)
