use Rattle.std.proofs.Common.{rules, refl, [], ◌∷◌}
use Rattle.io_edge.specs.Unread.{StopsAt}
use Rattle.io_edge.proofs.Growth.{front_after, front_of_front, grown_twice}
use Rattle.io_edge.proofs.Stops.{stops_of_front, stops_after}
use Rattle.replay_run.specs.Judged.{names_as}
use Rattle.replay_run.proofs.Ending.{no_requests}
use Rattle.replay_run.proofs.judge.judge_walk.Goals as goal

pub returns-in_err-trace-clause-front : goal.returns-in_err-trace-clause-front
returns-in_err-trace-clause-front g c = front_of_front _ _ (c.args.replay.now.dump.now ∷ []) (c.args.replay.now.requests.now ∷ []) _ refl c.judge_trace.ensures.front

pub returns-in_err-requests-clause-front : goal.returns-in_err-requests-clause-front
returns-in_err-requests-clause-front g c =
    front_after _ _ _ (c.args.replay.now.dump.now ∷ []) (c.args.replay.now.requests.now ∷ []) [] _ refl c.in_ok-trace.ensures.asked c.read_file.ensures.front

pub returns-in-Some-clause-front : goal.returns-in-Some-clause-front
returns-in-Some-clause-front g c =
    front_after _ _ _ (c.args.replay.now.dump.now ∷ []) (c.args.replay.now.requests.now ∷ []) [] _ refl c.in_ok-trace.ensures.asked c.read_file.ensures.front

pub returns-in-None-clause-judged : goal.returns-in-None-clause-judged
returns-in-None-clause-judged g c =
    no_requests (g.F.Files.told c.args.files.now) (names_as c.args.replay.now) c.args.table c.in-Ok.trace (rw c.in-Ok.is at c.in_ok-trace.ensures.judged)
    (rw (c.judge_trace.ensures.same, c.in-None.is) at c.in_ok-requests.ensures.found)

pub returns-in-None-clause-front : goal.returns-in-None-clause-front
returns-in-None-clause-front g c =
    front_after _ _ _ (c.args.replay.now.dump.now ∷ []) (c.args.replay.now.requests.now ∷ []) [] _ refl c.in_ok-trace.ensures.asked c.read_file.ensures.front

pub returns-in_err-trace-clause-unread : goal.returns-in_err-trace-clause-unread
returns-in_err-trace-clause-unread g c e =
    let q : StopsAt g.F.Files.asked g.F.Files.fault_count c.args.files.now c.judge_trace.new.files (c.args.replay.now.dump.now ∷ []) = search rules in
    stops_of_front _ _ _ _ (c.args.replay.now.dump.now ∷ []) (c.args.replay.now.requests.now ∷ []) _ refl q

pub returns-in_err-requests-clause-unread : goal.returns-in_err-requests-clause-unread
returns-in_err-requests-clause-unread g c e =
    let q : StopsAt g.F.Files.asked g.F.Files.fault_count c.judge_trace.new.files c.read_file.new.files (c.args.replay.now.requests.now ∷ []) = search rules in
    stops_after _ _ _ _ _ (c.args.replay.now.dump.now ∷ []) (c.args.replay.now.requests.now ∷ []) [] _ refl c.in_ok-trace.ensures.asked c.judge_trace.ensures.later q

pub returns-in-Some-clause-asked : goal.returns-in-Some-clause-asked
returns-in-Some-clause-asked g c = grown_twice _ _ _ (c.args.replay.now.dump.now ∷ []) (c.args.replay.now.requests.now ∷ []) c.in_ok-trace.ensures.asked c.in_ok-requests.ensures.asked

pub returns-in-None-clause-asked : goal.returns-in-None-clause-asked
returns-in-None-clause-asked g c = grown_twice _ _ _ (c.args.replay.now.dump.now ∷ []) (c.args.replay.now.requests.now ∷ []) c.in_ok-trace.ensures.asked c.in_ok-requests.ensures.asked
