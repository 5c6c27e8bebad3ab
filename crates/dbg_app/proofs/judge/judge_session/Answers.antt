use Rattle.std.proofs.Common.{rules, refl, [], ◌∷◌, ap}
use Rattle.io_edge.specs.Unread.{StopsAt}
use Rattle.io_edge.proofs.Stops.{stops_of_front, stops_after}
use Rattle.io_edge.proofs.Growth.{front_after, front_of_front, grown_twice}
use Rattle.dbg_app.specs.Asked.{stimulus_as, requests_as, command_as}
use Rattle.dbg_app.proofs.Judging.{session_runs, session_refused, requests_refused}
use Rattle.dbg_app.proofs.judge.judge_session.Goals as goal

pub returns-in_err-stim-clause-front : goal.returns-in_err-stim-clause-front
returns-in_err-stim-clause-front g c = front_of_front _ _ (c.args.stimulus.now ∷ []) (c.args.requests.now ∷ []) _ refl c.judge_stimulus.ensures.front

pub returns-in-Err-clause-judged : goal.returns-in-Err-clause-judged
returns-in-Err-clause-judged g c =
    session_refused (g.F.Files.told c.args.files.now) (command_as c.args.command.now) c.args.stimulus.now c.args.accepted c.in-Err.fault (ap stimulus_as c.requires.task) c.requires.kept
    (rw c.in-Err.is at c.in_ok-stim.ensures.judged)

pub returns-in_err-requests-clause-front : goal.returns-in_err-requests-clause-front
returns-in_err-requests-clause-front g c = front_after _ _ _ (c.args.stimulus.now ∷ []) (c.args.requests.now ∷ []) [] _ refl c.in_ok-stim.ensures.asked c.read_requests.ensures.front

pub returns-in-Some-clause-text : goal.returns-in-Some-clause-text
returns-in-Some-clause-text g c =
    let whole = rw c.in-Ok.is at c.in_ok-stim.ensures.whole in
    (whole.0, session_runs c.args.command.now.mode c.args.accepted c.in-Ok.stim c.in-Some.requests.items c.requires.kept whole)

pub returns-in-Some-clause-front : goal.returns-in-Some-clause-front
returns-in-Some-clause-front g c = front_after _ _ _ (c.args.stimulus.now ∷ []) (c.args.requests.now ∷ []) [] _ refl c.in_ok-stim.ensures.asked c.read_requests.ensures.front

pub returns-in-None-clause-judged : goal.returns-in-None-clause-judged
returns-in-None-clause-judged g c =
    requests_refused (g.F.Files.told c.args.files.now) (command_as c.args.command.now) c.args.stimulus.now c.args.requests.now c.args.accepted c.in-Ok.stim (ap stimulus_as c.requires.task) (ap requests_as c.requires.task) c.requires.kept
    (rw c.in-Ok.is at c.in_ok-stim.ensures.judged) (rw (c.judge_stimulus.ensures.same, c.in-None.is) at c.in_ok-requests.ensures.found)

pub returns-in-None-clause-front : goal.returns-in-None-clause-front
returns-in-None-clause-front g c = front_after _ _ _ (c.args.stimulus.now ∷ []) (c.args.requests.now ∷ []) [] _ refl c.in_ok-stim.ensures.asked c.read_requests.ensures.front

pub returns-in_err-stim-clause-unread : goal.returns-in_err-stim-clause-unread
returns-in_err-stim-clause-unread g c e =
    let q : StopsAt g.F.Files.asked g.F.Files.fault_count c.args.files.now c.judge_stimulus.new.files (c.args.stimulus.now ∷ []) = search rules in
    stops_of_front _ _ _ _ (c.args.stimulus.now ∷ []) (c.args.requests.now ∷ []) _ refl q

pub returns-in_err-requests-clause-unread : goal.returns-in_err-requests-clause-unread
returns-in_err-requests-clause-unread g c e =
    let q : StopsAt g.F.Files.asked g.F.Files.fault_count c.judge_stimulus.new.files c.read_requests.new.files (c.args.requests.now ∷ []) = search rules in
    stops_after _ _ _ _ _ (c.args.stimulus.now ∷ []) (c.args.requests.now ∷ []) [] _ refl c.in_ok-stim.ensures.asked c.judge_stimulus.ensures.later q

pub returns-in-Some-clause-asked : goal.returns-in-Some-clause-asked
returns-in-Some-clause-asked g c = grown_twice _ _ _ (c.args.stimulus.now ∷ []) (c.args.requests.now ∷ []) c.in_ok-stim.ensures.asked c.in_ok-requests.ensures.asked

pub returns-in-None-clause-asked : goal.returns-in-None-clause-asked
returns-in-None-clause-asked g c = grown_twice _ _ _ (c.args.stimulus.now ∷ []) (c.args.requests.now ∷ []) c.in_ok-stim.ensures.asked c.in_ok-requests.ensures.asked
