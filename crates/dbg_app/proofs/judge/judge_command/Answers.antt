use Rattle.std.proofs.Common.{rules, refl, [], ◌∷◌, ◌++◌, sym, ap}
use Rattle.io_edge.specs.Unread.{StopsAt}
use Rattle.project_read.specs.Asking.{StopsInside}
use Rattle.dbg_app.proofs.Names.{refused_some, all_alone, all_behind, session_asked, front_own, front_behind, unread_own, unread_behind}
use Rattle.design_core.specs.DesignView.{design_of}
use Rattle.dbg_app.specs.Command.{file_names}
use Rattle.dbg_app.specs.Asked.{task_as, stimulus_as, requests_as, command_as}
use Rattle.dbg_app.proofs.Judging.{over_runs, alone_runs, alone_held, over_held, over_refused, source_held, session_judged}
use Rattle.dbg_app.proofs.judge.judge_command.Goals as goal

pub returns-in-Alone-clause-judged : goal.returns-in-Alone-clause-judged
returns-in-Alone-clause-judged g c =
    alone_held (g.F.Files.told c.args.files.now) (command_as c.args.command.now) c.in-Alone.task c.args.command.now.mode c.in-Ok.accepted (sym (ap task_as c.in-Alone.is)) refl (ap stimulus_as c.in-Alone.is) (ap requests_as c.in-Alone.is)
    (rw c.in-Ok.is at c.in_ok-accepted.ensures.fit) (rw c.in-Ok.is at c.in_ok-accepted.ensures.judged)

pub returns-in-Alone-clause-text : goal.returns-in-Alone-clause-text
returns-in-Alone-clause-text g c = alone_runs c.in-Alone.task c.args.command.now.mode c.in-Ok.accepted (rw c.in-Ok.is at c.in_ok-accepted.ensures.fit)

pub returns-in-Ok-2-clause-judged : goal.returns-in-Ok-2-clause-judged
returns-in-Ok-2-clause-judged g c =
    over_held (g.F.Files.told c.args.files.now) (command_as c.args.command.now) c.in-Over.stimulus.now c.in-Over.task c.args.command.now.mode c.in-Ok.accepted c.in-Ok-2.stim (sym (ap task_as c.in-Over.is)) refl (ap stimulus_as c.in-Over.is) (ap requests_as c.in-Over.is)
    (rw c.in-Ok.is at c.in_ok-accepted.ensures.fit) (rw c.in-Ok.is at c.in_ok-accepted.ensures.judged) (rw (c.judge_source.ensures.same, c.in-Ok-2.is) at c.in_ok-stim-in-Over.ensures.judged)

pub returns-in-Ok-2-clause-text : goal.returns-in-Ok-2-clause-text
returns-in-Ok-2-clause-text g c =
    let whole = rw c.in-Ok-2.is at c.in_ok-stim-in-Over.ensures.whole in
    (whole.0, over_runs c.in-Over.task c.args.command.now.mode c.in-Ok.accepted c.in-Ok-2.stim (rw c.in-Ok.is at c.in_ok-accepted.ensures.fit) whole)

pub returns-in-Err-2-clause-judged : goal.returns-in-Err-2-clause-judged
returns-in-Err-2-clause-judged g c =
    over_refused (g.F.Files.told c.args.files.now) (command_as c.args.command.now) c.in-Over.stimulus.now c.in-Ok.accepted c.in-Err-2.fault (ap stimulus_as c.in-Over.is)
    (rw c.in-Ok.is at c.in_ok-accepted.ensures.fit) (rw c.in-Ok.is at c.in_ok-accepted.ensures.judged) (rw (c.judge_source.ensures.same, c.in-Err-2.is) at c.in_ok-stim-in-Over.ensures.judged)

pub returns-in-Session-clause-judged : goal.returns-in-Session-clause-judged
returns-in-Session-clause-judged g c =
    session_judged (g.F.Files.told c.args.files.now) (command_as c.args.command.now) (design_of c.in-Ok.accepted.design) c.judge_session.result
    (source_held _ _ c.in-Ok.accepted (rw c.in-Ok.is at c.in_ok-accepted.ensures.judged)) (rw c.judge_source.ensures.same at c.judge_session.ensures.judged)

-- ---- the files that were asked for

pub returns-in-Err-clause-asked : goal.returns-in-Err-clause-asked
returns-in-Err-clause-asked g c = refused_some (g.F.Files.told c.args.files.now) c.args.command.now.source.now _ _ c.in-Err.fault (rw c.in-Err.is at c.in_ok-accepted.ensures.asked)

pub returns-in-Alone-clause-asked : goal.returns-in-Alone-clause-asked
returns-in-Alone-clause-asked g c =
    all_alone (g.F.Files.told c.args.files.now) c.args.command.now.source.now _ _ _ (ap (λ t. file_names (stimulus_as t) ++ file_names (requests_as t)) c.in-Alone.is) (rw c.in-Ok.is at c.in_ok-accepted.ensures.asked)

pub returns-in-Ok-2-clause-asked : goal.returns-in-Ok-2-clause-asked
returns-in-Ok-2-clause-asked g c = all_behind (g.F.Files.told c.args.files.now) c.args.command.now.source.now _ _ _ _ (rw c.in-Ok.is at c.in_ok-accepted.ensures.asked) (rw (ap (λ t. file_names (stimulus_as t) ++ file_names (requests_as t)) c.in-Over.is) c.in_ok-stim-in-Over.ensures.asked)

pub returns-in-Err-2-clause-asked : goal.returns-in-Err-2-clause-asked
returns-in-Err-2-clause-asked g c = all_behind (g.F.Files.told c.args.files.now) c.args.command.now.source.now _ _ _ _ (rw c.in-Ok.is at c.in_ok-accepted.ensures.asked) (rw (ap (λ t. file_names (stimulus_as t)) c.in-Over.is) c.in_ok-stim-in-Over.ensures.asked)

pub returns-in-Session-clause-asked : goal.returns-in-Session-clause-asked
returns-in-Session-clause-asked g c =
    session_asked (g.F.Files.told c.args.files.now) (command_as c.args.command.now) _ _ _ c.judge_session.result (ap stimulus_as c.in-Session.is) (ap requests_as c.in-Session.is) (rw c.in-Ok.is at c.in_ok-accepted.ensures.asked) c.judge_session.ensures.asked

pub returns-in_err-accepted-clause-front : goal.returns-in_err-accepted-clause-front
returns-in_err-accepted-clause-front g c = front_own (g.F.Files.told c.args.files.now) (command_as c.args.command.now) _ _ c.judge_source.ensures.front

pub returns-in-Err-clause-front : goal.returns-in-Err-clause-front
returns-in-Err-clause-front g c = front_own (g.F.Files.told c.args.files.now) (command_as c.args.command.now) _ _ c.judge_source.ensures.front

pub returns-in-Alone-clause-front : goal.returns-in-Alone-clause-front
returns-in-Alone-clause-front g c = front_own (g.F.Files.told c.args.files.now) (command_as c.args.command.now) _ _ c.judge_source.ensures.front

pub returns-in_err-stim-in-Over-clause-front : goal.returns-in_err-stim-in-Over-clause-front
returns-in_err-stim-in-Over-clause-front g c = front_behind (g.F.Files.told c.args.files.now) (command_as c.args.command.now) _ _ _ (c.in-Over.stimulus.now ∷ []) (ap (λ t. file_names (stimulus_as t) ++ file_names (requests_as t)) c.in-Over.is) (rw c.in-Ok.is at c.in_ok-accepted.ensures.asked) c.judge_stimulus.ensures.front

pub returns-in-Ok-2-clause-front : goal.returns-in-Ok-2-clause-front
returns-in-Ok-2-clause-front g c = front_behind (g.F.Files.told c.args.files.now) (command_as c.args.command.now) _ _ _ (c.in-Over.stimulus.now ∷ []) (ap (λ t. file_names (stimulus_as t) ++ file_names (requests_as t)) c.in-Over.is) (rw c.in-Ok.is at c.in_ok-accepted.ensures.asked) c.judge_stimulus.ensures.front

pub returns-in-Err-2-clause-front : goal.returns-in-Err-2-clause-front
returns-in-Err-2-clause-front g c = front_behind (g.F.Files.told c.args.files.now) (command_as c.args.command.now) _ _ _ (c.in-Over.stimulus.now ∷ []) (ap (λ t. file_names (stimulus_as t) ++ file_names (requests_as t)) c.in-Over.is) (rw c.in-Ok.is at c.in_ok-accepted.ensures.asked) c.judge_stimulus.ensures.front

pub returns-in-Session-clause-front : goal.returns-in-Session-clause-front
returns-in-Session-clause-front g c = front_behind (g.F.Files.told c.args.files.now) (command_as c.args.command.now) _ _ _ (c.in-Session.stimulus.now ∷ c.in-Session.requests.now ∷ []) (ap (λ t. file_names (stimulus_as t) ++ file_names (requests_as t)) c.in-Session.is) (rw c.in-Ok.is at c.in_ok-accepted.ensures.asked) c.judge_session.ensures.front

-- ---- a file that was not read

pub returns-in_err-accepted-clause-unread : goal.returns-in_err-accepted-clause-unread
returns-in_err-accepted-clause-unread g c e =
    let q : StopsInside (g.F.Files.told c.args.files.now) c.args.command.now.source.now g.F.Files.asked g.F.Files.fault_count c.args.files.now c.judge_source.new.files = search rules in
    unread_own _ _ (g.F.Files.told c.args.files.now) (command_as c.args.command.now) _ _ q

pub returns-in_err-stim-in-Over-clause-unread : goal.returns-in_err-stim-in-Over-clause-unread
returns-in_err-stim-in-Over-clause-unread g c e =
    let q : StopsAt g.F.Files.asked g.F.Files.fault_count c.judge_source.new.files c.judge_stimulus.new.files (c.in-Over.stimulus.now ∷ []) = search rules in
    unread_behind _ _ (g.F.Files.told c.args.files.now) (command_as c.args.command.now) _ _ _ (c.in-Over.stimulus.now ∷ []) (ap (λ t. file_names (stimulus_as t) ++ file_names (requests_as t)) c.in-Over.is) (rw c.in-Ok.is at c.in_ok-accepted.ensures.asked) c.judge_source.ensures.later q

pub returns-in-Session-clause-unread : goal.returns-in-Session-clause-unread
returns-in-Session-clause-unread g c e =
    unread_behind _ _ (g.F.Files.told c.args.files.now) (command_as c.args.command.now) _ _ _ (c.in-Session.stimulus.now ∷ c.in-Session.requests.now ∷ []) (ap (λ t. file_names (stimulus_as t) ++ file_names (requests_as t)) c.in-Session.is) (rw c.in-Ok.is at c.in_ok-accepted.ensures.asked) c.judge_source.ensures.later (c.judge_session.ensures.unread e)
