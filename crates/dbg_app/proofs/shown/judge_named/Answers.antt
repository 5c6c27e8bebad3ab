use Rattle.std.proofs.Common.{rules, Ok, [], ◌∷◌, ◌++◌, ap₂}
use Rattle.io_edge.specs.Unread.{StopsAt}
use Rattle.project_read.specs.Asking.{StopsInside}
use Rattle.dbg_app.specs.Asked.{command_as}
use Rattle.dbg_app.specs.Command.{file_names}
use Rattle.dbg_app.proofs.Names.{refused_some, shown_asked, front_own, front_behind, unread_own, unread_behind}
use Rattle.dbg_app.proofs.shown.judge_named.Goals as goal

pub returns-in-Err-clause-asked : goal.returns-in-Err-clause-asked
returns-in-Err-clause-asked g c = refused_some (g.F.Files.told c.args.files.now) c.args.command.now.source.now _ _ c.in-Err.fault (rw c.in-Err.is at c.in_ok-accepted.ensures.asked)

pub returns-in_ok-shown-in-Ok-clause-asked : goal.returns-in_ok-shown-in-Ok-clause-asked
returns-in_ok-shown-in-Ok-clause-asked g c = shown_asked (g.F.Files.told c.args.files.now) (command_as c.args.command.now) _ _ _ (Ok c.in_ok-shown-in-Ok.shown) c.requires.stimulus c.requires.bare (rw c.in-Ok.is at c.in_ok-accepted.ensures.asked) c.in_ok-shown-in-Ok.ensures.asked

pub returns-in_err-accepted-clause-front : goal.returns-in_err-accepted-clause-front
returns-in_err-accepted-clause-front g c = front_own (g.F.Files.told c.args.files.now) (command_as c.args.command.now) _ _ c.judge_files.ensures.front

pub returns-in-Err-clause-front : goal.returns-in-Err-clause-front
returns-in-Err-clause-front g c = front_own (g.F.Files.told c.args.files.now) (command_as c.args.command.now) _ _ c.judge_files.ensures.front

pub returns-in_ok-shown-in-Ok-clause-front : goal.returns-in_ok-shown-in-Ok-clause-front
returns-in_ok-shown-in-Ok-clause-front g c = front_behind (g.F.Files.told c.args.files.now) (command_as c.args.command.now) _ _ _ (c.args.stimulus.now ∷ []) (ap₂ (λ s r. file_names s ++ file_names r) c.requires.stimulus c.requires.bare) (rw c.in-Ok.is at c.in_ok-accepted.ensures.asked) c.show.ensures.front

pub returns-in_err-shown-in-Ok-clause-front : goal.returns-in_err-shown-in-Ok-clause-front
returns-in_err-shown-in-Ok-clause-front g c = front_behind (g.F.Files.told c.args.files.now) (command_as c.args.command.now) _ _ _ (c.args.stimulus.now ∷ []) (ap₂ (λ s r. file_names s ++ file_names r) c.requires.stimulus c.requires.bare) (rw c.in-Ok.is at c.in_ok-accepted.ensures.asked) c.show.ensures.front

pub returns-in_err-accepted-clause-unread : goal.returns-in_err-accepted-clause-unread
returns-in_err-accepted-clause-unread g c e =
    let q : StopsInside (g.F.Files.told c.args.files.now) c.args.command.now.source.now g.F.Files.asked g.F.Files.fault_count c.args.files.now c.judge_files.new.files = search rules in
    unread_own _ _ (g.F.Files.told c.args.files.now) (command_as c.args.command.now) _ _ q

pub returns-in_err-shown-in-Ok-clause-unread : goal.returns-in_err-shown-in-Ok-clause-unread
returns-in_err-shown-in-Ok-clause-unread g c e =
    let q : StopsAt g.F.Files.asked g.F.Files.fault_count c.judge_files.new.files c.show.new.files (c.args.stimulus.now ∷ []) = search rules in
    unread_behind _ _ (g.F.Files.told c.args.files.now) (command_as c.args.command.now) _ _ _ (c.args.stimulus.now ∷ []) (ap₂ (λ s r. file_names s ++ file_names r) c.requires.stimulus c.requires.bare) (rw c.in-Ok.is at c.in_ok-accepted.ensures.asked) c.judge_files.ensures.later q
