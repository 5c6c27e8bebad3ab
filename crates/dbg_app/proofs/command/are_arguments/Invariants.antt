use Rattle.std.proofs.Common.{◌≡◌, drop}
use Rattle.std.specs.List.{list_all}
use Rattle.dbg_app.specs.Command.{is_argument}
use Rattle.dbg_app.proofs.command.are_arguments.Given as goal

-- all are arguments where those that are left are
abbrev pub invariant-loop-i : goal.invariant-loop-i
invariant-loop-i l = list_all is_argument (drop l.i l.words) ≡ list_all is_argument (drop l.first l.words)
