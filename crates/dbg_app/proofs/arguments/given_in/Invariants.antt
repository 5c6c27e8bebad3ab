use Rattle.std.proofs.Common.{◌≡◌, ◌++◌, drop}
use Rattle.std.specs.List.{filter_map}
use Rattle.dbg_app.specs.Command.{argument_of}
use Rattle.dbg_app.specs.Asked.{given_in}
use Rattle.dbg_app.proofs.arguments.given_in.Given as goal

-- what was added and what is left are all
abbrev pub invariant-loop-i : goal.invariant-loop-i
invariant-loop-i l = l.given ++ filter_map argument_of (drop l.i l.words) ≡ given_in l.first l.words
