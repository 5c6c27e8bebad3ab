use Rattle.std.proofs.Common.{◌≡◌, drop}
use Rattle.names.specs.Known.{has, either}
use Rattle.check_core.specs.Names.{kinds_of, named}
use Rattle.check_core.proofs.kinds.names_of.Given as goal

-- those so far, and those of what is left
abbrev pub invariant-loop-signal : goal.invariant-loop-signal
invariant-loop-signal l = either (has l.names) (named (kinds_of l.kinds) (drop l.signal-index l.signals)) ≡ named (kinds_of l.kinds) l.signals
