use Rattle.std.proofs.Common.{◌≡◌, drop}
use Rattle.names.specs.Maps.{no_value, value_of}
use Rattle.name_widths.specs.DeclaredWidths.{all_declared}
use Rattle.name_widths.proofs.declared.declared_in.Given as goal

-- those so far, with those of what is left
abbrev pub invariant-loop-signal : goal.invariant-loop-signal
invariant-loop-signal l = all_declared (value_of l.widths) (drop l.signal-index l.signals) ≡ all_declared no_value l.signals
