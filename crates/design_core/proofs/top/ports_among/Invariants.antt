use Rattle.std.proofs.Common.{◌≡◌, take}
use Rattle.design_core.specs.Ports.{ports_in}
use Rattle.design_core.proofs.top.ports_among.Given as goal

abbrev pub invariant-loop-signal : goal.invariant-loop-signal
invariant-loop-signal l = l.ports.items ≡ ports_in l.output (take l.signal-index l.signals)
