use Rattle.std.proofs.Common.{◌≡◌, take}
use Rattle.design_core.specs.WellFormed.{regs}
use Rattle.design_core.proofs.top.count_registers.Given as goal

abbrev pub invariant-loop-signal : goal.invariant-loop-signal
invariant-loop-signal l = l.count ≡ regs (take l.signal-index l.signals)
