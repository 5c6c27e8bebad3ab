use Rattle.std.proofs.Common.{◌≡◌, take}
use Rattle.design_core.specs.DesignView.{design_of}
use Rattle.design_judge.specs.Loops.{signal_paths}
use Rattle.design_judge.proofs.loops.signal_paths.Given as goal

-- the paths so far
abbrev pub invariant-loop-signal : goal.invariant-loop-signal
invariant-loop-signal l = l.paths.items ≡ signal_paths (design_of l.design) (take l.signal-index l.signals)
