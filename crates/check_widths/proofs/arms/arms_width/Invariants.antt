use Rattle.std.proofs.Common.{◌≡◌, drop}
use Rattle.design_core.specs.View.{arms_of}
use Rattle.check_core.specs.Widths.{arm_literals, literals_width}
use Rattle.check_widths.proofs.arms.arms_width.Given as goal

-- what is left tells what all tells
abbrev pub invariant-loop-arm : goal.invariant-loop-arm
invariant-loop-arm l = literals_width l.width (arm_literals (arms_of (drop l.arm-index l.arms))) ≡ literals_width l.width (arm_literals (arms_of l.arms))
