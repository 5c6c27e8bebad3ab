use Rattle.std.proofs.Common.{◌≡◌, drop}
use Rattle.std.specs.List.{list_all}
use Rattle.design_core.specs.View.{arms_of}
use Rattle.check_core.specs.Widths.{arm_literals, is_literal}
use Rattle.check_widths.proofs.arms.arms_are_sized.Given as goal

-- what is left tells what all tells
abbrev pub invariant-loop-arm : goal.invariant-loop-arm
invariant-loop-arm l = list_all is_literal (arm_literals (arms_of (drop l.arm-index l.arms))) ≡ list_all is_literal (arm_literals (arms_of l.arms))
