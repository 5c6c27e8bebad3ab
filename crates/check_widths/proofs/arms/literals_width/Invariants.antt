use Rattle.std.proofs.Common.{◌≡◌, drop}
use Rattle.check_core.specs.Widths.{literals_width}
use Rattle.check_widths.proofs.arms.literals_width.Given as goal

-- what is left tells what all tells
abbrev pub invariant-loop-literal : goal.invariant-loop-literal
invariant-loop-literal l = literals_width l.width (drop l.literal-index l.literals) ≡ literals_width l.width l.literals
