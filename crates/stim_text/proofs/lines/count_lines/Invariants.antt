use Rattle.std.proofs.Common.{◌≡◌, ◌≤◌, ◌+◌, length}
use Rattle.std.specs.Str.Lines.{lines}
use Rattle.stim_text.proofs.lines.count_lines.Given as goal

-- the lines so far, and those that are left
abbrev pub invariant-loop-others : goal.invariant-loop-others
invariant-loop-others l = (l.count + length (lines l.rest) ≡ length (lines l.fn.text)) × (l.count + length l.rest ≤ length l.fn.text)

abbrev pub decreases-loop-others : goal.decreases-loop-others
decreases-loop-others l = length l.rest
