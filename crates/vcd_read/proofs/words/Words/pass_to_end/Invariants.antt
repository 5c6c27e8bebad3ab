use Rattle.std.proofs.Common.{◌≡◌, ◌≤◌, length}
use Rattle.vcd_read.specs.Commands.{behind_end}
use Rattle.vcd_read.proofs.words.Words.pass_to_end.Given as goal

-- what is left decides
abbrev pub invariant-loop-word : goal.invariant-loop-word
invariant-loop-word l = (behind_end l.self ≡ behind_end l.initial.self) × (length l.self ≤ length l.initial.self)

abbrev pub decreases-loop-word : goal.decreases-loop-word
decreases-loop-word l = length l.self
