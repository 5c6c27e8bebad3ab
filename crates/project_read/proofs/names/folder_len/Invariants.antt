use Rattle.std.proofs.Common.{◌≡◌, ◌≤◌, ◌==◌, false, drop, length}
use Rattle.std.specs.List.{list_any}
use Rattle.project_read.proofs.names.folder_len.Given as goal

-- no slash stands behind
abbrev pub invariant-loop-end : goal.invariant-loop-end
invariant-loop-end l = (l.end ≤ length l.name) × (list_any (λ b. b == 47) (drop l.end l.name) ≡ false)

abbrev pub decreases-loop-end : goal.decreases-loop-end
decreases-loop-end l = l.end
