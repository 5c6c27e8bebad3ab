use Rattle.std.proofs.Common.{◌≡◌, ℕ, ◌<◌, ◌≤◌, drop, length, get_or}
use Rattle.net_core.specs.Nets.{next_node}
use Rattle.net_core.proofs.nexts.nexts_by_number.Given as goal

-- what the pairs so far, which are the last, name
abbrev pub invariant-loop-place : goal.invariant-loop-place
invariant-loop-place l =
    (length l.found.items ≡ length l.net.nodes)
    × (l.place ≤ length l.nexts)
    × ((i : ℕ) → i < length l.net.nodes → get_or l.found.items i 0 ≡ next_node (drop l.place l.net.nexts) i)
