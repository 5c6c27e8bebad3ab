use Rattle.std.proofs.Common.{◌≡◌, ◌++◌}
use Rattle.list_core.specs.Lists.{from}
use Rattle.vcd_write.proofs.cycle.push_numbers.Given as goal

-- the numbers so far
abbrev pub invariant-loop-number : goal.invariant-loop-number
invariant-loop-number l = l.found.items ≡ l.initial.found.items ++ from 0 l.number
