use Rattle.std.proofs.Common.{◌≡◌, ◌+◌, ◌++◌, drop}
use Rattle.vcd_text.specs.Dump.{values_text}
use Rattle.vcd_text.specs.Waves.{all_from}
use Rattle.vcd_write.proofs.value.push_all.Given as goal

-- the values so far, and those that are left, are all of them
abbrev pub invariant-loop-place : goal.invariant-loop-place
invariant-loop-place l = l.text.items ++ values_text (all_from (l.place + 1) (drop l.place l.values)) ≡ l.initial.text.items ++ values_text (all_from 1 l.values)
