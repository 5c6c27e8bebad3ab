use Rattle.std.proofs.Common.{◌≡◌, ◌+◌, ◌++◌, drop}
use Rattle.vcd_text.specs.Dump.{values_text}
use Rattle.vcd_text.specs.Waves.{differing_from}
use Rattle.vcd_write.proofs.value.push_differing.Given as goal

-- the values so far, and those that are left, are all of them
abbrev pub invariant-loop-place : goal.invariant-loop-place
invariant-loop-place l =
    l.text.items ++ values_text (differing_from (l.place + 1) (drop l.place l.olds) (drop l.place l.values)) ≡ l.initial.text.items ++ values_text (differing_from 1 l.olds l.values)
