use Rattle.std.proofs.Common.{◌≡◌, ◌++◌}
use Rattle.vcd_text.specs.Dump.{code_text}
use Rattle.vcd_write.proofs.word.push_code.Given as goal

-- the digits so far, and those of what is left, are all of them
abbrev pub invariant-loop-rest : goal.invariant-loop-rest
invariant-loop-rest l = l.text.items ++ code_text l.rest ≡ l.initial.text.items ++ code_text l.number

-- what is left gets smaller
abbrev pub decreases-loop-rest : goal.decreases-loop-rest
decreases-loop-rest l = l.rest
