use Rattle.std.proofs.Common.{◌≡◌, ◌+◌, ◌++◌, drop}
use Rattle.vcd_write.specs.Written.{output_lines}
use Rattle.vcd_write.proofs.head.push_outputs.Given as goal

-- the declarations so far, and those that are left, are all of them
abbrev pub invariant-loop-place : goal.invariant-loop-place
invariant-loop-place l =
    l.text.items ++ output_lines l.net.nodes (l.before + l.place + 1) (drop l.place l.outputs) ≡ l.initial.text.items ++ output_lines l.net.nodes (l.before + 1) l.outputs
