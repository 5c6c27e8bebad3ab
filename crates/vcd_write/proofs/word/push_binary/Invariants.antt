use Rattle.std.proofs.Common.{◌≡◌, ◌/◌, ◌^◌, ◌*◌, ◌++◌, ◌-◌}
use Rattle.vcd_text.specs.Dump.{binary_digits}
use Rattle.vcd_write.proofs.word.push_binary.Given as goal

-- the digits down to this place, eight by eight, are written
abbrev pub invariant-loop-place : goal.invariant-loop-place
invariant-loop-place l = l.text.items ≡ l.fn.text.items ++ binary_digits (l.count - 8 * l.place) (l.value / 2 ^ (8 * l.place))
