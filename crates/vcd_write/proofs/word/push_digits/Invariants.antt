use Rattle.std.proofs.Common.{◌≡◌, ◌/◌, ◌^◌, ◌++◌, ◌-◌}
use Rattle.vcd_text.specs.Dump.{binary_digits}
use Rattle.vcd_write.proofs.word.push_digits.Given as goal

-- the digits from the highest down to this place are written
abbrev pub invariant-loop-place : goal.invariant-loop-place
invariant-loop-place l = l.text.items ≡ l.initial.text.items ++ binary_digits (l.count - l.place) (l.value / 2 ^ l.place)
