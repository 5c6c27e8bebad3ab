use Rattle.std.proofs.Common.{◌≡◌, ◌/◌, ◌^◌, ◌++◌, ◌-◌, ◌*◌}
use Rattle.bv_core.specs.Text.{hex_digits}
use Rattle.bv_core.proofs.text.push_few.Given as goal

-- the digits from the highest down to this place are written
abbrev pub invariant-loop-place : goal.invariant-loop-place
invariant-loop-place l = l.text.items ≡ l.initial.text.items ++ hex_digits (l.count - l.place) (l.value / 2 ^ (4 * l.place))
