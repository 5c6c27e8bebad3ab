use Rattle.std.proofs.Common.{◌≡◌, ◌/◌, ◌^◌, ◌*◌, ◌++◌, ◌-◌}
use Rattle.bv_core.specs.Text.{hex_digits}
use Rattle.bv_core.proofs.text.push_hex.Given as goal

-- the digits down to this place, in fours, are written
abbrev pub invariant-loop-place : goal.invariant-loop-place
invariant-loop-place l = l.text.items ≡ l.fn.text.items ++ hex_digits (l.count - 4 * l.place) (l.value / 2 ^ (16 * l.place))
