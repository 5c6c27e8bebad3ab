use Rattle.std.proofs.Common.{◌≡◌, ℕ, List, take}
use Rattle.std.specs.List.{find}
use Rattle.std.specs.Option.{option_map}
use Rattle.names.specs.Maps.{value_of}
use Rattle.vcd_trace.specs.Kept.{found_of}
use Rattle.vcd_trace.specs.Bound.{is_of_name}
use Rattle.vcd_trace.proofs.Finding.{in_scope}
use Rattle.vcd_trace.proofs.signals.names_in.Given as goal

-- of the scope's variables in front, the first of each name is found
abbrev pub invariant-loop-place : goal.invariant-loop-place
invariant-loop-place l = (x : List ℕ) → value_of l.map x ≡ option_map found_of (find (is_of_name x) (take l.place-index (in_scope l.vcd l.scope)))
