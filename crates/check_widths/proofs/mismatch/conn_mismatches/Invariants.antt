use Rattle.std.proofs.Common.{◌≡◌, drop, map}
use Rattle.design_core.specs.View.{conn_of}
use Rattle.check_core.specs.Widths.{conn_mismatch}
use Rattle.check_widths.specs.WidthMaps.{widths_at, widths_in}
use Rattle.check_core.specs.Faults.{first_of}
use Rattle.check_widths.proofs.mismatch.conn_mismatches.Given as goal

-- what is left tells what all tells
abbrev pub invariant-loop-conn : goal.invariant-loop-conn
invariant-loop-conn l = first_of (conn_mismatch (widths_in l.lets l.signals) (widths_at l.ports)) (map conn_of (drop l.conn-index l.conns)) ≡ first_of (conn_mismatch (widths_in l.lets l.signals) (widths_at l.ports)) (map conn_of l.conns)
