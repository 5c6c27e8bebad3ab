use Rattle.std.proofs.Common.{◌≡◌, ◌++◌, drop, map}
use Rattle.net_trim.specs.Made.{cell_made}
use Rattle.net_trim.proofs.found.bindings.Given as goal

-- the cells so far, and those that are left, are all of them
abbrev pub invariant-loop-cell : goal.invariant-loop-cell
invariant-loop-cell l = l.made ++ map (cell_made l.net.nodes l.ids) (drop l.cell-index l.cells) ≡ map (cell_made l.net.nodes l.ids) l.cells
