use Rattle.std.proofs.Common.{◌≡◌, map, take}
use Rattle.dbg_core.specs.World.{path_at}
use Rattle.dbg_core.proofs.position.paths_of.Given as goal

abbrev pub invariant-loop-instance : goal.invariant-loop-instance
invariant-loop-instance l = l.paths.items ≡ map (path_at l.table) (take l.instance-index l.instances)
