use Rattle.std.proofs.Common.{◌≡◌, map, take}
use Rattle.trace_world.specs.TraceWorld.{gen_of}
use Rattle.dbg_core.proofs.position.gens_of.Given as goal

abbrev pub invariant-loop-variable : goal.invariant-loop-variable
invariant-loop-variable l = l.gens.items ≡ map gen_of (take l.variable-index l.variables)
