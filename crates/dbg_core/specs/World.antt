-- The world of a session: what its table and its trace tell, as it is seen.
use Rattle.std.specs.Prelude.{ℕ, codes, slice_index_or}
use Rattle.exec_core.specs.Block.{Name}
use Rattle.symtab.specs.declared.parts.TableParts.{TableParts}
use Rattle.symtab.specs.Shape.{paths_of}
use Rattle.trace_core.specs.Samples.{Samples}
use Rattle.world_core.specs.World.{World}
use Rattle.world_core.specs.Seen.{seen}
use Rattle.trace_world.specs.TraceWorld.{trace_world}

abbrev pub world_of : TableParts → Samples → World
world_of parts s = seen (trace_world parts s)

-- the path of an instance, whatever the trace
abbrev pub path_at : TableParts → ℕ → Name
path_at parts i = slice_index_or (paths_of parts.instances) i (codes "")
