-- A table and samples that tell the runs of what a service shows.
use Rattle.std.specs.Prelude.{◌≡◌, List}
use Rattle.bv_core.specs.Value.{Bits}
use Rattle.exec_core.specs.Whole.{Place}
use Rattle.symtab.specs.declared.parts.TableParts.{TableParts}
use Rattle.trace_core.specs.Samples.{Samples}
use Rattle.dbg_core.specs.World.{world_of}
use Rattle.show_net.specs.Over.{Over, world_over, RunsAs}

-- the world of each run is theirs, as it is seen
abbrev pub TellsRuns : Over → TableParts → Samples → Type 0
TellsRuns over parts samples = (run : List (Place → Bits)) → RunsAs over run → world_of parts samples ≡ world_over over run
