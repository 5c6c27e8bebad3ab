use Rattle.std.proofs.Common.{take}
use Rattle.design_core.specs.DesignView.{design_of}
use Rattle.names.specs.Known.{has}
use Rattle.place_core.specs.Assigned.{names_at}
use Rattle.place_core.specs.Numbering.{numbers_of}
use Rattle.ssa_core.specs.Drives.{Covers}
use Rattle.ssa_core.proofs.drive.put_names.Given as goal

abbrev pub invariant-loop-name : goal.invariant-loop-name
invariant-loop-name l = Covers (design_of l.design) l.links l.keys (numbers_of l.maps) l.instance (has (names_at (take l.name-index l.names))) l.initial.list l.list
