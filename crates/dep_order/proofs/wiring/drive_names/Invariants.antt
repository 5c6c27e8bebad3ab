use Rattle.std.proofs.Common.{take}
use Rattle.names.specs.Known.{has}
use Rattle.names.specs.Maps.{value_of}
use Rattle.place_core.specs.Assigned.{names_at}
use Rattle.dep_order.specs.Blocks.{version_of}
use Rattle.dep_order.specs.Wiring.{DrivesNames, KeepsOthers}
use Rattle.dep_order.proofs.wiring.drive_names.Given as goal

abbrev pub invariant-loop-name : goal.invariant-loop-name
invariant-loop-name l = record {
  others : KeepsOthers l.initial.graph l.graph (value_of l.numbers);
  drives : DrivesNames l.initial.graph l.initial.driven l.graph l.driven (value_of l.numbers) (has (names_at (take l.name-index l.names))) (version_of l.ends);
}
