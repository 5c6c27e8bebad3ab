-- What a fault tells of a graph.
use Rattle.graph_order.specs.Graphs.{Graph}
use Rattle.graph_order.specs.Cycles.{IsCycle}
use Rattle.graph_order.specs.declared.fault.GraphFault.{GraphFault}
use Rattle.graph_order.specs.declared.fault.GraphFault.TheVariants.{Cycle, NoMemory}

abbrev pub TellsCycle : Graph → GraphFault → Type 0
TellsCycle g (Cycle cycle) = IsCycle g cycle.items
TellsCycle g NoMemory = Unit {0}
