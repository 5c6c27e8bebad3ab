use Rattle.std.proofs.Common.{◌≡◌, ◌++◌, [], map, take}
use Rattle.std.specs.List.{enumerate_from, flat_map}
use Rattle.design_core.specs.DesignView.{design_of}
use Rattle.next_net.specs.Registers.{register_as, registers_at}
use Rattle.next_net.proofs.register.registers_of.Given as goal

abbrev pub invariant-loop-number : goal.invariant-loop-number
invariant-loop-number l = map register_as l.registers.items ≡ [] ++ flat_map (registers_at (design_of l.design)) (enumerate_from 0 (take l.number l.design.instances))
