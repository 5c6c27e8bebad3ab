use Rattle.std.proofs.Common.{◌≡◌, ◌++◌, map, take}
use Rattle.std.specs.List.{flat_map}
use Rattle.design_core.specs.declared.variant.Signal.{Signal}
use Rattle.next_net.specs.Registers.{register_as, register_by}
use Rattle.next_net.proofs.register.push_signals.Given as goal

abbrev pub invariant-loop-signal : goal.invariant-loop-signal
invariant-loop-signal l = map register_as l.registers.items ≡ map register_as l.initial.registers.items ++ flat_map (λ (s : Signal). register_by l.instance s.name s.kind) (take l.signal-index l.signals)
