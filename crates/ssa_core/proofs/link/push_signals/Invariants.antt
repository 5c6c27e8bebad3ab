use Rattle.std.proofs.Common.{◌≡◌, ◌++◌, map, take}
use Rattle.std.specs.List.{flat_map}
use Rattle.design_core.specs.declared.variant.Signal.{Signal}
use Rattle.place_core.specs.Linking.{link_of_output}
use Rattle.ssa_core.specs.Links.{link_as}
use Rattle.ssa_core.proofs.link.push_signals.Given as goal

abbrev pub invariant-loop-signal : goal.invariant-loop-signal
invariant-loop-signal l = map link_as l.links.items ≡ map link_as l.initial.links.items ++ flat_map (λ (s : Signal). link_of_output l.parent l.below s.name s.kind) (take l.signal-index l.signals)
