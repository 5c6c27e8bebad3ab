use Rattle.std.proofs.Common.{◌≡◌, ◌++◌, map, take, drop, option_map}
use Rattle.listen.specs.Pairs.{after}
use Rattle.hub_core.proofs.tell.tell_each.Given as goal

abbrev pub invariant-loop-to : goal.invariant-loop-to
invariant-loop-to g l =
    map (option_map (λ b. (goal.Listener-dyn g (b.vtable, b.value)).heard b.value)) l.all
    ≡ map (option_map (after l.note)) (take l.to-index (map (option_map (λ b. (goal.Listener-dyn g (b.vtable, b.value)).heard b.value)) l.initial.all))
    ++ drop l.to-index (map (option_map (λ b. (goal.Listener-dyn g (b.vtable, b.value)).heard b.value)) l.initial.all)
