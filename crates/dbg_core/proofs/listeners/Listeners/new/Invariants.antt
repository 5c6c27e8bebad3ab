use Rattle.std.proofs.Common.{◌≡◌, map, option_map, ◌++◌, Some}
use Rattle.dbg_core.proofs.listeners.Listeners.new.Given as goal

abbrev pub invariant-loop-one : goal.invariant-loop-one
invariant-loop-one g l =
    map (option_map (λ b. (goal.Listener-dyn g (b.vtable, b.value)).heard b.value)) l.kept.items
    ++ map (λ h. Some h) (map (λ b. (goal.Listener-dyn g (b.vtable, b.value)).heard b.value) l.one-iterator.rest.items)
    ≡ map (λ h. Some h) (map (λ b. (goal.Listener-dyn g (b.vtable, b.value)).heard b.value) l.fn.boxes.items)
