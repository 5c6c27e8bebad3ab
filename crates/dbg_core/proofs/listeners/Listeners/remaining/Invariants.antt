use Rattle.std.proofs.Common.{◌≡◌, map, option_map, take}
use Rattle.dbg_core.proofs.Told.{left_numbers}
use Rattle.dbg_core.proofs.listeners.Listeners.remaining.Given as goal

abbrev pub invariant-loop-k : goal.invariant-loop-k
invariant-loop-k g l =
    l.numbers.items ≡ left_numbers (take l.k (map (option_map (λ b. (goal.Listener-dyn g (b.vtable, b.value)).heard b.value)) l.self.boxes.items))
