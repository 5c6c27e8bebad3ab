use Rattle.std.proofs.Common.{◌≡◌, map, option_map, take}
use Rattle.machine_core.specs.Journal.{Noticed, closing_lines}
use Rattle.dbg_core.proofs.listeners.Listeners.closing_lines.Given as goal

abbrev pub invariant-loop-k : goal.invariant-loop-k
invariant-loop-k g l =
    map (λ n. Noticed n) l.lines.items
    ≡ closing_lines (take l.k (map (option_map (λ b. (goal.Listener-dyn g (b.vtable, b.value)).heard b.value)) l.self.boxes.items))
