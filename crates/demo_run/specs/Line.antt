-- The line of a demo.
use Rattle.std.specs.Prelude.{ℕ, List, ◌++◌, length, codes}
use Rattle.std.specs.Fmt.{decimal}
use Rattle.world_core.specs.World.{World}
use Rattle.demo_run.specs.Chain.{row_count}
use Rattle.demo_run.specs.Stops.{Reached, forward_count, backward_count, thread_sum}

-- words, and a number
abbrev pub said : List ℕ → ℕ → List ℕ
said words number = words ++ decimal number

-- how many instances, slots and cycles there are
abbrev pub world_part : (instances slots : ℕ) → List ℕ
world_part instances slots = said (codes " instances ") instances ++ said (codes " slots ") slots ++ said (codes " cycles ") row_count

-- how many stops were reached while running forwards and while running backwards, and the sum of the threads of the former
abbrev pub stops_part : (forward backward threads : ℕ) → List ℕ
stops_part forward backward threads = said (codes " forward ") forward ++ said (codes " backward ") backward ++ said (codes " threads ") threads

-- the line of so many cells, over their world and the stops that were reached there
abbrev pub demo_line : ℕ → World → List Reached → List ℕ
demo_line number w stops =
    said (codes "demo ") number ++ world_part (length w.paths) (length w.slots) ++ stops_part (forward_count stops) (backward_count stops) (thread_sum stops) ++ codes "\n"
