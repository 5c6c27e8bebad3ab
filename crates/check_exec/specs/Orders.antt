-- Orders of the driven signals of accepted designs.
use Rattle.std.specs.Prelude.{◌↔◌, ◌≡◌, true, List, None}
use Rattle.tree_core.specs.Tree.{Origin}
use Rattle.list_core.specs.Lists.{IsIn}
use Rattle.exec_core.specs.Accepted.{Accepted}
use Rattle.exec_core.specs.Whole.{Place}
use Rattle.exec_core.specs.Design.{driver_of}
use Rattle.design_core.specs.Design as design
use Rattle.design_exec.specs.Processes.{processes_of, is_signal_of}
use Rattle.place_core.specs.Orders.{Pair, TellsOrder}
use Rattle.check_exec.specs.Premises.{IsSound}

-- an order that is told of an accepted design meets the premises of the theorem on runs
abbrev pub OrdersAreAccepted : Type 0
OrdersAreAccepted = (d : design.Design) (pairs : List Pair) → IsSound d → (told : TellsOrder d pairs) → Accepted (processes_of d) told.order

-- and the signals that are not driven are those that are given: the inputs of the top, and the registers
abbrev pub OthersAreGiven : Type 0
OthersAreGiven =
    (d : design.Design) (pairs : List Pair) → IsSound d → TellsOrder d pairs → (p : Place) → is_signal_of d p ≡ true →
    (driver_of (processes_of d) p ≡ None) ↔ ((given : Place × Origin) × IsIn given (processes_of d).givens × (given.0 ≡ p))
