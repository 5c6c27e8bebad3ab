-- From signals as vertices to signals as places.
use Rattle.std.specs.Prelude.{◌≡◌, ℕ, ◌<◌, Bool, true, List, map, filter, Some, is_some}
use Rattle.tree_core.specs.Tree.{Tree}
use Rattle.exec_core.specs.Whole.{Place, Drivers, IsOrder, OverSignals}
use Rattle.graph_order.specs.Graphs.{Graph}
use Rattle.dep_order.specs.Signals.{IsSignalOrder, IsSignalCycle}
use Rattle.dep_order.specs.Wiring.{AreNumbers, IsWired}
use Rattle.place_core.specs.Numbering.{PlaceNumbers}
use Rattle.dep_order.specs.Results.{IsLoop}

-- a graph whose signals are those of a design, each wired to its driver; `at` tells the place of a vertex
pub record IsJoined (signals : ℕ) (g : Graph) (number : PlaceNumbers) (at : ℕ → Place) (signal : Place → Bool) (d : Drivers) : Type 0 where
  pub numbers : AreNumbers signals number
  pub driven : List Bool
  pub met : Place → Bool
  pub wired : IsWired signals number g driven met d
  pub places : (n : ℕ) → n < signals → number (at n) ≡ Some n
  pub numbered : (p : Place) → signal p ≡ true → (n : ℕ) × (number p ≡ Some n)
  pub over : (p : Place) (t : Tree Place) → d p ≡ Some t → OverSignals signal t

-- those that have a driver
abbrev pub with_drivers : (ℕ → Place) → Drivers → List ℕ → List ℕ
with_drivers at d vs = filter (λ v. is_some (d (at v))) vs

-- an order of the vertices that are signals is one of the driven signals
abbrev pub OrdersJoin : Type 0
OrdersJoin =
    (signals : ℕ) (g : Graph) (number : PlaceNumbers) (at : ℕ → Place) (signal : Place → Bool) (d : Drivers) (order : List ℕ) →
    IsJoined signals g number at signal d → IsSignalOrder signals g order → IsOrder signal d (map at (with_drivers at d order))

-- a cycle of the vertices that are signals is a loop of signals
abbrev pub CyclesJoin : Type 0
CyclesJoin =
    (signals : ℕ) (g : Graph) (number : PlaceNumbers) (at : ℕ → Place) (signal : Place → Bool) (d : Drivers) (cycle : List ℕ) →
    IsJoined signals g number at signal d → IsSignalCycle signals g cycle → IsLoop d (map at cycle)
