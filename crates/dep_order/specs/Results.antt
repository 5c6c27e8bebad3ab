-- What depends on what in a design, and what is told of it.
use Rattle.std.specs.Prelude.{◌≡◌, List, [], ◌∷◌, map, Some}
use Rattle.tree_core.specs.Tree.{Tree}
use Rattle.list_core.specs.Lists.{EachOf, AreApart}
use Rattle.exec_core.specs.Whole.{Place, Drivers}
use Rattle.exec_core.specs.Design.{driver_of}
use Rattle.design_core.specs.Design as design
use Rattle.design_exec.specs.Processes.{processes_of}
use Rattle.dep_order.specs.Standing.{SomeLeaf}
use Rattle.place_core.specs.Orders.{Pair, signal_at, StandsFirst, TellsOrder}

-- a signal depends on the leaves of the tree that drives it
pub record DependsOn (d : Drivers) (p q : Place) : Type 0 where
  pub driver : Tree Place
  pub drives : d p ≡ Some driver
  pub reads : SomeLeaf (λ r. r ≡ q) driver

-- each depends on the next, from p along the list to q
abbrev pub Depend : Drivers → Place → List Place → Place → Type 0
Depend d p [] q = DependsOn d p q
Depend d p (r ∷ rs) q = DependsOn d p r × Depend d r rs q

-- different signals, each depending on the next and the last on the first
abbrev pub IsLoop : Drivers → List Place → Type 0
IsLoop d [] = ⊥
IsLoop d (p ∷ ps) = Depend d p ps p × AreApart (p ∷ ps)

abbrev pub IsFirst : List Pair → Type 0
IsFirst [] = ⊥
IsFirst (p ∷ ps) = EachOf (StandsFirst p) ps

-- a loop, which begins with the signal that stands first in the design
pub record TellsLoop (d : design.Design) (pairs : List Pair) : Type 0 where
  pub loop : List Place
  pub signals : map (signal_at d) pairs ≡ map (λ p. Some p) loop
  pub depend : IsLoop (driver_of (processes_of d)) loop
  pub first : IsFirst pairs

-- a design with an order has no loop
abbrev pub OrdersHaveNoLoop : Type 0
OrdersHaveNoLoop = (d : design.Design) (pairs loop : List Pair) → TellsOrder d pairs → TellsLoop d loop → ⊥
