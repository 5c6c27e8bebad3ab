-- From signals as numbers to signals as pairs of an instance and a place.
use Rattle.std.specs.Prelude.{◌≡◌, ℕ, ◌≤◌, Bool, true, false, List, [], map, filter, length, Option, is_some, slice_index_or, Some}
use Rattle.tree_core.specs.Tree.{Tree}
use Rattle.exec_core.specs.Whole.{Place, OverSignals}
use Rattle.exec_core.specs.Design.{driver_of}
use Rattle.design_core.specs.Design as design
use Rattle.design_exec.specs.Processes.{processes_of, is_signal_of}
use Rattle.graph_order.specs.Graphs.{Graph}
use Rattle.check_exec.specs.Premises.{IsSound}
use Rattle.dep_order.specs.declared.answer.OrderFault.{OrderFault}
use Rattle.dep_order.specs.declared.answer.OrderFault.TheVariants.{CombLoop, NoMemory}
use Rattle.place_core.specs.Numbering.{Numbers, AllCounted, number_in, AreCounted}
use Rattle.dep_order.specs.Signals.{IsSignalOrder, IsSignalCycle}
use Rattle.dep_order.specs.Wiring.{AreNumbers, driver_in, is_met, IsWired}
use Rattle.dep_order.specs.Results.{TellsLoop}
use Rattle.place_core.specs.Orders.{Pair, TellsOrder}

-- whether a link goes to a place, or a process assigns it
abbrev pub is_met_in : design.Design → Place → Bool
is_met_in d = is_met (processes_of d).links (processes_of d).processes

-- what drives a signal, by the links of a design and the shown trees of its processes
abbrev pub shown_driver : design.Design → Place → Option (Tree Place)
shown_driver d = driver_in (processes_of d).links (processes_of d).processes

-- what is shown are the drivers; a signal to which a link goes or that a process assigns has a tree, and each tree is one of signals
pub record DriversAreTrees (d : design.Design) : Type 0 where
  pub shown : shown_driver d ≡ driver_of (processes_of d)
  pub trees : (p : Place) → is_signal_of d p ≡ true → is_met_in d p ≡ true → is_some (driver_of (processes_of d) p) ≡ true
  pub over : (p : Place) (t : Tree Place) → driver_of (processes_of d) p ≡ Some t → OverSignals (is_signal_of d) t

-- the pairs of numbers
abbrev pub pair_of : List Pair → ℕ → Pair
pair_of pairs v = slice_index_or pairs v (0, 0)

abbrev pub pairs_of : List Pair → List ℕ → List Pair
pairs_of pairs vs = map (pair_of pairs) vs

-- those that are marked
abbrev pub marked_in : List Bool → List ℕ → List ℕ
marked_in marks vs = filter (λ v. slice_index_or marks v false) vs

-- a graph in which each signal of a design has edges to what drives it
abbrev pub IsWiredDesign : design.Design → AllCounted → Graph → List Bool → Type 0
IsWiredDesign d all g driven = IsWired (length all.1) (number_in all.0) g driven (is_met_in d) (shown_driver d)

-- what a call does that drives all signals, which nothing drives yet, by the links and processes of a design
abbrev pub DrivesDesign : Graph → List Bool → Graph → List Bool → List Numbers → design.Design → Type 0
DrivesDesign g driven h marked all d =
    (signals : ℕ) → signals ≤ length g → AreNumbers signals (number_in all) →
    IsWired signals (number_in all) g driven (is_met [] []) (driver_in [] []) →
    IsWired signals (number_in all) h marked (is_met_in d) (shown_driver d)

-- the marked ones in an order of all signals' numbers are an order of the driven signals; and a cycle is a loop
abbrev pub OrdersAnswer : Type 0
OrdersAnswer =
    (d : design.Design) (all : AllCounted) (g : Graph) (driven : List Bool) (order : List ℕ) → AreCounted d all → IsWiredDesign d all g driven → DriversAreTrees d →
    IsSignalOrder (length all.1) g order → TellsOrder d (pairs_of all.1 (marked_in driven order))

abbrev pub CyclesAnswer : Type 0
CyclesAnswer =
    (d : design.Design) (all : AllCounted) (g : Graph) (driven : List Bool) (cycle : List ℕ) → AreCounted d all → IsWiredDesign d all g driven → DriversAreTrees d →
    IsSignalCycle (length all.1) g cycle → TellsLoop d (pairs_of all.1 cycle)

-- what an answer tells where there is no order
abbrev pub TellsFault : design.Design → OrderFault → Type 0
TellsFault d (CombLoop cycle) = TellsLoop d cycle.items
TellsFault d NoMemory = Unit {0}

-- in a design that the checks accept
abbrev pub AcceptedAreTrees : Type 0
AcceptedAreTrees = (d : design.Design) → IsSound d → DriversAreTrees d
