-- Signals among vertices.
use Rattle.std.specs.Prelude.{ℕ, ◌<◌, ◌≤◌, List, [], ◌∷◌, nat_lt, filter}
use Rattle.list_core.specs.Lists.{EachOf, IsIn, AreApart}
use Rattle.graph_order.specs.Graphs.{Graph}
use Rattle.graph_order.specs.declared.fault.GraphFault.{GraphFault}
use Rattle.graph_order.specs.declared.fault.GraphFault.TheVariants.{Cycle, NoMemory}
use Rattle.dep_order.specs.Reaching.{SignalsAfter, SignalsLead}

-- the signals of a list
abbrev pub signals_in : ℕ → List ℕ → List ℕ
signals_in signals vs = filter (λ v. nat_lt v signals) vs

-- all signals, each once and after those that are reached from what it has an edge to
pub record IsSignalOrder (signals : ℕ) (g : Graph) (order : List ℕ) : Type 0 where
  pub signals_alone : EachOf (λ v. v < signals) order
  pub in_order : SignalsAfter signals g [] order
  pub all : (v : ℕ) → v < signals → IsIn v order

-- different signals, each reached from what the one before it has an edge to, and the first from the last; the first is the least
abbrev pub IsSignalCycle : ℕ → Graph → List ℕ → Type 0
IsSignalCycle signals g [] = ⊥
IsSignalCycle signals g (v ∷ vs) = SignalsLead signals g v vs v × AreApart (v ∷ vs) × EachOf (λ w. v ≤ w) vs × EachOf (λ w. w < signals) (v ∷ vs)

abbrev pub TellsSignalCycle : ℕ → Graph → GraphFault → Type 0
TellsSignalCycle signals g (Cycle cycle) = IsSignalCycle signals g cycle.items
TellsSignalCycle signals g NoMemory = Unit {0}
