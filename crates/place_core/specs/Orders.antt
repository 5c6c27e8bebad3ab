-- Signals of a design as pairs of numbers, and orders of the driven ones.
use Rattle.std.specs.Prelude.{◌≡◌, ◌≢◌, ℕ, ◌<◌, ◌⊎◌, List, map, Option, Some, None, option_map, slice_get}
use Rattle.list_core.specs.Lists.{EachOf, AreApart}
use Rattle.exec_core.specs.Whole.{Place, IsOrder}
use Rattle.exec_core.specs.Design.{place, driver_of}
use Rattle.design_core.specs.declared.variant.Signal.{Signal}
use Rattle.design_core.specs.Design as design
use Rattle.design_exec.specs.Processes.{processes_of, instance_signals, is_signal_of}

-- an instance with the place of a signal among its signals
abbrev pub Pair : Type 0
Pair = ℕ × ℕ

abbrev pub signal_at : design.Design → Pair → Option Place
signal_at d pair = option_map (λ (s : Signal). place pair.0 s.name) (slice_get (instance_signals d pair.0) pair.1)

-- p stands before q in the design, or is q
abbrev pub StandsFirst : Pair → Pair → Type 0
StandsFirst p q = (p.0 < q.0) ⊎ ((p.0 ≡ q.0) × ((p.1 < q.1) ⊎ (p.1 ≡ q.1)))

-- the driven signals, each once and after those that it depends on
pub record TellsOrder (d : design.Design) (pairs : List Pair) : Type 0 where
  pub order : List Place
  pub signals : map (signal_at d) pairs ≡ map (λ p. Some p) order
  pub driven : EachOf (λ p. driver_of (processes_of d) p ≢ None) order
  pub once : AreApart order
  pub in_order : IsOrder (is_signal_of d) (driver_of (processes_of d)) order
