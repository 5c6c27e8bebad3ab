use Rattle.std.proofs.Common.{ℕ, ◌-◌, ◌<◌, ◌≤◌, List, length, get_or}
use Rattle.vcd_trace.proofs.waves.front_before.Given as goal

-- the places in front of low are below the bound, and those from high on are not
pub record AreHalved (places : List ℕ) (bound low high : ℕ) : Type 0 where
  pub order : low ≤ high
  pub within : high ≤ length places
  pub below : (k : ℕ) → k < low → get_or places k 0 < bound
  pub others : (k : ℕ) → high ≤ k → k < length places → bound ≤ get_or places k 0

abbrev pub invariant-loop-low : goal.invariant-loop-low
invariant-loop-low l = AreHalved l.places l.bound l.low l.high

abbrev pub decreases-loop-low : goal.decreases-loop-low
decreases-loop-low l = l.high - l.low
