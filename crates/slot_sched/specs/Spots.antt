-- Positions as they are counted: the cycle and the slot of each.
use Rattle.std.specs.Prelude.{◌≡◌, ℕ, ◌/◌, ◌%◌}
use Rattle.slot_sched.specs.declared.spot.Spot.{Spot}

-- its cycle and its slot are those of its position, where a cycle has so many slots
pub record IsSpot (slots : ℕ) (at : Spot) : Type 0 where
  pub cycle : at.cycle ≡ at.position / slots
  pub slot : at.slot ≡ at.position % slots
