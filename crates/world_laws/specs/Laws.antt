-- Laws of the statements of a well-formed design.
use Rattle.std.specs.Prelude.{◌≡◌, Some, slice_get}
use Rattle.list_core.specs.Lists.{IsIn}
use Rattle.design_core.specs.Design.{Design}
use Rattle.design_core.specs.WellFormed.{IsDesign}
use Rattle.world_core.specs.Sites.{Site, sites_of, sites_in_order}

-- each statement in order is one of the design, and stands at the number of its slot
pub record IsPlaced (d : Design) (s : Site) : Type 0 where
  pub among : IsIn s (sites_of d)
  pub at : slice_get (sites_in_order d) s.slot ≡ Some s

abbrev pub StatementsArePlaced : Type 0
StatementsArePlaced = (d : Design) → IsDesign d → (s : Site) → IsIn s (sites_in_order d) → IsPlaced d s
