-- That the driven signals of an accepted design have an order, or a loop.
use Rattle.std.specs.Prelude.{◌⊎◌, List}
use Rattle.design_core.specs.Design.{Design}
use Rattle.check_exec.specs.Premises.{IsSound}
use Rattle.dep_order.specs.Results.{TellsLoop}
use Rattle.place_core.specs.Orders.{Pair, TellsOrder}

pub record HasOrder (d : Design) : Type 0 where
  pub order : List Pair
  pub tells : TellsOrder d order

pub record HasLoop (d : Design) : Type 0 where
  pub loop : List Pair
  pub tells : TellsLoop d loop

abbrev pub OrderOrLoop : Type 0
OrderOrLoop = (d : Design) → IsSound d → HasOrder d ⊎ HasLoop d
