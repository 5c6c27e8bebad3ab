-- Orders of accepted designs.
use Rattle.std.proofs.Common.{◌≡◌, None, subst}
use Rattle.exec_core.specs.Whole.{Place}
use Rattle.exec_core.specs.Design.{driver_of}
use Rattle.exec_core.proofs.Sources.{given_found, given_source}
use Rattle.design_exec.specs.Processes.{processes_of}
use Rattle.check_exec.proofs.Ready.{accepted_is_ready}
use Rattle.check_exec.specs.Orders.{OrdersAreAccepted, OthersAreGiven}

pub orders_are_accepted : OrdersAreAccepted
orders_are_accepted d pairs sound told = accepted_is_ready d sound told.order told.in_order

pub others_are_given : OthersAreGiven
others_are_given d pairs sound told p s = (
  (λ e. given_found (processes_of d) told.order (orders_are_accepted d pairs sound told) p (s, e)),
  (λ g. subst (λ (q : Place). driver_of (processes_of d) q ≡ None) g.2 (given_source (processes_of d) told.order (orders_are_accepted d pairs sound told) g.0 g.1)),
)
