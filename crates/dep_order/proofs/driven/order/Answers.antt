use Rattle.std.proofs.Common.{subst, sym}
use Rattle.ssa_core.specs.Processes.{lists_of}
use Rattle.dep_order.specs.Linking.{TellDesign}
use Rattle.dep_order.proofs.Telling.{tell_design}
use Rattle.design_core.specs.DesignView.{design_of}
use Rattle.dep_order.proofs.Sound.{accepted_drivers}
use Rattle.dep_order.proofs.driven.order.Goals as goal

pub order_counted-requires-clause-trees : goal.order_counted-requires-clause-trees
order_counted-requires-clause-trees c = accepted_drivers (design_of c.args.design.now) (record { kept = c.args.design.now.kept; accepted = c.requires.accepted })

pub order_counted-requires-clause-tell : goal.order_counted-requires-clause-tell
order_counted-requires-clause-tell c =
    subst (λ vs. TellDesign (design_of c.args.design.now) (lists_of vs)) (sym c.deref-3.ensures.value) (tell_design (design_of c.args.design.now) (lists_of c.in_ok-terms.terms.items) c.in_ok-terms.ensures)
