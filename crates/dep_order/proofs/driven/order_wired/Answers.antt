use Rattle.std.proofs.Common.{◌≡◌, ◌∙◌, sym, subst, ap, rules}
use Rattle.design_core.specs.DesignView.{design_of}
use Rattle.place_core.specs.Numbering.{numbers_of}
use Rattle.dep_order.specs.Ordering.{marked_in, pairs_of}
use Rattle.dep_order.specs.Results.{TellsLoop}
use Rattle.place_core.specs.Orders.{TellsOrder}
use Rattle.dep_order.specs.Signals.{IsSignalOrder, IsSignalCycle, TellsSignalCycle}
use Rattle.graph_order.specs.declared.fault.GraphFault.TheVariants.{Cycle}
use Rattle.dep_order.proofs.Answered.{cycles_answer, orders_answer}
use Rattle.dep_order.proofs.driven.order_wired.Goals as goal

pub returns-in_ok-pairs-in-Ok-clause-order : goal.returns-in_ok-pairs-in-Ok-clause-order
returns-in_ok-pairs-in-Ok-clause-order c =
    let d = design_of c.args.design.now in
    let pairs = c.args.pairs.now in
    let order = c.in-Ok.all.items in
    let told : TellsOrder d (pairs_of pairs (marked_in c.args.driven.now order)) =
    orders_answer d (numbers_of c.args.maps.now, pairs) c.args.graph.now c.args.driven.now order c.requires.counted c.requires.wired c.requires.trees (subst (λ n. IsSignalOrder n c.args.graph.now order) c.in_ok-signals.ensures c.in-Ok.ensures.order) in
    subst (TellsOrder d)
    (sym (c.new.ensures ∙ c.in_ok-pairs-in-Ok.ensures ∙ ap (pairs_of pairs) (c.deref-in-Ok.ensures.value ∙ c.in_ok-marked-in-Ok.ensures ∙ ap (marked_in c.args.driven.now) c.deref.ensures.value))) told

pub returns-in_ok-cycle-in-Err-Cycle-clause-cycle : goal.returns-in_ok-cycle-in-Err-Cycle-clause-cycle
returns-in_ok-cycle-in-Err-Cycle-clause-cycle c =
    let d = design_of c.args.design.now in
    let pairs = c.args.pairs.now in
    let cycle = c.in-Err-Cycle.cycle.items in
    let is : c.in-Err-Cycle.field-0 ≡ Cycle c.in-Err-Cycle.cycle = search rules in
    let told : TellsLoop d (pairs_of pairs cycle) =
    cycles_answer d (numbers_of c.args.maps.now, pairs) c.args.graph.now c.args.driven.now cycle c.requires.counted c.requires.wired c.requires.trees (subst (λ n. IsSignalCycle n c.args.graph.now cycle) c.in_ok-signals.ensures (subst (TellsSignalCycle c.in_ok-signals.signals c.args.graph.now) is c.in-Err-Cycle.ensures.cycle)) in
    subst (TellsLoop d) (sym (c.in_ok-cycle-in-Err-Cycle.ensures ∙ ap (pairs_of pairs) c.deref-in-Err-Cycle.ensures.value)) told
