use Rattle.std.proofs.Common.{ap, ◌∙◌, arith}
use Rattle.names.specs.Maps.{value_of}
use Rattle.vcd_trace.specs.Bound.{Finds}
use Rattle.vcd_trace.proofs.Finding.{within, next, done}
use Rattle.vcd_trace.proofs.signals.names_in.Goals as goal

pub loop-place-init : goal.loop-place-init
loop-place-init c = λ x. ap (λ (f : Finds). f x) c.new-map.ensures

pub put_var-requires : goal.put_var-requires
put_var-requires c =
    within c.args.vcd.now c.args.scope.now c.deref-place-items.result.now (c.deref-place-items.ensures.value ∙ c.in_ok-places.ensures) c.loop-place.place-index (omega arith)

pub loop-place-preserved : goal.loop-place-preserved
loop-place-preserved c =
    next c.args.vcd.now c.args.scope.now c.deref-place-items.result.now (c.deref-place-items.ensures.value ∙ c.in_ok-places.ensures) (value_of c.loop-place.map) (value_of c.put_var.new.map)
    c.loop-place.place-index (omega arith) c.in_ok-put_var.ensures c.loop-place.invariant

pub returns : goal.returns
returns c =
    done c.args.vcd.now c.args.scope.now c.deref-place-items.result.now (c.deref-place-items.ensures.value ∙ c.in_ok-places.ensures) (value_of c.loop-place.map) c.loop-place.place-index (omega arith)
    c.loop-place.invariant
