use Rattle.std.proofs.Common.{ℕ, ap₂, ◌∙◌}
use Rattle.exec_core.specs.Block.{Name}
use Rattle.names.specs.Maps.{value_of}
use Rattle.place_core.specs.Numbering.{count_signal}
use Rattle.place_core.proofs.Counted.{next_signal}
use Rattle.place_core.proofs.numbering.count_signals.Goals as goal

pub loop-place-preserved : goal.loop-place-preserved
loop-place-preserved c =
    next_signal c.args.instance c.loop-place.place c.args.signals.now c.index-signals-place.result _ _ c.loop-place-test.true c.index-signals-place.is
    (c.in_ok-count_signal.ensures
    ∙ ap₂ (λ (k : ℕ) (x : Name). count_signal c.args.instance k x (value_of c.loop-place.numbers, c.loop-place.pairs.items)) c.in_ok-place.ensures c.bytes.ensures)
    ∙ c.loop-place.invariant
