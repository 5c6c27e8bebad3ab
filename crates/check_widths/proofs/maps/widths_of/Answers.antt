use Rattle.std.proofs.Common.{ap, sym, ◌∙◌}
use Rattle.check_core.specs.Names.{kinds_of}
use Rattle.check_core.specs.Widths.{put_signals}
use Rattle.check_widths.proofs.MapSteps.{widths_none, signals_next, signals_end}
use Rattle.check_widths.proofs.maps.widths_of.Goals as goal

pub loop-signal-init : goal.loop-signal-init
loop-signal-init c = ap (put_signals (kinds_of c.args.kinds) c.args.signals.now) (widths_none _ c.new-widths.ensures)

pub loop-signal-preserved : goal.loop-signal-preserved
loop-signal-preserved c = signals_next _ _ _ _ _ _ c.loop-signal-test.true c.signal-item.is c.in_ok-put_signal.ensures ∙ c.loop-signal.invariant

pub returns : goal.returns
returns c = sym (signals_end _ _ _ _ c.loop-signal-test.false) ∙ c.loop-signal.invariant
