use Rattle.std.proofs.Common.{◌∙◌, sym, ap, refl}
use Rattle.name_widths.specs.DeclaredWidths.{Declared, all_declared}
use Rattle.name_widths.proofs.Declaring.{declared_next, declared_end, declared_of}
use Rattle.name_widths.proofs.declared.declared_in.Goals as goal

pub loop-signal-init : goal.loop-signal-init
loop-signal-init c = ap (λ (d : Declared). all_declared d c.args.signals.now) c.new-widths.ensures

pub loop-signal-preserved : goal.loop-signal-preserved
loop-signal-preserved c = declared_next _ _ _ _ _ c.loop-signal-test.true c.signal-item.is c.in_ok-note_width.ensures ∙ c.loop-signal.invariant

pub returns : goal.returns
returns c = declared_of _ _ _ refl (sym (declared_end _ _ _ c.loop-signal-test.false) ∙ c.loop-signal.invariant)
