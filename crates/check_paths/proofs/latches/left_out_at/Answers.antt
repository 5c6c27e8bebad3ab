use Rattle.std.proofs.Common.{◌∙◌, sym, ap, Some}
use Rattle.names.specs.Maps.{value_of}
use Rattle.design_core.specs.View.{stmt_of}
use Rattle.design_core.specs.Heads.{name_at}
use Rattle.check_core.specs.declared.fault.CheckFault.TheVariants.{Latch}
use Rattle.name_widths.specs.DeclaredWidths.{width_at}
use Rattle.check_paths.specs.Frames.{all_bits}
use Rattle.check_paths.proofs.LeftOut.{target_full, target_left}
use Rattle.check_paths.proofs.latches.left_out_at.Goals as goal

pub returns-then-is_full : goal.returns-then-is_full
returns-then-is_full c =
    target_full (width_at (value_of c.args.widths.now)) (all_bits c.args.assigned.now) c.args.line (stmt_of c.args.stmt.now) _ _ _
    (sym c.target.ensures ∙ ap name_at c.in-Some.is) c.bits.ensures c.bits_of.ensures.bits (sym c.is_full.ensures ∙ c.if-is_full.true)

pub returns : goal.returns
returns c = λ known.
    target_left (width_at (value_of c.args.widths.now)) (all_bits c.args.assigned.now) c.args.line (stmt_of c.args.stmt.now) _ _ _
    (sym c.target.ensures ∙ ap name_at c.in-Some.is) c.bits.ensures c.bits_of.ensures.bits (sym c.is_full.ensures ∙ c.if-is_full.false)
    ∙ ap (λ s. Some (Latch s)) (sym c.in_ok-spot.ensures)
