use Rattle.std.proofs.Common.{◌∙◌, sym}
use Rattle.check_paths.proofs.Framing.{frame_first, frame_next, frame_end}
use Rattle.check_paths.proofs.frames.seen_bits.Goals as goal

pub loop-frame-init : goal.loop-frame-init
loop-frame-init c = frame_first c.args.outer.now c.args.name.now _ c.none-set.ensures

pub loop-frame-preserved : goal.loop-frame-preserved
loop-frame-preserved c = frame_next _ _ _ _ _ _ _ c.loop-frame-test.true c.frame-item.is c.bits.ensures c.joined-set.ensures ∙ c.loop-frame.invariant

pub returns : goal.returns
returns c = sym (frame_end _ _ _ _ c.loop-frame-test.false) ∙ c.loop-frame.invariant
