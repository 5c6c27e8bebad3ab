use Rattle.std.proofs.Common.{arith, ap, ◌∙◌, subst, ◌-◌, ◌<◌, length}
use Rattle.dap_link.specs.Frames.{IsUnfinished}
use Rattle.dap_link.proofs.Apart.{no_head_yet, body_to_come}
use Rattle.dap_link.proofs.framer.Framer.next.Goals as goal

pub wait-requires-clause-unfinished : goal.wait-requires-clause-unfinished
wait-requires-clause-unfinished c = subst IsUnfinished (c.deref.ensures.value ∙ ap (λ x. x.held) c.self.view_is) (no_head_yet c.deref.result.now c.in-Unfinished.ensures)

pub wait-requires-else-len-at-clause-unfinished : goal.wait-requires-else-len-at-clause-unfinished
wait-requires-else-len-at-clause-unfinished c =
    let long : length c.deref.result.now - c.in-Body.at < c.in-Body.len = grind (arith, c.if-len-at.false, c.len.ensures, c.deref.ensures.value) in
    subst IsUnfinished (c.deref.ensures.value ∙ ap (λ x. x.held) c.self.view_is) (body_to_come c.deref.result.now c.in-Body.at c.in-Body.len c.in-Body.ensures long)
