use Rattle.std.proofs.Common.{subst, true, ◌≡◌, ◌-◌, List, length}
use Rattle.site_core.specs.declared.trap.Trap.{Trap}
use Rattle.slot_sched.specs.Spans.{are_covered}
use Rattle.slot_sched.proofs.Spanning.{spanned_last}
use Rattle.slot_sched.proofs.spans.widen_last.Goals as goal

pub returns-in-Some-clause-spanned : goal.returns-in-Some-clause-spanned
returns-in-Some-clause-spanned c = λ front last is e.
    spanned_last c.args.spans.now.items c.widen.new.spans.items c.widen.ensures.keeps front last c.in-Some.last.now c.args.armed.now is c.in-Some.ensures.value
    (subst (λ (traps : List Trap). are_covered c.widen.new.spans.items (length c.args.armed.now - 1) traps ≡ true) c.deref.ensures.value c.widen.ensures.has) e
