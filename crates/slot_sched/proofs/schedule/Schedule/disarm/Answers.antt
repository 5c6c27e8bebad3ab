use Rattle.std.proofs.Common.{rules, ◌≡◌, true, false, ◌+◌, List, ap, sym, ◌∙◌, subst, map, All}
use Rattle.std.proofs.lemmas.Fn.{filter_same}
use Rattle.std.proofs.lemmas.List.Elements.{All-filter}
use Rattle.machine_core.specs.Matching.{Breakpoint}
use Rattle.machine_core.specs.Machine.{has_number}
use Rattle.slot_sched.specs.declared.armed.Armed.{Armed}
use Rattle.slot_sched.specs.Spans.{AllWaitBelow}
use Rattle.slot_sched.specs.Armed.{breakpoint_of, breakpoints, IsArmed}
use Rattle.machine_core.specs.Numbers.{AreRising}
use Rattle.machine_core.proofs.Numbers.{rising_kept}
use Rattle.site_core.proofs.Any.{any_mapped}
use Rattle.slot_sched.proofs.Order.{others, others_mapped, all_others}
use Rattle.slot_sched.proofs.Spanning.{within_filtered}
use Rattle.slot_sched.proofs.schedule.Schedule.disarm.Goals as goal

pub returns-clause-told : goal.returns-clause-told
returns-clause-told c = let is : c.has.result ≡ true = search rules in sym (any_mapped (has_number c.args.bp) breakpoint_of c.args.self.now.armed.items ∙ sym c.has.ensures ∙ is)

pub returns-then-not-has-clause-told : goal.returns-then-not-has-clause-told
returns-then-not-has-clause-told c = let no : c.has.result ≡ false = search rules in sym (any_mapped (has_number c.args.bp) breakpoint_of c.args.self.now.armed.items ∙ sym c.has.ensures ∙ no)

pub returns-then-not-has-clause-breakpoints : goal.returns-then-not-has-clause-breakpoints
returns-then-not-has-clause-breakpoints c =
    let no : c.has.result ≡ false = search rules in
    sym (all_others c.args.bp (breakpoints c.args.self.now) (any_mapped (has_number c.args.bp) breakpoint_of c.args.self.now.armed.items ∙ sym c.has.ensures ∙ no))

pub returns-clause-breakpoints : goal.returns-clause-breakpoints
returns-clause-breakpoints c =
    let left = filter_same _ (others c.args.bp) _ (λ x b f k. search rules) _ _ c.retain.ensures.filtered in
    ap (map breakpoint_of) left ∙ others_mapped c.args.bp c.args.self.now.armed.items

pub returns-clause-own : goal.returns-clause-own
returns-clause-own c = λ parts own.
    let left = filter_same _ (others c.args.bp) _ (λ x b f k. search rules) _ _ c.retain.ensures.filtered in
    subst (λ (l : List Armed). All (IsArmed parts) l) (sym left) (All-filter (others c.args.bp) (IsArmed parts) c.args.self.now.armed.items own)

pub returns-clause-order : goal.returns-clause-order
returns-clause-order c = λ rises.
    let left = filter_same _ (others c.args.bp) _ (λ x b f k. search rules) _ _ c.retain.ensures.filtered in
    subst (λ (bs : List Breakpoint). AreRising 1 (map (λ b. b.number) bs) (c.args.self.now.given + 1))
    (sym (ap (map breakpoint_of) left ∙ others_mapped c.args.bp c.args.self.now.armed.items))
    (rising_kept _ 1 (breakpoints c.args.self.now) (c.args.self.now.given + 1) rises)

pub refill-requires-clause-within : goal.refill-requires-clause-within
refill-requires-clause-within c =
    let left = filter_same _ (others c.args.bp) _ (λ x b f k. search rules) _ _ c.retain.ensures.filtered in
    subst (λ n. AllWaitBelow n c.deref-2.result.now) (sym c.vacate.ensures.long)
    (within_filtered c.args.self.now.spans.items (others c.args.bp) c.args.self.now.armed.items c.deref-2.result.now (c.deref-2.ensures.value ∙ left) c.args.self.now.spanned)
