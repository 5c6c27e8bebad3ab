use Rattle.std.proofs.Common.{rules, ◌≡◌, ◌≤◌, true, List, length, length-append, refl, sym, ap, subst, arith, ◌∙◌}
use Rattle.slot_sched.specs.declared.armed.Armed.{Armed}
use Rattle.slot_sched.specs.Spans.{are_spanned}
use Rattle.std.proofs.lemmas.List.Elements.{All-push, All-same}
use Rattle.slot_sched.specs.Armed.{IsArmed}
use Rattle.slot_sched.proofs.Order.{order_more}
use Rattle.slot_sched.proofs.Spanning.{spanned_kept, trap_below, within_push}
use Rattle.slot_sched.proofs.schedule.Schedule.commit.Goals as goal

pub invariant_of-self : goal.invariant_of-self
invariant_of-self c = record { few = c.args.self.now.few; spanned = spanned_kept _ _ c.grown.ensures.keeps 0 c.args.self.now.armed.items c.args.self.now.spanned; gaps = c.grown.ensures.gaps c.args.self.now.gaps }

pub invariant_of-self-in-Break-branch-3 : goal.invariant_of-self-in-Break-branch-3
invariant_of-self-in-Break-branch-3 c =
    let same : c.push.new.self.items ≡ c.args.self.now.armed.items = search rules in
    record {
      few = subst (λ (l : List Armed). length l ≤ 1024) (sym same) c.args.self.now.few;
      spanned = subst (λ (l : List Armed). are_spanned c.grown.new.spans.items 0 l ≡ true) (sym same) (spanned_kept _ _ c.grown.ensures.keeps 0 c.args.self.now.armed.items c.args.self.now.spanned);
      gaps = c.grown.ensures.gaps c.args.self.now.gaps;
    }

pub invariant_of-self-2 : goal.invariant_of-self-2
invariant_of-self-2 c =
    let more = ap length c.in_ok-push.ensures.items ∙ length-append c.args.self.now.armed.items _ in
    let room = c.in_ok-limit.ensures.few in
    record {
      few = omega (arith, more, room);
      spanned = subst (λ (l : List Armed). are_spanned c.widen_last.new.spans.items 0 l ≡ true) c.deref.ensures.value
          (c.widen_last.ensures.spanned c.args.self.now.armed.items _ (c.deref.ensures.value ∙ c.in_ok-push.ensures.items)
          (spanned_kept _ _ c.grown.ensures.keeps 0 c.args.self.now.armed.items c.args.self.now.spanned));
      gaps = c.widen_last.ensures.gaps (c.grown.ensures.gaps c.args.self.now.gaps);
    }

pub widen_last-requires-clause-within : goal.widen_last-requires-clause-within
widen_last-requires-clause-within c =
    let slots = c.slots.ensures in
    let long = c.in_ok-grown.ensures.long in
    within_push c.grown.new.spans.items c.args.self.now.armed.items c.deref.result.now _ (c.deref.ensures.value ∙ c.in_ok-push.ensures.items)
    (spanned_kept _ _ c.grown.ensures.keeps 0 c.args.self.now.armed.items c.args.self.now.spanned)
    (trap_below c.args.table.now c.args.unarmed.text (length c.grown.new.spans.items) c.args.unarmed.traps.items (omega (arith, slots, long)) c.requires.armable.each)

pub returns-clause-own : goal.returns-clause-own
returns-clause-own c = λ parts armable own.
    All-same (IsArmed parts) _ _ c.in_ok-push.ensures.items (All-push (IsArmed parts) c.args.self.now.armed.items _ own (record { places = armable.places; each = armable.each }))

pub returns-clause-order : goal.returns-clause-order
returns-clause-order c = order_more c.args.self.now.armed.items c.push.new.self.items _ c.args.self.now.given c.in_ok-push.ensures.items refl
