use Rattle.std.proofs.Common.{◌<◌, ◌≤◌, map, option_map, length, sym, ◌∙◌, subst, ap}
use Rattle.dbg_core.proofs.Told.{remaining_is, remains_more, remains_same}
use Rattle.dbg_core.proofs.listeners.Listeners.remaining.Goals.{then-has+in_ok-push, else-has}
use Rattle.dbg_core.proofs.listeners.Listeners.remaining.Goals as goal

pub loop-k-preserved : goal.loop-k-preserved
loop-k-preserved g c =
    let heard = map (option_map (λ b. (goal.Listener-dyn g (b.vtable, b.value)).heard b.value)) c.args.self.now.boxes.items in
    let below : c.loop-k.k < length heard = subst (λ n. c.loop-k.k < n) c.count-k-end.ensures c.loop-k-test.true in
    elim c.if-has.branch [
      | then-has+in_ok-push w ↦ ap (λ v. v.items) w.numbers-is ∙ w.in_ok-push.ensures.items ∙ remains_more heard c.loop-k.k below c.loop-k.numbers.items (sym c.has.ensures ∙ w.if-has.true) c.loop-k.invariant
      | else-has w ↦ ap (λ v. v.items) w.numbers-is ∙ remains_same heard c.loop-k.k below c.loop-k.numbers.items (sym c.has.ensures ∙ w.if-has.false) c.loop-k.invariant
    ]

pub returns : goal.returns
returns g c =
    let heard = map (option_map (λ b. (goal.Listener-dyn g (b.vtable, b.value)).heard b.value)) c.args.self.now.boxes.items in
    let past : length heard ≤ c.loop-k.k = subst (λ n. n ≤ c.loop-k.k) c.count-k-end.ensures c.loop-k-test.false in
    remaining_is heard c.loop-k.k c.loop-k.numbers.items past c.loop-k.invariant
