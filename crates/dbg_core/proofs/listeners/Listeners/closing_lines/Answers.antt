use Rattle.std.proofs.Common.{◌<◌, map, option_map, length, sym, ◌∙◌, subst, ap}
use Rattle.machine_core.specs.Journal.{Noticed}
use Rattle.dbg_core.proofs.Told.{closes_more, closes_same}
use Rattle.dbg_core.proofs.listeners.Listeners.closing_lines.Goals.{then-has+in_ok-line+in_ok-push, else-has}
use Rattle.dbg_core.proofs.listeners.Listeners.closing_lines.Goals as goal

pub loop-k-preserved : goal.loop-k-preserved
loop-k-preserved g c =
    let heard = map (option_map (λ b. (goal.Listener-dyn g (b.vtable, b.value)).heard b.value)) c.args.self.now.boxes.items in
    let below : c.loop-k.k < length heard = subst (λ n. c.loop-k.k < n) c.count-k-end.ensures c.loop-k-test.true in
    elim c.if-has.branch [
      | then-has+in_ok-line+in_ok-push w ↦
          ap (λ v. map (λ n. Noticed n) v.items) w.lines-is ∙ ap (map (λ n. Noticed n)) w.in_ok-push.ensures.items
          ∙ closes_more heard c.loop-k.k below c.loop-k.lines.items w.in_ok-line.line w.in_ok-line.ensures c.loop-k.invariant
      | else-has w ↦ ap (λ v. map (λ n. Noticed n) v.items) w.lines-is ∙ closes_same heard c.loop-k.k below c.loop-k.lines.items (sym c.has.ensures ∙ w.if-has.false) c.loop-k.invariant
    ]
