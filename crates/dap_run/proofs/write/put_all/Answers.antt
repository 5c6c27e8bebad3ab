use Rattle.std.proofs.Common.{rules, ◌≡◌, ◌≤◌, ◌++◌, ◌∙◌, List, suc, take, drop, flat_map, map, take_all, sym, ap, subst, arith}
use Rattle.io_edge.specs.Taken.{Appends, AppendsFront}
use Rattle.io_edge.proofs.Growth.{grown_twice, front_after}
use Rattle.io_edge.proofs.Passing.{piece_next, piece_of}
use Rattle.dap_link.specs.Laws.{whole_of}
use Rattle.dap_run.proofs.Writing.{whole_flat}
use Rattle.dap_run.proofs.write.put_all.Goals as goal

pub loop-text-preserved : goal.loop-text-preserved
loop-text-preserved g c =
    let put : Appends (g.S.Sink.taken c.loop-text.out) (g.S.Sink.taken c.put.new.self) c.text-item.result.items =
    subst (λ l. Appends (g.S.Sink.taken c.loop-text.out) (g.S.Sink.taken c.put.new.self) l) c.deref.ensures.value c.in-Ok.ensures.ok in
    let later = c.put.ensures.later in
    let before = c.loop-text.invariant.1 in (
      subst (λ l. Appends (g.S.Sink.taken c.args.out.now) (g.S.Sink.taken c.put.new.self) l)
          (sym (piece_next (λ t. t.items) c.args.texts.now c.loop-text.text-index c.text-item.result (search rules) c.text-item.is))
          (grown_twice _ (g.S.Sink.taken c.loop-text.out) _ _ _ c.loop-text.invariant.0 put),
      omega (arith, later, before),
    )

pub returns-in-Err-clause-front : goal.returns-in-Err-clause-front
returns-in-Err-clause-front g c =
    let front : AppendsFront (g.S.Sink.taken c.loop-text.out) (g.S.Sink.taken c.put.new.self) c.text-item.result.items =
    subst (λ l. AppendsFront (g.S.Sink.taken c.loop-text.out) (g.S.Sink.taken c.put.new.self) l) c.deref.ensures.value c.in-Err.ensures.front in
    front_after _ (g.S.Sink.taken c.loop-text.out) _ (flat_map (λ t. t.items) (take c.loop-text.text-index c.args.texts.now)) c.text-item.result.items
    (flat_map (λ t. t.items) (drop (suc c.loop-text.text-index) c.args.texts.now)) _
    (whole_flat c.args.texts.now ∙ piece_of (λ t. t.items) c.args.texts.now c.loop-text.text-index c.text-item.result (search rules) c.text-item.is) c.loop-text.invariant.0 front

pub returns-clause-ok : goal.returns-clause-ok
returns-clause-ok g c =
    subst (λ l. Appends (g.S.Sink.taken c.args.out.now) (g.S.Sink.taken c.loop-text.out) l)
    (ap (flat_map (λ t. t.items)) (take_all c.loop-text.text-index c.args.texts.now c.loop-text-test.false) ∙ sym (whole_flat c.args.texts.now)) c.loop-text.invariant.0
