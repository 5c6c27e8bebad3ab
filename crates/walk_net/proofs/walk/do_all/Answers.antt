use Rattle.std.proofs.Common.{◌≡◌, ◌+◌, ◌<◌, [], ◌∷◌, ◌++◌, arith, ap, sym, ◌∙◌, subst}
use Rattle.std.proofs.lemmas.Grind.{common_steps}
use Rattle.net_core.specs.Nodes.{trees_of}
use Rattle.walk_net.specs.Tasks.{all_done, CanDoAll, work, weight}
use Rattle.walk_net.proofs.Doing.{can_pop, done_last, work_last, none_done}
use Rattle.walk_net.proofs.walk.do_all.Goals as goal

pub advance-requires-clause-can : goal.advance-requires-clause-can
advance-requires-clause-can c =
    (can_pop c.args.net.now.nodes c.pop.new.self.items c.in-Some.task (trees_of c.loop-task.builder)
    (subst (λ xs. CanDoAll c.args.net.now.nodes xs (trees_of c.loop-task.builder)) c.in-Some.ensures.items c.loop-task.invariant.can)).0

pub advance-requires-clause-rest : goal.advance-requires-clause-rest
advance-requires-clause-rest c =
    (can_pop c.args.net.now.nodes c.pop.new.self.items c.in-Some.task (trees_of c.loop-task.builder)
    (subst (λ xs. CanDoAll c.args.net.now.nodes xs (trees_of c.loop-task.builder)) c.in-Some.ensures.items c.loop-task.invariant.can)).1

pub loop-task-smaller : goal.loop-task-smaller
loop-task-smaller c =
    let less : work c.advance.new.tasks.items < weight c.in-Some.task + work c.pop.new.self.items = c.in_ok-advance.ensures.stacked.less in
    let same : work c.loop-task.tasks.items ≡ work (c.pop.new.self.items ++ c.in-Some.task ∷ []) = ap work c.in-Some.ensures.items in
    let last = work_last c.pop.new.self.items c.in-Some.task in
    omega (arith, less, same, last)

pub loop-task-preserved : goal.loop-task-preserved
loop-task-preserved c = record {
  copies = c.in_ok-advance.ensures.copies;
  can = c.in_ok-advance.ensures.stacked.can;
  done =
      c.in_ok-advance.ensures.stacked.done
      ∙ sym (done_last c.args.net.now.nodes c.pop.new.self.items c.in-Some.task (trees_of c.loop-task.builder))
      ∙ ap (λ xs. all_done c.args.net.now.nodes xs (trees_of c.loop-task.builder)) (sym c.in-Some.ensures.items)
      ∙ c.loop-task.invariant.done;
}

pub returns-clause-done : goal.returns-clause-done
returns-clause-done c = none_done c.args.net.now.nodes c.loop-task.tasks.items (trees_of c.loop-task.builder) _ (grind (arith, common_steps, c.in_default.ensures.cases.0)) c.loop-task.invariant.done
