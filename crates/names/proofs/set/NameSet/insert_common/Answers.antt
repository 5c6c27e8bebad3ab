use Rattle.std.proofs.Common.{◌≡◌, ◌∷◌, ◌∙◌, sym, ap, map, List}
use Rattle.names.specs.Known.{Name, both, either, has}
use Rattle.names.proofs.Sets.{begins_both, begins_itself, common_end, common_next}
use Rattle.names.proofs.set.NameSet.insert_common.Goals as goal

pub loop-name-init : goal.loop-name-init
loop-name-init c = record {
  known = ap (λ l. either (has c.args.self.now) (both (has l) (has c.args.second.now))) (ap (λ l. map (λ name. name.items) l) (c.into_iter-name-iterator.ensures.into_iter_gives ∙ c.iter-name-items.ensures.rest) ∙ c.first.view_is);
  before = begins_itself _;
}

pub loop-name-preserved : goal.loop-name-preserved
loop-name-preserved c = record {
  known = common_next _ _ _ _ _ c.in_ok-insert_if.ensures.known
      ∙ ap (λ (l : List Name). either (has c.loop-name.self) (both (has l) (has c.args.second.now)))
      (ap (λ (x : Name). x ∷ map (λ name. name.items) c.next.new.self) c.deref.ensures.value ∙ sym (ap (λ l. map (λ name. name.items) l) c.in-Some.ensures.steps))
      ∙ c.loop-name.invariant.known;
  before = begins_both _ _ _ c.loop-name.invariant.before c.in_ok-insert_if.ensures.before;
}

pub returns-clause-known : goal.returns-clause-known
returns-clause-known c =
    sym (common_end (has c.loop-name.self) (has c.args.second.now))
    ∙ ap (λ l. either (has c.loop-name.self) (both (has (map (λ name. name.items) l)) (has c.args.second.now))) (sym c.in-None.ensures.steps.0)
    ∙ c.loop-name.invariant.known

pub returns-clause-before : goal.returns-clause-before
returns-clause-before c = c.loop-name.invariant.before
