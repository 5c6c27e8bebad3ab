use Rattle.symtab.proofs.Apart.{front_more, front_repeats, none_front}
use Rattle.symtab.proofs.named.distinct_names.Goals as goal

pub loop-item-init : goal.loop-item-init
loop-item-init g c = none_front (λ item. g.T.Named.name_of item) c.args.items.now c.new-names.result c.new-names.ensures.names

pub returns-then-not-branch-clause-apart : goal.returns-then-not-branch-clause-apart
returns-then-not-branch-clause-apart g c = (
  λ no_way. cc,
  λ apart. absurd (front_repeats (λ item. g.T.Named.name_of item) c.args.items.now c.loop-item.item-index c.loop-item.names c.name.result.now c.item-item.result
      c.in_ok-insert.field-0 c.loop-item-test.true c.item-item.is c.name.ensures c.loop-item.invariant c.in_ok-insert.ensures.added c.if-not-branch.true apart),
)

pub loop-item-preserved : goal.loop-item-preserved
loop-item-preserved g c =
    front_more (λ item. g.T.Named.name_of item) c.args.items.now c.loop-item.item-index c.loop-item.names c.insert.new.self c.name.result.now c.item-item.result
    c.in_ok-insert.field-0 c.loop-item-test.true c.item-item.is c.name.ensures c.loop-item.invariant c.in_ok-insert.ensures.added c.in_ok-insert.ensures.names c.if-not-branch.false
