use Rattle.std.proofs.Common.{◌∙◌, [], map, sym, ap}
use Rattle.gen_tree.specs.View.{param_of}
use Rattle.elab_core.specs.Walk.{Faulty, UnknownParameter}
use Rattle.elab_core.specs.Elab.{distinct}
use Rattle.elab_walk.specs.Values.{names_of}
use Rattle.elab_walk.proofs.ValueSteps.{so_more, so_again, so_end, so_names}
use Rattle.elab_walk.proofs.values.names_of.Goals as goal

pub loop-param-preserved : goal.loop-param-preserved
loop-param-preserved c =
    so_more c.args.found.now.line c.deref-param-items.result.now c.loop-param.param-index c.param-item.result c.loop-param.names c.insert.new.self c.bytes.result.now c.in_ok-insert.field-0
    c.loop-param-test.true c.param-item.is c.bytes.ensures c.loop-param.invariant c.in_ok-insert.ensures.added c.in_ok-insert.ensures.names c.if-not-branch.false

pub returns-then-not-branch-clause-distinct : goal.returns-then-not-branch-clause-distinct
returns-then-not-branch-clause-distinct c = λ known.
    ap (λ xs. distinct c.args.found.now.line [] (map param_of xs)) (sym c.deref-param-items.ensures.value)
    ∙ so_again c.args.found.now.line c.deref-param-items.result.now c.loop-param.param-index c.param-item.result c.loop-param.names c.bytes.result.now c.in_ok-insert.field-0
    c.loop-param-test.true c.param-item.is c.bytes.ensures c.loop-param.invariant c.in_ok-insert.ensures.added c.if-not-branch.true
    ∙ ap (λ x. Faulty (UnknownParameter c.args.found.now.line x)) (sym (c.in_ok-name.ensures ∙ c.bytes-then-not-branch.ensures))

pub returns-clause-distinct : goal.returns-clause-distinct
returns-clause-distinct c =
    ap (λ xs. distinct c.args.found.now.line [] (map param_of xs)) (sym c.deref-param-items.ensures.value)
    ∙ so_end c.args.found.now.line c.deref-param-items.result.now c.loop-param.param-index c.loop-param.names c.loop-param-test.false c.loop-param.invariant

pub returns-clause-names : goal.returns-clause-names
returns-clause-names c =
    so_names c.args.found.now.line c.deref-param-items.result.now c.loop-param.param-index c.loop-param.names c.loop-param-test.false c.loop-param.invariant
    ∙ ap (λ xs. names_of (map param_of xs)) c.deref-param-items.ensures.value
