use Rattle.std.proofs.Common.{rules}
use Rattle.symtab.specs.Lookups.{binding_of}
use Rattle.cond_lang.specs.Bound.{scope_of}
use Rattle.cond_lang.specs.Judged.{judged}
use Rattle.cond_lang.specs.Meaning.{tree_of, leaves}
use Rattle.cond_lang.specs.Shown.{cond_tree, cond_width}
use Rattle.cond_lang.specs.TextShown.{text_expr, text_offsets}
use Rattle.cond_lang.proofs.Ascii.{finds_each}
use Rattle.site_core.specs.Sampled.{cycle_samples}
use Rattle.dbg_core.proofs.Evals.{nodes_own, bound_body, unbound_body}
use Rattle.dbg_core.proofs.eval.bound.Goals as goal

pub come_to-requires-clause-nodes : goal.come_to-requires-clause-nodes
come_to-requires-clause-nodes g c =
    let places = binding_of c.args.table.now c.args.slot c.args.instance in
    nodes_own c.args.table.now c.parts-parts.ensures.table (g.T.Trace.samples c.args.trace.now) c.requires.fits c.args.slot c.args.instance c.args.text.now (cond_tree c.in-Ok.cond)
    (c.in-Ok.ensures.bound places (finds_each _ _ places (leaves (tree_of (text_expr c.args.text.now))) (λ name found post. search rules)))

pub returns-in-Ok : goal.returns-in-Ok
returns-in-Ok g c =
    let places = binding_of c.args.table.now c.args.slot c.args.instance in
    let width = c.in-Ok.ensures.width places (finds_each _ _ places (leaves (tree_of (text_expr c.args.text.now))) (λ name found post. search rules)) in
    let tree = c.in-Ok.ensures.bound places (finds_each _ _ places (leaves (tree_of (text_expr c.args.text.now))) (λ name found post. search rules)) in
    bound_body c.args.table.now (cycle_samples (g.T.Trace.samples c.args.trace.now) (g.T.Trace.cursor c.args.trace.now)) c.args.slot c.args.instance c.args.text.now
    c.come_to.result (cond_width c.in-Ok.cond) (cond_tree c.in-Ok.cond) width tree c.come_to.ensures

pub returns-in-Err : goal.returns-in-Err
returns-in-Err g c =
    let places = binding_of c.args.table.now c.args.slot c.args.instance in
    unbound_body c.args.table.now (cycle_samples (g.T.Trace.samples c.args.trace.now) (g.T.Trace.cursor c.args.trace.now)) c.args.slot c.args.instance c.args.text.now c.refusal.result
    (c.refusal.ensures (judged (scope_of places) (text_expr c.args.text.now) (text_offsets c.args.text.now))
    (c.in-Err.ensures.refused places (finds_each _ _ places (leaves (tree_of (text_expr c.args.text.now))) (λ name found post. search rules))))
