use Rattle.std.proofs.Common.{◌++◌, ◌∙◌, ap, map, sym}
use Rattle.design_core.specs.View.{block_of, body_of}
use Rattle.design_core.specs.Statements.{statements, stmts_at}
use Rattle.design_core.specs.Heads.{let_names, names_at}
use Rattle.shape_net.specs.Numbered.{numbered_stmt}
use Rattle.shape_net.proofs.Preorder.{block_numbered}
use Rattle.shape_net.proofs.sites.put_block.Goals as goal

pub returns : goal.returns
returns c =
    c.in_ok-put_stmts.ensures
    ∙ ap (λ names. c.args.slots.now.items ++ map (numbered_stmt c.args.variant names) (stmts_at c.deref-4.result.now)) c.in_ok-names.ensures
    ∙ ap (λ l. c.args.slots.now.items ++ l)
    (block_numbered c.args.variant c.args.signals.now (block_of c.args.block.now) (stmts_at c.deref-4.result.now) (names_at c.deref-3.result.now)
    (ap stmts_at c.deref-4.ensures.value ∙ c.in_ok-stmts.ensures ∙ ap (λ l. statements (body_of l)) c.deref.ensures.value)
    (ap names_at c.deref-3.ensures.value ∙ c.in_ok-lets.ensures ∙ ap (λ l. let_names (stmts_at l)) (c.deref-2.ensures.value ∙ sym c.deref-4.ensures.value)))
