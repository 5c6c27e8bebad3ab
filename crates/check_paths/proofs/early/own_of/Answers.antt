use Rattle.std.proofs.Common.{◌∙◌, ap}
use Rattle.design_core.specs.View.{block_of, body_of}
use Rattle.design_core.specs.Statements.{statements, stmts_at}
use Rattle.check_paths.proofs.OwnNames.{own_from}
use Rattle.check_paths.proofs.early.own_of.Goals as goal

pub returns : goal.returns
returns c = c.in_ok-put_all_own.ensures ∙ own_from (block_of c.args.block.now) _ _ c.new-names.ensures.known
    (ap stmts_at c.deref-2.ensures.value ∙ c.in_ok-stmts.ensures ∙ ap (λ l. statements (body_of l)) c.deref.ensures.value)
