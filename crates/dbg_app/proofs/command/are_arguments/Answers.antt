use Rattle.std.proofs.Common.{◌∙◌, sym}
use Rattle.dbg_app.proofs.Given.{all_next, all_not}
use Rattle.dbg_app.proofs.command.are_arguments.Goals as goal

pub returns-then-is_none : goal.returns-then-is_none
returns-then-is_none c = sym (sym c.loop-i.invariant ∙ all_not _ c.args.words.now c.loop-i.i _ _ c.word.ensures c.argument_of.ensures.argument c.if-is_none.ensures)

pub loop-i-preserved : goal.loop-i-preserved
loop-i-preserved c = all_next _ c.args.words.now c.loop-i.i _ _ c.word.ensures c.argument_of.ensures.argument c.if-is_none.ensures ∙ c.loop-i.invariant
