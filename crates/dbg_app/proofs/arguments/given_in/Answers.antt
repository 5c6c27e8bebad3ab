use Rattle.std.proofs.Common.{◌∙◌, ◌++◌, ◌∷◌, [], ap}
use Rattle.dbg_app.proofs.Given.{given_more, given_same, same_number}
use Rattle.dbg_app.proofs.arguments.given_in.Goals.{in-Some+in_ok-add, in_default}
use Rattle.dbg_app.proofs.arguments.given_in.Goals as goal

pub loop-i-preserved : goal.loop-i-preserved
loop-i-preserved c = elim c.match-argument_of.branch [
  | in-Some+in_ok-add w ↦ given_more _ c.args.words.now c.loop-i.i _ _ _ _ _ c.word.ensures c.argument_of.ensures.argument w.in-Some.is (w.given-is ∙ w.in_ok-add.ensures.added ∙ ap (λ n. c.loop-i.given ++ (w.in-Some.name.now, n) ∷ []) (same_number w.in-Some.number w.in-Some.ensures.range)) ∙ c.loop-i.invariant
  | in_default w ↦ given_same _ c.args.words.now c.loop-i.i _ _ _ _ c.word.ensures c.argument_of.ensures.argument w.in_default.is w.given-is ∙ c.loop-i.invariant
]
