use Rattle.std.proofs.Common.{◌∙◌, ap, ◌++◌, ◌∷◌, []}
use Rattle.names.specs.Maps.{value_of}
use Rattle.name_widths.specs.DeclaredWidths.{width_at}
use Rattle.block_net.specs.declared.effect.Effect.TheVariants as effects
use Rattle.block_net.proofs.WalkSteps.{set_key, shown_within_as}
use Rattle.block_net.proofs.walk.Walk.set.Goals as goal

pub put-requires-clause-shown : goal.put-requires-clause-shown
put-requires-clause-shown c = shown_within_as _ _ c.args.pending _ c.shown-shown.ensures c.requires.within

pub returns : goal.returns
returns c =
    set_key (width_at (value_of c.args.widths.now)) _ _ _ c.args.pending _ c.requires.shows c.shown-shown.ensures (shown_within_as _ _ c.args.pending _ c.shown-shown.ensures c.requires.within) c.in_ok-put.ensures.terms c.in_ok-put.ensures.state c.in_ok-put.ensures.env c.in_ok-put.ensures.fits
    (c.in_ok-push.ensures.items ∙ ap (λ l. l ++ effects.Set c.args.key c.shown-shown.result ∷ []) c.in_ok-put.ensures.log)
