use Rattle.std.proofs.Common.{Err, get_or, ap, ◌∙◌}
use Rattle.std.proofs.lemmas.List.Elements.{All-get_or}
use Rattle.std.proofs.lemmas.Result.{err_from_is_err_and}
use Rattle.site_core.specs.Sites.{site_answer, refused_at}
use Rattle.site_core.specs.Traps.{IsSpot}
use Rattle.site_core.proofs.Firsts.{first_told}
use Rattle.site_core.proofs.Sites.{same_item, trap_more, told_end}
use Rattle.site_core.proofs.site.traps_at.Goals as goal

pub returns-in_err-trap-clause-tells : goal.returns-in_err-trap-clause-tells
returns-in_err-trap-clause-tells c =
    let spots = c.args.spots.now in
    let i = c.loop-spot.spot-index in
    let end = c.in_err-trap.field-0.0 in
    let p = err_from_is_err_and c.from_residual.result c.from_residual.ensures.1 in
    told_end c.from_residual.result end _ (p.1 ∙ ap (λ x. Err x) p.2)
    (first_told (site_answer end) (refused_at c.args.bit c.args.table.now c.args.text.now) spots i (get_or spots i (0, 0)) c.loop-spot-test.true (same_item spots i (0, 0) c.loop-spot-test.true) c.loop-spot.invariant.2 c.in_err-trap.ensures.tells)

pub loop-spot-preserved : goal.loop-spot-preserved
loop-spot-preserved c =
    let spots = c.args.spots.now in
    let i = c.loop-spot.spot-index in
    trap_more c.args.bit c.args.table.now c.args.text.now spots i (get_or spots i (0, 0)) c.loop-spot.traps.items c.push.new.self.items c.in_ok-trap.trap c.loop-spot-test.true (same_item spots i (0, 0) c.loop-spot-test.true)
    (All-get_or (IsSpot c.args.table.now) spots i (0, 0) c.loop-spot-test.true c.requires) c.in_ok-push.ensures.items c.in_ok-trap.ensures.place c.in_ok-trap.ensures.bound c.in_ok-trap.ensures.tells c.loop-spot.invariant
