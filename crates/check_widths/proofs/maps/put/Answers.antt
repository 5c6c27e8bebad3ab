use Rattle.std.proofs.Common.{◌≡◌, ap, ◌∙◌, rules, ℤ, to_z, of_z, w64}
use Rattle.names.specs.Maps.{value_of, put_value}
use Rattle.check_widths.proofs.MapSteps.{widths_put}
use Rattle.check_widths.proofs.maps.put.Goals as goal

pub returns : goal.returns
returns c =
    let same : to_z w64 (of_z w64 c.args.width) ≡ c.args.width = search rules in
    widths_put _ _ _ _ (c.in_ok-put.ensures.ok ∙ ap (λ (w : ℤ). put_value c.args.name.now w (value_of c.args.widths.now)) same)
