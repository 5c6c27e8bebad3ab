use Rattle.std.proofs.Common.{◌∙◌, sym, ap}
use Rattle.check_paths.specs.Frames.{bits_of, both, either, kept}
use Rattle.check_paths.proofs.walk.common.Goals as goal

pub returns-in_ok-join_common-in-Some : goal.returns-in_ok-join_common-in-Some
returns-in_ok-join_common-in-Some c =
    c.in_ok-join_common-in-Some.ensures
    ∙ ap (λ b. either b (both (bits_of c.in-Some.found) (bits_of c.args.next))) c.new-common.ensures
    ∙ ap (λ o. both (kept o) (bits_of c.args.next)) (sym c.in-Some.is)
