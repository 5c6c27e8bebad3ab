use Rattle.std.proofs.Common.{rules, ◌≡◌, None, Some}
use Rattle.link_pump.specs.declared.cause.Cause.TheVariants as cause
use Rattle.duo_run.proofs.Keeping.{fresh}
use Rattle.duo_run.proofs.desk.Desk.new.Goals as goal

pub returns-clause-held : goal.returns-clause-held
returns-clause-held g c =
    fresh _ _ (search rules) (search rules) (search rules) (search rules)
    (λ e. let bad : None ≡ Some cause.Closed = e in cc) (λ e. let bad : None ≡ Some cause.Failed = e in cc)
