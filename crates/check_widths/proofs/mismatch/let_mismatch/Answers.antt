use Rattle.check_widths.proofs.MapSteps.{let_put}
use Rattle.check_widths.proofs.mismatch.let_mismatch.Goals as goal

pub returns-clause-lets : goal.returns-clause-lets
returns-clause-lets c = let_put _ _ _ _ _ _ c.in_ok-width.ensures.told c.in_ok-put_bits.ensures
