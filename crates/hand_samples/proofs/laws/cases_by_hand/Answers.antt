use Rattle.hand_samples.proofs.Cases.{is_elaborated_by_hand, cases_run_by_hand, is_cases_trail_by_hand}
use Rattle.hand_samples.proofs.laws.cases_by_hand.Goals as goal

pub returns-clause-elaborated : goal.returns-clause-elaborated
returns-clause-elaborated c = is_elaborated_by_hand

pub returns-clause-runs : goal.returns-clause-runs
returns-clause-runs c = cases_run_by_hand

pub returns-clause-trail : goal.returns-clause-trail
returns-clause-trail c = is_cases_trail_by_hand
