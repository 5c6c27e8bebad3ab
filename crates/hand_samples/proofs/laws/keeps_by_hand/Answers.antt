use Rattle.hand_samples.proofs.Removed.{is_kept_by_hand, runs_by_hand, is_trail_by_hand}
use Rattle.hand_samples.proofs.laws.keeps_by_hand.Goals as goal

pub returns-clause-kept : goal.returns-clause-kept
returns-clause-kept c = is_kept_by_hand

pub returns-clause-runs : goal.returns-clause-runs
returns-clause-runs c = runs_by_hand

pub returns-clause-trail : goal.returns-clause-trail
returns-clause-trail c = is_trail_by_hand
