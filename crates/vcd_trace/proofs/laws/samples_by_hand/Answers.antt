use Rattle.vcd_trace.proofs.Computed.{is_seen, is_refused}
use Rattle.vcd_trace.proofs.laws.samples_by_hand.Goals as goal

pub returns-clause-seen : goal.returns-clause-seen
returns-clause-seen c = is_seen

pub returns-clause-refused : goal.returns-clause-refused
returns-clause-refused c = is_refused
