use Rattle.std.proofs.Common.{ap}
use Rattle.world_core.specs.World.{World}
use Rattle.world_core.proofs.Seen.{same_worlds_seen_alike}
use Rattle.machine_core.specs.Machine.{opening}
use Rattle.machine_core.specs.Journal.{closed, journal_from, batch_from}
use Rattle.machine_core.proofs.laws.same_worlds_answer_alike.Goals as goal

pub returns : goal.returns
returns c = record {
  journals = λ read v w heard journal same. ap (λ (s : World). closed (journal_from read s (opening heard) journal)) (same_worlds_seen_alike v w same);
  batches = λ read v w heard requests same. ap (λ (s : World). closed (batch_from read s requests (opening heard))) (same_worlds_seen_alike v w same);
}
