use Rattle.std.proofs.Common.{◌≡◌, ◌≤◌, None, Option, List, ℕ}
use Rattle.machine_core.specs.Reading.{Reader, IsReader}
use Rattle.dap_link.specs.State.{world_in}
use Rattle.dap_link.specs.Conversing.{conversation_of}
use Rattle.dap_run.specs.Talks.{Stands}
use Rattle.dap_run.proofs.conversing.talk.Given as goal

abbrev pub invariant-loop : goal.invariant-loop
invariant-loop g l =
    (l.speaker.adapter.session.table ≡ l.initial.speaker.adapter.session.table)
    × (g.T.Trace.samples l.speaker.adapter.session.trace ≡ g.T.Trace.samples l.initial.speaker.adapter.session.trace)
    × (l.speaker.adapter.names ≡ l.initial.speaker.adapter.names)
    × (l.speaker.framer.fault ≡ None)
    × ((read : Reader) → IsReader read
    → Stands read (world_in l.initial.speaker.adapter.session) l.initial.speaker.adapter.names (conversation_of l.initial.speaker.adapter) (conversation_of l.speaker.adapter)
    (g.I.Source.left l.fn.input) (g.I.Source.left l.input) l.speaker.framer.held l.speaker.ended (g.S.Sink.taken l.fn.out) (g.S.Sink.taken l.out))
    × (g.I.Source.fault_count l.fn.input ≤ g.I.Source.fault_count l.input)
    × (g.S.Sink.fault_count l.fn.out ≤ g.S.Sink.fault_count l.out)
