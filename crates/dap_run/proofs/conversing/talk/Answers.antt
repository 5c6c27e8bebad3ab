use Rattle.std.proofs.Common.{◌≡◌, ◌≤◌, Some, refl, ap, ap₂, arith}
use Rattle.dbg_core.specs.World.{world_of}
use Rattle.dap_link.specs.State.{world_in}
use Rattle.dap_link.specs.Conversing.{conversation_of}
use Rattle.dap_link.specs.Framing.{Framing}
use Rattle.machine_core.proofs.Readers.{some_reader}
use Rattle.dap_run.proofs.Writing.{stands_first, talks_grown, turned}
use Rattle.dap_run.proofs.conversing.talk.Goals as goal

pub loop-init : goal.loop-init
loop-init g c = (
  refl,
  refl,
  refl,
  ap (λ (f : Framing). f.fault) c.new.ensures,
  λ read reader.
      stands_first read (world_in c.args.adapter.session) c.args.adapter.names (conversation_of c.args.adapter) (g.I.Source.left c.args.input.now) (g.S.Sink.taken c.args.out.now) c.new.result c.new.ensures,
  omega arith,
  omega arith,
)

pub returns-in-Some-turn-clause-text : goal.returns-in-Some-turn-clause-text
returns-in-Some-turn-clause-text g c = λ read reader.
    turned c.in-Some-turn.end read (world_in c.args.adapter.session) (world_in c.loop.speaker.adapter.session) c.args.adapter.names c.loop.speaker.adapter.names
    (conversation_of c.args.adapter) (conversation_of c.loop.speaker.adapter) (g.I.Source.left c.args.input.now) (g.I.Source.left c.loop.input) (g.I.Source.left c.turn.new.input)
    c.loop.speaker.framer.held c.loop.speaker.ended (g.S.Sink.taken c.args.out.now) (g.S.Sink.taken c.loop.out) (g.S.Sink.taken c.turn.new.out)
    (ap₂ (λ t s. world_of t s) c.loop.invariant.0 c.loop.invariant.1) c.loop.invariant.2 (c.loop.invariant.4 read reader)
    (c.in-Some-turn.ensures.turns read reader (conversation_of c.args.adapter) (g.I.Source.left c.args.input.now) (g.S.Sink.taken c.args.out.now))

pub returns-in-Some-turn-clause-kept : goal.returns-in-Some-turn-clause-kept
returns-in-Some-turn-clause-kept g c =
    talks_grown c.in-Some-turn.end some_reader.0 (world_in c.args.adapter.session) c.args.adapter.names (conversation_of c.args.adapter) (g.I.Source.left c.args.input.now) (g.I.Source.left c.turn.new.input)
    (g.S.Sink.taken c.args.out.now) (g.S.Sink.taken c.turn.new.out) (returns-in-Some-turn-clause-text g c some_reader.0 some_reader.1)
