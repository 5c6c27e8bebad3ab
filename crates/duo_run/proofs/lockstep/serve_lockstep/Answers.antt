use Rattle.std.proofs.Common.{rules, ◌≡◌, ◌||◌, [], true, false, None, map, option_map, refl, ◌∙◌, ap, ap₂, subst}
use Rattle.std.specs.Prelude.{is_some}
use Rattle.std.proofs.lemmas.Result.{IfOk-weaker}
use Rattle.dbg_core.specs.World.{world_of}
use Rattle.dbg_core.specs.State.{machine_of}
use Rattle.machine_core.specs.Machine.{is_running, opening}
use Rattle.machine_core.specs.Journal.{notices_of, closing_lines}
use Rattle.duo_run.specs.Connections.{Applies, InLockStep}
use Rattle.duo_run.specs.Desks.{end_of}
use Rattle.duo_run.proofs.Serving.{AtMiddle, begins, replied, unasked, noticed, unready, idle, carries, applies, in_lock_step}
use Rattle.duo_run.proofs.lockstep.serve_lockstep.Goals as goal
use Rattle.duo_run.proofs.lockstep.serve_lockstep.Goals.{in-Some-hear, in-None-hear, else-running-via-then-running+else-is_ready, else-running-via-else-running, in-None, in-Some+then-is_over}

pub loop-init : goal.loop-init
loop-init g c = record {
  table = refl;
  samples = refl;
  going = begins _ _ _ _ c.make_room.new.self (c.make_room.ensures.left ∙ c.new-desk.ensures.left) (c.make_room.ensures.keeps _ [] [] [] c.new-desk.ensures.held);
  usable = rw (c.make_room.ensures.link, c.new-desk.ensures.link) c.requires.usable;
  room = c.make_room.ensures.room;
}

pub is_ready-requires-clause-usable : goal.is_ready-requires-clause-usable
is_ready-requires-clause-usable g c = λ κs lives.
    elim c.match-hear.branch [
      | in-Some-hear w ↦ rw w.desk-is w.answer.ensures.usable
      | in-None-hear w ↦ rw w.desk-is c.hear.ensures.usable
    ]

pub loop-preserved-then-is_ready : goal.loop-preserved-then-is_ready
loop-preserved-then-is_ready g c =
    let staying : c.loop.desk.left ≡ false = search rules in
    let free : c.loop.desk.outlet.over ≡ None = search rules in
    let same : (world_of c.loop.session.table (g.T.Trace.samples c.loop.session.trace)) ≡ (world_of c.args.session.table (g.T.Trace.samples c.args.session.trace)) = ap₂ (λ t s. world_of t s) c.loop.invariant.table c.loop.invariant.samples in
    let j : AtMiddle (world_of c.args.session.table (g.T.Trace.samples c.args.session.trace)) (machine_of c.args.session (map (option_map (λ b. (goal.Listener-dyn g (b.vtable, b.value)).heard b.value)) c.args.listeners.boxes.items)) (g.L.Link.meaning c.args.link) (g.L.Link.meaning c.match-hear.desk.outlet.link) c.match-hear.desk (machine_of c.match-hear.session (map (option_map (λ b. (goal.Listener-dyn g (b.vtable, b.value)).heard b.value)) c.match-hear.listeners.boxes.items)) c.match-hear.session.table c.args.session.table (g.T.Trace.samples c.match-hear.session.trace) (g.T.Trace.samples c.args.session.trace) =
    elim c.match-hear.branch [
      | in-Some-hear w ↦
          rw (w.session-is, w.listeners-is, w.desk-is) (
            w.request-reply.ensures.table ∙ c.loop.invariant.table,
            w.request-reply.ensures.samples ∙ c.loop.invariant.samples,
            replied (world_of c.args.session.table (g.T.Trace.samples c.args.session.trace)) (machine_of c.args.session (map (option_map (λ b. (goal.Listener-dyn g (b.vtable, b.value)).heard b.value)) c.args.listeners.boxes.items)) (g.L.Link.meaning c.args.link) (world_of c.loop.session.table (g.T.Trace.samples c.loop.session.trace)) (g.L.Link.meaning c.loop.desk.outlet.link) (g.L.Link.meaning c.hear.new.self.outlet.link) (g.L.Link.meaning w.answer.new.self.outlet.link) c.loop.desk c.hear.new.self w.answer.new.self (machine_of c.loop.session (map (option_map (λ b. (goal.Listener-dyn g (b.vtable, b.value)).heard b.value)) c.loop.listeners.boxes.items)) (machine_of w.request-reply.new.self (map (option_map (λ b. (goal.Listener-dyn g (b.vtable, b.value)).heard b.value)) w.request-reply.new.listeners.boxes.items)) w.in-Some-hear.text w.in-Some-hear.asked w.request-reply.result
                same staying free c.hear.ensures.left w.in-Some-hear.ensures.asked (λ start polls deeds made h. w.in-Some-hear.ensures.some start polls deeds made h) w.request-reply.ensures.answer w.request-reply.ensures.memory
                w.answer.ensures.ok w.answer.ensures.left w.answer.ensures.err w.answer.ensures.open w.answer.ensures.starved c.loop.invariant.going,
            w.answer.ensures.usable,
            w.answer.ensures.room,
          )
      | in-None-hear w ↦
          rw (w.session-is, w.listeners-is, w.desk-is) (
            c.loop.invariant.table,
            c.loop.invariant.samples,
            unasked (world_of c.args.session.table (g.T.Trace.samples c.args.session.trace)) (machine_of c.args.session (map (option_map (λ b. (goal.Listener-dyn g (b.vtable, b.value)).heard b.value)) c.args.listeners.boxes.items)) (g.L.Link.meaning c.args.link) (g.L.Link.meaning c.loop.desk.outlet.link) (g.L.Link.meaning c.hear.new.self.outlet.link) c.loop.desk c.hear.new.self (machine_of c.loop.session (map (option_map (λ b. (goal.Listener-dyn g (b.vtable, b.value)).heard b.value)) c.loop.listeners.boxes.items)) staying free c.hear.ensures.left c.loop.invariant.going
                (w.in-None-hear.ensures.none (g.L.Link.meaning c.args.link) c.loop.invariant.going.polls c.loop.invariant.going.deeds c.loop.invariant.going.made c.loop.invariant.going.held),
            c.hear.ensures.usable,
            c.hear.ensures.room,
          )
    ] in
    let yes = c.is_ready.ensures.yes (search rules) in
    let running : is_running c.match-hear.session.motion ≡ true = search rules in
    let too : (world_of c.turn-turned.new.self.table (g.T.Trace.samples c.turn-turned.new.self.trace)) ≡ (world_of c.args.session.table (g.T.Trace.samples c.args.session.trace)) = ap₂ (λ t s. world_of t s) (c.turn-turned.ensures.table ∙ j.0) (c.turn-turned.ensures.samples ∙ j.1) in
    record {
      table = c.notice-notice.ensures.table ∙ c.turn-turned.ensures.table ∙ j.0;
      samples = c.notice-notice.ensures.samples ∙ c.turn-turned.ensures.samples ∙ j.1;
      going = noticed (world_of c.args.session.table (g.T.Trace.samples c.args.session.trace)) (machine_of c.args.session (map (option_map (λ b. (goal.Listener-dyn g (b.vtable, b.value)).heard b.value)) c.args.listeners.boxes.items)) (g.L.Link.meaning c.args.link) (world_of c.match-hear.session.table (g.T.Trace.samples c.match-hear.session.trace)) (world_of c.turn-turned.new.self.table (g.T.Trace.samples c.turn-turned.new.self.trace)) (g.L.Link.meaning c.match-hear.desk.outlet.link) (g.L.Link.meaning c.turned.new.self.outlet.link) c.match-hear.desk c.turned.new.self (machine_of c.match-hear.session (map (option_map (λ b. (goal.Listener-dyn g (b.vtable, b.value)).heard b.value)) c.match-hear.listeners.boxes.items)) (machine_of c.turn-turned.new.self (map (option_map (λ b. (goal.Listener-dyn g (b.vtable, b.value)).heard b.value)) c.turn-turned.new.listeners.boxes.items)) (machine_of c.notice-notice.new.self (map (option_map (λ b. (goal.Listener-dyn g (b.vtable, b.value)).heard b.value)) c.turn-turned.new.listeners.boxes.items)) c.turn-turned.result
          (ap₂ (λ t s. world_of t s) j.0 j.1) too yes.0 yes.1 running c.turn-turned.ensures.turn (c.notice-notice.ensures.state (map (option_map (λ b. (goal.Listener-dyn g (b.vtable, b.value)).heard b.value)) c.turn-turned.new.listeners.boxes.items)) (c.turned.ensures.left ∙ c.is_ready.ensures.left)
          (λ polls deeds made h. c.turned.ensures.keeps (g.L.Link.meaning c.args.link) polls deeds made (notices_of (world_of c.turn-turned.new.self.table (g.T.Trace.samples c.turn-turned.new.self.trace)) (machine_of c.turn-turned.new.self (map (option_map (λ b. (goal.Listener-dyn g (b.vtable, b.value)).heard b.value)) c.turn-turned.new.listeners.boxes.items)) c.turn-turned.result) (IfOk-weaker c.notice-notice.result _ _ (λ notice told. told (map (option_map (λ b. (goal.Listener-dyn g (b.vtable, b.value)).heard b.value)) c.turn-turned.new.listeners.boxes.items)) c.notice-notice.ensures.lines) (c.is_ready.ensures.keeps (g.L.Link.meaning c.args.link) polls deeds made h)) j.2;
      usable = c.turned.ensures.usable;
      room = c.turned.ensures.room (c.is_ready.ensures.room j.4);
    }

pub loop-preserved : goal.loop-preserved
loop-preserved g c =
    let staying : c.loop.desk.left ≡ false = search rules in
    let free : c.loop.desk.outlet.over ≡ None = search rules in
    let same : (world_of c.loop.session.table (g.T.Trace.samples c.loop.session.trace)) ≡ (world_of c.args.session.table (g.T.Trace.samples c.args.session.trace)) = ap₂ (λ t s. world_of t s) c.loop.invariant.table c.loop.invariant.samples in
    let j : AtMiddle (world_of c.args.session.table (g.T.Trace.samples c.args.session.trace)) (machine_of c.args.session (map (option_map (λ b. (goal.Listener-dyn g (b.vtable, b.value)).heard b.value)) c.args.listeners.boxes.items)) (g.L.Link.meaning c.args.link) (g.L.Link.meaning c.match-hear.desk.outlet.link) c.match-hear.desk (machine_of c.match-hear.session (map (option_map (λ b. (goal.Listener-dyn g (b.vtable, b.value)).heard b.value)) c.match-hear.listeners.boxes.items)) c.match-hear.session.table c.args.session.table (g.T.Trace.samples c.match-hear.session.trace) (g.T.Trace.samples c.args.session.trace) =
    elim c.match-hear.branch [
      | in-Some-hear w ↦
          rw (w.session-is, w.listeners-is, w.desk-is) (
            w.request-reply.ensures.table ∙ c.loop.invariant.table,
            w.request-reply.ensures.samples ∙ c.loop.invariant.samples,
            replied (world_of c.args.session.table (g.T.Trace.samples c.args.session.trace)) (machine_of c.args.session (map (option_map (λ b. (goal.Listener-dyn g (b.vtable, b.value)).heard b.value)) c.args.listeners.boxes.items)) (g.L.Link.meaning c.args.link) (world_of c.loop.session.table (g.T.Trace.samples c.loop.session.trace)) (g.L.Link.meaning c.loop.desk.outlet.link) (g.L.Link.meaning c.hear.new.self.outlet.link) (g.L.Link.meaning w.answer.new.self.outlet.link) c.loop.desk c.hear.new.self w.answer.new.self (machine_of c.loop.session (map (option_map (λ b. (goal.Listener-dyn g (b.vtable, b.value)).heard b.value)) c.loop.listeners.boxes.items)) (machine_of w.request-reply.new.self (map (option_map (λ b. (goal.Listener-dyn g (b.vtable, b.value)).heard b.value)) w.request-reply.new.listeners.boxes.items)) w.in-Some-hear.text w.in-Some-hear.asked w.request-reply.result
                same staying free c.hear.ensures.left w.in-Some-hear.ensures.asked (λ start polls deeds made h. w.in-Some-hear.ensures.some start polls deeds made h) w.request-reply.ensures.answer w.request-reply.ensures.memory
                w.answer.ensures.ok w.answer.ensures.left w.answer.ensures.err w.answer.ensures.open w.answer.ensures.starved c.loop.invariant.going,
            w.answer.ensures.usable,
            w.answer.ensures.room,
          )
      | in-None-hear w ↦
          rw (w.session-is, w.listeners-is, w.desk-is) (
            c.loop.invariant.table,
            c.loop.invariant.samples,
            unasked (world_of c.args.session.table (g.T.Trace.samples c.args.session.trace)) (machine_of c.args.session (map (option_map (λ b. (goal.Listener-dyn g (b.vtable, b.value)).heard b.value)) c.args.listeners.boxes.items)) (g.L.Link.meaning c.args.link) (g.L.Link.meaning c.loop.desk.outlet.link) (g.L.Link.meaning c.hear.new.self.outlet.link) c.loop.desk c.hear.new.self (machine_of c.loop.session (map (option_map (λ b. (goal.Listener-dyn g (b.vtable, b.value)).heard b.value)) c.loop.listeners.boxes.items)) staying free c.hear.ensures.left c.loop.invariant.going
                (w.in-None-hear.ensures.none (g.L.Link.meaning c.args.link) c.loop.invariant.going.polls c.loop.invariant.going.deeds c.loop.invariant.going.made c.loop.invariant.going.held),
            c.hear.ensures.usable,
            c.hear.ensures.room,
          )
    ] in
    record {
      table = j.0;
      samples = j.1;
      going = elim c.else-running.branch [
        | else-running-via-then-running+else-is_ready w ↦
            rw w.desk-is
            (unready (world_of c.args.session.table (g.T.Trace.samples c.args.session.trace)) (machine_of c.args.session (map (option_map (λ b. (goal.Listener-dyn g (b.vtable, b.value)).heard b.value)) c.args.listeners.boxes.items)) (g.L.Link.meaning c.args.link) (g.L.Link.meaning c.match-hear.desk.outlet.link) (g.L.Link.meaning w.is_ready.new.self.outlet.link) c.match-hear.desk w.is_ready.new.self (machine_of c.match-hear.session (map (option_map (λ b. (goal.Listener-dyn g (b.vtable, b.value)).heard b.value)) c.match-hear.listeners.boxes.items)) w.is_ready.ensures.left (w.is_ready.ensures.no (search rules))
            (λ polls deeds made h. w.is_ready.ensures.keeps (g.L.Link.meaning c.args.link) polls deeds made h) j.2)
        | else-running-via-else-running w ↦
            rw w.desk-is
            (idle (world_of c.args.session.table (g.T.Trace.samples c.args.session.trace)) (machine_of c.args.session (map (option_map (λ b. (goal.Listener-dyn g (b.vtable, b.value)).heard b.value)) c.args.listeners.boxes.items)) (g.L.Link.meaning c.args.link) (g.L.Link.meaning c.match-hear.desk.outlet.link) c.match-hear.desk (machine_of c.match-hear.session (map (option_map (λ b. (goal.Listener-dyn g (b.vtable, b.value)).heard b.value)) c.match-hear.listeners.boxes.items)) (let idling : is_running c.match-hear.session.motion ≡ false = search rules in idling) j.2)
      ];
      usable = elim c.else-running.branch [
        | else-running-via-then-running+else-is_ready w ↦ rw w.desk-is w.is_ready.ensures.usable
        | else-running-via-else-running w ↦ rw w.desk-is j.3
      ];
      room = elim c.else-running.branch [
        | else-running-via-then-running+else-is_ready w ↦ rw w.desk-is (w.is_ready.ensures.room j.4)
        | else-running-via-else-running w ↦ rw w.desk-is j.4
      ];
    }

pub returns-clause-carried : goal.returns-clause-carried
returns-clause-carried g c =
    rw (c.into_served.ensures.link, c.into_served.ensures.journal, c.into_served.ensures.unapplied, c.into_served.ensures.sent, c.into_served.ensures.unsent, c.into_served.ensures.end)
    (carries (world_of c.args.session.table (g.T.Trace.samples c.args.session.trace)) (machine_of c.args.session (map (option_map (λ b. (goal.Listener-dyn g (b.vtable, b.value)).heard b.value)) c.args.listeners.boxes.items)) (g.L.Link.meaning c.args.link) (g.L.Link.meaning c.loop.desk.outlet.link) (g.L.Link.meaning c.close.new.outlet.link) c.loop.desk (machine_of c.loop.session (map (option_map (λ b. (goal.Listener-dyn g (b.vtable, b.value)).heard b.value)) c.loop.listeners.boxes.items)) c.close.new.outlet (closing_lines (map (option_map (λ b. (goal.Listener-dyn g (b.vtable, b.value)).heard b.value)) c.loop.listeners.boxes.items)) c.close.ensures.over (λ made h. c.close.ensures.keeps (g.L.Link.meaning c.args.link) made (closing_lines (map (option_map (λ b. (goal.Listener-dyn g (b.vtable, b.value)).heard b.value)) c.loop.listeners.boxes.items)) c.closing_lines.ensures h) c.close.ensures.polls c.close.ensures.received c.loop.invariant.going c.loop.invariant.room.0)

pub returns-clause-applied : goal.returns-clause-applied
returns-clause-applied g c = λ read reader told is.
    let over : (c.loop.desk.left || is_some c.loop.desk.outlet.over) ≡ true = elim c.match-next.branch [
      | in-None w ↦ (search rules)
      | in-Some+then-is_over w ↦ (search rules)
    ] in
    let new : (machine_of c.args.session (map (option_map (λ b. (goal.Listener-dyn g (b.vtable, b.value)).heard b.value)) c.args.listeners.boxes.items)) ≡ opening told = ap (machine_of c.args.session) is ∙ c.requires.new told in
    rw (c.into_served.ensures.journal, c.into_served.ensures.sent, c.into_served.ensures.unsent, c.into_served.ensures.end)
    (subst (λ k. Applies read (world_of c.args.session.table (g.T.Trace.samples c.args.session.trace)) k c.loop.desk.journal.events.items c.close.new.outlet.sent.items c.close.new.outlet.unsent.items (end_of c.loop.desk.left c.close.new.outlet.over)) new (applies (world_of c.args.session.table (g.T.Trace.samples c.args.session.trace)) (machine_of c.args.session (map (option_map (λ b. (goal.Listener-dyn g (b.vtable, b.value)).heard b.value)) c.args.listeners.boxes.items)) (g.L.Link.meaning c.args.link) (g.L.Link.meaning c.loop.desk.outlet.link) (g.L.Link.meaning c.close.new.outlet.link) c.loop.desk (machine_of c.loop.session (map (option_map (λ b. (goal.Listener-dyn g (b.vtable, b.value)).heard b.value)) c.loop.listeners.boxes.items)) c.close.new.outlet (closing_lines (map (option_map (λ b. (goal.Listener-dyn g (b.vtable, b.value)).heard b.value)) c.loop.listeners.boxes.items)) c.close.ensures.over (λ made h. c.close.ensures.keeps (g.L.Link.meaning c.args.link) made (closing_lines (map (option_map (λ b. (goal.Listener-dyn g (b.vtable, b.value)).heard b.value)) c.loop.listeners.boxes.items)) c.closing_lines.ensures h) c.close.ensures.polls c.close.ensures.received c.loop.invariant.going refl over read reader))

pub returns-clause-in_lock_step : goal.returns-clause-in_lock_step
returns-clause-in_lock_step g c = λ read reader told is.
    let new : (machine_of c.args.session (map (option_map (λ b. (goal.Listener-dyn g (b.vtable, b.value)).heard b.value)) c.args.listeners.boxes.items)) ≡ opening told = ap (machine_of c.args.session) is ∙ c.requires.new told in
    rw (c.into_served.ensures.link, c.into_served.ensures.journal, c.into_served.ensures.end)
    (subst (λ k. InLockStep read (world_of c.args.session.table (g.T.Trace.samples c.args.session.trace)) k (g.L.Link.meaning c.args.link) (g.L.Link.meaning c.close.new.outlet.link) c.loop.desk.journal.events.items (end_of c.loop.desk.left c.close.new.outlet.over)) new (in_lock_step (world_of c.args.session.table (g.T.Trace.samples c.args.session.trace)) (machine_of c.args.session (map (option_map (λ b. (goal.Listener-dyn g (b.vtable, b.value)).heard b.value)) c.args.listeners.boxes.items)) (g.L.Link.meaning c.args.link) (g.L.Link.meaning c.loop.desk.outlet.link) (g.L.Link.meaning c.close.new.outlet.link) c.loop.desk (machine_of c.loop.session (map (option_map (λ b. (goal.Listener-dyn g (b.vtable, b.value)).heard b.value)) c.loop.listeners.boxes.items)) c.close.new.outlet (closing_lines (map (option_map (λ b. (goal.Listener-dyn g (b.vtable, b.value)).heard b.value)) c.loop.listeners.boxes.items)) c.close.ensures.over (λ made h. c.close.ensures.keeps (g.L.Link.meaning c.args.link) made (closing_lines (map (option_map (λ b. (goal.Listener-dyn g (b.vtable, b.value)).heard b.value)) c.loop.listeners.boxes.items)) c.closing_lines.ensures h) c.close.ensures.polls c.close.ensures.received c.loop.invariant.going read reader))
