use Rattle.std.proofs.Common.{[], refl, sym, ap, ◌∙◌}
use Rattle.machine_core.specs.Machine.{stopped_at, edge_turn, moved_turn}
use Rattle.dbg_core.specs.World.{world_of}
use Rattle.dbg_core.specs.State.{machine_of}
use Rattle.dbg_core.proofs.Turns.{turn_is, far}
use Rattle.dbg_core.proofs.session.Session.run.Goals as goal

pub stop-requires : goal.stop-requires
stop-requires g c = rw (c.in-At.ensures.table, c.in-At.ensures.samples) (c.in-At.ensures.hit c.in-At.p refl)

pub move_on-requires : goal.move_on-requires
move_on-requires g c =
    let m = machine_of c.args.self.now [] in
    let place = ap (λ m. m.place) (c.in-Nowhere.ensures.state []) in
    rw (c.in-Nowhere.ensures.table, c.in-Nowhere.ensures.samples, place)
    (far c.args.self.now.table (g.T.Trace.samples c.args.self.now.trace) m c.args.want c.args.way c.args.self.now.within (sym (c.in-Nowhere.ensures.value [])))

pub returns-in-At-clause-turn : goal.returns-in-At-clause-turn
returns-in-At-clause-turn g c = λ heard.
    c.stop.ensures.turn heard
    ∙ (λ j. stopped_at (world_of (c.in-At.ensures.table j) (c.in-At.ensures.samples j)) (c.in-At.ensures.state heard j) c.in-At.p)
    ∙ turn_is (world_of c.args.self.now.table (g.T.Trace.samples c.args.self.now.trace)) (machine_of c.args.self.now heard) c.args.way c.args.want _ c.requires (c.in-At.ensures.value heard)

pub returns-in-Edge-clause-turn : goal.returns-in-Edge-clause-turn
returns-in-Edge-clause-turn g c = λ heard.
    c.stop_at_edge.ensures.turn heard
    ∙ (λ j. edge_turn (world_of (c.in-Edge.ensures.table j) (c.in-Edge.ensures.samples j)) c.args.way (c.in-Edge.ensures.state heard j))
    ∙ turn_is (world_of c.args.self.now.table (g.T.Trace.samples c.args.self.now.trace)) (machine_of c.args.self.now heard) c.args.way c.args.want _ c.requires (c.in-Edge.ensures.value heard)

pub returns-in-Nowhere-clause-turn : goal.returns-in-Nowhere-clause-turn
returns-in-Nowhere-clause-turn g c = λ heard.
    c.move_on.ensures.turn heard
    ∙ ap (moved_turn c.args.way) (c.in-Nowhere.ensures.state heard)
    ∙ turn_is (world_of c.args.self.now.table (g.T.Trace.samples c.args.self.now.trace)) (machine_of c.args.self.now heard) c.args.way c.args.want _ c.requires (c.in-Nowhere.ensures.value heard)
