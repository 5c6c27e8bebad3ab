use Rattle.std.proofs.Common.{◌≡◌, ◌+◌, ◌*◌, ◌/◌, ◌≤◌, length, refl, sym, ap, subst, ◌∙◌, arith}
use Rattle.std.specs.Option.{IsSome}
use Rattle.sim_core.specs.Leaves.{registers_of}
use Rattle.sim_core.specs.Given.{HaveWidths}
use Rattle.sim_core.specs.State.{Simulated}
use Rattle.net_core.specs.Nets.{NetParts}
use Rattle.sim_hist.specs.Run.{registers_in}
use Rattle.sim_hist.specs.Recalled.{AreRecalled}
use Rattle.sim_hist.proofs.Running.{register_widths, edge_registers}
use Rattle.sim_hist.proofs.Recalling.{near_found, first_found}
use Rattle.sim_hist.proofs.settle.begin.Goals as goal

pub load-requires : goal.load-requires
load-requires c =
    let m = c.args.simulator.now in
    let then = near_found m.net c.args.stim.now c.args.history.now c.args.t c.in-Some.registers.now c.requires.recalled c.in-Some.ensures.0 c.in-Some.ensures.1 in
    subst (HaveWidths (registers_of m.net.nodes)) (sym then) (register_widths m.net c.args.stim.now c.args.t c.requires.net c.requires.stimulus (omega arith))

pub returns-in-Some-clause-then : goal.returns-in-Some-clause-then
returns-in-Some-clause-then c =
    let m = c.args.simulator.now in
    let then = near_found m.net c.args.stim.now c.args.history.now c.args.t c.in-Some.registers.now c.requires.recalled c.in-Some.ensures.0 c.in-Some.ensures.1 in
    ap (λ (x : Simulated). x.registers) c.load.ensures ∙ then ∙ ap (λ (n : NetParts). registers_in n c.args.stim.now c.args.t) (sym (ap (λ (x : Simulated). x.net) c.load.ensures))

pub edge-requires : goal.edge-requires
edge-requires c = subst IsSome (sym (c.requires.stands.placed c.in-Some-cursor.c c.in-Some-cursor.is).settled_then) refl

pub returns-in-Some-cursor-clause-net : goal.returns-in-Some-cursor-clause-net
returns-in-Some-cursor-clause-net c =
    (edge_registers c.args.stim.now c.in-Some-cursor.c c.args.simulator.now c.edge.new.self (c.requires.stands.placed c.in-Some-cursor.c c.in-Some-cursor.is) c.edge.ensures).0

pub returns-in-Some-cursor-clause-settles : goal.returns-in-Some-cursor-clause-settles
returns-in-Some-cursor-clause-settles c =
    (edge_registers c.args.stim.now c.in-Some-cursor.c c.args.simulator.now c.edge.new.self (c.requires.stands.placed c.in-Some-cursor.c c.in-Some-cursor.is) c.edge.ensures).1.0

pub returns-in-Some-cursor-clause-then : goal.returns-in-Some-cursor-clause-then
returns-in-Some-cursor-clause-then c =
    let moved = edge_registers c.args.stim.now c.in-Some-cursor.c c.args.simulator.now c.edge.new.self (c.requires.stands.placed c.in-Some-cursor.c c.in-Some-cursor.is) c.edge.ensures in
    moved.1.1 ∙ ap (λ (n : NetParts). registers_in n c.args.stim.now (c.in-Some-cursor.c + 1)) (sym moved.0)

pub returns-in-Some-cursor-clause-recalled : goal.returns-in-Some-cursor-clause-recalled
returns-in-Some-cursor-clause-recalled c =
    let moved = edge_registers c.args.stim.now c.in-Some-cursor.c c.args.simulator.now c.edge.new.self (c.requires.stands.placed c.in-Some-cursor.c c.in-Some-cursor.is) c.edge.ensures in
    subst (λ (n : NetParts). AreRecalled n c.args.stim.now c.args.history.now) (sym moved.0) c.requires.recalled

pub load-requires-in_default-cursor : goal.load-requires-in_default-cursor
load-requires-in_default-cursor c =
    let m = c.args.simulator.now in
    let then = first_found m.net c.args.stim.now c.args.history.now (c.args.t / 256) c.first.result.now c.requires.recalled c.first.ensures in
    subst (HaveWidths (registers_of m.net.nodes)) (sym then) (register_widths m.net c.args.stim.now (256 * (c.args.t / 256)) c.requires.net c.requires.stimulus (omega arith))

pub returns-in_default-cursor-clause-then : goal.returns-in_default-cursor-clause-then
returns-in_default-cursor-clause-then c =
    let m = c.args.simulator.now in
    let then = first_found m.net c.args.stim.now c.args.history.now (c.args.t / 256) c.first.result.now c.requires.recalled c.first.ensures in
    let place : 256 * (c.args.t / 256) ≡ c.args.t / 256 * 256 = omega arith in
    ap (λ (x : Simulated). x.registers) c.load-in_default-cursor.ensures
    ∙ then
    ∙ ap (registers_in m.net c.args.stim.now) place
    ∙ ap (λ (n : NetParts). registers_in n c.args.stim.now (c.args.t / 256 * 256)) (sym (ap (λ (x : Simulated). x.net) c.load-in_default-cursor.ensures))
