use Rattle.std.proofs.Common.{◌≡◌, ◌≤◌, map, option_map, sym, ◌∙◌, arith, rules}
use Rattle.machine_core.specs.declared.turn.Turned.TheVariants as turned
use Rattle.machine_core.specs.Positions.{end_place}
use Rattle.machine_core.specs.Machine.{turn_of}
use Rattle.site_core.specs.Positions.{total_of}
use Rattle.dbg_core.specs.World.{world_of}
use Rattle.dbg_core.specs.State.{machine_of}
use Rattle.dbg_core.proofs.Positions.{count_told}
use Rattle.dbg_core.proofs.Settling.{after_move, last_turn, less_left, not_moved}
use Rattle.dbg_core.proofs.session.Session.settle.Goals as goal

pub returns-then-ne-clause-ran : goal.returns-then-ne-clause-ran
returns-then-ne-clause-ran g c =
    let parts = c.args.self.now.table in
    let s = g.T.Trace.samples c.args.self.now.trace in
    let inv = c.loop-turned.invariant in
    let now = machine_of c.loop-turned.self (map (option_map (λ b. (goal.Listener-dyn g (b.vtable, b.value)).heard b.value)) c.loop-turned.listeners.boxes.items) in
    let total : total_of c.loop-turned.self.table (g.T.Trace.samples c.loop-turned.self.trace) ≡ total_of parts s = (λ j. total_of (inv.table j) (inv.samples j)) in
    let count = count_told parts s in
    let inside = c.loop-turned.self.within in
    let within : now.place ≤ end_place (world_of parts s) = omega (arith, inside, total, count) in
    let other : c.turn-turned.result ≡ turned.Moved → ⊥ = search rules in
    last_turn (world_of parts s) now _ (c.turn-turned.ensures.turn ∙ (λ j. turn_of (world_of (inv.table j) (inv.samples j)) now)) within (not_moved c.turn-turned.result other) ∙ inv.left

pub loop-turned-smaller : goal.loop-turned-smaller
loop-turned-smaller g c =
    let parts = c.args.self.now.table in
    let s = g.T.Trace.samples c.args.self.now.trace in
    let inv = c.loop-turned.invariant in
    let now = machine_of c.loop-turned.self (map (option_map (λ b. (goal.Listener-dyn g (b.vtable, b.value)).heard b.value)) c.loop-turned.listeners.boxes.items) in
    let total : total_of c.loop-turned.self.table (g.T.Trace.samples c.loop-turned.self.trace) ≡ total_of parts s = (λ j. total_of (inv.table j) (inv.samples j)) in
    let count = count_told parts s in
    let inside = c.loop-turned.self.within in
    let within : now.place ≤ end_place (world_of parts s) = omega (arith, inside, total, count) in
    let told : c.turn-turned.result ≡ turned.Moved = search rules in
    less_left (world_of parts s) now _ (c.turn-turned.ensures.turn ∙ (λ j. turn_of (world_of (inv.table j) (inv.samples j)) now)) within told

pub loop-turned-preserved : goal.loop-turned-preserved
loop-turned-preserved g c =
    let parts = c.args.self.now.table in
    let s = g.T.Trace.samples c.args.self.now.trace in
    let inv = c.loop-turned.invariant in
    let now = machine_of c.loop-turned.self (map (option_map (λ b. (goal.Listener-dyn g (b.vtable, b.value)).heard b.value)) c.loop-turned.listeners.boxes.items) in
    let total : total_of c.loop-turned.self.table (g.T.Trace.samples c.loop-turned.self.trace) ≡ total_of parts s = (λ j. total_of (inv.table j) (inv.samples j)) in
    let count = count_told parts s in
    let inside = c.loop-turned.self.within in
    let within : now.place ≤ end_place (world_of parts s) = omega (arith, inside, total, count) in
    let told : c.turn-turned.result ≡ turned.Moved = search rules in
    record {
      table = c.turn-turned.ensures.table ∙ inv.table;
      samples = c.turn-turned.ensures.samples ∙ inv.samples;
      left = sym (after_move (world_of parts s) now _ (c.turn-turned.ensures.turn ∙ (λ j. turn_of (world_of (inv.table j) (inv.samples j)) now)) within told) ∙ inv.left;
    }
