use Rattle.std.proofs.Common.{◌≡◌, true, false, map, option_map, ap, rules}
use Rattle.machine_core.specs.Journal.{Ran, is_bye}
use Rattle.dbg_core.specs.World.{world_of}
use Rattle.dbg_core.specs.State.{machine_of}
use Rattle.dbg_core.proofs.Batches.{last_of, run_of, left_of}
use Rattle.dbg_core.proofs.session.Session.follow.Goals as goal

pub returns-then-is_bye-clause-ran : goal.returns-then-is_bye-clause-ran
returns-then-is_bye-clause-ran g c =
    let last : is_bye c.args.reply.body ≡ true = search rules in
    let old = machine_of c.args.self.now (map (option_map (λ b. (goal.Listener-dyn g (b.vtable, b.value)).heard b.value)) c.args.listeners.now.boxes.items) in
    last_of (world_of c.args.self.now.table (g.T.Trace.samples c.args.self.now.trace)) old c.args.reply last

pub returns-then-is_bye-clause-after : goal.returns-then-is_bye-clause-after
returns-then-is_bye-clause-after g c =
    let last : is_bye c.args.reply.body ≡ true = search rules in
    let old = machine_of c.args.self.now (map (option_map (λ b. (goal.Listener-dyn g (b.vtable, b.value)).heard b.value)) c.args.listeners.now.boxes.items) in
    ap (λ (r : Ran). r.after) (last_of (world_of c.args.self.now.table (g.T.Trace.samples c.args.self.now.trace)) old c.args.reply last)

pub returns-in_err-notice-clause-after : goal.returns-in_err-notice-clause-after
returns-in_err-notice-clause-after g c =
    let other : is_bye c.args.reply.body ≡ false = search rules in
    let old = machine_of c.args.self.now (map (option_map (λ b. (goal.Listener-dyn g (b.vtable, b.value)).heard b.value)) c.args.listeners.now.boxes.items) in
    left_of (world_of c.args.self.now.table (g.T.Trace.samples c.args.self.now.trace)) old c.args.reply _ other c.run_out.ensures.after

pub returns-clause-ran : goal.returns-clause-ran
returns-clause-ran g c =
    let other : is_bye c.args.reply.body ≡ false = search rules in
    let old = machine_of c.args.self.now (map (option_map (λ b. (goal.Listener-dyn g (b.vtable, b.value)).heard b.value)) c.args.listeners.now.boxes.items) in
    run_of (world_of c.args.self.now.table (g.T.Trace.samples c.args.self.now.trace)) old c.args.reply _ other c.in_ok-notice.ensures.ran

pub returns-clause-after : goal.returns-clause-after
returns-clause-after g c =
    let other : is_bye c.args.reply.body ≡ false = search rules in
    let old = machine_of c.args.self.now (map (option_map (λ b. (goal.Listener-dyn g (b.vtable, b.value)).heard b.value)) c.args.listeners.now.boxes.items) in
    left_of (world_of c.args.self.now.table (g.T.Trace.samples c.args.self.now.trace)) old c.args.reply _ other c.run_out.ensures.after
