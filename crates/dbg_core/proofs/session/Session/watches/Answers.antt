use Rattle.std.proofs.lemmas.Result.{IfOk-weaker}
use Rattle.std.proofs.Common.{ℕ, refl, sym, ◌∙◌}
use Rattle.dbg_core.specs.World.{world_of}
use Rattle.machine_core.specs.Journal.{watch_numbers}
use Rattle.dbg_core.specs.State.{machine_of}
use Rattle.dbg_core.proofs.Own.{watches_again}
use Rattle.dbg_core.proofs.Positions.{stands_so}
use Rattle.dbg_core.proofs.session.Session.watches.Goals as goal

pub watches_at-requires-clause-own : goal.watches_at-requires-clause-own
watches_at-requires-clause-own g c = watches_again c.args.self.now.table c.args.self.now.watch c.args.self.now.own_watches

pub returns-in-Position-clause-numbers : goal.returns-in-Position-clause-numbers
returns-in-Position-clause-numbers g c =
    let w = world_of c.args.self.now.table (g.T.Trace.samples c.args.self.now.trace) in
    let so = stands_so c.args.self.now.table (g.T.Trace.samples c.args.self.now.trace) c.args.self.now.place c.in-Position.cycle c.in-Position.slot (sym c.in-Position.ensures) in
    IfOk-weaker c.watches_at.result _ _ (λ numbers told. λ heard. told (machine_of c.args.self.now heard) refl ∙ (λ j. watch_numbers w (machine_of c.args.self.now heard) (so.0 j) (so.1 j))) c.watches_at.ensures.numbers
