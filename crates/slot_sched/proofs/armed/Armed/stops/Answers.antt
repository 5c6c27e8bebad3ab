use Rattle.std.proofs.Common.{◌==◌, ◌∙◌, List, All, ap, sym, subst}
use Rattle.std.specs.List.{list_any}
use Rattle.std.proofs.lemmas.List.Elements.{All-filter}
use Rattle.site_core.specs.declared.trap.Trap.{Trap}
use Rattle.site_core.specs.Sampled.{cycle_samples}
use Rattle.slot_sched.specs.Waiting.{IsReady, trap_stops}
use Rattle.slot_sched.proofs.Pieces.{stops_there}
use Rattle.slot_sched.proofs.armed.Armed.stops.Goals as goal

pub any_trap-requires-clause-ready : goal.any_trap-requires-clause-ready
any_trap-requires-clause-ready g c =
    subst (λ (l : List Trap). All (IsReady c.args.table.now (g.T.Trace.samples c.args.trace.now)) l) (sym c.at.ensures)
    (All-filter (λ (t : Trap). t.slot == c.args.slot) (IsReady c.args.table.now (g.T.Trace.samples c.args.trace.now)) c.args.self.now.traps.items c.requires.ready.traps)

pub returns : goal.returns
returns g c =
    let samples = cycle_samples (g.T.Trace.samples c.args.trace.now) (g.T.Trace.cursor c.args.trace.now) in
    c.any_trap.ensures ∙ ap (λ (l : List Trap). list_any (trap_stops c.args.table.now samples c.args.slot) l) c.at.ensures ∙ stops_there c.args.table.now samples c.args.slot c.args.self.now.traps.items
