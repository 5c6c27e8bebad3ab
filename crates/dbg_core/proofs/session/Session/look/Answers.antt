use Rattle.std.proofs.Common.{◌≡◌, ◌<◌, ℕ, sym, ap, ap₂, ◌∙◌, subst}
use Rattle.trace_core.specs.Samples.{Samples}
use Rattle.trace_world.specs.Fitting.{FitsTable}
use Rattle.machine_core.specs.Search.{nearer_found}
use Rattle.machine_core.specs.Laws.{found_by}
use Rattle.slot_sched.specs.Armed.{breakpoints}
use Rattle.site_core.specs.Positions.{total_of}
use Rattle.slot_sched.specs.Scan as sched
use Rattle.watch.specs.Watching as watching
use Rattle.dbg_core.specs.World.{world_of}
use Rattle.dbg_core.specs.State.{machine_of}
use Rattle.dbg_core.proofs.Own.{own_again, watches_again}
use Rattle.dbg_core.proofs.Turns.{nearer_hit}
use Rattle.dbg_core.proofs.session.Session.look.Goals as goal

pub search-found-requires-clause-own : goal.search-found-requires-clause-own
search-found-requires-clause-own g c = own_again c.args.self.now.table c.args.self.now.schedule c.args.self.now.own

pub search-watched-requires-clause-own : goal.search-watched-requires-clause-own
search-watched-requires-clause-own g c = watches_again c.args.self.now.table c.args.self.now.watch c.args.self.now.own_watches

pub returns-in-Breakpoints-clause-value : goal.returns-in-Breakpoints-clause-value
returns-in-Breakpoints-clause-value g c = λ heard.
    let w = world_of c.args.self.now.table (g.T.Trace.samples c.args.self.now.trace) in
    c.nearer.ensures
    ∙ ap₂ (nearer_found c.args.way)
    (c.search-watched.ensures.value ∙ ap (λ (x : Samples). watching.searched (world_of c.args.self.now.table x) (watching.watches c.args.self.now.watch) c.args.way c.args.self.now.place) c.search-found.ensures.kept)
    (c.search-found.ensures.value ∙ ap (λ want. sched.searched w (breakpoints c.args.self.now.schedule) want c.args.way c.args.self.now.place) c.in-Breakpoints.is)
    ∙ ap (found_by w (machine_of c.args.self.now heard) c.args.way) (sym c.in-Breakpoints.is)

pub returns-in-Breakpoints-clause-hit : goal.returns-in-Breakpoints-clause-hit
returns-in-Breakpoints-clause-hit g c = λ p e.
    let total = total_of c.args.self.now.table (g.T.Trace.samples c.args.self.now.trace) in
    nearer_hit c.args.way c.search-watched.result c.search-found.result total
    (λ q h. subst (λ (x : Samples). q < total_of c.args.self.now.table x) c.search-found.ensures.kept (c.search-watched.ensures.hit q h)) c.search-found.ensures.hit p (sym c.nearer.ensures ∙ e)

pub returns-in-Step-clause-value : goal.returns-in-Step-clause-value
returns-in-Step-clause-value g c = λ heard.
    let w = world_of c.args.self.now.table (g.T.Trace.samples c.args.self.now.trace) in
    c.search-found.ensures.value ∙ ap (λ want. sched.searched w (breakpoints c.args.self.now.schedule) want c.args.way c.args.self.now.place) c.in-Step.is
    ∙ ap (found_by w (machine_of c.args.self.now heard) c.args.way) (sym c.in-Step.is)
