use Rattle.std.proofs.Common.{◌/◌, ◌%◌, map, sym, ap, ap₂, ◌∙◌}
use Rattle.machine_core.specs.declared.reply.Body.TheVariants as body
use Rattle.machine_core.specs.Machine.{line_at, gens_at}
use Rattle.dbg_core.specs.World.{world_of, path_at}
use Rattle.dbg_core.proofs.Positions.{slots_told, line_told}
use Rattle.dbg_core.proofs.stops.threads_body.Goals as goal

pub returns-clause-body : goal.returns-clause-body
returns-clause-body g c =
    let parts = c.args.table.now in
    let s = g.T.Trace.samples c.args.trace.now in
    let cycle = c.spot-cycle.ensures.cycle ∙ ap (λ n. c.args.p / n) (sym (slots_told parts s)) in
    let slot = c.spot-cycle.ensures.slot ∙ ap (λ n. c.args.p % n) (sym (slots_told parts s)) in
    let gens = c.new.ensures ∙ c.in_ok-gens.ensures s ∙ ap (gens_at (world_of parts s)) slot in
    let line = sym (line_told parts s c.spot-cycle.result.1 c.slot.result.now c.slot.ensures) ∙ ap (line_at (world_of parts s)) slot in
    let paths = c.new-2.ensures ∙ c.in_ok-paths.ensures
    ∙ ap (map (path_at parts)) (c.deref.ensures.value ∙ c.in_ok-threads.ensures.threads ∙ ap₂ (λ t k. (world_of parts s).threads t k) cycle slot) in
    (λ j. body.Threads (c.at_place-at.ensures j) (gens j) (line j) (paths j))
