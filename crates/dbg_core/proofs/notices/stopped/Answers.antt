use Rattle.std.proofs.Common.{[], ◌∷◌, map, ap, ◌∙◌}
use Rattle.machine_core.specs.declared.turn.Notice.TheVariants as notice
use Rattle.trace_core.specs.Samples.{Samples}
use Rattle.machine_core.specs.Journal.{Noticed, watch_numbers}
use Rattle.dbg_core.specs.World.{world_of, path_at}
use Rattle.dbg_core.proofs.notices.stopped.Goals as goal

pub returns-clause-lines : goal.returns-clause-lines
returns-clause-lines g c = λ m same.
    let gens = c.new.ensures ∙ c.in_ok-gens.ensures (g.T.Trace.samples c.args.trace.now) in
    let paths = c.new-2.ensures ∙ c.in_ok-paths.ensures ∙ ap (map (path_at c.args.table.now)) (c.deref.ensures.value ∙ c.in_ok-threads.ensures.threads) in
    let watches =
    c.new-3.ensures ∙ c.in_ok-watches.ensures.numbers m same
    ∙ ap (λ (x : Samples). watch_numbers (world_of c.args.table.now x) m c.args.note.cycle c.args.note.slot) c.threads_in.ensures.kept in
    (λ j. Noticed (notice.Stopped c.args.note (gens j) (paths j) (watches j)) ∷ [])
