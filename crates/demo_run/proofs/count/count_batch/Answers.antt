use Rattle.std.proofs.Common.{◌≡◌, map, option_map, refl, ◌∙◌}
use Rattle.dbg_core.specs.World.{world_of}
use Rattle.dbg_core.specs.State.{machine_of}
use Rattle.demo_run.proofs.Called.{stands_within}
use Rattle.demo_run.proofs.Counting.{begins, ran_alike, goes_on}
use Rattle.demo_run.proofs.count.count_batch.Goals as goal

pub loop-line-init : goal.loop-line-init
loop-line-init g c = rw (c.in_ok-session.ensures.ok) (record { table = refl; samples = refl; counting = begins _ _ _ _ c.requires.idle c.none-counts.ensures })

pub loop-line-preserved : goal.loop-line-preserved
loop-line-preserved g c =
    let i = c.loop-line.invariant in
    let e = c.deref_mut.ensures.value in
    let table : c.deref_mut.result.now.table ≡ c.args.session.table = (λ j. (e j).table) ∙ i.table in
    let samples : g.T.Trace.samples c.deref_mut.result.now.trace ≡ g.T.Trace.samples c.args.session.trace = (λ j. g.T.Trace.samples (e j).trace) ∙ i.samples in
    record {
      table = c.answer.ensures.table ∙ table;
      samples = c.answer.ensures.samples ∙ samples;
      counting = rw c.left-rest.ensures
          (goes_on _ _ _ _ _ _ _ _ _ _ _ _ c.in-Some.ensures.lines c.in-Some.ensures.shorter
          (λ read reader. ran_alike read _ _ _ _ _ _ _ (λ j. world_of (table j) (samples j)) (c.deref.ensures ∙ c.in_ok-asked.ensures) (λ j. machine_of (e j) (map (option_map (λ b. (goal.Listener-dyn g (b.vtable, b.value)).heard b.value)) c.loop-line.listeners.boxes.items)) (c.in_ok-answered.ensures.ran read reader))
          c.with-counts.ensures.adds c.with-counts.ensures.one (stands_within _ _ _ _ _ i.table i.samples c.loop-line.session.value.within) i.counting);
    }
