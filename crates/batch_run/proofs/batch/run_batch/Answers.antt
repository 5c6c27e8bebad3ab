use Rattle.std.proofs.Common.{◌≡◌, [], map, option_map, refl, ◌∙◌, arith, rules}
use Rattle.std.proofs.lemmas.Result.{err_from_is_err_and, on_ok_weaker, on_err_weaker}
use Rattle.io_edge.proofs.Growth.{no_growth}
use Rattle.dbg_core.specs.World.{world_of}
use Rattle.dbg_core.specs.State.{machine_of}
use Rattle.batch_run.specs.Texts.{lines_of}
use Rattle.batch_run.proofs.Going.{starts, ran_alike, goes_on, fails, gives_up, ended, ended_front}
use Rattle.batch_run.proofs.batch.run_batch.Goals as goal

pub returns-in_err-session-clause-front : goal.returns-in_err-session-clause-front
returns-in_err-session-clause-front g c =
    let p = err_from_is_err_and c.from_residual.result c.from_residual.ensures.1 in
    rw (p.1) (λ read reader. no_growth _ _ _ refl)

pub loop-line-init : goal.loop-line-init
loop-line-init g c =
    rw (c.in_ok-session.ensures.ok, c.new-text.ensures.items) (record { table = refl; samples = refl; going = starts _ _ _ _; later = search rules })

pub returns-in_err-asked-clause-front : goal.returns-in_err-asked-clause-front
returns-in_err-asked-clause-front g c =
    let p = err_from_is_err_and c.from_residual-in_err-asked.result c.from_residual-in_err-asked.ensures.1 in
    rw (p.1) (gives_up _ _ _ _ _ _ _ _ c.loop-line.invariant.going)

pub returns-in_err-answered-clause-front : goal.returns-in_err-answered-clause-front
returns-in_err-answered-clause-front g c =
    let p = err_from_is_err_and c.from_residual-in_err-answered.result c.from_residual-in_err-answered.ensures.1 in
    rw (p.1) (gives_up _ _ _ _ _ _ _ _ c.loop-line.invariant.going)

pub returns-in_err-rest-clause-front : goal.returns-in_err-rest-clause-front
returns-in_err-rest-clause-front g c =
    let i = c.loop-line.invariant in
    let e = c.deref_mut.ensures.value in
    let table : c.deref_mut.result.now.table ≡ c.args.session.table = (λ j. (e j).table) ∙ i.table in
    let samples : g.T.Trace.samples c.deref_mut.result.now.trace ≡ g.T.Trace.samples c.args.session.trace = (λ j. g.T.Trace.samples (e j).trace) ∙ i.samples in
    let p = err_from_is_err_and c.from_residual-in_err-rest.result c.from_residual-in_err-rest.ensures.1 in
    rw (p.1) (fails _ _ _ _ _ _ c.in-Some.behind.now _ _ _ c.in-Some.ensures.lines
    (λ read reader. ran_alike read _ _ _ _ _ _ _ (λ j. world_of (table j) (samples j)) (c.deref.ensures ∙ c.in_ok-asked.ensures) (λ j. machine_of (e j) (map (option_map (λ b. (goal.Listener-dyn g (b.vtable, b.value)).heard b.value)) c.loop-line.listeners.boxes.items)) (c.in_ok-answered.ensures.ran read reader))
    _ _ _ _ c.in_err-rest.ensures.front i.going)

pub loop-line-preserved : goal.loop-line-preserved
loop-line-preserved g c =
    let i = c.loop-line.invariant in
    let e = c.deref_mut.ensures.value in
    let table : c.deref_mut.result.now.table ≡ c.args.session.table = (λ j. (e j).table) ∙ i.table in
    let samples : g.T.Trace.samples c.deref_mut.result.now.trace ≡ g.T.Trace.samples c.args.session.trace = (λ j. g.T.Trace.samples (e j).trace) ∙ i.samples in
    record {
      table = c.answer.ensures.table ∙ table;
      samples = c.answer.ensures.samples ∙ samples;
      going = rw c.in_ok-rest.ensures.left
          (goes_on _ _ _ _ _ _ _ _ _ _ c.in-Some.ensures.lines
          (λ read reader. ran_alike read _ _ _ _ _ _ _ (λ j. world_of (table j) (samples j)) (c.deref.ensures ∙ c.in_ok-asked.ensures) (λ j. machine_of (e j) (map (option_map (λ b. (goal.Listener-dyn g (b.vtable, b.value)).heard b.value)) c.loop-line.listeners.boxes.items)) (c.in_ok-answered.ensures.ran read reader))
          _ _ _ _ _ c.in_ok-rest.ensures.passes i.going);
      later = omega (arith, i.later, c.in_ok-rest.ensures.later);
    }

pub returns-clause-ok : goal.returns-clause-ok
returns-clause-ok g c =
    let done : lines_of c.loop-line.rest.now ≡ [] = search rules in
    on_ok_weaker c.close.result (λ h. ended _ _ _ _ _ _ _ _ _ c.loop-line.invariant.going done h) c.close.ensures.ok

pub returns-clause-front : goal.returns-clause-front
returns-clause-front g c =
    let done : lines_of c.loop-line.rest.now ≡ [] = search rules in
    on_err_weaker c.close.result (λ h. ended_front _ _ _ _ _ _ _ _ _ c.loop-line.invariant.going done h) c.close.ensures.front
