use Rattle.std.proofs.Common.{◌≡◌, map, option_map, ◌∙◌, ap}
use Rattle.std.proofs.lemmas.Result.{IfOk-weaker}
use Rattle.machine_core.specs.Journal.{Ran, notices_of, until_idle, told_lines}
use Rattle.dbg_core.specs.World.{world_of}
use Rattle.dbg_core.specs.State.{machine_of}
use Rattle.dbg_core.proofs.session.Session.run_out.Goals as goal

pub returns-clause-ran : goal.returns-clause-ran
returns-clause-ran g c =
    let heard = map (option_map (λ b. (goal.Listener-dyn g (b.vtable, b.value)).heard b.value)) c.settle-turned.new.listeners.boxes.items in
    IfOk-weaker c.notice.result _ _
    (λ notice lines. (λ j. record {
      after = c.notice.ensures.state heard j;
      lines = (lines heard ∙ (λ i. notices_of (world_of (c.settle-turned.ensures.table i) (c.settle-turned.ensures.samples i)) (machine_of c.settle-turned.new.self heard) c.settle-turned.result)) j;
    }) ∙ c.settle-turned.ensures.ran) c.notice.ensures.lines

pub returns-clause-after : goal.returns-clause-after
returns-clause-after g c =
    let heard = map (option_map (λ b. (goal.Listener-dyn g (b.vtable, b.value)).heard b.value)) c.settle-turned.new.listeners.boxes.items in
    c.notice.ensures.state heard ∙ ap (λ (r : Ran). r.after) c.settle-turned.ensures.ran
