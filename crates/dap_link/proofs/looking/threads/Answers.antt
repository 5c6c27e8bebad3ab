use Rattle.std.proofs.Common.{ap, ◌∙◌}
use Rattle.machine_core.specs.declared.request.Cmd.TheVariants as cmd
use Rattle.dbg_core.specs.World.{world_of}
use Rattle.dap_link.specs.Conversation.{asked_so}
use Rattle.dap_link.specs.State.{alone, world_in}
use Rattle.dap_link.specs.Reactions.{led_of}
use Rattle.dap_link.proofs.Told.{rows_told}
use Rattle.dap_link.proofs.looking.threads.Goals as goal

pub returns-clause-led : goal.returns-clause-led
returns-clause-led g c = λ read reader.
    ap (led_of (alone c.rows_now.new.session)) c.quiet.ensures
    ∙ rows_told _ _ _ _ (asked_so read (world_in c.args.session.now) (alone c.args.session.now) cmd.Threads) _
    (λ i. world_of (c.tell.ensures.table i) (c.tell.ensures.samples i)) (c.in_ok-tell.ensures.left read reader) c.rows_now.ensures.state
    (c.new.ensures ∙ c.in_ok-rows.ensures.rows)
