use Rattle.std.proofs.Common.{ap, ◌∙◌}
use Rattle.dap_link.specs.Conversation.{keeping, led_by}
use Rattle.dap_link.specs.Conversing.{conversation_of}
use Rattle.dap_link.specs.State.{alone, world_in}
use Rattle.dap_link.proofs.Reacting.{other_reaction}
use Rattle.dap_link.proofs.adapter.Adapter.react.Goals as goal

pub returns-in_ok-reacted-in_default-clause-reaction : goal.returns-in_ok-reacted-in_default-clause-reaction
returns-in_ok-reacted-in_default-clause-reaction g c = λ read reader.
    let w = world_in c.args.self.now.session in
    ap (keeping c.args.self.now.set.items) (c.in_ok-reacted-in_default.ensures.led read reader)
    ∙ ap (λ names. keeping c.args.self.now.set.items (led_by read w names (alone c.args.self.now.session) c.args.cmd.now)) c.items-in_default.ensures
    ∙ other_reaction read w c.args.self.now.names (conversation_of c.args.self.now) c.args.cmd.now c.in_default.not-SetBreakpoints
