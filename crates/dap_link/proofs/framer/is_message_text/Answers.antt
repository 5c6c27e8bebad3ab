use Rattle.std.proofs.Common.{rules, ◌∙◌}
use Rattle.dap_link.proofs.Utf8.{body_told, body_none}
use Rattle.dap_link.proofs.framer.is_message_text.Goals as goal

pub returns-in-Ok : goal.returns-in-Ok
returns-in-Ok c = c.is_message.ensures ∙ body_told _ _ c.in-Ok.ensures.ok.0 c.in-Ok.ensures.ok.1

pub returns-else-is_memory : goal.returns-else-is_memory
returns-else-is_memory c = body_none c.args.body.now (λ utf8. c.in-Err.ensures.err (search rules) utf8)
