use Rattle.std.proofs.Common.{ap, ◌∙◌}
use Rattle.dap_link.specs.Conversation.{line_told}
use Rattle.dap_link.proofs.breaking.set_line.Goals as goal

pub returns-clause-left : goal.returns-clause-left
returns-clause-left g c = λ read reader. c.in_ok-put_line.ensures _ ∙ ap (λ a. line_told c.args.file c.args.asked.now.line a.0 c.args.set.now.items c.args.lines.now.items a.1) (c.in_ok-body.ensures.told read reader)
