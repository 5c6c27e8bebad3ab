use Rattle.std.proofs.Common.{◌<◌, ◌++◌, length, sym, ap, ◌∙◌, subst}
use Rattle.verilog_out.specs.Printed.{is_register}
use Rattle.verilog_out.proofs.NextValues.{next_within, step_line}
use Rattle.verilog_out.proofs.line.push_step.Goals as goal

pub push_step_to-requires : goal.push_step_to-requires
push_step_to-requires c =
    subst (λ n. n < length c.args.net.now.nodes) (sym (c.requires.nexts.each c.args.id.0 c.requires.node))
    (next_within c.args.net.now.nodes c.args.net.now.nexts c.requires.net.nexts c.args.id.0 c.requires.node)

pub returns : goal.returns
returns c =
    c.in_ok-push_step_to.ensures
    ∙ ap (λ l. c.args.text.now.items ++ l)
    (step_line c.args.net.now c.args.id.0 _
    (c.requires.nexts.each c.args.id.0 c.requires.node)
    (ap is_register (sym c.node.ensures.node) ∙ sym c.is_register.ensures ∙ c.if-not-is_register.false))
