use Rattle.std.proofs.Common.{◌≡◌, ◌++◌, ◌∷◌, [], true, sym, ap, ◌∙◌, subst}
use Rattle.exec_core.specs.Design.{place}
use Rattle.design_exec.specs.Processes.{is_signal_of}
use Rattle.ssa_nodes.specs.Parts.{design_in}
use Rattle.ssa_net.proofs.Outs.{top_signal, one_more, outputs_push}
use Rattle.ssa_net.proofs.outputs.push_output.Goals as goal

pub top_node-id-requires-clause-signal : goal.top_node-id-requires-clause-signal
top_node-id-requires-clause-signal c =
    let p = c.args.parts.now in
    subst (λ x. is_signal_of (design_in p) (place 0 x) ≡ true) (sym c.bytes.ensures) (top_signal (design_in p) c.requires.parts.parts.sound c.args.signal.now c.requires.signal).signal

pub returns-in_ok-push-in-Output : goal.returns-in_ok-push-in-Output
returns-in_ok-push-in-Output c =
    let p = c.args.parts.now in
    one_more p c.requires.parts c.args.builder.now _ _ c.args.signal.now c.bytes.result.now c.top_node-id.result c.in-Output.is c.bytes.ensures c.requires.signal c.top_node-id.ensures
    (outputs_push c.args.outputs.now.items c.push.new.self.items c.bytes.result.now c.top_node-id.result (c.in_ok-push-in-Output.ensures.items ∙ ap (λ x. c.args.outputs.now.items ++ (x, c.top_node-id.result) ∷ []) (c.in_ok-new-in-Output.ensures ∙ c.bytes-in-Output.ensures ∙ sym c.bytes.ensures)))
