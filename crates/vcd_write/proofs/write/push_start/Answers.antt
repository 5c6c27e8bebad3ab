use Rattle.std.proofs.Common.{List, ℕ, ◌++◌, ◌∷◌, ◌∙◌, ap, ap₂}
use Rattle.net_core.specs.Nets.{NetParts}
use Rattle.design_core.specs.declared.ports.Ports.{Ports}
use Rattle.vcd_text.specs.Dump.{front_text}
use Rattle.vcd_text.specs.Waves.{clock}
use Rattle.vcd_write.specs.Run.{variables_of}
use Rattle.vcd_write.proofs.Pieces.{start_written}
use Rattle.vcd_write.proofs.write.push_start.Goals as goal

pub returns-clause-text : goal.returns-clause-text
returns-clause-text c =
    start_written c.args.trace.now.net c.args.trace.now.stim c.args.text.now.items c.push_front.new.text.items c.push_bit.new.text.items c.push_first.new.text.items c.extend_from_slice.new.self.items
    (c.in_ok-push_front.ensures ∙ ap₂ (λ (net : NetParts) (ports : Ports). c.args.text.now.items ++ front_text ports.module (clock ∷ variables_of net)) c.net-net.ensures.parts c.ports-ports.ensures.ports)
    c.in_ok-push_bit.ensures c.in_ok-values.ensures.text c.in_ok-extend_from_slice.ensures.items
