-- A design has one value of ports.
use Rattle.std.proofs.Common.{◌≡◌, ◌∙◌, sym, Bool, IsTrue, ◌&&◌}
use Rattle.std.specs.List.{list_all}
use Rattle.std.proofs.Props.{props}
use Rattle.std.proofs.Math.Path.{PathP, to_path_p}
use Rattle.design_core.specs.declared.Ports.{Ports}
use Rattle.design_core.specs.Design.{Design}
use Rattle.design_core.specs.Ports.{has_width, have_names}
use Rattle.design_judge.specs.Judgement.{ArePortsOf}

true_prop : (b : Bool) → IsProp (IsTrue b)
true_prop b = hlevel props

pub one_ports : (d : Design) (p q : Ports) → ArePortsOf d p → ArePortsOf d q → p ≡ q
one_ports d p q a b = λ k. record { «module» = name k; inputs = inputs k; outputs = outputs k; registers = registers k; widths = widths k; names = names k }
  where
    name : p.module ≡ q.module
    name = a.module ∙ sym b.module

    inputs : p.inputs ≡ q.inputs
    inputs = a.inputs ∙ sym b.inputs

    outputs : p.outputs ≡ q.outputs
    outputs = a.outputs ∙ sym b.outputs

    registers : p.registers ≡ q.registers
    registers = a.registers ∙ sym b.registers

    widths : PathP (λ j. IsTrue (list_all has_width (inputs j) && list_all has_width (outputs j))) p.widths q.widths
    widths = to_path_p (λ j. IsTrue (list_all has_width (inputs j) && list_all has_width (outputs j))) {a = p.widths} {b = q.widths} (true_prop (list_all has_width q.inputs && list_all has_width q.outputs) _ q.widths)

    names : PathP (λ j. IsTrue (have_names (name j) (inputs j) (outputs j))) p.names q.names
    names = to_path_p (λ j. IsTrue (have_names (name j) (inputs j) (outputs j))) {a = p.names} {b = q.names} (true_prop (have_names q.module q.inputs q.outputs) _ q.names)
