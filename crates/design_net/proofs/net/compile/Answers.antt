use Rattle.std.proofs.Common.{sym, subst, length}
use Rattle.design_core.specs.DesignView.{design_of}
use Rattle.world_core.specs.declared.mode.Mode.{Mode}
use Rattle.check_exec.specs.Premises.{IsSound}
use Rattle.lower_core.specs.Lowered.{IsLowered}
use Rattle.trim_core.specs.Trimmed.{IsTrimmed}
use Rattle.net_trim.specs.Whole.{Ordered, IsLoweredOf}
use Rattle.design_net.proofs.net.compile.Goals as goal

pub trim-requires : goal.trim-requires
trim-requires c =
    let sound : IsSound (design_of c.args.design.now) = record { kept = c.args.design.now.kept; accepted = c.requires.accepted } in
    let lowered = subst (λ (m : Mode). IsLowered (design_of c.args.design.now) (length c.args.order.now) m c.in_ok-lowered.lowered) (sym c.in_ok-lowered.ensures.lowered.mode) c.in_ok-lowered.ensures.lowered in
    record { of = record { design = design_of c.args.design.now; pairs = c.args.order.now }; is = record { sound = sound; order = c.requires.order; lowered = lowered } }

pub returns : goal.returns
returns c =
    let sound : IsSound (design_of c.args.design.now) = record { kept = c.args.design.now.kept; accepted = c.requires.accepted } in
    let lowered = subst (λ (m : Mode). IsLowered (design_of c.args.design.now) (length c.args.order.now) m c.in_ok-lowered.lowered) (sym c.in_ok-lowered.ensures.lowered.mode) c.in_ok-lowered.ensures.lowered in
    let of : Ordered = record { design = design_of c.args.design.now; pairs = c.args.order.now } in
    let is : IsLoweredOf of c.in_ok-lowered.lowered = record { sound = sound; order = c.requires.order; lowered = lowered } in
    record { ok = subst (λ (m : Mode). IsTrimmed (design_of c.args.design.now) (length c.args.order.now) m c.in_ok-net.net c.in_ok-net.table) c.in_ok-lowered.ensures.lowered.mode (c.in_ok-net.ensures of is) }
