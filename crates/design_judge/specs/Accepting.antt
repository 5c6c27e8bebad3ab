-- A design that is accepted, with the order of its driven signals and the ports of its top.
use Rattle.std.specs.Prelude.{List}
use Rattle.design_core.specs.declared.Ports.{Ports}
use Rattle.design_core.specs.Design.{Design}
use Rattle.check_exec.specs.Premises.{IsSound}
use Rattle.place_core.specs.Orders.{Pair, TellsOrder}
use Rattle.design_core.specs.DesignView.{design_of}
use Rattle.design_judge.specs.declared.accepted.Accepted.{Accepted}
use Rattle.design_judge.specs.Judgement.{ArePortsOf}

pub record Accepting : Type 0 where
  pub design : Design
  pub order : List Pair
  pub ports : Ports

-- the design is well formed and no check refuses it, the order is one of its driven signals, and the ports are its own
pub record IsKept (a : Accepting) : Type 0 where
  pub sound : IsSound a.design
  pub order : TellsOrder a.design a.order
  pub ports : ArePortsOf a.design a.ports

-- so a value of the code is one
abbrev pub accepting_of : Accepted → Accepting
accepting_of a = record { design = design_of a.design; order = a.order; ports = a.ports }
