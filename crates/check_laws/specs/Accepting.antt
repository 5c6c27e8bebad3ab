-- What is accepted is typed, its names are declared, its signals are driven once, and its paths assign in time: the tests refuse everything else.
use Rattle.list_core.specs.Lists.{EachOf}
use Rattle.design_core.specs.Design.{Variant, Design}
use Rattle.check_exec.specs.Premises.{IsSound}
use Rattle.check_laws.specs.Kinds.{IsUsed}
use Rattle.check_laws.specs.Typing.{IsTypedDesign}
use Rattle.check_laws.specs.Naming.{NamesAreDeclared}
use Rattle.check_laws.specs.Driving.{DrivenOnce, AllDriven}
use Rattle.check_laws.specs.Assigning.{AssignsAlways, AssignsFirst}

-- in a well-formed design that no check refuses, each variant that an instance has
abbrev pub AcceptedAreTyped : Type 0
AcceptedAreTyped = (d : Design) → IsSound d → IsTypedDesign d

abbrev pub AcceptedAreNamed : Type 0
AcceptedAreNamed = (d : Design) → IsSound d → (v : Variant) → IsUsed d v → NamesAreDeclared v

abbrev pub AcceptedAreDriven : Type 0
AcceptedAreDriven = (d : Design) → IsSound d → (v : Variant) → IsUsed d v → DrivenOnce v × AllDriven v

abbrev pub AcceptedAreAssigned : Type 0
AcceptedAreAssigned = (d : Design) → IsSound d → (v : Variant) → IsUsed d v → EachOf (AssignsAlways v) v.blocks × EachOf (AssignsFirst v) v.blocks
