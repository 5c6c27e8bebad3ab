-- Parts that are assigned: their bounds in order, below the 128 bits that a value can have.
use Rattle.std.specs.Prelude.{◌<◌, ◌≤◌, List, [], ◌∷◌, Option, Some, None}
use Rattle.exec_core.specs.Block.{Part, Stmt, Assign, If, Body, Done, Then}
use Rattle.exec_core.specs.Cases.{Arm}

abbrev pub PartFits : Option Part → Type 0
PartFits None = Unit {0}
PartFits (Some part) = (part.low ≤ part.high) × (part.high < 128)

-- each part that is assigned in it does so
abbrev mutual
  pub StmtFits : Stmt → Type 0
  StmtFits (Assign slot key part value) = PartFits part
  StmtFits (If slot test yes_body no_body) = BodyFits yes_body × BodyFits no_body

  pub BodyFits : Body → Type 0
  BodyFits Done = Unit {0}
  BodyFits (Then statement rest) = StmtFits statement × BodyFits rest

abbrev pub ArmsFit : List Arm → Type 0
ArmsFit [] = Unit {0}
ArmsFit (arm ∷ arms) = BodyFits arm.body × ArmsFit arms
