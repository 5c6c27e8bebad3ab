-- When each signal of a design is driven once.
use Rattle.std.specs.Prelude.{◌≡◌, true, ◌⊎◌, List, [], ◌∷◌, map}
use Rattle.exec_core.specs.Block.{Name}
use Rattle.list_core.specs.Lists.{EachOf, IsIn, AreApart}
use Rattle.design_core.specs.declared.variant.Signal.{Signal}
use Rattle.design_core.specs.Design.{Stmt, Assign, Let, If, Case, Body, Done, Then, Else, NoElse, Otherwise, Arms, NoArms, ThenArm, Conn, Block, Variant, Design}
use Rattle.check_core.specs.declared.fault.Refusal.TheVariants.{TwoDrivers, Undriven}
use Rattle.check_core.specs.Names.{is_driven}
use Rattle.check_laws.specs.Kinds.{IsUsed, IsNotRefusedFor}

-- some assignment in it, at whatever depth, has the name for its target, whole or in part
abbrev mutual
  pub Assigns : Stmt → Name → Type 0
  Assigns (Assign slot line gens x part e) y = y ≡ x
  Assigns (Let slot line gens x e) y = ⊥
  Assigns (If slot line gens c first second) y = BodyAssigns first y ⊎ ElseAssigns second y
  Assigns (Case slot line gens v arms other) y = ArmsAssign arms y ⊎ ElseAssigns other y

  pub BodyAssigns : Body → Name → Type 0
  BodyAssigns Done y = ⊥
  BodyAssigns (Then s rest) y = Assigns s y ⊎ BodyAssigns rest y

  pub ElseAssigns : Else → Name → Type 0
  ElseAssigns NoElse y = ⊥
  ElseAssigns (Otherwise body) y = BodyAssigns body y

  pub ArmsAssign : Arms → Name → Type 0
  ArmsAssign NoArms y = ⊥
  ArmsAssign (ThenArm tests body rest) y = BodyAssigns body y ⊎ ArmsAssign rest y

-- no two blocks of a list assign one name
abbrev pub AssignApart : List Block → Type 0
AssignApart [] = Unit {0}
AssignApart (b ∷ blocks) = EachOf (λ c. (x : Name) → BodyAssigns b.body x → BodyAssigns c.body x → ⊥) blocks × AssignApart blocks

-- some block assigns it
pub record IsAssigned (blocks : List Block) (x : Name) : Type 0 where
  pub block : Block
  pub among : IsIn block blocks
  pub assigns : BodyAssigns block.body x

-- no two connections of a child are to one port, no two blocks assign one name
pub record DrivenOnce (v : Variant) : Type 0 where
  pub ports : EachOf (λ c. AreApart (map (λ (k : Conn). k.port) c.conns)) v.children
  pub blocks : AssignApart v.blocks

-- and each wire and output is assigned by one
abbrev pub AllDriven : Variant → Type 0
AllDriven v = (s : Signal) → IsIn s v.signals → is_driven s.kind ≡ true → IsAssigned v.blocks s.name

abbrev pub OnceAreNotRefused : Type 0
OnceAreNotRefused = (d : Design) → ((v : Variant) → IsUsed d v → DrivenOnce v) → IsNotRefusedFor TwoDrivers d

abbrev pub DrivenAreNotRefused : Type 0
DrivenAreNotRefused = (d : Design) → ((v : Variant) → IsUsed d v → AllDriven v) → IsNotRefusedFor Undriven d
