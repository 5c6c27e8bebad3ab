-- When each path through a block assigns what the block assigns, and assigns a name before it reads it.
use Rattle.std.specs.Prelude.{◌≡◌, ℕ, ◌<◌, ◌≤◌, ℤ, true, false, ◌⊎◌, List, [], ◌∷◌, ◌++◌, Option, Some, None}
use Rattle.exec_core.specs.Block.{Name}
use Rattle.list_core.specs.Lists.{EachOf, IsIn}
use Rattle.design_core.specs.Design.{Expr, Read, Out, Value, Unary, Binary, Mux, Zext, Slice, Stmt, Assign, Let, If, Case, Body, Done, Then, Else, NoElse, Otherwise, Arms, NoArms, ThenArm, Block, Variant, Design}
use Rattle.design_core.specs.Slots.{lets_of}
use Rattle.design_core.specs.Widths.{bits}
use Rattle.check_core.specs.declared.fault.Refusal.TheVariants.{Latch, ReadBeforeWrite}
use Rattle.check_core.specs.Widths.{is_slice}
use Rattle.check_core.specs.Paths.{declared_width, no_arms}
use Rattle.check_laws.specs.Driving.{BodyAssigns}
use Rattle.check_laws.specs.Kinds.{IsUsed, IsNotRefusedFor}

-- what is done on a path: an expression is evaluated; a name is assigned, as a whole or from one bit down to another
pub data Deed : Type 0 where
  Evaluates : Expr → Deed
  Sets : Name → Option (ℤ × ℤ) → Deed

-- the bits that are assigned; bounds that are none of a slice assign nothing
abbrev pub Covers : Option (ℤ × ℤ) → ℕ → Type 0
Covers None i = Unit {0}
Covers (Some bounds) i = (is_slice bounds.0 bounds.1 ≡ true) × ((bits bounds.1 ≤ i) × (i ≤ bits bounds.0))

abbrev pub DoesSet : Name → ℕ → Deed → Type 0
DoesSet x i (Evaluates e) = ⊥
DoesSet x i (Sets y part) = (x ≡ y) × Covers part i

-- the bit of the name is assigned on the path
abbrev pub SetsBit : Name → ℕ → List Deed → Type 0
SetsBit x i [] = ⊥
SetsBit x i (deed ∷ path) = DoesSet x i deed ⊎ SetsBit x i path

-- one path, and another behind it
pub record OneThenOther (P Q : List Deed → Type 0) (path : List Deed) : Type 0 where
  pub front : List Deed
  pub back : List Deed
  pub before : P front
  pub after : Q back
  pub whole : path ≡ front ++ back

-- a condition is evaluated, or the value of a `case`, and then one of two branches is taken, whatever the value is
pub record OneBranch (c : Expr) (P Q : List Deed → Type 0) (path : List Deed) : Type 0 where
  pub branch : List Deed
  pub taken : P branch ⊎ Q branch
  pub whole : path ≡ Evaluates c ∷ branch

-- what is done on a path through it, in order. A path through a `case` takes one arm or its default, or nothing where there is no default; and nothing
-- in a `case` without an arm, which nobody writes
abbrev mutual
  pub StmtPath : Stmt → List Deed → Type 0
  StmtPath (Assign slot line gens x part e) path = path ≡ Evaluates e ∷ Sets x part ∷ []
  StmtPath (Let slot line gens x e) path = path ≡ Evaluates e ∷ Sets x None ∷ []
  StmtPath (If slot line gens c first second) path = OneBranch c (BodyPath first) (ElsePath second) path
  StmtPath (Case slot line gens v arms other) path = OneBranch v (λ arm. ArmPath arms arm ⊎ ((no_arms arms ≡ true) × (arm ≡ []))) (ElsePath other) path

  pub BodyPath : Body → List Deed → Type 0
  BodyPath Done path = path ≡ []
  BodyPath (Then s rest) path = OneThenOther (StmtPath s) (BodyPath rest) path

  pub ElsePath : Else → List Deed → Type 0
  ElsePath NoElse path = path ≡ []
  ElsePath (Otherwise body) path = BodyPath body path

  pub ArmPath : Arms → List Deed → Type 0
  ArmPath NoArms path = ⊥
  ArmPath (ThenArm tests body rest) path = BodyPath body path ⊎ ArmPath rest path

-- an expression reads the name
abbrev pub ReadsName : Expr → Name → Type 0
ReadsName (Read x) y = y ≡ x
ReadsName (Out u q) y = ⊥
ReadsName (Value l) y = ⊥
ReadsName (Unary o e) y = ReadsName e y
ReadsName (Binary o a b) y = ReadsName a y ⊎ ReadsName b y
ReadsName (Mux c a b) y = ReadsName c y ⊎ (ReadsName a y ⊎ ReadsName b y)
ReadsName (Zext e n) y = ReadsName e y
ReadsName (Slice e h l) y = ReadsName e y

-- a name that the block itself sets: a let, or a target of a `comb`; what an `ff` assigns shows in the next cycle only
abbrev pub IsOwnName : Block → Name → Type 0
IsOwnName b x = IsIn x (lets_of b.body) ⊎ ((b.clocked ≡ false) × BodyAssigns b.body x)

-- each path through a `comb` assigns each bit of each name that it assigns to, whole or in part, on some path
abbrev pub AssignsAlways : Variant → Block → Type 0
AssignsAlways v b =
    b.clocked ≡ false → (x : Name) → BodyAssigns b.body x → (i : ℕ) → i < declared_width v.signals x → (path : List Deed) → BodyPath b.body path → SetsBit x i path

-- wherever a path evaluates an expression that reads an own name of the block, whole or in part, it has assigned each bit of that name before
abbrev pub AssignsFirst : Variant → Block → Type 0
AssignsFirst v b =
    (front back : List Deed) (e : Expr) → BodyPath b.body (front ++ Evaluates e ∷ back) → (x : Name) → ReadsName e x → IsOwnName b x → (i : ℕ) → i < declared_width v.signals x → SetsBit x i front

-- a design whose paths leave no target out is not refused for a latch
abbrev pub AlwaysAreNotRefused : Type 0
AlwaysAreNotRefused = (d : Design) → ((v : Variant) → IsUsed d v → EachOf (AssignsAlways v) v.blocks) → IsNotRefusedFor Latch d

-- and one whose paths read no own name too early is not refused for that
abbrev pub FirstAreNotRefused : Type 0
FirstAreNotRefused = (d : Design) → ((v : Variant) → IsUsed d v → EachOf (AssignsFirst v) v.blocks) → IsNotRefusedFor ReadBeforeWrite d
