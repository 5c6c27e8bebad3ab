-- When the expressions of a design are typed: a clause for each form, whatever is judged first.
use Rattle.std.specs.Prelude.{◌≡◌, ◌≢◌, ℕ, ◌+◌, ◌-◌, ◌<◌, ◌≤◌, ℤ, Bool, true, ◌⊎◌, List, Option, Some, None}
use Rattle.exec_core.specs.Block.{Name}
use Rattle.list_core.specs.Lists.{EachOf, IsIn}
use Rattle.design_core.specs.declared.expr.UnOp.{UnOp}
use Rattle.design_core.specs.declared.expr.UnOp.TheVariants as one
use Rattle.design_core.specs.declared.expr.Op.{Op}
use Rattle.design_core.specs.declared.expr.Op.TheVariants as two
use Rattle.design_core.specs.declared.expr.Literal.{Literal}
use Rattle.design_core.specs.declared.variant.Signal.{Signal}
use Rattle.design_core.specs.declared.variant.Kind.{Kind}
use Rattle.design_core.specs.declared.variant.Kind.TheVariants.{Input, Output, Wire, Reg, ChildOut}
use Rattle.design_core.specs.Design.{Expr, Read, Out, Value, Unary, Binary, Mux, Zext, Slice, Stmt, Assign, Let, If, Case, Body, Done, Then, Else, NoElse, Otherwise, Arms, NoArms, ThenArm, Conn, Child, Variant, Design}
use Rattle.check_core.specs.declared.fault.Refusal.TheVariants.{WidthMismatch}
use Rattle.check_core.specs.Names.{any_kind, is_input}
use Rattle.design_core.specs.Dotted.{below}
use Rattle.design_core.specs.WellFormed.{signals_at}
use Rattle.design_core.specs.Widths.{bits}
use Rattle.check_laws.specs.Kinds.{IsUsed, IsNotRefusedFor}

-- ---- the operators

-- the width of a result, where the operand has this width
abbrev pub UnaryGives : UnOp → ℕ → ℕ → Type 0
UnaryGives one.Not u w = w ≡ u
UnaryGives one.All u w = w ≡ 1
UnaryGives one.Any u w = w ≡ 1
UnaryGives one.Parity u w = w ≡ 1

-- where the operands have these widths
abbrev pub BinaryGives : Op → ℕ → ℕ → ℕ → Type 0
BinaryGives two.Add u v w = (u ≡ v) × (w ≡ u)
BinaryGives two.Sub u v w = (u ≡ v) × (w ≡ u)
BinaryGives two.Mul u v w = (u ≡ v) × (w ≡ u)
BinaryGives two.And u v w = (u ≡ v) × (w ≡ u)
BinaryGives two.Or u v w = (u ≡ v) × (w ≡ u)
BinaryGives two.Xor u v w = (u ≡ v) × (w ≡ u)
BinaryGives two.Eq u v w = (u ≡ v) × (w ≡ 1)
BinaryGives two.Ne u v w = (u ≡ v) × (w ≡ 1)
BinaryGives two.Lt u v w = (u ≡ v) × (w ≡ 1)
BinaryGives two.Le u v w = (u ≡ v) × (w ≡ 1)
BinaryGives two.Shl u v w = w ≡ u
BinaryGives two.Shr u v w = w ≡ u
BinaryGives two.Cat u v w = (w ≡ u + v) × (w ≤ 128)

-- ---- expressions

-- an expression has a width, where names have these widths. That literals fit theirs, that widths are from 1 to 128, and that a slice goes down
-- is the matter of another refusal
abbrev pub HasWidth : (Name → ℕ → Type 0) → Expr → ℕ → Type 0
HasWidth has (Read x) w = has x w
HasWidth has (Out u q) w = has (below u q) w
HasWidth has (Value l) w = w ≡ bits l.width
HasWidth has (Unary o e) w = (u : ℕ) × (HasWidth has e u × UnaryGives o u w)
HasWidth has (Binary o a b) w = (u v : ℕ) × (HasWidth has a u × (HasWidth has b v × BinaryGives o u v w))
HasWidth has (Mux c a b) w = HasWidth has c 1 × (HasWidth has a w × HasWidth has b w)
HasWidth has (Zext e n) w = (u : ℕ) × (HasWidth has e u × ((w ≡ bits n) × (u ≤ w)))
HasWidth has (Slice e h l) w = (u : ℕ) × (HasWidth has e u × ((bits h < u) × (w ≡ bits h + 1 - bits l)))

-- ---- statements

-- a let has the width of its expression from its statement on, whatever had its name before; other names keep theirs
abbrev pub WithLet : Name → Expr → (Name → ℕ → Type 0) → Name → ℕ → Type 0
WithLet x e has y w = ((y ≡ x) × HasWidth has e w) ⊎ ((y ≢ x) × has y w)

abbrev mutual
  pub After : Stmt → (Name → ℕ → Type 0) → Name → ℕ → Type 0
  After (Assign slot line gens x part e) has = has
  After (Let slot line gens x e) has = WithLet x e has
  After (If slot line gens c first second) has = AfterElse second (AfterBody first has)
  After (Case slot line gens v arms other) has = AfterElse other (AfterArms arms has)

  pub AfterBody : Body → (Name → ℕ → Type 0) → Name → ℕ → Type 0
  AfterBody Done has = has
  AfterBody (Then s rest) has = AfterBody rest (After s has)

  pub AfterElse : Else → (Name → ℕ → Type 0) → Name → ℕ → Type 0
  AfterElse NoElse has = has
  AfterElse (Otherwise body) has = AfterBody body has

  pub AfterArms : Arms → (Name → ℕ → Type 0) → Name → ℕ → Type 0
  AfterArms NoArms has = has
  AfterArms (ThenArm tests body rest) has = AfterArms rest (AfterBody body has)

-- how wide what is assigned to a target of this width is: as wide as the target, or as a slice that lies in it
abbrev pub PartGives : Option (ℤ × ℤ) → ℕ → ℕ → Type 0
PartGives None u w = w ≡ u
PartGives (Some bounds) u w = (bits bounds.0 < u) × (w ≡ bits bounds.0 + 1 - bits bounds.1)

-- what is assigned has the width of its target or of the slice of it, a let has a width, a condition has one bit, and the literals of the arms of
-- a `case` have the width of its value
abbrev mutual
  pub IsTypedStmt : (Name → ℕ → Type 0) → Stmt → Type 0
  IsTypedStmt has (Assign slot line gens x part e) = (u w : ℕ) × (has x u × (PartGives part u w × HasWidth has e w))
  IsTypedStmt has (Let slot line gens x e) = (w : ℕ) × HasWidth has e w
  IsTypedStmt has (If slot line gens c first second) = HasWidth has c 1 × (IsTypedBody has first × IsTypedElse (AfterBody first has) second)
  IsTypedStmt has (Case slot line gens v arms other) = (w : ℕ) × (HasWidth has v w × (IsTypedArms has w arms × IsTypedElse (AfterArms arms has) other))

  pub IsTypedBody : (Name → ℕ → Type 0) → Body → Type 0
  IsTypedBody has Done = Unit {0}
  IsTypedBody has (Then s rest) = IsTypedStmt has s × IsTypedBody (After s has) rest

  pub IsTypedElse : (Name → ℕ → Type 0) → Else → Type 0
  IsTypedElse has NoElse = Unit {0}
  IsTypedElse has (Otherwise body) = IsTypedBody has body

  pub IsTypedArms : (Name → ℕ → Type 0) → ℕ → Arms → Type 0
  IsTypedArms has w NoArms = Unit {0}
  IsTypedArms has w (ThenArm tests body rest) = EachOf (λ (l : Literal). bits l.width ≡ w) tests × (IsTypedBody has body × IsTypedArms (AfterBody body has) w rest)

-- ---- a module

-- a name is declared with a width: a signal of some kinds has the name, and each that has it is so wide
pub record IsDeclared (kinds : Kind → Bool) (signals : List Signal) (x : Name) (w : ℕ) : Type 0 where
  pub signal : Signal
  pub among : IsIn signal signals
  pub of_kind : kinds signal.kind ≡ true
  pub named : signal.name ≡ x
  pub wide : (s : Signal) → IsIn s signals → kinds s.kind ≡ true → s.name ≡ x → bits s.width ≡ w

-- a register starts with a value of its width
abbrev pub StartFits : Kind → ℕ → Type 0
StartFits Input w = Unit {0}
StartFits Output w = Unit {0}
StartFits Wire w = Unit {0}
StartFits (Reg start) w = bits start.width ≡ w
StartFits (ChildOut u q) w = Unit {0}

-- what is connected to an input of a child has its width
abbrev pub IsTypedConn : List Variant → Variant → Child → Conn → Type 0
IsTypedConn variants v c k = (w : ℕ) × (IsDeclared is_input (signals_at c.variant variants) k.port w × HasWidth (IsDeclared any_kind v.signals) k.value w)

pub record IsTyped (variants : List Variant) (v : Variant) : Type 0 where
  pub starts : EachOf (λ s. StartFits s.kind (bits s.width)) v.signals
  pub connections : EachOf (λ c. EachOf (IsTypedConn variants v c) c.conns) v.children
  pub blocks : EachOf (λ b. IsTypedBody (IsDeclared any_kind v.signals) b.body) v.blocks

-- ---- a design

abbrev pub IsTypedDesign : Design → Type 0
IsTypedDesign d = (v : Variant) → IsUsed d v → IsTyped d.variants v

-- it is not refused for widths that do not go together
abbrev pub TypedAreNotRefused : Type 0
TypedAreNotRefused = (d : Design) → IsTypedDesign d → IsNotRefusedFor WidthMismatch d
