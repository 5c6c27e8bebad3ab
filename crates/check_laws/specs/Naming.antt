-- When each name that a design reads or assigns is declared.
use Rattle.std.specs.Prelude.{◌≡◌, Bool, true, false, ◌⊎◌, List}
use Rattle.exec_core.specs.Block.{Name}
use Rattle.list_core.specs.Lists.{EachOf, IsIn}
use Rattle.design_core.specs.declared.variant.Signal.{Signal}
use Rattle.design_core.specs.declared.variant.Kind.{Kind}
use Rattle.design_core.specs.Design.{Expr, Read, Out, Value, Unary, Binary, Mux, Zext, Slice, Stmt, Assign, Let, If, Case, Body, Done, Then, Else, NoElse, Otherwise, Arms, NoArms, ThenArm, Conn, Child, Variant, Design}
use Rattle.design_core.specs.Slots.{let_of, lets_of, arms_lets}
use Rattle.check_core.specs.declared.fault.Refusal.TheVariants.{UnknownName}
use Rattle.check_core.specs.Names.{any_kind, is_register, is_driven}
use Rattle.check_laws.specs.Kinds.{IsUsed, IsNotRefusedFor}

-- a signal of some kinds has the name
pub record IsSignal (kinds : Kind → Bool) (signals : List Signal) (x : Name) : Type 0 where
  pub signal : Signal
  pub among : IsIn signal signals
  pub of_kind : kinds signal.kind ≡ true
  pub named : signal.name ≡ x

-- a child has the name
pub record IsChild (children : List Child) (u : Name) : Type 0 where
  pub child : Child
  pub among : IsIn child children
  pub named : child.name ≡ u

-- each read of an expression is of a known name, or of an output of a child
abbrev pub ReadsKnown : (Name → Type 0) → (Name → Type 0) → Expr → Type 0
ReadsKnown known child (Read x) = known x
ReadsKnown known child (Out u q) = child u
ReadsKnown known child (Value l) = Unit {0}
ReadsKnown known child (Unary o e) = ReadsKnown known child e
ReadsKnown known child (Binary o a b) = ReadsKnown known child a × ReadsKnown known child b
ReadsKnown known child (Mux c a b) = ReadsKnown known child c × (ReadsKnown known child a × ReadsKnown known child b)
ReadsKnown known child (Zext e n) = ReadsKnown known child e
ReadsKnown known child (Slice e h l) = ReadsKnown known child e

-- what may be read in a block of a module, behind these lets
abbrev pub IsReadable : Variant → (Name → Type 0) → Name → Type 0
IsReadable v lets x = lets x ⊎ IsSignal any_kind v.signals x

-- a `comb` assigns wires and outputs, an `ff` registers
abbrev pub IsTarget : Variant → Bool → Name → Type 0
IsTarget v false x = IsSignal is_driven v.signals x
IsTarget v true x = IsSignal is_register v.signals x

-- each name that a statement reads is readable, and its target is one; a let is readable from its statement on
abbrev mutual
  pub NamesStmt : Variant → Bool → (Name → Type 0) → Stmt → Type 0
  NamesStmt v clocked lets (Assign slot line gens x part e) = ReadsKnown (IsReadable v lets) (IsChild v.children) e × IsTarget v clocked x
  NamesStmt v clocked lets (Let slot line gens x e) = ReadsKnown (IsReadable v lets) (IsChild v.children) e
  NamesStmt v clocked lets (If slot line gens c first second) =
      ReadsKnown (IsReadable v lets) (IsChild v.children) c × (NamesBody v clocked lets first × NamesElse v clocked (λ y. lets y ⊎ IsIn y (lets_of first)) second)
  NamesStmt v clocked lets (Case slot line gens value arms other) =
      ReadsKnown (IsReadable v lets) (IsChild v.children) value × (NamesArms v clocked lets arms × NamesElse v clocked (λ y. lets y ⊎ IsIn y (arms_lets arms)) other)

  pub NamesBody : Variant → Bool → (Name → Type 0) → Body → Type 0
  NamesBody v clocked lets Done = Unit {0}
  NamesBody v clocked lets (Then s rest) = NamesStmt v clocked lets s × NamesBody v clocked (λ y. lets y ⊎ IsIn y (let_of s)) rest

  pub NamesElse : Variant → Bool → (Name → Type 0) → Else → Type 0
  NamesElse v clocked lets NoElse = Unit {0}
  NamesElse v clocked lets (Otherwise body) = NamesBody v clocked lets body

  pub NamesArms : Variant → Bool → (Name → Type 0) → Arms → Type 0
  NamesArms v clocked lets NoArms = Unit {0}
  NamesArms v clocked lets (ThenArm tests body rest) = NamesBody v clocked lets body × NamesArms v clocked (λ y. lets y ⊎ IsIn y (lets_of body)) rest

-- no let stands in front of a block, or at a connection
abbrev pub no_let : Name → Type 0
no_let x = ⊥

pub record NamesAreDeclared (v : Variant) : Type 0 where
  pub connections : EachOf (λ c. EachOf (λ (k : Conn). ReadsKnown (IsReadable v no_let) (IsChild v.children) k.value) c.conns) v.children
  pub blocks : EachOf (λ b. NamesBody v b.clocked no_let b.body) v.blocks

-- a design whose names are declared is not refused for an unknown one
abbrev pub KnownAreNotRefused : Type 0
KnownAreNotRefused = (d : Design) → ((v : Variant) → IsUsed d v → NamesAreDeclared v) → IsNotRefusedFor UnknownName d
