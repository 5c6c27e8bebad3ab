-- Elaborated designs, without where they lie in memory. A name is the list of its bytes.
use Rattle.std.specs.Prelude.{◌≡◌, ℕ, ℤ, pos, negsuc, int_le, Bool, true, ◌&&◌, List, [], ◌∷◌, Option}
use Rattle.design_core.specs.declared.expr.UnOp.{UnOp}
use Rattle.design_core.specs.declared.expr.Op.{Op}
use Rattle.design_core.specs.declared.expr.Literal.{Literal}
use Rattle.design_core.specs.declared.variant.Signal.{Signal}
use Rattle.design_core.specs.declared.design.Instance.{Instance}
use Rattle.exec_core.specs.Block.{Name}
-- the generator variables at a place, with their numbers
pub use Rattle.gen_scope.specs.Gens.{Gens}

-- from -2^62 to 2^62
abbrev pub in_range : ℤ → Bool
in_range n = int_le (negsuc 4611686018427387903) n && int_le n (pos 4611686018427387904)

abbrev pub IsInRange : ℤ → Type 0
IsInRange n = in_range n ≡ true

abbrev pub AreInRange : Gens → Type 0
AreInRange [] = Unit {0}
AreInRange (g ∷ gens) = IsInRange g.1 × AreInRange gens

-- an expression over the names of an instance
pub data Expr : Type 0 where
  Read : Name → Expr
  Out : Name → Name → Expr
  Value : Literal → Expr
  Unary : UnOp → Expr → Expr
  Binary : Op → Expr → Expr → Expr
  Mux : Expr → Expr → Expr → Expr
  Zext : Expr → ℤ → Expr
  Slice : Expr → ℤ → ℤ → Expr

-- a statement, with its slot, its line and the generator variables at it: an assignment, to a name or to the bits of it from one number
-- down to another; a `let`; an `if`; or a `case`, whose arms have their literals and what they hold
mutual
  pub data Stmt : Type 0 where
    Assign : (slot line : ℕ) → Gens → Name → Option (ℤ × ℤ) → Expr → Stmt
    Let : (slot line : ℕ) → Gens → Name → Expr → Stmt
    If : (slot line : ℕ) → Gens → Expr → Body → Else → Stmt
    Case : (slot line : ℕ) → Gens → Expr → Arms → Else → Stmt

  pub data Body : Type 0 where
    Done : Body
    Then : Stmt → Body → Body

  pub data Else : Type 0 where
    NoElse : Else
    Otherwise : Body → Else

  pub data Arms : Type 0 where
    NoArms : Arms
    ThenArm : List Literal → Body → Arms → Arms

-- statements of a list
abbrev pub body : List Stmt → Body
body [] = Done
body (s ∷ rest) = Then s (body rest)

-- arms of a list
abbrev pub arms_from : List (List Literal × Body) → Arms
arms_from [] = NoArms
arms_from (arm ∷ rest) = ThenArm arm.0 arm.1 (arms_from rest)

pub record Conn : Type 0 where
  pub line : ℕ
  pub port : Name
  pub value : Expr

-- a child: its line and name, its variant by number, its connections
pub record Child : Type 0 where
  pub line : ℕ
  pub name : Name
  pub variant : ℕ
  pub conns : List Conn

pub record Block : Type 0 where
  pub line : ℕ
  pub clocked : Bool
  pub body : Body

-- a module with its parameters
pub record Variant : Type 0 where
  pub «module» : Name
  pub params : Gens
  pub signals : List Signal
  pub children : List Child
  pub blocks : List Block

-- a design: the module of its top, its variants, and its instances in preorder
pub record Design : Type 0 where
  pub top : Name
  pub variants : List Variant
  pub instances : List Instance
