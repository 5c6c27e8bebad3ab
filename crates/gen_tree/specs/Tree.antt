-- The trees of a source, without where they lie in memory. A name is the list of its bytes.
use Rattle.std.specs.Prelude.{ℕ, List, [], ◌∷◌, ◌++◌, Option, Bool}
use Rattle.gen_tree.specs.declared.expr.IntOp.{IntOp}
use Rattle.gen_tree.specs.declared.expr.Cmp.{Cmp}
use Rattle.gen_tree.specs.declared.expr.UnOp.{UnOp}
use Rattle.gen_tree.specs.declared.expr.Op.{Op}

-- a number, a name, an operator between two
pub data Int : Type 0 where
  num : ℕ → Int
  var : List ℕ → Int
  bin : IntOp → Int → Int → Int

-- a name, with an index or without
pub record Fam : Type 0 where
  pub name : List ℕ
  pub index : Option Int

-- a width and a value: as numbers, or as integers in `bits`
pub data Lit : Type 0 where
  plain : ℕ → ℕ → Lit
  bits : Int → Int → Lit

pub data Expr : Type 0 where
  read : Fam → Expr
  out : Fam → List ℕ → Expr
  value : Lit → Expr
  unary : UnOp → Expr → Expr
  binary : Op → Expr → Expr → Expr
  mux : Expr → Expr → Expr → Expr
  zext : Expr → Int → Expr
  slice : Expr → Int → Int → Expr

-- the number first is the line
mutual
  pub data Stmt : Type 0 where
    assign : ℕ → Fam → Option (Int × Int) → Expr → Stmt
    bind : ℕ → Fam → Expr → Stmt
    choose : ℕ → Expr → Stmts → Else → Stmt
    select : ℕ → Expr → Arms → Else → Stmt
    repeat : ℕ → List ℕ → Int → Int → Stmts → Stmt
    given : ℕ → Int → Cmp → Int → Stmts → Else → Stmt

  pub data Stmts : Type 0 where
    no_stmt : Stmts
    stmt : Stmt → Stmts → Stmts

  pub data Else : Type 0 where
    no_else : Else
    otherwise : Stmts → Else

  -- arms of a `case`, each with its literals
  pub data Arms : Type 0 where
    no_arm : Arms
    arm : List Lit → Stmts → Arms → Arms

pub record Param : Type 0 where
  pub name : List ℕ
  pub value : Int

pub record Conn : Type 0 where
  pub line : ℕ
  pub port : List ℕ
  pub value : Expr

mutual
  pub data Item : Type 0 where
    wire : ℕ → Fam → Int → Item
    reg : ℕ → Fam → Int → Lit → Item
    inst : ℕ → Fam → List ℕ → List Param → List Conn → Item
    comb : ℕ → Stmts → Item
    ff : ℕ → Stmts → Item
    repeat_items : ℕ → List ℕ → Int → Int → Items → Item
    given_items : ℕ → Int → Cmp → Int → Items → ElseItems → Item

  pub data Items : Type 0 where
    no_item : Items
    item : Item → Items → Items

  pub data ElseItems : Type 0 where
    no_else_items : ElseItems
    otherwise_items : Items → ElseItems

pub record Port : Type 0 where
  pub line : ℕ
  pub output : Bool
  pub name : List ℕ
  pub width : Int

pub record Module : Type 0 where
  pub line : ℕ
  pub name : List ℕ
  pub params : List Param
  pub ports : List Port
  pub items : Items

-- an import of the file that has this name
pub record Import : Type 0 where
  pub line : ℕ
  pub name : List ℕ

-- a source: its imports, and its modules
pub record Source : Type 0 where
  pub imports : List Import
  pub modules : List Module

-- the modules of sources, those of one file after those of the other
abbrev pub all_modules : List Source → List Module
all_modules [] = []
all_modules (s ∷ sources) = s.modules ++ all_modules sources

-- statements of a list
abbrev pub stmts : List Stmt → Stmts
stmts [] = no_stmt
stmts (s ∷ rest) = stmt s (stmts rest)

-- arms of a list
abbrev pub arms : List (List Lit × Stmts) → Arms
arms [] = no_arm
arms (a ∷ rest) = arm a.0 a.1 (arms rest)

-- items of a list
abbrev pub items : List Item → Items
items [] = no_item
items (i ∷ rest) = item i (items rest)
