-- What comes out of a walk: instances, each with what its module's body gives there.
use Rattle.std.specs.Prelude.{ℕ, List, Option}
use Rattle.design_core.specs.declared.Signal.{Signal}
use Rattle.exec_core.specs.Block.{Name}
use Rattle.design_core.specs.Design.{Gens, Stmt, Body, Done, Then, Conn, Block}

-- statements, and one more behind them
abbrev pub added : Body → Stmt → Body
added Done s = Then s Done
added (Then first rest) s = Then first (added rest s)

-- a child: its line and name, its module by the place in the source, its parameters, its connections
pub record Child : Type 0 where
  pub line : ℕ
  pub name : Name
  pub place : ℕ
  pub params : Gens
  pub conns : List Conn

-- what a module's body gives
pub record Content : Type 0 where
  pub signals : List Signal
  pub children : List Child
  pub blocks : List Block

-- an instance: its path, the number of its parent, its module and parameters, and what its body gives
pub record Instance : Type 0 where
  pub path : Name
  pub parent : Option ℕ
  pub place : ℕ
  pub params : Gens
  pub content : Content
