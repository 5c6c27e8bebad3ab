-- The part of Verilog that a net is printed in.
use Rattle.std.specs.Prelude.{ℕ, List}
use Rattle.bv_core.specs.Value.{Bits}

-- a name: one of the source, or that of a number
pub data Identifier : Type 0 where
  Given : List ℕ → Identifier
  Numbered : ℕ → Identifier

-- what stands before one operand: ~ & | ^
pub data Prefix : Type 0 where
  Invert : Prefix
  AllOf : Prefix
  AnyOf : Prefix
  ParityOf : Prefix

-- what stands between two operands: + - * & | ^ == != < <= << >>
pub data Infix : Type 0 where
  Plus : Infix
  Minus : Infix
  Times : Infix
  BitAnd : Infix
  BitOr : Infix
  BitXor : Infix
  Equal : Infix
  Unequal : Infix
  Less : Infix
  AtMost : Infix
  ShiftLeft : Infix
  ShiftRight : Infix

-- the right side of an assignment: a literal, a name, an operator on names, two names joined, zeros of a width joined with
-- a name, the bits of a name from one place down to another, or a choice by the first name of the others
pub data Expression : Type 0 where
  Literal : Bits → Expression
  Copy : Identifier → Expression
  Before : Prefix → Identifier → Expression
  Between : Infix → Identifier → Identifier → Expression
  Join : Identifier → Identifier → Expression
  Pad : ℕ → Identifier → Expression
  Select : Identifier → (high low : ℕ) → Expression
  Choose : Identifier → Identifier → Identifier → Expression

-- a name is declared with its width: as a wire, or as a register with the value that it starts with
pub data Declaration : Type 0 where
  Wire : ℕ → Identifier → Declaration
  Reg : ℕ → Identifier → Bits → Declaration

-- a name is given the value of an expression
pub record Assignment : Type 0 where
  pub target : Identifier
  pub value : Expression

-- a register takes the value of a name at each rising edge of the clock
pub record Step : Type 0 where
  pub register : Identifier
  pub next : Identifier

-- a module: its name, its ports beside the clock, each a name with its width, and what stands in it, in order
pub record Module : Type 0 where
  pub name : List ℕ
  pub inputs : List (List ℕ × ℕ)
  pub outputs : List (List ℕ × ℕ)
  pub declarations : List Declaration
  pub assignments : List Assignment
  pub steps : List Step
