-- What is read back of a text: one module and no other.
use Rattle.std.specs.Prelude.{◌≡◌, ℕ, ◌^◌, ◌<◌, ◌≤◌, List}
use Rattle.bv_core.specs.Value.{IsBits}
use Rattle.gen_token.specs.Spelling.{IsName}
use Rattle.list_core.specs.Lists.{EachOf}
use Rattle.verilog_out.specs.Syntax.{Identifier, Given, Numbered, Expression, Literal, Copy, Before, Between, Join, Pad, Select, Choose, Declaration, Wire, Reg, Assignment, Step, Module}
use Rattle.verilog_out.specs.Spelling.{module_text}

-- a name of the source, or a number of 64 bits
abbrev pub IsIdentifier : Identifier → Type 0
IsIdentifier (Given name) = IsName name
IsIdentifier (Numbered number) = number < 2 ^ 64

-- identifiers, values, and numbers of 64 bits
abbrev pub IsExpression : Expression → Type 0
IsExpression (Literal b) = IsBits b
IsExpression (Copy a) = IsIdentifier a
IsExpression (Before sign a) = IsIdentifier a
IsExpression (Between sign a b) = IsIdentifier a × IsIdentifier b
IsExpression (Join a b) = IsIdentifier a × IsIdentifier b
IsExpression (Pad zeros a) = IsIdentifier a × (zeros < 2 ^ 64)
IsExpression (Select a high low) = IsIdentifier a × (high < 2 ^ 64) × (low < 2 ^ 64)
IsExpression (Choose c a b) = IsIdentifier c × IsIdentifier a × IsIdentifier b

-- one bit or more
abbrev pub IsDeclaration : Declaration → Type 0
IsDeclaration (Wire width a) = IsIdentifier a × (1 ≤ width) × (width < 2 ^ 64)
IsDeclaration (Reg width a start) = IsIdentifier a × (1 ≤ width) × (width < 2 ^ 64) × IsBits start

pub record IsAssignment (a : Assignment) : Type 0 where
  pub target : IsIdentifier a.target
  pub value : IsExpression a.value

pub record IsStep (s : Step) : Type 0 where
  pub register : IsIdentifier s.register
  pub next : IsIdentifier s.next

pub record IsPort (port : List ℕ × ℕ) : Type 0 where
  pub called : IsName port.0
  pub some : 1 ≤ port.1
  pub few : port.1 < 2 ^ 64

pub record IsModule (m : Module) : Type 0 where
  pub called : IsName m.name
  pub each_input : EachOf IsPort m.inputs
  pub each_output : EachOf IsPort m.outputs
  pub each_declaration : EachOf IsDeclaration m.declarations
  pub each_assignment : EachOf IsAssignment m.assignments
  pub each_step : EachOf IsStep m.steps

-- two modules with one text are one
abbrev pub TextsTellModules : Type 0
TextsTellModules = (m n : Module) → IsModule m → IsModule n → module_text m ≡ module_text n → m ≡ n
