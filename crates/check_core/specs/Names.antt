-- Names that nothing has, and names that two things have.
use Rattle.std.specs.Prelude.{ℕ, Bool, false, true, ◌||◌, ◌&&◌, bytes_eq, List, [], ◌∷◌, ◌++◌, Option, Some, None, if◌then◌else◌, map}
use Rattle.std.specs.List.{list_any}
use Rattle.design_core.specs.declared.variant.Signal.{Signal}
use Rattle.design_core.specs.declared.variant.Kind.{Kind}
use Rattle.design_core.specs.declared.variant.Kind.TheVariants.{Input, Output, Wire, Reg, ChildOut}
use Rattle.design_core.specs.Design.{Expr, Read, Out, Value, Unary, Binary, Mux, Zext, Slice, Stmt, Assign, Let, If, Case, Conn, Child, Block, Variant}
use Rattle.check_core.specs.declared.fault.CheckFault.{CheckFault}
use Rattle.check_core.specs.declared.fault.CheckFault.TheVariants.{UnknownName, DuplicateName}
use Rattle.check_core.specs.declared.kinds.Kinds.{Kinds}
use Rattle.check_core.specs.declared.kinds.Kinds.TheVariants as kinds
use Rattle.names.specs.Known.{Name, Known, none, with, either}
use Rattle.design_core.specs.Dotted.{below}
use Rattle.design_core.specs.Statements.{statements}
use Rattle.design_core.specs.Heads.{head_of, let_name}
use Rattle.check_core.specs.Faults.{earlier, first_of, spot}

-- ---- what has a name

-- the signals of some kinds
abbrev pub named : (Kind → Bool) → List Signal → Known
named kinds signals x = list_any (λ s. kinds s.kind && bytes_eq x s.name) signals

abbrev pub any_kind : Kind → Bool
any_kind kind = true

abbrev pub is_input : Kind → Bool
is_input Input = true
is_input Output = false
is_input Wire = false
is_input (Reg start) = false
is_input (ChildOut u q) = false

abbrev pub is_register : Kind → Bool
is_register Input = false
is_register Output = false
is_register Wire = false
is_register (Reg start) = true
is_register (ChildOut u q) = false

abbrev pub is_child_output : Kind → Bool
is_child_output Input = false
is_child_output Output = false
is_child_output Wire = false
is_child_output (Reg start) = false
is_child_output (ChildOut u q) = true

-- what a `comb` assigns
abbrev pub is_driven : Kind → Bool
is_driven Input = false
is_driven Output = true
is_driven Wire = true
is_driven (Reg start) = false
is_driven (ChildOut u q) = false

abbrev pub child_named : List Child → Known
child_named children x = list_any (λ (c : Child). bytes_eq x c.name) children

-- some kinds of signals
abbrev pub kinds_of : Kinds → Kind → Bool
kinds_of kinds.Any = any_kind
kinds_of kinds.Inputs = is_input
kinds_of kinds.Driven = is_driven
kinds_of kinds.Registers = is_register
kinds_of kinds.ChildOutputs = is_child_output

-- ---- a name that nothing has

-- what may be read besides lets, which children there are, and what a `comb` and an `ff` may assign
pub record Scope : Type 0 where
  pub signal : Known
  pub child : Known
  pub driven : Known
  pub register : Known

abbrev pub scope_of : Variant → Scope
scope_of v = record {
  signal = named any_kind v.signals;
  child = child_named v.children;
  driven = named is_driven v.signals;
  register = named is_register v.signals;
}

-- a fault unless it is known
abbrev pub unless_known : Bool → CheckFault → Option CheckFault
unless_known true fault = None
unless_known false fault = Some fault

-- an expression from left to right, where these lets stand before it
abbrev pub unknown_read : Scope → Known → ℕ → Expr → Option CheckFault
unknown_read scope lets line (Read x) = unless_known (lets x || scope.signal x) (UnknownName (spot line x))
unknown_read scope lets line (Out u q) = unless_known (scope.child u) (UnknownName (spot line (below u q)))
unknown_read scope lets line (Value l) = None
unknown_read scope lets line (Unary o e) = unknown_read scope lets line e
unknown_read scope lets line (Binary o a b) = earlier (unknown_read scope lets line a) (unknown_read scope lets line b)
unknown_read scope lets line (Mux c a b) = earlier (unknown_read scope lets line c) (earlier (unknown_read scope lets line a) (unknown_read scope lets line b))
unknown_read scope lets line (Zext e w) = unknown_read scope lets line e
unknown_read scope lets line (Slice e h l) = unknown_read scope lets line e

-- a statement without those inside it, where these names may be assigned: its expression, then its target
abbrev pub unknown_in : Scope → Known → Known → Stmt → Option CheckFault
unknown_in scope assigned lets (Assign slot line gens x part e) = earlier (unknown_read scope lets line e) (unless_known (assigned x) (UnknownName (spot line x)))
unknown_in scope assigned lets (Let slot line gens x e) = unknown_read scope lets line e
unknown_in scope assigned lets (If slot line gens c first second) = unknown_read scope lets line c
unknown_in scope assigned lets (Case slot line gens v arms other) = unknown_read scope lets line v

-- one name more, if there is one
abbrev pub with_name : Option Name → Known → Known
with_name None known = known
with_name (Some x) known = with x known

-- the lets after a statement, without those inside it
abbrev pub lets_after : Known → Stmt → Known
lets_after lets s = with_name (let_name s) lets

-- statements in preorder
abbrev pub unknown_among : Scope → Known → Known → List Stmt → Option CheckFault
unknown_among scope assigned lets [] = None
unknown_among scope assigned lets (s ∷ rest) = earlier (unknown_in scope assigned lets s) (unknown_among scope assigned (lets_after lets s) rest)

-- what a block may assign
abbrev pub targets : Scope → Bool → Known
targets scope clocked = if clocked then scope.register else scope.driven

abbrev pub unknown_in_block : Scope → Block → Option CheckFault
unknown_in_block scope b = unknown_among scope (targets scope b.clocked) none (statements b.body)

abbrev pub unknown_in_conn : Scope → Conn → Option CheckFault
unknown_in_conn scope c = unknown_read scope none c.line c.value

abbrev pub unknown_in_child : Scope → Child → Option CheckFault
unknown_in_child scope c = first_of (unknown_in_conn scope) c.conns

abbrev pub unknown_in_scope : Scope → Variant → Option CheckFault
unknown_in_scope scope v = earlier (first_of (unknown_in_child scope) v.children) (first_of (unknown_in_block scope) v.blocks)

abbrev pub unknown_name : Variant → Option CheckFault
unknown_name v = unknown_in_scope (scope_of v) v

-- ---- a name that two things have

-- the names of things in their order, where these are taken
abbrev pub taken_twice : Known → List (ℕ × Name) → Option CheckFault
taken_twice taken [] = None
taken_twice taken (p ∷ rest) = if taken p.1 then Some (DuplicateName (spot p.0 p.1)) else taken_twice (with p.1 taken) rest

-- the signals as declared, then the children, each with its line
abbrev pub signal_thing : Signal → ℕ × Name
signal_thing s = (s.line, s.name)

abbrev pub child_thing : Child → ℕ × Name
child_thing c = (c.line, c.name)

abbrev pub things : Variant → List (ℕ × Name)
things v = map signal_thing v.signals ++ map child_thing v.children

-- a name with its line before others, if there is one
abbrev pub named_before : ℕ → Option Name → List (ℕ × Name) → List (ℕ × Name)
named_before line None rest = rest
named_before line (Some x) rest = (line, x) ∷ rest

-- the lets of statements, each with its line
abbrev pub lets_in : List Stmt → List (ℕ × Name)
lets_in [] = []
lets_in (s ∷ rest) = named_before (head_of s).line (let_name s) (lets_in rest)

-- a block, where these are signals and children
abbrev pub duplicate_in_block : Known → Block → Option CheckFault
duplicate_in_block taken b = taken_twice taken (lets_in (statements b.body))

-- what no let may be called
abbrev pub taken_in : Variant → Known
taken_in v = either (named any_kind v.signals) (child_named v.children)

abbrev pub duplicate_name : Variant → Option CheckFault
duplicate_name v = earlier (taken_twice none (things v)) (first_of (duplicate_in_block (taken_in v)) v.blocks)
