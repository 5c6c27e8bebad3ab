-- Ports of children that are not there, and inputs without a connection.
use Rattle.std.specs.Prelude.{ℕ, ◌||◌, not, bytes_eq, List, Option, None}
use Rattle.std.specs.List.{list_any}
use Rattle.design_core.specs.declared.variant.Signal.{Signal}
use Rattle.design_core.specs.WellFormed.{signals_at}
use Rattle.design_core.specs.Design.{Expr, Read, Out, Value, Unary, Binary, Mux, Zext, Slice, Stmt, Conn, Child, Block, Variant}
use Rattle.check_core.specs.declared.fault.CheckFault.{CheckFault}
use Rattle.check_core.specs.declared.fault.CheckFault.TheVariants.{UnknownPort, UnboundInput}
use Rattle.names.specs.Known.{Name, Known}
use Rattle.design_core.specs.Statements.{statements}
use Rattle.design_core.specs.Heads.{head_of, stmt_value}
use Rattle.check_core.specs.Faults.{earlier, first_of, spot}
use Rattle.check_core.specs.Names.{named, is_input, is_child_output, unless_known}
use Rattle.design_core.specs.Dotted.{below}

-- ---- a port that is not there

-- the reads of outputs of children, from left to right; these names are outputs
abbrev pub unknown_output : Known → ℕ → Expr → Option CheckFault
unknown_output outputs line (Read x) = None
unknown_output outputs line (Out u q) = unless_known (outputs (below u q)) (UnknownPort (spot line (below u q)))
unknown_output outputs line (Value l) = None
unknown_output outputs line (Unary o e) = unknown_output outputs line e
unknown_output outputs line (Binary o a b) = earlier (unknown_output outputs line a) (unknown_output outputs line b)
unknown_output outputs line (Mux c a b) = earlier (unknown_output outputs line c) (earlier (unknown_output outputs line a) (unknown_output outputs line b))
unknown_output outputs line (Zext e w) = unknown_output outputs line e
unknown_output outputs line (Slice e h l) = unknown_output outputs line e

-- a connection of a child with these inputs: its expression, then its port
abbrev pub unknown_port_at : Known → Known → Conn → Option CheckFault
unknown_port_at outputs inputs c = earlier (unknown_output outputs c.line c.value) (unless_known (inputs c.port) (UnknownPort (spot c.line c.port)))

-- a statement without those inside it
abbrev pub unknown_port_in : Known → Stmt → Option CheckFault
unknown_port_in outputs s = unknown_output outputs (head_of s).line (stmt_value s)

abbrev pub unknown_port_in_child : Known → List Variant → Child → Option CheckFault
unknown_port_in_child outputs variants c = first_of (unknown_port_at outputs (named is_input (signals_at c.variant variants))) c.conns

abbrev pub unknown_port_in_block : Known → Block → Option CheckFault
unknown_port_in_block outputs b = first_of (unknown_port_in outputs) (statements b.body)

-- where these are the outputs of the children
abbrev pub unknown_port_among : Known → List Variant → Variant → Option CheckFault
unknown_port_among outputs variants v = earlier (first_of (unknown_port_in_child outputs variants) v.children) (first_of (unknown_port_in_block outputs) v.blocks)

abbrev pub unknown_port : List Variant → Variant → Option CheckFault
unknown_port variants v = unknown_port_among (named is_child_output v.signals) variants v

-- ---- an input without a connection

abbrev pub connected : List Conn → Known
connected conns x = list_any (λ (c : Conn). bytes_eq x c.port) conns

-- a signal of a child of this line and name, which has connections to these
abbrev pub unbound_at : ℕ → Name → Known → Signal → Option CheckFault
unbound_at line u ports s = unless_known (not (is_input s.kind) || ports s.name) (UnboundInput (spot line (below u s.name)))

abbrev pub unbound_in_child : List Variant → Child → Option CheckFault
unbound_in_child variants c = first_of (unbound_at c.line c.name (connected c.conns)) (signals_at c.variant variants)

abbrev pub unbound_input : List Variant → Variant → Option CheckFault
unbound_input variants v = first_of (unbound_in_child variants) v.children
