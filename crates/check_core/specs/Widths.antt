-- Widths that are no widths, and widths that do not go together.
use Rattle.std.specs.Prelude.{◌≡◌, ℕ, ◌+◌, ◌-◌, ◌^◌, ℤ, pos, int_le, Bool, true, false, ◌&&◌, not, ◌==◌, nat_le, nat_lt, bytes_eq, List, [], ◌∷◌, ◌++◌, Option, Some, None, Result, Ok, Err, unwrap_or, if◌then◌else◌, codes}
use Rattle.std.specs.List.{list_all}
use Rattle.design_core.specs.declared.expr.UnOp.{UnOp}
use Rattle.design_core.specs.declared.expr.UnOp.TheVariants as one
use Rattle.design_core.specs.declared.expr.Op.{Op}
use Rattle.design_core.specs.declared.expr.Op.TheVariants as two
use Rattle.design_core.specs.declared.expr.Literal.{Literal}
use Rattle.design_core.specs.declared.variant.Signal.{Signal}
use Rattle.design_core.specs.declared.variant.Kind.{Kind}
use Rattle.design_core.specs.declared.variant.Kind.TheVariants.{Input, Output, Wire, Reg, ChildOut}
use Rattle.design_core.specs.Design.{Expr, Read, Out, Value, Unary, Binary, Mux, Zext, Slice, Stmt, Assign, Let, If, Case, Arms, NoArms, ThenArm, Conn, Child, Block, Variant}
use Rattle.check_core.specs.declared.fault.CheckFault.{CheckFault}
use Rattle.check_core.specs.declared.fault.CheckFault.TheVariants.{BadWidth, WidthMismatch}
use Rattle.check_core.specs.declared.fault.Clash.{Clash}
use Rattle.names.specs.Known.{Name}
use Rattle.design_core.specs.Statements.{statements}
use Rattle.check_core.specs.Faults.{earlier, first_of, spot, is_fault}
use Rattle.check_core.specs.Names.{any_kind, is_input}
use Rattle.design_core.specs.Dotted.{below}
use Rattle.design_core.specs.WellFormed.{signals_at}
use Rattle.design_core.specs.Widths.{bits}

-- ---- widths, literals and slices

-- from 1 to 128
abbrev pub is_width : ℤ → Bool
is_width n = int_le (pos 1) n && int_le n (pos 128)

-- a value that is not negative and fits its width
abbrev pub is_literal : Literal → Bool
is_literal l = is_width l.width && (not l.negative && nat_lt l.value (2 ^ bits l.width))

-- bits from the first down to the second, of the 128 that there may be
abbrev pub is_slice : ℤ → ℤ → Bool
is_slice h l = int_le (pos 0) l && (int_le l h && int_le h (pos 127))

-- all literals, widths and slices of an expression are such
abbrev pub is_sized : Expr → Bool
is_sized (Read x) = true
is_sized (Out u q) = true
is_sized (Value l) = is_literal l
is_sized (Unary o e) = is_sized e
is_sized (Binary o a b) = is_sized a && is_sized b
is_sized (Mux c a b) = is_sized c && (is_sized a && is_sized b)
is_sized (Zext e w) = is_sized e && is_width w
is_sized (Slice e h l) = is_sized e && is_slice h l

-- a declaration, but for the output of a child, whose declaration stands there
abbrev pub is_declared : Kind → ℤ → Bool
is_declared Input w = is_width w
is_declared Output w = is_width w
is_declared Wire w = is_width w
is_declared (Reg start) w = is_width w && is_literal start
is_declared (ChildOut u q) w = true

-- a bad width unless it is sized
abbrev pub unless_sized : Bool → ℕ → Name → Option CheckFault
unless_sized true line name = None
unless_sized false line name = Some (BadWidth (spot line name))

abbrev pub bad_signal : Signal → Option CheckFault
bad_signal s = unless_sized (is_declared s.kind s.width) s.line s.name

abbrev pub bad_conn : Conn → Option CheckFault
bad_conn c = unless_sized (is_sized c.value) c.line c.port

-- the bounds of what is assigned
abbrev pub is_part : Option (ℤ × ℤ) → Bool
is_part None = true
is_part (Some bounds) = is_slice bounds.0 bounds.1

-- the literals of the arms of a `case`, arm by arm
abbrev pub arm_literals : Arms → List Literal
arm_literals NoArms = []
arm_literals (ThenArm tests body rest) = tests ++ arm_literals rest

-- a statement without those inside it
abbrev pub bad_stmt : Stmt → Option CheckFault
bad_stmt (Assign slot line gens x part e) = unless_sized (is_sized e && is_part part) line x
bad_stmt (Let slot line gens x e) = unless_sized (is_sized e) line x
bad_stmt (If slot line gens c first second) = unless_sized (is_sized c) line (codes "if")
bad_stmt (Case slot line gens v arms other) = unless_sized (is_sized v && list_all is_literal (arm_literals arms)) line (codes "case")

abbrev pub bad_in_child : Child → Option CheckFault
bad_in_child c = first_of bad_conn c.conns

abbrev pub bad_in_block : Block → Option CheckFault
bad_in_block b = first_of bad_stmt (statements b.body)

abbrev pub bad_width : Variant → Option CheckFault
bad_width v = earlier (first_of bad_signal v.signals) (earlier (first_of bad_in_child v.children) (first_of bad_in_block v.blocks))

-- ---- the table of the operators

abbrev pub clash : ℕ → ℕ → Result ℕ Clash
clash have want = Err (record { have = have; want = want })

-- this, where the right width is the left one
abbrev pub where_same : ℕ → ℕ → ℕ → Result ℕ Clash
where_same left right this = if left == right then Ok this else clash right left

abbrev pub unary_width : UnOp → ℕ → ℕ
unary_width one.Not w = w
unary_width one.All w = 1
unary_width one.Any w = 1
unary_width one.Parity w = 1

abbrev pub binary_width : Op → ℕ → ℕ → Result ℕ Clash
binary_width two.Add a b = where_same a b a
binary_width two.Sub a b = where_same a b a
binary_width two.Mul a b = where_same a b a
binary_width two.And a b = where_same a b a
binary_width two.Or a b = where_same a b a
binary_width two.Xor a b = where_same a b a
binary_width two.Eq a b = where_same a b 1
binary_width two.Ne a b = where_same a b 1
binary_width two.Lt a b = where_same a b 1
binary_width two.Le a b = where_same a b 1
binary_width two.Shl a b = Ok a
binary_width two.Shr a b = Ok a
binary_width two.Cat a b = if nat_le (a + b) 128 then Ok (a + b) else clash (a + b) 128

-- the condition is judged first, then the branches
abbrev pub mux_width : ℕ → ℕ → ℕ → Result ℕ Clash
mux_width c a b = if c == 1 then where_same a b a else clash c 1

abbrev pub zext_width : ℕ → ℕ → Result ℕ Clash
zext_width w v = if nat_le w v then Ok v else clash w v

abbrev pub slice_width : ℕ → ℕ → ℕ → Result ℕ Clash
slice_width w h l = if nat_lt h w then Ok (h + 1 - l) else clash w (h + 1)

-- ---- the width of an expression, or the first two widths in it that do not go together

abbrev pub Widths : Type 0
Widths = Name → Option ℕ

-- the width of a name; 0 where nothing has the name
abbrev pub width_of : Widths → Name → ℕ
width_of widths x = unwrap_or (widths x) 0

-- operands from left to right, before their operator
abbrev pub unary_of : UnOp → Result ℕ Clash → Result ℕ Clash
unary_of o (Ok w) = Ok (unary_width o w)
unary_of o (Err found) = Err found

abbrev pub binary_of : Op → Result ℕ Clash → Result ℕ Clash → Result ℕ Clash
binary_of o (Ok v) (Ok w) = binary_width o v w
binary_of o (Ok v) (Err found) = Err found
binary_of o (Err found) b = Err found

abbrev pub mux_of : Result ℕ Clash → Result ℕ Clash → Result ℕ Clash → Result ℕ Clash
mux_of (Ok u) (Ok v) (Ok w) = mux_width u v w
mux_of (Ok u) (Ok v) (Err found) = Err found
mux_of (Ok u) (Err found) b = Err found
mux_of (Err found) a b = Err found

abbrev pub zext_of : Result ℕ Clash → ℕ → Result ℕ Clash
zext_of (Ok w) v = zext_width w v
zext_of (Err found) v = Err found

abbrev pub slice_of : Result ℕ Clash → ℕ → ℕ → Result ℕ Clash
slice_of (Ok w) h l = slice_width w h l
slice_of (Err found) h l = Err found

abbrev pub width_in : Widths → Expr → Result ℕ Clash
width_in widths (Read x) = Ok (width_of widths x)
width_in widths (Out u q) = Ok (width_of widths (below u q))
width_in widths (Value l) = Ok (bits l.width)
width_in widths (Unary o e) = unary_of o (width_in widths e)
width_in widths (Binary o a b) = binary_of o (width_in widths a) (width_in widths b)
width_in widths (Mux c a b) = mux_of (width_in widths c) (width_in widths a) (width_in widths b)
width_in widths (Zext e v) = zext_of (width_in widths e) (bits v)
width_in widths (Slice e h l) = slice_of (width_in widths e) (bits h) (bits l)

-- a width that has to be another
abbrev pub needed_width : ℕ → ℕ → Result ℕ Clash
needed_width want have = if have == want then Ok want else clash have want

abbrev pub needed : ℕ → Result ℕ Clash → Result ℕ Clash
needed want (Ok have) = needed_width want have
needed want (Err found) = Err found

-- ---- mismatches

abbrev pub mismatch : ℕ → Name → Result ℕ Clash → Option CheckFault
mismatch line name (Ok w) = None
mismatch line name (Err found) = Some (WidthMismatch (spot line name) found.have found.want)

abbrev pub no_width : Widths
no_width x = None

abbrev pub put_width : Name → ℕ → Widths → Widths
put_width y w widths x = if bytes_eq x y then Some w else widths x

-- the widths of signals of some kinds, by name
abbrev pub put_signal : (Kind → Bool) → Signal → Widths → Widths
put_signal kinds s widths = if kinds s.kind then put_width s.name (bits s.width) widths else widths

abbrev pub put_signals : (Kind → Bool) → List Signal → Widths → Widths
put_signals kinds [] widths = widths
put_signals kinds (s ∷ rest) widths = put_signals kinds rest (put_signal kinds s widths)

abbrev pub widths_of : (Kind → Bool) → List Signal → Widths
widths_of kinds signals = put_signals kinds signals no_width

-- a register's start value, where the register has this width
abbrev pub start_width : Kind → ℕ → Result ℕ Clash
start_width Input w = Ok w
start_width Output w = Ok w
start_width Wire w = Ok w
start_width (Reg start) w = needed w (Ok (bits start.width))
start_width (ChildOut u q) w = Ok w

abbrev pub signal_mismatch : Signal → Option CheckFault
signal_mismatch s = mismatch s.line s.name (start_width s.kind (bits s.width))

-- a connection to a port of these
abbrev pub conn_mismatch : Widths → Widths → Conn → Option CheckFault
conn_mismatch widths ports c = mismatch c.line c.port (needed (width_of ports c.port) (width_in widths c.value))

-- the width of what is assigned, of a target of this width
abbrev pub part_width : ℕ → Option (ℤ × ℤ) → Result ℕ Clash
part_width w None = Ok w
part_width w (Some bounds) = slice_width w (bits bounds.0) (bits bounds.1)

-- a width that has to be the other, which is judged behind it
abbrev pub needed_by : Result ℕ Clash → Result ℕ Clash → Result ℕ Clash
needed_by (Ok want) (Ok have) = needed_width want have
needed_by (Err found) (Ok have) = Err found
needed_by want (Err found) = Err found

-- literals that have to have this width
abbrev pub literals_width : ℕ → List Literal → Result ℕ Clash
literals_width w [] = Ok w
literals_width w (l ∷ rest) = if bits l.width == w then literals_width w rest else clash (bits l.width) w

-- those of the arms of a `case` have that of its value
abbrev pub arms_width : Result ℕ Clash → List Literal → Result ℕ Clash
arms_width (Ok w) literals = literals_width w literals
arms_width (Err found) literals = Err found

-- a statement without those inside it: its expression, then the literals of arms, then its target
abbrev pub stmt_mismatch : Widths → Stmt → Option CheckFault
stmt_mismatch widths (Assign slot line gens x part e) = mismatch line x (needed_by (part_width (width_of widths x) part) (width_in widths e))
stmt_mismatch widths (Let slot line gens x e) = mismatch line x (width_in widths e)
stmt_mismatch widths (If slot line gens c first second) = mismatch line (codes "if") (needed 1 (width_in widths c))
stmt_mismatch widths (Case slot line gens v arms other) = mismatch line (codes "case") (arms_width (width_in widths v) (arm_literals arms))

-- a let has the width of its expression
abbrev pub put_let : Name → Result ℕ Clash → Widths → Widths
put_let x (Ok w) widths = put_width x w widths
put_let x (Err found) widths = widths

abbrev pub widths_after : Widths → Stmt → Widths
widths_after widths (Assign slot line gens x part e) = widths
widths_after widths (Let slot line gens x e) = put_let x (width_in widths e) widths
widths_after widths (If slot line gens c first second) = widths
widths_after widths (Case slot line gens v arms other) = widths

abbrev pub mismatch_among : Widths → List Stmt → Option CheckFault
mismatch_among widths [] = None
mismatch_among widths (s ∷ rest) = earlier (stmt_mismatch widths s) (mismatch_among (widths_after widths s) rest)

abbrev pub mismatch_in_child : Widths → List Variant → Child → Option CheckFault
mismatch_in_child widths variants c = first_of (conn_mismatch widths (widths_of is_input (signals_at c.variant variants))) c.conns

abbrev pub mismatch_in_block : Widths → Block → Option CheckFault
mismatch_in_block widths b = mismatch_among widths (statements b.body)

-- where the signals have these widths
abbrev pub mismatch_with : Widths → List Variant → Variant → Option CheckFault
mismatch_with widths variants v =
    earlier (first_of signal_mismatch v.signals) (earlier (first_of (mismatch_in_child widths variants) v.children) (first_of (mismatch_in_block widths) v.blocks))

abbrev pub width_mismatch : List Variant → Variant → Option CheckFault
width_mismatch variants v = mismatch_with (widths_of any_kind v.signals) variants v

-- an answer tells a width, or the fault at this line and name that it has in its stead; want of memory alone is free
abbrev pub TellsWidth : ℕ → Name → Result ℕ CheckFault → Result ℕ Clash → Type 0
TellsWidth line name (Ok w) found = found ≡ Ok w
TellsWidth line name (Err fault) found = is_fault fault ≡ true → mismatch line name found ≡ Some fault

-- what is found here, or else there
abbrev pub over : Widths → Widths → Widths
over new old x = earlier (new x) (old x)
