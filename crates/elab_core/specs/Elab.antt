-- Elaboration, as a walk over the source.
use Rattle.std.specs.Prelude.{ℕ, zero, suc, ◌+◌, Bool, true, false, not, ◌&&◌, ◌||◌, ℤ, pos, negsuc, ◌+ℤ◌, List, [], ◌∷◌, ◌++◌, length, Option, Some, None, is_some, if◌then◌else◌, codes, bytes_eq}
use Rattle.std.specs.List.{flat_map}
use Rattle.gen_tree.specs.Tree as tree
use Rattle.gen_tree.specs.Tree.{Int, Fam, Lit, plain, bits, read, out, value, unary, binary, mux, zext, slice, assign, bind, choose, select, repeat, given, Stmts, no_stmt, stmt, no_else, otherwise, no_arm, arm, Param, wire, reg, inst, comb, ff, repeat_items, given_items, Items, no_item, item, ElseItems, no_else_items, otherwise_items, Port, Module}
use Rattle.elab_core.specs.declared.fault.Count.TheVariants.{Instances, Turns, Statements, Signals, Parts}
use Rattle.elab_core.specs.Walk.{Walk, Gives, Faulty, ◌>>=◌, and_then, counts, UnknownModule, UnknownParameter, TooDeep}
use Rattle.exec_core.specs.Block.{Name}
use Rattle.elab_core.specs.Numbers.{find, bound, number, fam_name, two_numbers, turn_count, holds}
use Rattle.design_core.specs.declared.Literal.{Literal}
use Rattle.design_core.specs.declared.Kind.{Kind}
use Rattle.design_core.specs.declared.Kind.TheVariants.{Input, Output, Wire, Reg, ChildOut}
use Rattle.design_core.specs.declared.Signal.{Signal}
use Rattle.design_core.specs.Design.{Gens, Expr, Read, Out, Value, Unary, Binary, Mux, Zext, Slice, Assign, Let, If, Case, Body, Done, Else, NoElse, Otherwise, arms_from, Conn, Block}
use Rattle.elab_core.specs.Operators.{unary_of, binary_of}
use Rattle.elab_core.specs.Elaborated.{added, Child, Content, Instance}

-- ---- expressions: each part is counted, then come its operands and integers as they stand

-- a literal of this width and value
abbrev pub literal_of : ℤ → ℤ → Literal
literal_of w (pos n) = record { width = w; negative = false; value = n }
literal_of w (negsuc n) = record { width = w; negative = true; value = suc n }

unfoldable pub literal : ℕ → Gens → Lit → Walk Literal
literal line gens (plain w v) = Gives (literal_of (pos w) (pos v))
literal line gens (bits w v) = do
  pair ← two_numbers line gens w v
  Gives (literal_of pair.0 pair.1)

unfoldable pub expr : ℕ → Gens → tree.Expr → Walk Expr
expr line gens (read f) = do
  part ← counts Parts line
  x ← fam_name line gens f
  Gives (Read x)
expr line gens (out f q) = do
  part ← counts Parts line
  x ← fam_name line gens f
  Gives (Out x q)
expr line gens (value l) = do
  part ← counts Parts line
  v ← literal line gens l
  Gives (Value v)
expr line gens (unary o e) = do
  part ← counts Parts line
  a ← expr line gens e
  Gives (Unary (unary_of o) a)
expr line gens (binary o e f) = do
  part ← counts Parts line
  a ← expr line gens e
  b ← expr line gens f
  Gives (Binary (binary_of o) a b)
expr line gens (mux e f g) = do
  part ← counts Parts line
  c ← expr line gens e
  a ← expr line gens f
  b ← expr line gens g
  Gives (Mux c a b)
expr line gens (zext e w) = do
  part ← counts Parts line
  a ← expr line gens e
  n ← number line gens w
  Gives (Zext a n)
expr line gens (slice e h l) = do
  part ← counts Parts line
  a ← expr line gens e
  pair ← two_numbers line gens h l
  Gives (Slice a pair.0 pair.1)

-- the literals of an arm; each is a part
unfoldable pub literals : ℕ → Gens → List Lit → List Literal → Walk (List Literal)
literals line gens [] made = Gives made
literals line gens (l ∷ ls) made = do
  part ← counts Parts line
  v ← literal line gens l
  literals line gens ls (made ++ v ∷ [])

-- the bounds of the part that is assigned, if there is one; they are no parts
unfoldable pub part_bounds : ℕ → Gens → Option (Int × Int) → Walk (Option (ℤ × ℤ))
part_bounds line gens None = Gives None
part_bounds line gens (Some p) = do
  pair ← two_numbers line gens p.0 p.1
  Gives (Some pair)

-- ---- loops

-- one turn after another, from a number on; each is counted as it begins
unfoldable pub turns : {A : Type 0} → ℕ → (ℤ → A → Walk A) → ℤ → ℕ → A → Walk A
turns line f k zero made = Gives made
turns line f k (suc count) made = do
  turn ← counts Turns line
  more ← f k made
  turns line f (k +ℤ pos 1) count more

-- ---- statements, behind those that were made. They get their slots when all are there

unfoldable mutual
  pub statement : tree.Stmt → Gens → Body → Walk Body
  statement (assign line f p e) gens made = do
    counted ← counts Statements line
    x ← fam_name line gens f
    part ← part_bounds line gens p
    v ← expr line gens e
    Gives (added made (Assign 0 line gens x part v))
  statement (bind line f e) gens made = do
    counted ← counts Statements line
    x ← fam_name line gens f
    v ← expr line gens e
    Gives (added made (Let 0 line gens x v))
  statement (choose line c first second) gens made = do
    counted ← counts Statements line
    test ← expr line gens c
    yes_body ← statements first gens Done
    no_body ← else_body second gens
    Gives (added made (If 0 line gens test yes_body no_body))
  statement (select line v cases other) gens made = do
    counted ← counts Statements line
    chosen ← expr line gens v
    all ← arm_bodies line cases gens []
    last ← else_body other gens
    Gives (added made (Case 0 line gens chosen (arms_from all) last))
  statement (repeat line x from to body) gens made = do
    range ← two_numbers line gens from to
    count ← turn_count line range.0 range.1
    turns line (λ k more. statements body (bound x k gens) more) range.0 count made
  statement (given line left cmp right first second) gens made = do
    pair ← two_numbers line gens left right
    if holds cmp pair.0 pair.1 then statements first gens made else else_statements second gens made

  pub statements : Stmts → Gens → Body → Walk Body
  statements no_stmt gens made = Gives made
  statements (stmt s rest) gens made = do
    more ← statement s gens made
    statements rest gens more

  -- arms, behind those that were made: of each its literals, on the line of the `case`, and its statements, as a body of their own
  pub arm_bodies : ℕ → tree.Arms → Gens → List (List Literal × Body) → Walk (List (List Literal × Body))
  arm_bodies line no_arm gens made = Gives made
  arm_bodies line (arm tests body more) gens made = do
    ls ← literals line gens tests []
    b ← statements body gens Done
    arm_bodies line more gens (made ++ (ls, b) ∷ [])

  -- the statements of an `else` or a `default`, as a body of their own
  pub else_body : tree.Else → Gens → Walk Else
  else_body no_else gens = Gives NoElse
  else_body (otherwise body) gens = do
    made ← statements body gens Done
    Gives (Otherwise made)

  -- the statements of the `else` of a `gen if`, behind those that were made
  pub else_statements : tree.Else → Gens → Body → Walk Body
  else_statements no_else gens made = Gives made
  else_statements (otherwise body) gens made = statements body gens made

-- ---- modules and parameters

-- the places of the modules of a name
abbrev pub places : Name → ℕ → List Module → List (ℕ × Module)
places x at [] = []
places x at (m ∷ modules) = if bytes_eq m.name x then (at, m) ∷ places x (at + 1) modules else places x (at + 1) modules

abbrev pub only : ℕ → Name → List (ℕ × Module) → Walk (ℕ × Module)
only line x [] = Faulty (UnknownModule line x)
only line x (found ∷ []) = Gives found
only line x (found ∷ (again ∷ more)) = Faulty (UnknownModule line x)

-- the one module of a name, with its place
abbrev pub module_named : List Module → ℕ → Name → Walk (ℕ × Module)
module_named modules line x = only line x (places x 0 modules)

abbrev pub has_name : Name → List Param → Bool
has_name x [] = false
has_name x (p ∷ ps) = bytes_eq p.name x || has_name x ps

-- no parameter has the name of one before it; a second one is a fault on the line of its module
unfoldable pub distinct : ℕ → List Param → List Param → Walk (Unit {0})
distinct line before [] = Gives tt
distinct line before (p ∷ ps) =
    if has_name p.name before then Faulty (UnknownParameter line p.name) else distinct line (before ++ p ∷ []) ps

-- a parameter that was not given
abbrev pub is_free : List Param → Gens → Name → Bool
is_free params given_so x = has_name x params && not (is_some (find given_so x))

-- the arguments, computed where the instance stands: first the name, then the integer, argument by argument
unfoldable pub arguments : ℕ → Gens → List Param → List Param → Gens → Walk Gens
arguments line gens params [] given_so = Gives given_so
arguments line gens params (a ∷ args) given_so =
    if is_free params given_so a.name then (do
      n ← number line gens a.value
      arguments line gens params args (given_so ++ (a.name, n) ∷ []))
    else Faulty (UnknownParameter line a.name)

abbrev pub given_or : Option ℤ → Walk ℤ → Walk ℤ
given_or (Some n) w = Gives n
given_or None w = w

-- the parameters in order: given, or by their defaults, which may name earlier ones; faults on the line of the module
unfoldable pub parameters : ℕ → List Param → Gens → Gens → Walk Gens
parameters line [] given_so done = Gives done
parameters line (p ∷ ps) given_so done = do
  n ← given_or (find given_so p.name) (number line done p.value)
  parameters line ps given_so (done ++ (p.name, n) ∷ [])

-- the parameters of a module, with these arguments at this line
unfoldable pub values : ℕ → Gens → Module → List Param → Walk Gens
values line gens found args = do
  one_each ← distinct found.line [] found.params
  given_so ← arguments line gens found.params args []
  parameters found.line found.params given_so []

-- ---- signals, connections and children

abbrev pub port_kind : Bool → Kind
port_kind true = Output
port_kind false = Input

unfoldable pub ports : List Port → Gens → List Signal → Walk (List Signal)
ports [] gens made = Gives made
ports (p ∷ ps) gens made = do
  w ← number p.line gens p.width
  counted ← counts Signals p.line
  ports ps gens (made ++ record { line = p.line; name = p.name; kind = port_kind p.output; width = w } ∷ [])

unfoldable pub conns : List tree.Conn → Gens → List Conn → Walk (List Conn)
conns [] gens made = Gives made
conns (c ∷ cs) gens made = do
  v ← expr c.line gens c.value
  conns cs gens (made ++ record { line = c.line; port = c.port; value = v } ∷ [])

-- a child as it is asked for: its name, its module with its place, its parameters, its connections
pub record Asked : Type 0 where
  pub line : ℕ
  pub name : Name
  pub found : ℕ × Module
  pub params : Gens
  pub conns : List Conn

unfoldable pub asked : List Module → ℕ → Gens → Fam → Name → List Param → List tree.Conn → Walk Asked
asked modules line gens fam child args cs = do
  name ← fam_name line gens fam
  found ← module_named modules line child
  params ← values line gens found.1 args
  made ← conns cs gens []
  Gives (record { line = line; name = name; found = found; params = params; conns = made })

-- as many counts of signals as a module has outputs
unfoldable pub count_outputs : ℕ → List Port → Walk (Unit {0})
count_outputs line [] = Gives tt
count_outputs line (p ∷ ps) =
    if p.output then and_then (counts Signals line) (λ counted. count_outputs line ps) else count_outputs line ps

-- an output of a child, as a signal of its parent on the line of the `inst`; other signals are none
abbrev pub output_as : ℕ → ℕ → Name → Signal → Kind → List Signal
output_as line at child s Output =
    record { line = line; name = child ++ (codes "." ++ s.name); kind = ChildOut at s.name; width = s.width } ∷ []
output_as line at child s Input = []
output_as line at child s Wire = []
output_as line at child s (Reg start) = []
output_as line at child s (ChildOut k port) = []

-- the outputs of the child of this number, in port order
abbrev pub child_outputs : ℕ → ℕ → Name → List Signal → List Signal
child_outputs line at child signals = flat_map (λ s. output_as line at child s s.kind) signals

-- ---- items

-- what a body gave so far, and the instances below
pub record Made : Type 0 where
  pub content : Content
  pub below : List Instance

abbrev pub nothing : Made
nothing = record { content = record { signals = []; children = []; blocks = [] }; below = [] }

abbrev pub with_signal : Made → Signal → Made
with_signal made s = record made { content = record (made.content) { signals = made.content.signals ++ s ∷ [] } }

abbrev pub with_block : Made → Block → Made
with_block made b = record made { content = record (made.content) { blocks = made.content.blocks ++ b ∷ [] } }

-- the instance that a body belongs to
pub record Here : Type 0 where
  pub path : Name
  pub number : ℕ

-- the signals of the first of these instances
abbrev pub first_signals : List Instance → List Signal
first_signals [] = []
first_signals (i ∷ instances) = i.content.signals

abbrev pub child_of : Asked → Child
child_of want = record { line = want.line; name = want.name; place = want.found.0; params = want.params; conns = want.conns }

-- a child with the instances that it and those below it are; its outputs are signals of the parent
abbrev pub with_child : Made → Asked → List Instance → Made
with_child made want instances = record {
  content = record {
    signals = made.content.signals ++ child_outputs want.line (length made.content.children) want.name (first_signals instances);
    children = made.content.children ++ child_of want ∷ [];
    blocks = made.content.blocks;
  };
  below = made.below ++ instances;
}

-- what an instance gives: it and those below, in preorder. By what is asked for, the parent and the number
abbrev pub Enter : Type 0
Enter = Asked → Here → ℕ → Walk (List Instance)

unfoldable pub register : ℕ → Gens → Fam → Int → Lit → Walk Signal
register line gens f w l = do
  x ← fam_name line gens f
  n ← number line gens w
  start ← literal line gens l
  Gives (record { line = line; name = x; kind = Reg start; width = n })

unfoldable pub wire_signal : ℕ → Gens → Fam → Int → Walk Signal
wire_signal line gens f w = do
  x ← fam_name line gens f
  n ← number line gens w
  Gives (record { line = line; name = x; kind = Wire; width = n })

unfoldable mutual
  pub item_walk : List Module → Enter → Here → tree.Item → Gens → Made → Walk Made
  item_walk modules enter here (wire line f w) gens made = do
    s ← wire_signal line gens f w
    counted ← counts Signals line
    Gives (with_signal made s)
  item_walk modules enter here (reg line f w l) gens made = do
    s ← register line gens f w l
    counted ← counts Signals line
    Gives (with_signal made s)
  item_walk modules enter here (inst line f x args cs) gens made = do
    want ← asked modules line gens f x args cs
    instances ← enter want here (here.number + 1 + length made.below)
    Gives (with_child made want instances)
  item_walk modules enter here (comb line body) gens made = do
    b ← statements body gens Done
    Gives (with_block made (record { line = line; clocked = false; body = b }))
  item_walk modules enter here (ff line body) gens made = do
    b ← statements body gens Done
    Gives (with_block made (record { line = line; clocked = true; body = b }))
  item_walk modules enter here (repeat_items line x from to body) gens made = do
    range ← two_numbers line gens from to
    count ← turn_count line range.0 range.1
    turns line (λ k more. items_walk modules enter here body (bound x k gens) more) range.0 count made
  item_walk modules enter here (given_items line left cmp right first second) gens made = do
    pair ← two_numbers line gens left right
    if holds cmp pair.0 pair.1 then items_walk modules enter here first gens made else else_walk modules enter here second gens made

  pub items_walk : List Module → Enter → Here → Items → Gens → Made → Walk Made
  items_walk modules enter here no_item gens made = Gives made
  items_walk modules enter here (item i rest) gens made = do
    more ← item_walk modules enter here i gens made
    items_walk modules enter here rest gens more

  pub else_walk : List Module → Enter → Here → ElseItems → Gens → Made → Walk Made
  else_walk modules enter here no_else_items gens made = Gives made
  else_walk modules enter here (otherwise_items body) gens made = items_walk modules enter here body gens made

-- ---- instances

-- the body of a module: its ports, then its items
unfoldable pub module_walk : List Module → Enter → Here → Module → Gens → Walk Made
module_walk modules enter here m params = do
  signals ← ports m.ports params []
  items_walk modules enter here m.items params (record nothing { content = record (nothing.content) { signals = signals } })

-- an instance of this path, and those below
abbrev pub instances_of : Name → Option ℕ → ℕ → Gens → Made → List Instance
instances_of path parent place params made =
    record { path = path; parent = parent; place = place; params = params; content = made.content } ∷ made.below

-- an instance below another, where there is room for so many levels from here on: its depth, its count, the counts of its
-- outputs as signals of its parent, and then its body
unfoldable pub instance : List Module → ℕ → Enter
instance modules zero want here at = Faulty (TooDeep want.line want.name)
instance modules (suc room) want here at = do
  counted ← counts Instances want.line
  outputs ← count_outputs want.line want.found.1.ports
  made ← module_walk modules (instance modules room) (record { path = here.path ++ (codes "." ++ want.name); number = at }) want.found.1 want.params
  Gives (instances_of (here.path ++ (codes "." ++ want.name)) (Some here.number) want.found.0 want.params made)

-- ---- the top

-- the parameters that are given to the top, on line 0: those of a name that is no parameter, or is given twice, are faults
unfoldable pub top_arguments : List Param → Gens → Gens → Walk Gens
top_arguments params [] given_so = Gives given_so
top_arguments params (g ∷ rest) given_so =
    if is_free params given_so g.0 then top_arguments params rest (given_so ++ g ∷ []) else Faulty (UnknownParameter 0 g.0)

unfoldable pub top_values : Module → Gens → Walk Gens
top_values found rest = do
  one_each ← distinct found.line [] found.params
  given_so ← top_arguments found.params rest []
  parameters found.line found.params given_so []

-- all instances of a source, from its top: at most 32 levels below it
unfoldable pub top_walk : List Module → Name → Gens → Walk (List Instance)
top_walk modules top rest = do
  found ← module_named modules 0 top
  params ← top_values found.1 rest
  counted ← counts Instances 0
  made ← module_walk modules (instance modules 32) (record { path = top; number = 0 }) found.1 params
  Gives (instances_of top None found.0 params made)
