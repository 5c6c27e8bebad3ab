-- An elaborated design as processes, links and what is given, whose execution is defined.
use Rattle.std.specs.Prelude.{ℕ, ℤ, ◌==◌, Bool, false, bytes_eq, List, [], ◌∷◌, ◌++◌, map, Option, Some, None, option_map, unwrap_or, slice_get, find, if◌then◌else◌, codes}
use Rattle.std.specs.List.{enumerate_from, flat_map, list_any}
use Rattle.bv_core.specs.Value.{Bits}
use Rattle.bv_core.specs.declared.operators.Op1.{Op1}
use Rattle.bv_core.specs.declared.operators.Op1.TheVariants as op1
use Rattle.bv_core.specs.declared.operators.Op2.{Op2}
use Rattle.bv_core.specs.declared.operators.Op2.TheVariants as op2
use Rattle.tree_core.specs.Tree.{Tree, Const, Leaf, One, Two, Mux, Origin, Input, Register}
use Rattle.tree_core.specs.Width.{width_of}
use Rattle.exec_core.specs.Block as blocks
use Rattle.exec_core.specs.Block.{Name, Key, Now, Next, Part}
use Rattle.exec_core.specs.Cases.{Arm, case_of}
use Rattle.exec_core.specs.Whole.{Place}
use Rattle.exec_core.specs.Design as processes
use Rattle.exec_core.specs.Design.{Process, place, moved}
use Rattle.design_core.specs.declared.expr.UnOp.{UnOp}
use Rattle.design_core.specs.declared.expr.UnOp.TheVariants as one
use Rattle.design_core.specs.declared.expr.Op.{Op}
use Rattle.design_core.specs.declared.expr.Op.TheVariants as two
use Rattle.design_core.specs.declared.expr.Literal.{Literal}
use Rattle.design_core.specs.declared.variant.Signal.{Signal}
use Rattle.design_core.specs.declared.variant.Kind.{Kind}
use Rattle.design_core.specs.declared.variant.Kind.TheVariants as kind
use Rattle.design_core.specs.declared.design.Instance.{Instance}
use Rattle.design_core.specs.Design as design
use Rattle.design_core.specs.Widths.{bits}
use Rattle.design_core.specs.WellFormed.{signals_at, children_at, blocks_at}

-- ---- expressions

abbrev pub value_of : Literal → Bits
value_of l = record { width = bits l.width; value = l.value }

abbrev pub unary_of : UnOp → Op1
unary_of one.Not = op1.Not
unary_of one.All = op1.All
unary_of one.Any = op1.Any
unary_of one.Parity = op1.Parity

abbrev pub binary_of : Op → Op2
binary_of two.Add = op2.Add
binary_of two.Sub = op2.Sub
binary_of two.Mul = op2.Mul
binary_of two.And = op2.And
binary_of two.Or = op2.Or
binary_of two.Xor = op2.Xor
binary_of two.Eq = op2.Eq
binary_of two.Ne = op2.Ne
binary_of two.Lt = op2.Lt
binary_of two.Le = op2.Le
binary_of two.Shl = op2.Shl
binary_of two.Shr = op2.Shr
binary_of two.Cat = op2.Cat

-- an expression, whose leaves are the names that it reads; an output of a child has the name `u.q`
abbrev pub tree_of : design.Expr → blocks.Expr
tree_of (design.Read x) = Leaf x
tree_of (design.Out u q) = Leaf (u ++ (codes "." ++ q))
tree_of (design.Value l) = Const (value_of l)
tree_of (design.Unary o e) = One (unary_of o) (tree_of e)
tree_of (design.Binary o a b) = Two (binary_of o) (tree_of a) (tree_of b)
tree_of (design.Mux c a b) = Mux (tree_of c) (tree_of a) (tree_of b)
tree_of (design.Zext e w) = One (op1.Zext (bits w)) (tree_of e)
tree_of (design.Slice e h l) = One (op1.Slice (bits h) (bits l)) (tree_of e)

-- ---- statements

-- what an assignment sets, in a clocked block or in another
abbrev pub target : Bool → Name → Key
target clocked x = if clocked then Next x else Now x

-- the bits that an assignment sets
abbrev pub part_of : Option (ℤ × ℤ) → Option Part
part_of None = None
part_of (Some bounds) = Some (record { high = bits bounds.0; low = bits bounds.1 })

abbrev mutual
  pub stmt_of : Bool → design.Stmt → blocks.Stmt
  stmt_of clocked (design.Assign slot line gens x part e) = blocks.Assign slot (target clocked x) (part_of part) (tree_of e)
  stmt_of clocked (design.Let slot line gens x e) = blocks.Assign slot (Now x) None (tree_of e)
  stmt_of clocked (design.If slot line gens c first second) = blocks.If (Some slot) (tree_of c) (body_of clocked first) (else_of clocked second)
  stmt_of clocked (design.Case slot line gens v arms other) = case_of slot (tree_of v) (arms_of clocked arms) (else_of clocked other)

  pub body_of : Bool → design.Body → blocks.Body
  body_of clocked design.Done = blocks.Done
  body_of clocked (design.Then s rest) = blocks.Then (stmt_of clocked s) (body_of clocked rest)

  pub else_of : Bool → design.Else → blocks.Body
  else_of clocked design.NoElse = blocks.Done
  else_of clocked (design.Otherwise body) = body_of clocked body

  pub arms_of : Bool → design.Arms → List Arm
  arms_of clocked design.NoArms = []
  arms_of clocked (design.ThenArm tests body rest) = record { tests = map value_of tests; body = body_of clocked body } ∷ arms_of clocked rest

-- ---- widths

abbrev pub Widths : Type 0
Widths = Name → ℕ

abbrev pub put : Name → ℕ → Widths → Widths
put x w widths y = if bytes_eq x y then w else widths y

-- the width of the first signal of a name; 0 where there is none
abbrev pub signal_width : List Signal → Widths
signal_width signals x = unwrap_or (option_map (λ (s : Signal). bits s.width) (find (λ (s : Signal). bytes_eq s.name x) signals)) 0

-- a let has the width of its expression, from its statement on
abbrev mutual
  pub stmt_widths : design.Stmt → Widths → Widths
  stmt_widths (design.Assign slot line gens x part e) widths = widths
  stmt_widths (design.Let slot line gens x e) widths = put x (width_of widths (tree_of e)) widths
  stmt_widths (design.If slot line gens c first second) widths = else_widths second (body_widths first widths)
  stmt_widths (design.Case slot line gens v arms other) widths = else_widths other (arms_widths arms widths)

  pub body_widths : design.Body → Widths → Widths
  body_widths design.Done widths = widths
  body_widths (design.Then s rest) widths = body_widths rest (stmt_widths s widths)

  pub else_widths : design.Else → Widths → Widths
  else_widths design.NoElse widths = widths
  else_widths (design.Otherwise body) widths = body_widths body widths

  pub arms_widths : design.Arms → Widths → Widths
  arms_widths design.NoArms widths = widths
  arms_widths (design.ThenArm tests body rest) widths = arms_widths rest (body_widths body widths)

-- ---- instances

-- an instance with its number
abbrev pub Numbered : Type 0
Numbered = ℕ × Instance

abbrev pub instances_of : design.Design → List Numbered
instances_of d = enumerate_from 0 d.instances

abbrev pub is_top : Numbered → Bool
is_top i = i.0 == 0

-- the signals, children and blocks of the variant of this number; none where there is no such variant
abbrev pub signals_in : design.Design → ℕ → List Signal
signals_in d v = signals_at v d.variants

abbrev pub children_in : design.Design → ℕ → List design.Child
children_in d v = children_at v d.variants

abbrev pub blocks_in : design.Design → ℕ → List design.Block
blocks_in d v = blocks_at v d.variants

-- the signals of the instance of this number
abbrev pub instance_signals : design.Design → ℕ → List Signal
instance_signals d i = unwrap_or (option_map (λ (r : Instance). signals_in d r.variant) (slice_get d.instances i)) []

-- the numbers of the instances that stand in this one, in preorder: one for each of its children
abbrev pub stands_in : ℕ → Option ℕ → Bool
stands_in i None = false
stands_in i (Some parent) = parent == i

abbrev pub kept_below : ℕ → Numbered → List ℕ
kept_below i r = if stands_in i r.1.parent then r.0 ∷ [] else []

abbrev pub numbers_below : design.Design → ℕ → List ℕ
numbers_below d i = flat_map (kept_below i) (instances_of d)

-- the number of the instance that a child of this number is
abbrev pub child_at : design.Design → ℕ → ℕ → Option ℕ
child_at d i k = slice_get (numbers_below d i) k

-- ---- processes

abbrev pub process : ℕ → List Signal → design.Block → Process
process i signals b = record { instance = i; body = body_of b.clocked b.body; let_width = body_widths b.body (signal_width signals) }

abbrev pub processes_at : design.Design → Numbered → List Process
processes_at d i = map (process i.0 (signals_in d i.1.variant)) (blocks_in d i.1.variant)

-- ---- links

abbrev pub Link : Type 0
Link = Place × Tree Place

abbrev pub none_or : {A B : Type 0} → (A → List B) → Option A → List B
none_or links None = []
none_or links (Some a) = links a

-- the inputs of a child, which is this instance, with what is connected to them in its parent
abbrev pub conn_link : ℕ → ℕ → design.Conn → Link
conn_link i j c = (place j c.port, moved i (tree_of c.value))

abbrev pub child_links : design.Design → ℕ → ℕ × design.Child → List Link
child_links d i c = none_or (λ j. map (conn_link i j) c.1.conns) (child_at d i c.0)

-- a signal that is an output of a child, with that output
abbrev pub output_link : design.Design → ℕ → Name → Kind → List Link
output_link d i x kind.Input = []
output_link d i x kind.Output = []
output_link d i x kind.Wire = []
output_link d i x (kind.Reg start) = []
output_link d i x (kind.ChildOut k q) = none_or (λ j. (place i x, Leaf (place j q)) ∷ []) (child_at d i k)

abbrev pub links_at : design.Design → Numbered → List Link
links_at d i =
    flat_map (child_links d i.0) (enumerate_from 0 (children_in d i.1.variant)) ++ flat_map (λ (s : Signal). output_link d i.0 s.name s.kind) (signals_in d i.1.variant)

-- ---- what is given

abbrev pub Given : Type 0
Given = Place × Origin

-- the inputs of the top, and the registers of every instance
abbrev pub given_by : Numbered → Name → ℕ → Kind → List Given
given_by i x w kind.Input = if is_top i then (place i.0 x, Input x w) ∷ [] else []
given_by i x w kind.Output = []
given_by i x w kind.Wire = []
given_by i x w (kind.Reg start) = (place i.0 x, Register i.1.path x (value_of start)) ∷ []
given_by i x w (kind.ChildOut k q) = []

abbrev pub givens_at : design.Design → Numbered → List Given
givens_at d i = flat_map (λ (s : Signal). given_by i s.name (bits s.width) s.kind) (signals_in d i.1.variant)

-- ---- the design

abbrev pub is_signal_of : design.Design → Place → Bool
is_signal_of d p = list_any (λ (s : Signal). bytes_eq s.name p.name) (instance_signals d p.instance)

abbrev pub processes_of : design.Design → processes.Design
processes_of d = record {
  processes = flat_map (processes_at d) (instances_of d);
  links = flat_map (links_at d) (instances_of d);
  givens = flat_map (givens_at d) (instances_of d);
  is_signal = is_signal_of d;
  width = λ p. signal_width (instance_signals d p.instance) p.name;
}
