-- How much a variant holds, and how much all instances of a design hold.
use Rattle.std.specs.Prelude.{ℕ, ◌+◌, ◌*◌, List, [], ◌∷◌, length, option_map, unwrap_or, slice_get}
use Rattle.design_core.specs.declared.design.Instance.{Instance}
use Rattle.design_core.specs.Design.{Expr, Read, Out, Value, Unary, Binary, Mux, Zext, Slice, Stmt, Assign, Let, If, Case, Body, Done, Then, Else, NoElse, Otherwise, Arms, NoArms, ThenArm, Conn, Child, Block, Variant}
use Rattle.design_core.specs.Slots.{size, blocks_size, scope}

-- ---- the parts of expressions: operators, names and literals, those of arms too

abbrev pub expr_parts : Expr → ℕ
expr_parts (Read x) = 1
expr_parts (Out u q) = 1
expr_parts (Value l) = 1
expr_parts (Unary o e) = 1 + expr_parts e
expr_parts (Binary o a b) = 1 + expr_parts a + expr_parts b
expr_parts (Mux c a b) = 1 + expr_parts c + expr_parts a + expr_parts b
expr_parts (Zext e w) = 1 + expr_parts e
expr_parts (Slice e h l) = 1 + expr_parts e

abbrev mutual
  pub stmt_parts : Stmt → ℕ
  stmt_parts (Assign slot line gens x part e) = expr_parts e
  stmt_parts (Let slot line gens x e) = expr_parts e
  stmt_parts (If slot line gens c first second) = expr_parts c + body_parts first + else_parts second
  stmt_parts (Case slot line gens v arms other) = expr_parts v + arms_parts arms + else_parts other

  pub body_parts : Body → ℕ
  body_parts Done = 0
  body_parts (Then s rest) = stmt_parts s + body_parts rest

  pub else_parts : Else → ℕ
  else_parts NoElse = 0
  else_parts (Otherwise body) = body_parts body

  pub arms_parts : Arms → ℕ
  arms_parts NoArms = 0
  arms_parts (ThenArm tests body rest) = length tests + body_parts body + arms_parts rest

abbrev pub blocks_parts : List Block → ℕ
blocks_parts [] = 0
blocks_parts (b ∷ blocks) = body_parts b.body + blocks_parts blocks

abbrev pub conns_parts : List Conn → ℕ
conns_parts [] = 0
conns_parts (c ∷ conns) = expr_parts c.value + conns_parts conns

abbrev pub children_parts : List Child → ℕ
children_parts [] = 0
children_parts (c ∷ children) = conns_parts c.conns + children_parts children

-- ---- a variant

abbrev pub variant_signals : Variant → ℕ
variant_signals v = length v.signals

abbrev pub variant_statements : Variant → ℕ
variant_statements v = blocks_size v.blocks

-- those of its connections and of its statements
abbrev pub variant_parts : Variant → ℕ
variant_parts v = children_parts v.children + blocks_parts v.blocks

-- the pairs of a statement of these blocks and a name in scope at it
abbrev pub blocks_cells : Variant → List Block → ℕ
blocks_cells v [] = 0
blocks_cells v (b ∷ blocks) = size b.body * length (scope v b) + blocks_cells v blocks

abbrev pub variant_cells : Variant → ℕ
variant_cells v = blocks_cells v v.blocks

-- ---- all instances

-- the sum, over all instances, of what the variant of each has; nothing where there is no such variant
abbrev pub in_all : (Variant → ℕ) → List Variant → List Instance → ℕ
in_all f variants [] = 0
in_all f variants (r ∷ instances) = unwrap_or (option_map f (slice_get variants r.variant)) 0 + in_all f variants instances
