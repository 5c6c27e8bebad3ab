-- The statements of a design as slots.
use Rattle.std.specs.Prelude.{◌≡◌, ℕ, ◌+◌, List, [], ◌∷◌, ◌++◌, map}
use Rattle.std.specs.List.{flat_map}
use Rattle.list_core.specs.Lists.{from}
use Rattle.exec_core.specs.Block.{Name}
use Rattle.design_core.specs.Design.{Gens, Stmt, Assign, Let, If, Case, Body, Done, Then, Else, NoElse, Otherwise, Arms, NoArms, ThenArm, Block, Variant}

-- how many statements stand in it, with those inside others
abbrev mutual
  pub stmt_size : Stmt → ℕ
  stmt_size (Assign slot line gens x part e) = 1
  stmt_size (Let slot line gens x e) = 1
  stmt_size (If slot line gens c first second) = 1 + size first + else_size second
  stmt_size (Case slot line gens v arms other) = 1 + arms_size arms + else_size other

  pub size : Body → ℕ
  size Done = 0
  size (Then s rest) = stmt_size s + size rest

  pub else_size : Else → ℕ
  else_size NoElse = 0
  else_size (Otherwise body) = size body

  pub arms_size : Arms → ℕ
  arms_size NoArms = 0
  arms_size (ThenArm tests body rest) = size body + arms_size rest

-- the lets of a body, in preorder
abbrev mutual
  pub let_of : Stmt → List Name
  let_of (Assign slot line gens x part e) = []
  let_of (Let slot line gens x e) = x ∷ []
  let_of (If slot line gens c first second) = lets_of first ++ else_lets second
  let_of (Case slot line gens v arms other) = arms_lets arms ++ else_lets other

  pub lets_of : Body → List Name
  lets_of Done = []
  lets_of (Then s rest) = let_of s ++ lets_of rest

  pub else_lets : Else → List Name
  else_lets NoElse = []
  else_lets (Otherwise body) = lets_of body

  pub arms_lets : Arms → List Name
  arms_lets NoArms = []
  arms_lets (ThenArm tests body rest) = lets_of body ++ arms_lets rest

-- a statement: its slot, its line, the generator variables at it
pub record Head : Type 0 where
  pub slot : ℕ
  pub line : ℕ
  pub gens : Gens

-- the statements of a body in preorder: those of the arms of a `case` in order, then those of its default
abbrev mutual
  pub stmt_heads : Stmt → List Head
  stmt_heads (Assign slot line gens x part e) = record { slot = slot; line = line; gens = gens } ∷ []
  stmt_heads (Let slot line gens x e) = record { slot = slot; line = line; gens = gens } ∷ []
  stmt_heads (If slot line gens c first second) = record { slot = slot; line = line; gens = gens } ∷ heads first ++ else_heads second
  stmt_heads (Case slot line gens v arms other) = record { slot = slot; line = line; gens = gens } ∷ arms_heads arms ++ else_heads other

  pub heads : Body → List Head
  heads Done = []
  heads (Then s rest) = stmt_heads s ++ heads rest

  pub else_heads : Else → List Head
  else_heads NoElse = []
  else_heads (Otherwise body) = heads body

  pub arms_heads : Arms → List Head
  arms_heads NoArms = []
  arms_heads (ThenArm tests body rest) = heads body ++ arms_heads rest

-- those of a variant, block by block
abbrev pub variant_heads : Variant → List Head
variant_heads v = flat_map (λ b. heads b.body) v.blocks

-- the names in scope in a block: the signals in the order of their declaration, then the lets of the block in preorder
abbrev pub scope : Variant → Block → List Name
scope v b = map (λ s. s.name) v.signals ++ lets_of b.body

-- the statements of blocks
abbrev pub blocks_size : List Block → ℕ
blocks_size [] = 0
blocks_size (b ∷ blocks) = size b.body + blocks_size blocks

-- ---- numbers of statements

abbrev pub slots_of : List Head → List ℕ
slots_of heads = map (λ h. h.slot) heads

-- the statements of a variant in preorder, block by block, have so many slots from one on
pub record AreNumbered (v : Variant) : Type 0 where
  pub first : ℕ
  pub count : ℕ
  pub slots : slots_of (variant_heads v) ≡ from first count
