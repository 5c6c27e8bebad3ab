-- Statements that get their slots are as many as before, with the same lets and the same parts.
use Rattle.std.proofs.Common.{◌≡◌, ℕ, ◌+◌, ◌*◌, ◌≤◌, List, [], ◌∷◌, ◌++◌, map, length, length-append, refl, ap, ap₂, arith}
use Rattle.std.proofs.lemmas.List.{length-map}
use Rattle.exec_core.specs.Block.{Name}
use Rattle.list_core.specs.Lists.{EachOf}
use Rattle.design_core.specs.declared.Signal.{Signal}
use Rattle.design_core.specs.Design.{Stmt, Assign, Let, If, Case, Body, Done, Then, Else, NoElse, Otherwise, Arms, NoArms, ThenArm, Block, Variant}
use Rattle.design_core.specs.Slots.{stmt_size, size, else_size, arms_size, let_of, lets_of, else_lets, arms_lets, scope, blocks_size}
use Rattle.design_core.specs.Sizes.{expr_parts, stmt_parts, body_parts, else_parts, arms_parts, blocks_parts, conns_parts}
use Rattle.design_core.specs.Sizes as sizes
use Rattle.design_core.specs.WellFormed.{AreFew}
use Rattle.elab_core.specs.Elaborated.{Child, Content, Instance}
use Rattle.elab_core.specs.Design.{numbered, numbered_stmt, numbered_else, numbered_arms, numbered_blocks, child_in}
use Rattle.elab_core.specs.Design as elab
use Rattle.elab_laws.specs.Sizes.{children_parts}

mutual
  size_same : (k : ℕ) (b : Body) → size (numbered k b) ≡ size b
  size_same k Done = refl
  size_same k (Then s rest) = ap₂ (λ m n. m + n) (stmt_size_same k s) (size_same (k + stmt_size s) rest)

  stmt_size_same : (k : ℕ) (s : Stmt) → stmt_size (numbered_stmt k s) ≡ stmt_size s
  stmt_size_same k (Assign slot line gens x part e) = refl
  stmt_size_same k (Let slot line gens x e) = refl
  stmt_size_same k (If slot line gens c first second) = ap₂ (λ m n. 1 + m + n) (size_same (k + 1) first) (else_size_same (k + 1 + size first) second)
  stmt_size_same k (Case slot line gens v arms other) = ap₂ (λ m n. 1 + m + n) (arms_size_same (k + 1) arms) (else_size_same (k + 1 + arms_size arms) other)

  arms_size_same : (k : ℕ) (arms : Arms) → arms_size (numbered_arms k arms) ≡ arms_size arms
  arms_size_same k NoArms = refl
  arms_size_same k (ThenArm tests body rest) = ap₂ (λ m n. m + n) (size_same k body) (arms_size_same (k + size body) rest)

  else_size_same : (k : ℕ) (e : Else) → else_size (numbered_else k e) ≡ else_size e
  else_size_same k NoElse = refl
  else_size_same k (Otherwise body) = size_same k body

mutual
  lets_same : (k : ℕ) (b : Body) → lets_of (numbered k b) ≡ lets_of b
  lets_same k Done = refl
  lets_same k (Then s rest) = ap₂ (λ (l m : List Name). l ++ m) (let_same k s) (lets_same (k + stmt_size s) rest)

  let_same : (k : ℕ) (s : Stmt) → let_of (numbered_stmt k s) ≡ let_of s
  let_same k (Assign slot line gens x part e) = refl
  let_same k (Let slot line gens x e) = refl
  let_same k (If slot line gens c first second) = ap₂ (λ (l m : List Name). l ++ m) (lets_same (k + 1) first) (else_lets_same (k + 1 + size first) second)
  let_same k (Case slot line gens v arms other) = ap₂ (λ (l m : List Name). l ++ m) (arms_lets_same (k + 1) arms) (else_lets_same (k + 1 + arms_size arms) other)

  arms_lets_same : (k : ℕ) (arms : Arms) → arms_lets (numbered_arms k arms) ≡ arms_lets arms
  arms_lets_same k NoArms = refl
  arms_lets_same k (ThenArm tests body rest) = ap₂ (λ (l m : List Name). l ++ m) (lets_same k body) (arms_lets_same (k + size body) rest)

  else_lets_same : (k : ℕ) (e : Else) → else_lets (numbered_else k e) ≡ else_lets e
  else_lets_same k NoElse = refl
  else_lets_same k (Otherwise body) = lets_same k body

mutual
  parts_same : (k : ℕ) (b : Body) → body_parts (numbered k b) ≡ body_parts b
  parts_same k Done = refl
  parts_same k (Then s rest) = ap₂ (λ m n. m + n) (stmt_parts_same k s) (parts_same (k + stmt_size s) rest)

  stmt_parts_same : (k : ℕ) (s : Stmt) → stmt_parts (numbered_stmt k s) ≡ stmt_parts s
  stmt_parts_same k (Assign slot line gens x part e) = refl
  stmt_parts_same k (Let slot line gens x e) = refl
  stmt_parts_same k (If slot line gens c first second) = ap₂ (λ m n. expr_parts c + m + n) (parts_same (k + 1) first) (else_parts_same (k + 1 + size first) second)
  stmt_parts_same k (Case slot line gens v arms other) = ap₂ (λ m n. expr_parts v + m + n) (arms_parts_same (k + 1) arms) (else_parts_same (k + 1 + arms_size arms) other)

  arms_parts_same : (k : ℕ) (arms : Arms) → arms_parts (numbered_arms k arms) ≡ arms_parts arms
  arms_parts_same k NoArms = refl
  arms_parts_same k (ThenArm tests body rest) = ap₂ (λ m n. length tests + m + n) (parts_same k body) (arms_parts_same (k + size body) rest)

  else_parts_same : (k : ℕ) (e : Else) → else_parts (numbered_else k e) ≡ else_parts e
  else_parts_same k NoElse = refl
  else_parts_same k (Otherwise body) = parts_same k body

-- ---- blocks

pub same_size : (k : ℕ) (blocks : List Block) → blocks_size (numbered_blocks k blocks) ≡ blocks_size blocks
same_size k [] = refl
same_size k (b ∷ blocks) = ap₂ (λ m n. m + n) (size_same k b.body) (same_size (k + size b.body) blocks)

same_blocks_parts : (k : ℕ) (blocks : List Block) → blocks_parts (numbered_blocks k blocks) ≡ blocks_parts blocks
same_blocks_parts k [] = refl
same_blocks_parts k (b ∷ blocks) = ap₂ (λ m n. m + n) (parts_same k b.body) (same_blocks_parts (k + size b.body) blocks)

same_children_parts : (variants : List Instance) (children : List Child) → sizes.children_parts (map (child_in variants) children) ≡ children_parts children
same_children_parts variants [] = refl
same_children_parts variants (c ∷ children) = ap (λ n. conns_parts c.conns + n) (same_children_parts variants children)

pub same_parts : (k : ℕ) (variants : List Instance) (c : Content) → sizes.children_parts (map (child_in variants) c.children) + blocks_parts (numbered_blocks k c.blocks) ≡ children_parts c.children + blocks_parts c.blocks
same_parts k variants c = ap₂ (λ m n. m + n) (same_children_parts variants c.children) (same_blocks_parts k c.blocks)

-- the cells of a variant that has the signals of a content
pub same_cells : (k : ℕ) (v : Variant) (c : Content) (blocks : List Block) → v.signals ≡ c.signals → sizes.blocks_cells v (numbered_blocks k blocks) ≡ elab.blocks_cells c blocks
same_cells k v c [] e = refl
same_cells k v c (b ∷ blocks) e =
    ap₂ (λ m n. m + n)
    (ap₂ (λ m (l : List Name). m * length l) (size_same k b.body) (ap₂ (λ (l : List Signal) (m : List Name). map (λ s. s.name) l ++ m) e (lets_same k b.body)))
    (same_cells (k + size b.body) v c blocks e)

-- ---- no more lets than statements

mutual
  lets_within : (b : Body) → length (lets_of b) ≤ size b
  lets_within Done = omega arith
  lets_within (Then s rest) = omega (arith, length-append (let_of s) (lets_of rest), let_within s, lets_within rest)

  let_within : (s : Stmt) → length (let_of s) ≤ stmt_size s
  let_within (Assign slot line gens x part e) = omega arith
  let_within (Let slot line gens x e) = omega arith
  let_within (If slot line gens c first second) = omega (arith, length-append (lets_of first) (else_lets second), lets_within first, else_within second)
  let_within (Case slot line gens v arms other) = omega (arith, length-append (arms_lets arms) (else_lets other), arms_within arms, else_within other)

  arms_within : (arms : Arms) → length (arms_lets arms) ≤ arms_size arms
  arms_within NoArms = omega arith
  arms_within (ThenArm tests body rest) = omega (arith, length-append (lets_of body) (arms_lets rest), lets_within body, arms_within rest)

  else_within : (e : Else) → length (else_lets e) ≤ else_size e
  else_within NoElse = omega arith
  else_within (Otherwise body) = lets_within body

-- few names are in scope
pub few_in : (k : ℕ) (v : Variant) (blocks : List Block) → length v.signals ≤ 200000 → blocks_size blocks ≤ 200000 → EachOf (λ b. AreFew (scope v b)) (numbered_blocks k blocks)
few_in k v [] h g = tt
few_in k v (b ∷ blocks) h g = (
  omega (
    arith,
    length-append (map (λ (s : Signal). s.name) v.signals) (lets_of (numbered k b.body)),
    length-map v.signals (λ (s : Signal). s.name),
    ap (λ (l : List Name). length l) (lets_same k b.body),
    lets_within b.body,
    h,
    g,
  ),
  few_in (k + size b.body) v blocks h (omega (arith, g)),
)
