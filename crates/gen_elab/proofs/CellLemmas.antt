-- Cells, one block and one instance after another.
use Rattle.std.proofs.Common.{◌≡◌, ℕ, ◌+◌, ◌*◌, ◌<◌, ◌≤◌, min, List, ◌++◌, map, length, length-append, drop, get_or, nat_lt, refl, sym, ap, ◌∙◌, arith}
use Rattle.std.proofs.lemmas.List.{drop_more, length-map}
use Rattle.std.proofs.Math.ListN.{drop_of_length-le}
use Rattle.design_core.specs.declared.Stmt as code_stmt
use Rattle.design_core.specs.declared.statement.Arm as code_arm
use Rattle.design_core.specs.declared.Block as code_block
use Rattle.design_core.specs.Design.{Stmt, Assign, Let, If, Case, Body, Done, Then, Else, NoElse, Otherwise, Arms, NoArms, ThenArm, Block}
use Rattle.design_core.specs.Slots.{lets_of, let_of, else_lets, arms_lets}
use Rattle.design_core.specs.View.{stmt_of, body_of, arms_of, block_of}
use Rattle.elab_core.specs.declared.Instance as code_instance
use Rattle.elab_core.specs.Elaborated.{Content}
use Rattle.elab_core.specs.declared.Content as code_content_type
use Rattle.elab_core.specs.View.{content_of, instance_of}
use Rattle.elab_core.specs.Design.{size, stmt_size, else_size, arms_size, block_cells, blocks_cells, blocks_size, cells}
use Rattle.gen_elab.specs.Offsets.{all_statements}
use Rattle.gen_elab.proofs.SizeLemmas.{size_next, arms_next, blocks_next}

-- lets are statements
mutual
  let_few : (s : Stmt) → length (let_of s) ≤ stmt_size s
  let_few (Assign slot line gens x part e) = omega arith
  let_few (Let slot line gens x e) = omega arith
  let_few (If slot line gens c first second) = omega (arith, lets_few first, else_few second, length-append (lets_of first) (else_lets second))
  let_few (Case slot line gens v arms other) = omega (arith, arm_few arms, else_few other, length-append (arms_lets arms) (else_lets other))

  pub lets_few : (body : Body) → length (lets_of body) ≤ size body
  lets_few Done = omega arith
  lets_few (Then s rest) = omega (arith, let_few s, lets_few rest, length-append (let_of s) (lets_of rest))

  else_few : (e : Else) → length (else_lets e) ≤ else_size e
  else_few NoElse = omega arith
  else_few (Otherwise body) = lets_few body

  pub arm_few : (arms : Arms) → length (arms_lets arms) ≤ arms_size arms
  arm_few NoArms = omega arith
  arm_few (ThenArm tests body rest) = omega (arith, lets_few body, arm_few rest, length-append (lets_of body) (arms_lets rest))

pub lets_next : (body : List code_stmt.Stmt) (i : ℕ) (s : code_stmt.Stmt) → i < length body → s ≡ get_or body i s
    → length (lets_of (body_of (drop i body))) ≡ length (let_of (stmt_of s)) + length (lets_of (body_of (drop (i + 1) body)))
lets_next body i s below at =
    ap (λ (l : List code_stmt.Stmt). length (lets_of (body_of l))) (drop_more body i s below)
    ∙ length-append (let_of (stmt_of (get_or body i s))) (lets_of (body_of (drop (i + 1) body)))
    ∙ ap (λ (x : code_stmt.Stmt). length (let_of (stmt_of x)) + length (lets_of (body_of (drop (i + 1) body)))) (sym at)

pub lets_end : (body : List code_stmt.Stmt) (i : ℕ) → length body ≤ i → length (lets_of (body_of (drop i body))) ≡ 0
lets_end body i past = ap (λ (l : List code_stmt.Stmt). length (lets_of (body_of l))) (drop_of_length-le body past)

pub arm_lets_next : (arms : List code_arm.Arm) (i : ℕ) (a : code_arm.Arm) → i < length arms → a ≡ get_or arms i a
    → length (arms_lets (arms_of (drop i arms))) ≡ length (lets_of (body_of a.body.items)) + length (arms_lets (arms_of (drop (i + 1) arms)))
arm_lets_next arms i a below at =
    ap (λ (l : List code_arm.Arm). length (arms_lets (arms_of l))) (drop_more arms i a below)
    ∙ length-append (lets_of (body_of (get_or arms i a).body.items)) (arms_lets (arms_of (drop (i + 1) arms)))
    ∙ ap (λ (x : code_arm.Arm). length (lets_of (body_of x.body.items)) + length (arms_lets (arms_of (drop (i + 1) arms)))) (sym at)

pub arm_lets_end : (arms : List code_arm.Arm) (i : ℕ) → length arms ≤ i → length (arms_lets (arms_of (drop i arms))) ≡ 0
arm_lets_end arms i past = ap (λ (l : List code_arm.Arm). length (arms_lets (arms_of l))) (drop_of_length-le arms past)

pub case_lets : (arms : Arms) (other : Else) → length (arms_lets arms ++ else_lets other) ≡ length (arms_lets arms) + length (else_lets other)
case_lets arms other = length-append (arms_lets arms) (else_lets other)

-- one arm is no more than those that are left, and those after it are fewer
pub arm_left : (arms : List code_arm.Arm) (i all : ℕ) (a : code_arm.Arm) → i < length arms → a ≡ get_or arms i a → arms_size (arms_of (drop i arms)) ≤ all → size (body_of a.body.items) + arms_size (arms_of (drop (i + 1) arms)) ≤ all
arm_left arms i all a below at h = omega (arith, h, arms_next arms i a below at)

pub if_lets : (first : Body) (second : Else) → length (lets_of first ++ else_lets second) ≡ length (lets_of first) + length (else_lets second)
if_lets first second = length-append (lets_of first) (else_lets second)

-- one statement is no more than those that are left, and those after it are fewer
pub size_left : (body : List code_stmt.Stmt) (i all : ℕ) (s : code_stmt.Stmt) → i < length body → s ≡ get_or body i s → size (body_of (drop i body)) ≤ all → stmt_size (stmt_of s) + size (body_of (drop (i + 1) body)) ≤ all
size_left body i all s below at h = omega (arith, h, size_next body i s below at)

-- ---- blocks and instances

block_as : (content : Content) (b : Block) → block_cells content b ≡ size b.body * (length content.signals + length (lets_of b.body))
block_as content b = ap (λ n. size b.body * n) (length-append (map (λ s. s.name) content.signals) (lets_of b.body) ∙ ap (λ n. n + length (lets_of b.body)) (length-map content.signals (λ s. s.name)))

-- the greatest number stands for all that are greater
saturated : (t c r all most : ℕ) → min (t + (c + r)) most ≡ min all most → min (min (t + min c most) most + r) most ≡ min all most
saturated t c r all most h = omega (arith, h)

pub block_turn : (content : Content) (blocks : List code_block.Block) (i total cells_now after : ℕ) (b : code_block.Block) → i < length blocks → b ≡ get_or blocks i b
    → cells_now ≡ min (size (block_of b).body * (length content.signals + length (lets_of (block_of b).body))) 18446744073709551615 → after ≡ min (total + cells_now) 18446744073709551615
    → min (total + blocks_cells content (map block_of (drop i blocks))) 18446744073709551615 ≡ min (blocks_cells content (map block_of blocks)) 18446744073709551615
    → min (after + blocks_cells content (map block_of (drop (i + 1) blocks))) 18446744073709551615 ≡ min (blocks_cells content (map block_of blocks)) 18446744073709551615
block_turn content blocks i total cells_now after b below at is grown h =
    let split : blocks_cells content (map block_of (drop i blocks)) ≡ block_cells content (block_of b) + blocks_cells content (map block_of (drop (i + 1) blocks)) =
    ap (λ (l : List code_block.Block). blocks_cells content (map block_of l)) (drop_more blocks i b below) ∙ ap (λ (x : code_block.Block). block_cells content (block_of x) + blocks_cells content (map block_of (drop (i + 1) blocks))) (sym at) in
    let same : cells_now ≡ min (block_cells content (block_of b)) 18446744073709551615 = is ∙ ap (λ n. min n 18446744073709551615) (sym (block_as content (block_of b))) in
    ap (λ n. min (n + blocks_cells content (map block_of (drop (i + 1) blocks))) 18446744073709551615) (grown ∙ ap (λ n. min (total + n) 18446744073709551615) same)
    ∙ saturated total (block_cells content (block_of b)) (blocks_cells content (map block_of (drop (i + 1) blocks))) (blocks_cells content (map block_of blocks)) 18446744073709551615
    (ap (λ n. min (total + n) 18446744073709551615) (sym split) ∙ h)

pub block_end : (content : Content) (blocks : List code_block.Block) (i total : ℕ) → length blocks ≤ i → total < 18446744073709551616
    → min (total + blocks_cells content (map block_of (drop i blocks))) 18446744073709551615 ≡ min (blocks_cells content (map block_of blocks)) 18446744073709551615
    → total ≡ min (blocks_cells content (map block_of blocks)) 18446744073709551615
block_end content blocks i total past fits h =
    let none : blocks_cells content (map block_of (drop i blocks)) ≡ 0 = ap (λ (l : List code_block.Block). blocks_cells content (map block_of l)) (drop_of_length-le blocks past) in
    omega (arith, fits, h, none)

pub blocks_left : (blocks : List code_block.Block) (i all : ℕ) (b : code_block.Block) → i < length blocks → b ≡ get_or blocks i b → blocks_size (map block_of (drop i blocks)) ≤ all → size (block_of b).body + blocks_size (map block_of (drop (i + 1) blocks)) ≤ all
blocks_left blocks i all b below at h = omega (arith, h, blocks_next blocks i b below at)

pub instance_turn : (all : List code_instance.Instance) (i total cells_now after : ℕ) (x : code_instance.Instance) → i < length all → x ≡ get_or all i x
    → cells_now ≡ min (blocks_cells (instance_of x).content (instance_of x).content.blocks) 18446744073709551615 → after ≡ min (total + cells_now) 18446744073709551615
    → min (total + cells (map instance_of (drop i all))) 18446744073709551615 ≡ min (cells (map instance_of all)) 18446744073709551615
    → min (after + cells (map instance_of (drop (i + 1) all))) 18446744073709551615 ≡ min (cells (map instance_of all)) 18446744073709551615
instance_turn all i total cells_now after x below at is grown h =
    let own = blocks_cells (instance_of x).content (instance_of x).content.blocks in
    let split : cells (map instance_of (drop i all)) ≡ own + cells (map instance_of (drop (i + 1) all)) =
    ap (λ (l : List code_instance.Instance). cells (map instance_of l)) (drop_more all i x below) ∙ ap (λ (y : code_instance.Instance). blocks_cells (instance_of y).content (instance_of y).content.blocks + cells (map instance_of (drop (i + 1) all))) (sym at) in
    ap (λ n. min (n + cells (map instance_of (drop (i + 1) all))) 18446744073709551615) (grown ∙ ap (λ n. min (total + n) 18446744073709551615) is)
    ∙ saturated total own (cells (map instance_of (drop (i + 1) all))) (cells (map instance_of all)) 18446744073709551615 (ap (λ n. min (total + n) 18446744073709551615) (sym split) ∙ h)

pub instance_left : (all : List code_instance.Instance) (i most : ℕ) (x : code_instance.Instance) → i < length all → x ≡ get_or all i x → all_statements (map instance_of (drop i all)) ≤ most
    → blocks_size (instance_of x).content.blocks + all_statements (map instance_of (drop (i + 1) all)) ≤ most
instance_left all i most x below at h =
    let split : all_statements (map instance_of (drop i all)) ≡ blocks_size (instance_of x).content.blocks + all_statements (map instance_of (drop (i + 1) all)) =
    ap (λ (l : List code_instance.Instance). all_statements (map instance_of l)) (drop_more all i x below) ∙ ap (λ (y : code_instance.Instance). blocks_size (instance_of y).content.blocks + all_statements (map instance_of (drop (i + 1) all))) (sym at) in
    omega (arith, h, split)

-- what the test of the code tells
pub too_many : (all : List code_instance.Instance) (i total : ℕ) → length all ≤ i → total < 18446744073709551616 → min (total + cells (map instance_of (drop i all))) 18446744073709551615 ≡ min (cells (map instance_of all)) 18446744073709551615
    → nat_lt 4000000 total ≡ nat_lt 4000000 (cells (map instance_of all))
too_many all i total past fits h =
    let none : cells (map instance_of (drop i all)) ≡ 0 = ap (λ (l : List code_instance.Instance). cells (map instance_of l)) (drop_of_length-le all past) in
    let same : min total 18446744073709551615 ≡ min (cells (map instance_of all)) 18446744073709551615 = omega (arith, fits, h, none) in
    grind (arith, same)

pub code_content : (x : code_instance.Instance) → (instance_of x).content ≡ content_of x.content
unfolding instance_of
code_content x = refl

pub code_blocks : (c : code_content_type.Content) → (content_of c).blocks ≡ map block_of c.blocks.items
unfolding content_of
code_blocks c = refl

pub ruleset cell_steps = (lets_next, lets_end, arm_lets_next, arm_lets_end, if_lets, case_lets, lets_few, arm_few, size_left, arm_left)
