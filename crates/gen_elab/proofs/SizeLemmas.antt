-- The statements of what is left, one after another.
use Rattle.std.proofs.Common.{◌≡◌, ℕ, ◌+◌, ◌<◌, ◌≤◌, List, map, length, drop, get_or, sym, ap, ◌∙◌}
use Rattle.std.proofs.lemmas.List.{drop_more}
use Rattle.std.proofs.Math.ListN.{drop_of_length-le}
use Rattle.design_core.specs.declared.Stmt as code_stmt
use Rattle.design_core.specs.declared.statement.Arm as code_arm
use Rattle.design_core.specs.declared.Block as code_block
use Rattle.design_core.specs.View.{stmt_of, body_of, arms_of, block_of}
use Rattle.elab_core.specs.Design.{size, stmt_size, arms_size, blocks_size}

pub size_next : (body : List code_stmt.Stmt) (i : ℕ) (s : code_stmt.Stmt) → i < length body → s ≡ get_or body i s → size (body_of (drop i body)) ≡ stmt_size (stmt_of s) + size (body_of (drop (i + 1) body))
size_next body i s below at = ap (λ (l : List code_stmt.Stmt). size (body_of l)) (drop_more body i s below) ∙ ap (λ (x : code_stmt.Stmt). stmt_size (stmt_of x) + size (body_of (drop (i + 1) body))) (sym at)

pub size_end : (body : List code_stmt.Stmt) (i : ℕ) → length body ≤ i → size (body_of (drop i body)) ≡ 0
size_end body i past = ap (λ (l : List code_stmt.Stmt). size (body_of l)) (drop_of_length-le body past)

pub arms_next : (arms : List code_arm.Arm) (i : ℕ) (a : code_arm.Arm) → i < length arms → a ≡ get_or arms i a → arms_size (arms_of (drop i arms)) ≡ size (body_of a.body.items) + arms_size (arms_of (drop (i + 1) arms))
arms_next arms i a below at = ap (λ (l : List code_arm.Arm). arms_size (arms_of l)) (drop_more arms i a below) ∙ ap (λ (x : code_arm.Arm). size (body_of x.body.items) + arms_size (arms_of (drop (i + 1) arms))) (sym at)

pub arms_end : (arms : List code_arm.Arm) (i : ℕ) → length arms ≤ i → arms_size (arms_of (drop i arms)) ≡ 0
arms_end arms i past = ap (λ (l : List code_arm.Arm). arms_size (arms_of l)) (drop_of_length-le arms past)

pub blocks_next : (blocks : List code_block.Block) (i : ℕ) (b : code_block.Block) → i < length blocks → b ≡ get_or blocks i b → blocks_size (map block_of (drop i blocks)) ≡ size (body_of b.body.items) + blocks_size (map block_of (drop (i + 1) blocks))
blocks_next blocks i b below at = ap (λ (l : List code_block.Block). blocks_size (map block_of l)) (drop_more blocks i b below) ∙ ap (λ (x : code_block.Block). size (body_of x.body.items) + blocks_size (map block_of (drop (i + 1) blocks))) (sym at)

pub blocks_end : (blocks : List code_block.Block) (i : ℕ) → length blocks ≤ i → blocks_size (map block_of (drop i blocks)) ≡ 0
blocks_end blocks i past = ap (λ (l : List code_block.Block). blocks_size (map block_of l)) (drop_of_length-le blocks past)

pub ruleset sizes = (size_next, size_end, arms_next, arms_end, blocks_next, blocks_end)
