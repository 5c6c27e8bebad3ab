-- The statements of a body in preorder, by what each is known by.
use Rattle.std.proofs.Common.{◌≡◌, ℕ, ◌+◌, ◌<◌, List, [], ◌∷◌, ◌++◌, length, map, drop, get_or, Option, Vec, Global, refl, sym, ap, ap₂, ◌∙◌, append_assoc}
use Rattle.std.proofs.lemmas.List.{map-append, drop_more}
use Rattle.exec_core.specs.Block.{Name}
use Rattle.design_core.specs.declared.variant.Variant as code_variant
use Rattle.design_core.specs.Design.{Stmt, Assign, Let, If, Case, Body, Done, Then, Else, NoElse, Otherwise, Arms, NoArms, ThenArm, Block}
use Rattle.design_core.specs.Slots.{stmt_heads, heads, else_heads, arms_heads, lets_of}
use Rattle.design_core.specs.View.{variant_of}
use Rattle.design_core.specs.Statements.{inside, statements, else_statements, arms_statements}
use Rattle.shape_net.specs.declared.ordered.NumberedSlot.{NumberedSlot}
use Rattle.design_core.specs.Heads.{head_of, let_names}
use Rattle.design_core.proofs.LetNames.{names_in}
use Rattle.shape_net.specs.Numbered.{numbered_head, numbered_stmt, block_slots, variant_slots, design_slots}

mutual
  inside_heads : (s : Stmt) → head_of s ∷ map head_of (inside s) ≡ stmt_heads s
  inside_heads (Assign slot line gens x part e) = refl
  inside_heads (Let slot line gens x e) = refl
  inside_heads (If slot line gens c first second) =
      ap (λ l. record { slot = slot; line = line; gens = gens } ∷ l) (map-append head_of (statements first) (else_statements second) ∙ ap₂ (λ a b. a ++ b) (body_heads first) (else_body_heads second))
  inside_heads (Case slot line gens v arms other) =
      ap (λ l. record { slot = slot; line = line; gens = gens } ∷ l) (map-append head_of (arms_statements arms) (else_statements other) ∙ ap₂ (λ a b. a ++ b) (arms_have_heads arms) (else_body_heads other))

  arms_have_heads : (arms : Arms) → map head_of (arms_statements arms) ≡ arms_heads arms
  arms_have_heads NoArms = refl
  arms_have_heads (ThenArm tests body rest) = map-append head_of (statements body) (arms_statements rest) ∙ ap₂ (λ a b. a ++ b) (body_heads body) (arms_have_heads rest)

  pub body_heads : (b : Body) → map head_of (statements b) ≡ heads b
  body_heads Done = refl
  body_heads (Then s rest) =
      map-append head_of (s ∷ inside s) (statements rest) ∙ ap₂ (λ a b. a ++ b) (inside_heads s) (body_heads rest)

  else_body_heads : (e : Else) → map head_of (else_statements e) ≡ else_heads e
  else_body_heads NoElse = refl
  else_body_heads (Otherwise body) = body_heads body

by_heads : (v : ℕ) (names : List Name) (stmts : List Stmt) → map (numbered_stmt v names) stmts ≡ map (numbered_head v names) (map head_of stmts)
by_heads v names [] = refl
by_heads v names (s ∷ stmts) = ap (λ l. numbered_stmt v names s ∷ l) (by_heads v names stmts)

-- the statements of a block, with its lets
pub block_numbered : (v : ℕ) (signals : List Name) (b : Block) (stmts : List Stmt) (lets : List Name) → stmts ≡ statements b.body → lets ≡ let_names stmts
    → map (numbered_stmt v (signals ++ lets)) stmts ≡ block_slots v signals b
block_numbered v signals b stmts lets are named =
    ap₂ (λ (l : List Name) (s : List Stmt). map (numbered_stmt v (signals ++ l)) s) (named ∙ ap let_names are ∙ names_in b.body) are
    ∙ by_heads v (signals ++ lets_of b.body) (statements b.body)
    ∙ ap (map (numbered_head v (signals ++ lets_of b.body))) (body_heads b.body)

-- a variant more
pub variants_next : (slots after all : List NumberedSlot) (variants : List code_variant.Variant) (i : ℕ) (w : code_variant.Variant) → i < length variants → w ≡ get_or variants i w
    → after ≡ slots ++ variant_slots i (variant_of w) → slots ++ design_slots i (map variant_of (drop i variants)) ≡ all
    → after ++ design_slots (i + 1) (map variant_of (drop (i + 1) variants)) ≡ all
variants_next slots after all variants i w below at put was =
    let rest : List NumberedSlot = design_slots (i + 1) (map variant_of (drop (i + 1) variants)) in
    ap (λ (l : List NumberedSlot). l ++ rest) put
    ∙ append_assoc slots (variant_slots i (variant_of w)) rest
    ∙ ap (λ (x : code_variant.Variant). slots ++ (variant_slots i (variant_of x) ++ rest)) at
    ∙ sym (ap (λ (l : List code_variant.Variant). slots ++ design_slots i (map variant_of l)) (drop_more variants i w below))
    ∙ was
