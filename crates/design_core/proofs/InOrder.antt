-- The statements of what is left, one after another.
use Rattle.std.proofs.Common.{◌≡◌, ℕ, ℤ, ◌+◌, Vec, Option, Global, ◌<◌, ◌≤◌, List, [], ◌∷◌, ◌++◌, length, drop, get_or, append_assoc, append-nil, sym, ap, ◌∙◌}
use Rattle.std.proofs.lemmas.List.{drop_more}
use Rattle.std.proofs.Math.ListN.{drop_of_length-le}
use Rattle.design_core.specs.declared.statement.Stmt as code_stmt
use Rattle.design_core.specs.declared.expr.Expr as code_expr
use Rattle.design_core.specs.declared.statement.Stmt.TheVariants as code_stmts
use Rattle.design_core.specs.declared.statement.Arm as code_arm
use Rattle.design_core.proofs.Views.{stmt_assign, stmt_let, stmt_if, stmt_case}
use Rattle.design_core.specs.Slots.{size, stmt_size, arms_size}
use Rattle.exec_core.specs.Block.{Name}
use Rattle.design_core.specs.View.{stmt_of, body_of, arms_of, else_of}
use Rattle.design_core.specs.Design.{Gens, Stmt}
use Rattle.design_core.specs.Statements.{statements, inside, arms_statements, else_statements}

pub next_turn : (found now : List Stmt) (body : List code_stmt.Stmt) (i : ℕ) (s : code_stmt.Stmt) → i < length body → s ≡ get_or body i s
    → now ≡ (found ++ stmt_of s ∷ []) ++ inside (stmt_of s)
    → now ++ statements (body_of (drop (i + 1) body)) ≡ found ++ statements (body_of (drop i body))
next_turn found now body i s below at is =
    let rest : List Stmt = statements (body_of (drop (i + 1) body)) in
    let split : statements (body_of (drop i body)) ≡ stmt_of s ∷ (inside (stmt_of s) ++ rest) =
    ap (λ (l : List code_stmt.Stmt). statements (body_of l)) (drop_more body i s below) ∙ ap (λ (x : code_stmt.Stmt). stmt_of x ∷ (inside (stmt_of x) ++ rest)) (sym at) in
    ap (λ (l : List Stmt). l ++ rest) is
    ∙ append_assoc (found ++ stmt_of s ∷ []) (inside (stmt_of s)) rest
    ∙ append_assoc found (stmt_of s ∷ []) (inside (stmt_of s) ++ rest)
    ∙ ap (λ (l : List Stmt). found ++ l) (sym split)

pub last_turn : (found : List Stmt) (body : List code_stmt.Stmt) (i : ℕ) → length body ≤ i → found ++ statements (body_of (drop i body)) ≡ found
last_turn found body i past = ap (λ (l : List code_stmt.Stmt). found ++ statements (body_of l)) (drop_of_length-le body past) ∙ append-nil found

-- two lists behind one another
pub both_behind : (found now then : List Stmt) (a b : List Stmt) → now ≡ found ++ a → then ≡ now ++ b → then ≡ found ++ (a ++ b)
both_behind found now then a b e f = f ∙ ap (λ (l : List Stmt). l ++ b) e ∙ append_assoc found a b

pub nothing_behind : (found : List Stmt) → found ≡ found ++ []
nothing_behind found = sym (append-nil found)

-- what stands inside a statement, behind others
pub assign_inside : (found : List Stmt) (s : code_stmt.Stmt) (slot line : ℕ) (gens : Gens) (x : Name) (part : Option (ℤ × ℤ)) (e : code_expr.Expr) → s ≡ code_stmts.Assign slot line gens x part e → found ≡ found ++ inside (stmt_of s)
assign_inside found s slot line gens x part e is =
    nothing_behind found ∙ ap (λ (t : Stmt). found ++ inside t) (sym (stmt_assign slot line gens x part e)) ∙ ap (λ (t : code_stmt.Stmt). found ++ inside (stmt_of t)) (sym is)

pub let_inside : (found : List Stmt) (s : code_stmt.Stmt) (slot line : ℕ) (gens : Gens) (x : Name) (e : code_expr.Expr) → s ≡ code_stmts.Let slot line gens x e → found ≡ found ++ inside (stmt_of s)
let_inside found s slot line gens x e is =
    nothing_behind found ∙ ap (λ (t : Stmt). found ++ inside t) (sym (stmt_let slot line gens x e)) ∙ ap (λ (t : code_stmt.Stmt). found ++ inside (stmt_of t)) (sym is)

pub if_inside : (found now then : List Stmt) (s : code_stmt.Stmt) (slot line : ℕ) (gens : Gens) (c : code_expr.Expr) (a : Vec code_stmt.Stmt Global) (b : Option (Vec code_stmt.Stmt Global)) (items : List code_stmt.Stmt)
    → s ≡ code_stmts.If slot line gens c a b → items ≡ a.items → now ≡ found ++ statements (body_of items) → then ≡ now ++ else_statements (else_of b) → then ≡ found ++ inside (stmt_of s)
if_inside found now then s slot line gens c a b items is same first second =
    both_behind found now then (statements (body_of a.items)) (else_statements (else_of b)) (first ∙ ap (λ (l : List code_stmt.Stmt). found ++ statements (body_of l)) same) second
    ∙ ap (λ (t : Stmt). found ++ inside t) (sym (stmt_if slot line gens c a b)) ∙ ap (λ (t : code_stmt.Stmt). found ++ inside (stmt_of t)) (sym is)

pub case_inside : (found now then : List Stmt) (s : code_stmt.Stmt) (slot line : ℕ) (gens : Gens) (v : code_expr.Expr) (a : Vec code_arm.Arm Global) (b : Option (Vec code_stmt.Stmt Global)) (items : List code_arm.Arm)
    → s ≡ code_stmts.Case slot line gens v a b → items ≡ a.items → now ≡ found ++ arms_statements (arms_of items) → then ≡ now ++ else_statements (else_of b) → then ≡ found ++ inside (stmt_of s)
case_inside found now then s slot line gens v a b items is same first second =
    both_behind found now then (arms_statements (arms_of a.items)) (else_statements (else_of b)) (first ∙ ap (λ (l : List code_arm.Arm). found ++ arms_statements (arms_of l)) same) second
    ∙ ap (λ (t : Stmt). found ++ inside t) (sym (stmt_case slot line gens v a b)) ∙ ap (λ (t : code_stmt.Stmt). found ++ inside (stmt_of t)) (sym is)

-- ---- arms

arms_split : (arms : List code_arm.Arm) (i : ℕ) (a : code_arm.Arm) → i < length arms → a ≡ get_or arms i a → drop i arms ≡ a ∷ drop (i + 1) arms
arms_split arms i a below at = drop_more arms i a below ∙ ap (λ (x : code_arm.Arm). x ∷ drop (i + 1) arms) (sym at)

-- how many statements are left in them
pub arms_next : (arms : List code_arm.Arm) (i : ℕ) (a : code_arm.Arm) → i < length arms → a ≡ get_or arms i a → arms_size (arms_of (drop i arms)) ≡ size (body_of a.body.items) + arms_size (arms_of (drop (i + 1) arms))
arms_next arms i a below at = ap (λ (l : List code_arm.Arm). arms_size (arms_of l)) (arms_split arms i a below at)

pub next_arm : (found now : List Stmt) (arms : List code_arm.Arm) (i : ℕ) (a : code_arm.Arm) (items : List code_stmt.Stmt) → i < length arms → a ≡ get_or arms i a → items ≡ a.body.items
    → now ≡ found ++ statements (body_of items)
    → now ++ arms_statements (arms_of (drop (i + 1) arms)) ≡ found ++ arms_statements (arms_of (drop i arms))
next_arm found now arms i a items below at same is =
    ap (λ (l : List Stmt). l ++ rest) (is ∙ ap (λ (l : List code_stmt.Stmt). found ++ statements (body_of l)) same)
    ∙ append_assoc found (statements (body_of a.body.items)) rest
    ∙ ap (λ (l : List code_arm.Arm). found ++ arms_statements (arms_of l)) (sym (arms_split arms i a below at))
  where
    rest : List Stmt
    rest = arms_statements (arms_of (drop (i + 1) arms))

pub last_arm : (found : List Stmt) (arms : List code_arm.Arm) (i : ℕ) → length arms ≤ i → found ++ arms_statements (arms_of (drop i arms)) ≡ found
last_arm found arms i past = ap (λ (l : List code_arm.Arm). found ++ arms_statements (arms_of l)) (drop_of_length-le arms past) ∙ append-nil found

-- how many statements are left
pub size_next : (body : List code_stmt.Stmt) (i : ℕ) (s : code_stmt.Stmt) → i < length body → s ≡ get_or body i s → size (body_of (drop i body)) ≡ stmt_size (stmt_of s) + size (body_of (drop (i + 1) body))
size_next body i s below at = ap (λ (l : List code_stmt.Stmt). size (body_of l)) (drop_more body i s below) ∙ ap (λ (x : code_stmt.Stmt). stmt_size (stmt_of x) + size (body_of (drop (i + 1) body))) (sym at)
