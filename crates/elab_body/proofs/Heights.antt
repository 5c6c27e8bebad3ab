-- How deep statements nest: the measure of the walk.
use Rattle.std.proofs.Common.{◌≡◌, ℕ, zero, suc, ◌+◌, ◌<◌, ◌≤◌, max, Bool, true, false, if◌then◌else◌, List, [], ◌∷◌, length, get_or, refl, arith}
use Rattle.gen_tree.specs.Tree.{Int, Expr, Stmt, Stmts, Else, Arms, no_stmt, stmt, no_else, otherwise, no_arm, arm, assign, bind, choose, select, repeat, given}
use Rattle.gen_tree.specs.declared.Cmp.{Cmp}
use Rattle.gen_tree.specs.declared.Stmt as source_stmt
use Rattle.gen_tree.specs.declared.statement.Arm as source_arm
use Rattle.gen_tree.specs.View.{stmt_of, stmts_of, arm_of, arms_of}
use Rattle.elab_body.specs.Body.{else_stmts}

unfoldable mutual
  pub height_stmt : Stmt → ℕ
  height_stmt (assign line f p e) = 1
  height_stmt (bind line f e) = 1
  height_stmt (choose line c first second) = max (height first) (height_else second) + 1
  height_stmt (select line v all other) = max (height_arms all) (height_else other) + 1
  height_stmt (repeat line x from to body) = height body + 1
  height_stmt (given line left cmp right first second) = max (height first) (height_else second) + 1

  pub height : Stmts → ℕ
  height no_stmt = 0
  height (stmt s rest) = max (height_stmt s) (height rest)

  pub height_else : Else → ℕ
  height_else no_else = 0
  height_else (otherwise body) = height body

  pub height_arms : Arms → ℕ
  height_arms no_arm = 0
  height_arms (arm tests body more) = max (height body) (height_arms more)

pub height_choose : (line : ℕ) (c : Expr) (first : Stmts) (second : Else) → height_stmt (choose line c first second) ≡ max (height first) (height_else second) + 1
unfolding height_stmt
height_choose line c first second = refl

pub height_select : (line : ℕ) (v : Expr) (all : Arms) (other : Else) → height_stmt (select line v all other) ≡ max (height_arms all) (height_else other) + 1
unfolding height_stmt
height_select line v all other = refl

pub height_repeat : (line : ℕ) (x : List ℕ) (from to : Int) (body : Stmts) → height_stmt (repeat line x from to body) ≡ height body + 1
unfolding height_stmt
height_repeat line x from to body = refl

pub height_given : (line : ℕ) (left : Int) (cmp : Cmp) (right : Int) (first : Stmts) (second : Else) → height_stmt (given line left cmp right first second) ≡ max (height first) (height_else second) + 1
unfolding height_stmt
height_given line left cmp right first second = refl

pub height_otherwise : (body : Stmts) → height_else (otherwise body) ≡ height body
unfolding height_else
height_otherwise body = refl

height_next : (s : Stmt) (rest : Stmts) → height (stmt s rest) ≡ max (height_stmt s) (height rest)
unfolding height
height_next s rest = refl

height_front : (xs : List source_stmt.Stmt) (i : ℕ) (d : source_stmt.Stmt) → i < length xs → height_stmt (stmt_of (get_or xs i d)) ≤ height (stmts_of xs)
height_front [] i d h = absurd (omega arith)
height_front (y ∷ xs) zero d h = rw height_next (omega arith)
height_front (y ∷ xs) (suc i) d h =
    let k : i < length xs = omega arith in
    let rest : height_stmt (stmt_of (get_or xs i d)) ≤ height (stmts_of xs) = height_front xs i d k in rw height_next (omega arith)

pub height_at : (xs : List source_stmt.Stmt) (i : ℕ) (x : source_stmt.Stmt) → i < length xs → x ≡ get_or xs i x → height_stmt (stmt_of x) ≤ height (stmts_of xs)
height_at xs i x h e = rw e (height_front xs i x h)

arms_height : (a : source_arm.Arm) (rest : List source_arm.Arm) → height_arms (arms_of (a ∷ rest)) ≡ max (height (arm_of a).1) (height_arms (arms_of rest))
unfolding height_arms
arms_height a rest = refl

arm_front : (xs : List source_arm.Arm) (i : ℕ) (d : source_arm.Arm) → i < length xs → height (arm_of (get_or xs i d)).1 ≤ height_arms (arms_of xs)
arm_front [] i d h = absurd (omega arith)
arm_front (y ∷ xs) zero d h = rw (arms_height y xs) (omega arith)
arm_front (y ∷ xs) (suc i) d h =
    let k : i < length xs = omega arith in
    let rest : height (arm_of (get_or xs i d)).1 ≤ height_arms (arms_of xs) = arm_front xs i d k in rw (arms_height y xs) (omega arith)

pub height_arm : (xs : List source_arm.Arm) (i : ℕ) (x : source_arm.Arm) → i < length xs → x ≡ get_or xs i x → height (arm_of x).1 ≤ height_arms (arms_of xs)
height_arm xs i x h e = rw e (arm_front xs i x h)

else_height : (second : Else) → height (else_stmts second) ≤ height_else second
unfolding height_else height
else_height no_else = omega arith
else_height (otherwise body) = omega arith

pub height_branch : (first chosen : Stmts) (second : Else) (b : Bool) → chosen ≡ (if b then first else else_stmts second) → height chosen ≤ max (height first) (height_else second)
height_branch first chosen second true e = rw e (omega arith)
height_branch first chosen second false e = rw e (omega (arith, else_height second))

pub ruleset heights = (height_choose, height_select, height_repeat, height_given, height_otherwise)
