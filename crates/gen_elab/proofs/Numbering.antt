-- Slots in preorder.
use Rattle.std.proofs.Common.{◌≡◌, ℕ, ◌+◌, ◌<◌, ◌≤◌, List, [], ◌∷◌, ◌++◌, length, take, drop, get_or, set, refl, sym, ap, ap₂, ◌∙◌, arith}
use Rattle.std.proofs.lemmas.List.{take_more_set, take-append-le, take-set, take_all, drop-set-lt, drop_more, length-set}
use Rattle.std.proofs.Math.ListN.{drop_of_length-le}
use Rattle.design_core.specs.declared.Stmt as code_stmt
use Rattle.design_core.specs.declared.statement.Arm as code_arm
use Rattle.design_core.specs.Design.{Gens, Expr, Body, Then, Else, If, Case, Arms, ThenArm}
use Rattle.design_core.specs.View.{stmt_of, body_of, arm_of, arms_of}
use Rattle.elab_core.specs.Design.{size, stmt_size, arms_size, numbered, numbered_stmt, numbered_arms, numbered_else}

-- statements that have their slots, and behind them others with slots from a number on
abbrev pub mixed : List code_stmt.Stmt → ℕ → List code_stmt.Stmt → Body
mixed [] k left = numbered k (body_of left)
mixed (s ∷ done) k left = Then (stmt_of s) (mixed done k left)

-- one more has its slots
pub mixed_step : (done : List code_stmt.Stmt) (k : ℕ) (s now : code_stmt.Stmt) (left : List code_stmt.Stmt) → stmt_of now ≡ numbered_stmt k (stmt_of s)
    → mixed done k (s ∷ left) ≡ mixed (done ++ now ∷ []) (k + stmt_size (stmt_of s)) left
mixed_step [] k s now left e = ap (λ t. Then t (numbered (k + stmt_size (stmt_of s)) (body_of left))) (sym e)
mixed_step (first ∷ done) k s now left e = ap (Then (stmt_of first)) (mixed_step done k s now left e)

-- all have theirs
pub mixed_end : (done : List code_stmt.Stmt) (k : ℕ) → mixed done k [] ≡ body_of done
mixed_end [] k = refl
mixed_end (s ∷ done) k = ap (Then (stmt_of s)) (mixed_end done k)

-- an `if` whose statements have their slots
pub if_numbered : (k line : ℕ) (gens : Gens) (c : Expr) (a now : Body) (b then : Else) (next : ℕ)
    → now ≡ numbered (k + 1) a → next ≡ k + 1 + size a → then ≡ numbered_else next b
    → If k line gens c now then ≡ If k line gens c (numbered (k + 1) a) (numbered_else (k + 1 + size a) b)
if_numbered k line gens c a now b then next first is second = ap₂ (λ p q. If k line gens c p q) first (second ∙ ap (λ n. numbered_else n b) is)

front : (body : List code_stmt.Stmt) (i : ℕ) (s d : code_stmt.Stmt) → i < length body → s ≡ get_or body i d → drop i body ≡ s ∷ drop (i + 1) body
front body i s d below at = drop_more body i d below ∙ ap (λ (x : code_stmt.Stmt). x ∷ drop (i + 1) body) (sym at)

behind : (body : List code_stmt.Stmt) (i : ℕ) (x now : code_stmt.Stmt) → drop (i + 1) (set (set body i x) i now) ≡ drop (i + 1) body
behind body i x now = drop-set-lt (i + 1) (set body i x) i now (omega arith) ∙ drop-set-lt (i + 1) body i x (omega arith)

-- the statement at a place gets its slots, and the next is looked at
pub at_step : (body initial : List code_stmt.Stmt) (i first k next : ℕ) (s d x now : code_stmt.Stmt) → i < length body → s ≡ get_or body i d
    → stmt_of now ≡ numbered_stmt k (stmt_of s) → next ≡ k + stmt_size (stmt_of s)
    → mixed (take i body) k (drop i body) ≡ numbered first (body_of initial)
    → mixed (take (i + 1) (set (set body i x) i now)) next (drop (i + 1) (set (set body i x) i now)) ≡ numbered first (body_of initial)
at_step body initial i first k next s d x now below at given is before =
    let done : take (i + 1) (set (set body i x) i now) ≡ take i body ++ now ∷ [] =
    take_more_set (set body i x) i now (omega (arith, length-set body i x, below)) ∙ ap (λ (l : List code_stmt.Stmt). l ++ now ∷ []) (take-set body i x) in
    ap₂ (λ (done left : List code_stmt.Stmt). mixed done next left) done (behind body i x now)
    ∙ ap (λ n. mixed (take i body ++ now ∷ []) n (drop (i + 1) body)) is
    ∙ sym (mixed_step (take i body) k s now (drop (i + 1) body) given)
    ∙ ap (mixed (take i body) k) (sym (front body i s d below at))
    ∙ before

pub next_step : (body : List code_stmt.Stmt) (i k next total : ℕ) (s d x now : code_stmt.Stmt) → i < length body → s ≡ get_or body i d
    → next ≡ k + stmt_size (stmt_of s) → k + size (body_of (drop i body)) ≡ total
    → next + size (body_of (drop (i + 1) (set (set body i x) i now))) ≡ total
next_step body i k next total s d x now below at is before =
    let split : size (body_of (drop i body)) ≡ stmt_size (stmt_of s) + size (body_of (drop (i + 1) body)) = ap (λ (l : List code_stmt.Stmt). size (body_of l)) (front body i s d below at) in
    let same : size (body_of (drop (i + 1) (set (set body i x) i now))) ≡ size (body_of (drop (i + 1) body)) = ap (λ (l : List code_stmt.Stmt). size (body_of l)) (behind body i x now) in
    omega (arith, split, same, is, before)

-- at the end all have theirs
pub at_end : (body initial : List code_stmt.Stmt) (i first k : ℕ) → length body ≤ i → mixed (take i body) k (drop i body) ≡ numbered first (body_of initial) → body_of body ≡ numbered first (body_of initial)
at_end body initial i first k past before =
    sym (mixed_end body k) ∙ ap₂ (λ (done left : List code_stmt.Stmt). mixed done k left) (sym (take_all i body past)) (sym (drop_of_length-le body past)) ∙ before

-- as many statements as before are all of them
pub cut : {A : Type 0} (n : ℕ) (xs ys : List A) → length xs ≡ n → take n (xs ++ ys) ≡ xs
cut n xs ys e = take-append-le n xs ys (omega (arith, e)) ∙ take_all n xs (omega (arith, e))

-- ---- arms

abbrev pub mixed_arms : List code_arm.Arm → ℕ → List code_arm.Arm → Arms
mixed_arms [] k left = numbered_arms k (arms_of left)
mixed_arms (a ∷ done) k left = ThenArm (arm_of a).0 (arm_of a).1 (mixed_arms done k left)

arms_step : (done : List code_arm.Arm) (k : ℕ) (a now : code_arm.Arm) (left : List code_arm.Arm) → arm_of now ≡ ((arm_of a).0, numbered k (arm_of a).1)
    → mixed_arms done k (a ∷ left) ≡ mixed_arms (done ++ now ∷ []) (k + size (arm_of a).1) left
arms_step [] k a now left e = ap (λ p. ThenArm p.0 p.1 (numbered_arms (k + size (arm_of a).1) (arms_of left))) (sym e)
arms_step (first ∷ done) k a now left e = ap (ThenArm (arm_of first).0 (arm_of first).1) (arms_step done k a now left e)

arms_end : (done : List code_arm.Arm) (k : ℕ) → mixed_arms done k [] ≡ arms_of done
arms_end [] k = refl
arms_end (a ∷ done) k = ap (ThenArm (arm_of a).0 (arm_of a).1) (arms_end done k)

arms_front : (arms : List code_arm.Arm) (i : ℕ) (a d : code_arm.Arm) → i < length arms → a ≡ get_or arms i d → drop i arms ≡ a ∷ drop (i + 1) arms
arms_front arms i a d below at = drop_more arms i d below ∙ ap (λ (x : code_arm.Arm). x ∷ drop (i + 1) arms) (sym at)

-- the arm at a place gets its slots, and the next is looked at
pub arm_at_step : (arms initial : List code_arm.Arm) (i first k next : ℕ) (a d now : code_arm.Arm) → i < length arms → a ≡ get_or arms i d
    → arm_of now ≡ ((arm_of a).0, numbered k (arm_of a).1) → next ≡ k + size (arm_of a).1
    → mixed_arms (take i arms) k (drop i arms) ≡ numbered_arms first (arms_of initial)
    → mixed_arms (take (i + 1) (set arms i now)) next (drop (i + 1) (set arms i now)) ≡ numbered_arms first (arms_of initial)
arm_at_step arms initial i first k next a d now below at given is before =
    ap₂ (λ (done left : List code_arm.Arm). mixed_arms done next left) (take_more_set arms i now below) (drop-set-lt (i + 1) arms i now (omega arith))
    ∙ ap (λ n. mixed_arms (take i arms ++ now ∷ []) n (drop (i + 1) arms)) is
    ∙ sym (arms_step (take i arms) k a now (drop (i + 1) arms) given)
    ∙ ap (mixed_arms (take i arms) k) (sym (arms_front arms i a d below at))
    ∙ before

pub arm_next_step : (arms : List code_arm.Arm) (i k next total : ℕ) (a d now : code_arm.Arm) → i < length arms → a ≡ get_or arms i d → next ≡ k + size (arm_of a).1
    → k + arms_size (arms_of (drop i arms)) ≡ total → next + arms_size (arms_of (drop (i + 1) (set arms i now))) ≡ total
arm_next_step arms i k next total a d now below at is before =
    let split : arms_size (arms_of (drop i arms)) ≡ size (arm_of a).1 + arms_size (arms_of (drop (i + 1) arms)) = ap (λ (l : List code_arm.Arm). arms_size (arms_of l)) (arms_front arms i a d below at) in
    let same : arms_size (arms_of (drop (i + 1) (set arms i now))) ≡ arms_size (arms_of (drop (i + 1) arms)) = ap (λ (l : List code_arm.Arm). arms_size (arms_of l)) (drop-set-lt (i + 1) arms i now (omega arith)) in
    omega (arith, split, same, is, before)

pub arms_at_end : (arms initial : List code_arm.Arm) (i first k : ℕ) → length arms ≤ i → mixed_arms (take i arms) k (drop i arms) ≡ numbered_arms first (arms_of initial) → arms_of arms ≡ numbered_arms first (arms_of initial)
arms_at_end arms initial i first k past before =
    sym (arms_end arms k) ∙ ap₂ (λ (done left : List code_arm.Arm). mixed_arms done k left) (sym (take_all i arms past)) (sym (drop_of_length-le arms past)) ∙ before

-- a `case` whose statements have their slots
pub case_numbered : (k line : ℕ) (gens : Gens) (v : Expr) (a now : Arms) (b then : Else) (next : ℕ) → now ≡ numbered_arms (k + 1) a → next ≡ k + 1 + arms_size a → then ≡ numbered_else next b
    → Case k line gens v now then ≡ Case k line gens v (numbered_arms (k + 1) a) (numbered_else (k + 1 + arms_size a) b)
case_numbered k line gens v a now b then next first is second = ap₂ (λ p q. Case k line gens v p q) first (second ∙ ap (λ n. numbered_else n b) is)
