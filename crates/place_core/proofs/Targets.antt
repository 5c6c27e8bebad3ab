-- The names that the statements of a body assign.
use Rattle.std.proofs.Common.{◌≡◌, ℕ, ◌+◌, ◌<◌, ◌≤◌, Bool, true, false, ◌||◌, bytes_eq, List, [], ◌∷◌, ◌++◌, length, drop, get_or, refl, sym, ap, ◌∙◌}
use Rattle.std.specs.Borrow.{Bor}
use Rattle.std.proofs.lemmas.List.Folds.{list_any-append}
use Rattle.std.proofs.lemmas.List.{append-nil, append_assoc, drop_more, drop_all}
use Rattle.std.proofs.lemmas.Slice.Eq.{bytes_eq-Decides}
use Rattle.std.proofs.Math.Bool.{or_assoc}
use Rattle.design_core.specs.declared.statement.Stmt as code_stmt
use Rattle.exec_core.specs.Block.{Name, Now, assigns, body_assigns}
use Rattle.exec_core.specs.Cases.{arms_body, case_of}
use Rattle.design_exec.specs.Processes.{tree_of, arms_of, else_of}
use Rattle.design_core.specs.Design.{Expr, Stmt, Assign, Let, If, Case, Body, Done, Then, Else, NoElse, Otherwise, Arms, NoArms, ThenArm}
use Rattle.names.specs.Known.{Known, either, has}
use Rattle.design_core.specs.Statements.{inside, statements, else_statements, arms_statements, stmt_at, stmts_at}
use Rattle.place_core.specs.Assigned.{adds_target, adds_targets, assigned_by, assigned_in, assigned_else}

or_false : (a : Bool) → a ≡ (a || false)
or_false true = refl
or_false false = refl

eq_turned : (x y : Name) → bytes_eq x y ≡ bytes_eq y x
eq_turned x y = by_test (bytes_eq x y) (bytes_eq y x) refl refl
  where
    by_test : (a b : Bool) → bytes_eq x y ≡ a → bytes_eq y x ≡ b → a ≡ b
    by_test true true e f = refl
    by_test false false e f = refl
    by_test true false e f = sym ((bytes_eq-Decides y x).1 (sym ((bytes_eq-Decides x y).0 e))) ∙ f
    by_test false true e f = sym e ∙ (bytes_eq-Decides x y).1 (sym ((bytes_eq-Decides y x).0 f))

pub has_push : (names : List Name) (y x : Name) → has (names ++ y ∷ []) x ≡ (has names x || bytes_eq y x)
has_push names y x = list_any-append (bytes_eq x) names (y ∷ []) ∙ ap (λ (b : Bool). has names x || b) (sym (or_false (bytes_eq x y)) ∙ eq_turned x y)

adds_both : (clocked : Bool) (names : List Name) (a b : List Stmt) → adds_targets clocked names (a ++ b) ≡ adds_targets clocked (adds_targets clocked names a) b
adds_both clocked names [] b = refl
adds_both clocked names (s ∷ a) b = adds_both clocked (adds_target clocked names s) a b

-- statements, and others behind them
in_both : (clocked : Bool) (names : List Name) (first second : List Stmt) (x : Name) (a b : Bool)
    → has (adds_targets clocked names first) x ≡ (has names x || a)
    → has (adds_targets clocked (adds_targets clocked names first) second) x ≡ (has (adds_targets clocked names first) x || b)
    → has (adds_targets clocked names (first ++ second)) x ≡ (has names x || (a || b))
in_both clocked names first second x a b one two =
    ap (λ (l : List Name). has l x) (adds_both clocked names first second) ∙ two ∙ ap (λ (c : Bool). c || b) one ∙ or_assoc (has names x) a b

mutual
  in_stmt : (clocked : Bool) (names : List Name) (s : Stmt) (x : Name) → has (adds_targets clocked (adds_target clocked names s) (inside s)) x ≡ (has names x || assigned_by clocked s x)
  in_stmt true names (Assign slot line gens y part e) x = ap (λ (l : List Name). has l x) (append-nil names) ∙ or_false (has names x)
  in_stmt false names (Assign slot line gens y part e) x = ap (λ (l : List Name). has l x) (append-nil (names ++ y ∷ [])) ∙ has_push names y x
  in_stmt true names (Let slot line gens y e) x = has_push names y x
  in_stmt false names (Let slot line gens y e) x = ap (λ (l : List Name). has (l ++ y ∷ []) x) (append-nil names) ∙ has_push names y x
  in_stmt true names (If slot line gens c first second) x =
      ap (λ (l : List Name). has (adds_targets true l (statements first ++ else_statements second)) x) (append-nil names)
      ∙ in_both true names (statements first) (else_statements second) x _ _ (in_body true names first x) (in_else true (adds_targets true names (statements first)) second x)
  in_stmt false names (If slot line gens c first second) x =
      ap (λ (l : List Name). has (adds_targets false l (statements first ++ else_statements second)) x) (append-nil (names ++ []) ∙ append-nil names)
      ∙ in_both false names (statements first) (else_statements second) x _ _ (in_body false names first x) (in_else false (adds_targets false names (statements first)) second x)
  in_stmt true names (Case slot line gens v arms other) x =
      ap (λ (l : List Name). has (adds_targets true l (arms_statements arms ++ else_statements other)) x) (append-nil names) ∙ in_case true names slot v arms other x (λ ns. in_else true ns other x)
  in_stmt false names (Case slot line gens v arms other) x =
      ap (λ (l : List Name). has (adds_targets false l (arms_statements arms ++ else_statements other)) x) (append-nil (names ++ []) ∙ append-nil names)
      ∙ in_case false names slot v arms other x (λ ns. in_else false ns other x)

  -- what stands in the arms of a `case` and in its default, from what stands in the default
  in_case : (clocked : Bool) (names : List Name) (slot : ℕ) (v : Expr) (arms : Arms) (other : Else) (x : Name)
      → ((ns : List Name) → has (adds_targets clocked ns (else_statements other)) x ≡ (has ns x || assigned_else clocked other x))
      → has (adds_targets clocked names (arms_statements arms ++ else_statements other)) x ≡ (has names x || assigns (case_of slot (tree_of v) (arms_of clocked arms) (else_of clocked other)) (Now x))
  in_case clocked names slot v NoArms other x last = last names
  in_case clocked names slot v (ThenArm tests body rest) other x last =
      ap (λ (l : List Stmt). has (adds_targets clocked names l) x) (append_assoc (statements body) (arms_statements rest) (else_statements other))
      ∙ in_both clocked names (statements body) (arms_statements rest ++ else_statements other) x _ _ (in_body clocked names body x) (in_arms clocked (adds_targets clocked names (statements body)) v rest other x last)

  in_arms : (clocked : Bool) (names : List Name) (v : Expr) (arms : Arms) (other : Else) (x : Name)
      → ((ns : List Name) → has (adds_targets clocked ns (else_statements other)) x ≡ (has ns x || assigned_else clocked other x))
      → has (adds_targets clocked names (arms_statements arms ++ else_statements other)) x ≡ (has names x || body_assigns (arms_body (tree_of v) (arms_of clocked arms) (else_of clocked other)) (Now x))
  in_arms clocked names v NoArms other x last = last names
  in_arms clocked names v (ThenArm tests body rest) other x last =
      ap (λ (l : List Stmt). has (adds_targets clocked names l) x) (append_assoc (statements body) (arms_statements rest) (else_statements other))
      ∙ in_both clocked names (statements body) (arms_statements rest ++ else_statements other) x _ _ (in_body clocked names body x) (in_arms clocked (adds_targets clocked names (statements body)) v rest other x last)
      ∙ ap (λ (c : Bool). has names x || c) (or_false _)

  pub in_body : (clocked : Bool) (names : List Name) (b : Body) (x : Name) → has (adds_targets clocked names (statements b)) x ≡ (has names x || assigned_in clocked b x)
  in_body clocked names Done x = or_false (has names x)
  in_body clocked names (Then s rest) x =
      ap (λ (l : List Name). has l x) (adds_both clocked (adds_target clocked names s) (inside s) (statements rest))
      ∙ in_body clocked (adds_targets clocked (adds_target clocked names s) (inside s)) rest x
      ∙ ap (λ (b : Bool). b || assigned_in clocked rest x) (in_stmt clocked names s x)
      ∙ or_assoc (has names x) (assigned_by clocked s x) (assigned_in clocked rest x)

  pub in_else : (clocked : Bool) (names : List Name) (e : Else) (x : Name) → has (adds_targets clocked names (else_statements e)) x ≡ (has names x || assigned_else clocked e x)
  in_else clocked names NoElse x = or_false (has names x)
  in_else clocked names (Otherwise b) x = in_body clocked names b x

-- ---- the loop

pub next_target : (clocked : Bool) (start now after : List Name) (stmts : List (Bor code_stmt.Stmt)) (i : ℕ) (s : Bor code_stmt.Stmt) → i < length stmts → s ≡ get_or stmts i s →
    after ≡ adds_target clocked now (stmt_at s) → adds_targets clocked after (stmts_at (drop (i + 1) stmts)) ≡ adds_targets clocked now (stmts_at (drop i stmts))
next_target clocked start now after stmts i s below at is =
    ap (λ (names : List Name). adds_targets clocked names (stmts_at (drop (i + 1) stmts))) (is ∙ ap (λ (r : Bor code_stmt.Stmt). adds_target clocked now (stmt_at r)) at)
    ∙ sym (ap (λ (l : List (Bor code_stmt.Stmt)). adds_targets clocked now (stmts_at l)) (drop_more stmts i s below))

pub last_target : (clocked : Bool) (now : List Name) (stmts : List (Bor code_stmt.Stmt)) (i : ℕ) → length stmts ≤ i → adds_targets clocked now (stmts_at (drop i stmts)) ≡ now
last_target clocked now stmts i past = ap (λ (l : List (Bor code_stmt.Stmt)). adds_targets clocked now (stmts_at l)) (drop_all i stmts past)

-- ---- all of them

pub body_names : (clocked : Bool) (b : Body) (start names : List Name) → start ≡ [] → names ≡ adds_targets clocked start (statements b) → has names ≡ assigned_in clocked b
body_names clocked b start names none e = ap has (e ∙ ap (λ (l : List Name). adds_targets clocked l (statements b)) none) ∙ (λ i x. in_body clocked [] b x i)

pub either_names : (clocked : Bool) (b : Body) (o : Else) (start first names : List Name) → start ≡ [] → first ≡ adds_targets clocked start (statements b) → names ≡ adds_targets clocked first (else_statements o) →
    has names ≡ either (assigned_in clocked b) (assigned_else clocked o)
either_names clocked b o start first names none e f =
    ap has f
    ∙ (λ i x. in_else clocked first o x i)
    ∙ ap (λ (known : Known). either known (assigned_else clocked o)) (body_names clocked b start first none e)
