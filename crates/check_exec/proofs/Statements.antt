-- The statements of a body, and those of the block that it is translated to.
use Rattle.std.proofs.Common.{◌≡◌, ℕ, ◌&&◌, ◌||◌, not, Bool, true, false, true≢false, bytes_eq, List, [], ◌∷◌, ◌++◌, append_assoc, map, inl, inr, refl, sym, ap, ◌∙◌, subst}
use Rattle.std.proofs.lemmas.Bool.{or_cases, or_left, or_right, and_from, not_from_false}
use Rattle.exec_core.specs.Block.{Name, Now, same_key, covers, assigns, body_assigns}
use Rattle.exec_core.specs.Cases.{arms_body}
use Rattle.list_core.specs.Lists.{EachOf, IsIn}
use Rattle.exec_core.specs.Paths.{Skips, BodySkips}
use Rattle.list_core.proofs.Lists.{in_left, in_right, in_cases}
use Rattle.design_core.specs.Design.{Expr, Stmt, Assign, Let, If, Case, Body, Done, Then, Else, NoElse, Otherwise, Arms, NoArms, ThenArm}
use Rattle.design_exec.specs.Processes.{tree_of, value_of, target, part_of, stmt_of, body_of, else_of, arms_of}
use Rattle.design_core.specs.Statements.{inside, statements, else_statements, arms_statements}
use Rattle.check_core.specs.Paths.{part_in, no_arms, skips, body_skips, else_skips, arms_skip}
use Rattle.check_exec.proofs.Arms.{case_assigns, arm_assigns}
use Rattle.check_exec.proofs.Facts.{eq_turned, same_name, name_same, each_left, each_right}

-- ---- what a statement sets, without those inside it

abbrev pub Sets : Bool → Name → Stmt → Type 0
Sets clocked x (Assign slot line gens y part e) = (clocked ≡ false) × (y ≡ x)
Sets clocked x (Let slot line gens y e) = y ≡ x
Sets clocked x (If slot line gens c first second) = ⊥
Sets clocked x (Case slot line gens v arms other) = ⊥

pub record SetIn (clocked : Bool) (x : Name) (list : List Stmt) : Type 0 where
  pub statement : Stmt
  pub stands : IsIn statement list
  pub sets : Sets clocked x statement

set_left : (clocked : Bool) (x : Name) (a b : List Stmt) → SetIn clocked x a → SetIn clocked x (a ++ b)
set_left clocked x a b h = record { statement = h.statement; stands = in_left h.statement a b h.stands; sets = h.sets }

set_right : (clocked : Bool) (x : Name) (a b : List Stmt) → SetIn clocked x b → SetIn clocked x (a ++ b)
set_right clocked x a b h = record { statement = h.statement; stands = in_right h.statement a b h.stands; sets = h.sets }

set_later : (clocked : Bool) (x : Name) (s : Stmt) (b : List Stmt) → SetIn clocked x b → SetIn clocked x (s ∷ b)
set_later clocked x s b h = record { statement = h.statement; stands = inr h.stands; sets = h.sets }

-- an own name is set by a statement
mutual
  set_by_stmt : (clocked : Bool) (x : Name) (s : Stmt) → assigns (stmt_of clocked s) (Now x) ≡ true → SetIn clocked x (s ∷ inside s)
  set_by_stmt true x (Assign slot line gens y part e) h = absurd (true≢false (sym h))
  set_by_stmt false x (Assign slot line gens y part e) h = record { statement = Assign slot line gens y part e; stands = inl refl; sets = (refl, same_name y x h) }
  set_by_stmt clocked x (Let slot line gens y e) h = record { statement = Let slot line gens y e; stands = inl refl; sets = same_name y x h }
  set_by_stmt clocked x (If slot line gens c first second) h =
      set_later clocked x (If slot line gens c first second) (statements first ++ else_statements second)
      (elim (or_cases (body_assigns (body_of clocked first) (Now x)) (body_assigns (else_of clocked second) (Now x)) h) [
        | inl a ↦ set_left clocked x (statements first) (else_statements second) (set_by clocked x first a)
        | inr b ↦ set_right clocked x (statements first) (else_statements second) (set_by_else clocked x second b)
      ])
  set_by_stmt clocked x (Case slot line gens v arms other) h =
      set_later clocked x (Case slot line gens v arms other) (arms_statements arms ++ else_statements other)
      (set_by_arms clocked x v arms other (set_by_else clocked x other) (sym (case_assigns slot (tree_of v) (arms_of clocked arms) (else_of clocked other) (Now x)) ∙ h))

  -- in the arms of a `case`, or where this finds it in the default
  set_by_arms : (clocked : Bool) (x : Name) (v : Expr) (arms : Arms) (other : Else) → (body_assigns (else_of clocked other) (Now x) ≡ true → SetIn clocked x (else_statements other))
      → body_assigns (arms_body (tree_of v) (arms_of clocked arms) (else_of clocked other)) (Now x) ≡ true → SetIn clocked x (arms_statements arms ++ else_statements other)
  set_by_arms clocked x v NoArms other last h = last h
  set_by_arms clocked x v (ThenArm tests body rest) other last h =
      subst (SetIn clocked x) (sym (append_assoc (statements body) (arms_statements rest) (else_statements other)))
      (elim (or_cases (body_assigns (body_of clocked body) (Now x)) (body_assigns (arms_body (tree_of v) (arms_of clocked rest) (else_of clocked other)) (Now x))
      (sym (arm_assigns (tree_of v) (record { tests = map value_of tests; body = body_of clocked body }) (arms_of clocked rest) (else_of clocked other) (Now x)) ∙ h)) [
        | inl a ↦ set_left clocked x (statements body) (arms_statements rest ++ else_statements other) (set_by clocked x body a)
        | inr b ↦ set_right clocked x (statements body) (arms_statements rest ++ else_statements other) (set_by_arms clocked x v rest other last b)
      ])

  pub set_by : (clocked : Bool) (x : Name) (b : Body) → body_assigns (body_of clocked b) (Now x) ≡ true → SetIn clocked x (statements b)
  set_by clocked x Done h = absurd (true≢false (sym h))
  set_by clocked x (Then s rest) h =
      elim (or_cases (assigns (stmt_of clocked s) (Now x)) (body_assigns (body_of clocked rest) (Now x)) h) [
        | inl a ↦ set_left clocked x (s ∷ inside s) (statements rest) (set_by_stmt clocked x s a)
        | inr b ↦ set_right clocked x (s ∷ inside s) (statements rest) (set_by clocked x rest b)
      ]

  set_by_else : (clocked : Bool) (x : Name) (b : Else) → body_assigns (else_of clocked b) (Now x) ≡ true → SetIn clocked x (else_statements b)
  set_by_else clocked x NoElse h = absurd (true≢false (sym h))
  set_by_else clocked x (Otherwise body) h = set_by clocked x body h

-- and what a statement sets is one
set_self : (clocked : Bool) (x : Name) (s : Stmt) → Sets clocked x s → assigns (stmt_of clocked s) (Now x) ≡ true
set_self clocked x (Assign slot line gens y part e) h = ap (λ c. same_key (target c y) (Now x)) h.0 ∙ name_same y x h.1
set_self clocked x (Let slot line gens y e) h = name_same y x h
set_self clocked x (If slot line gens c first second) h = absurd h
set_self clocked x (Case slot line gens v arms other) h = absurd h

mutual
  sets_stmt : (clocked : Bool) (x : Name) (t : Stmt) → Sets clocked x t → (s : Stmt) → IsIn t (s ∷ inside s) → assigns (stmt_of clocked s) (Now x) ≡ true
  sets_stmt clocked x t h s (inl same) = set_self clocked x s (subst (Sets clocked x) same h)
  sets_stmt clocked x t h (Assign slot line gens y part e) (inr i) = absurd i
  sets_stmt clocked x t h (Let slot line gens y e) (inr i) = absurd i
  sets_stmt clocked x t h (If slot line gens c first second) (inr i) =
      elim (in_cases t (statements first) (else_statements second) i) [
        | inl j ↦ or_left (body_assigns (body_of clocked first) (Now x)) (body_assigns (else_of clocked second) (Now x)) (sets clocked x t h first j)
        | inr j ↦ or_right (body_assigns (body_of clocked first) (Now x)) (body_assigns (else_of clocked second) (Now x)) (sets_else clocked x t h second j)
      ]
  sets_stmt clocked x t h (Case slot line gens v arms other) (inr i) =
      case_assigns slot (tree_of v) (arms_of clocked arms) (else_of clocked other) (Now x) ∙ sets_arms clocked x t h v arms other (sets_else clocked x t h other) i

  sets_arms : (clocked : Bool) (x : Name) (t : Stmt) → Sets clocked x t → (v : Expr) (arms : Arms) (other : Else) → (IsIn t (else_statements other) → body_assigns (else_of clocked other) (Now x) ≡ true)
      → IsIn t (arms_statements arms ++ else_statements other) → body_assigns (arms_body (tree_of v) (arms_of clocked arms) (else_of clocked other)) (Now x) ≡ true
  sets_arms clocked x t h v NoArms other last i = last i
  sets_arms clocked x t h v (ThenArm tests body rest) other last i =
      arm_assigns (tree_of v) (record { tests = map value_of tests; body = body_of clocked body }) (arms_of clocked rest) (else_of clocked other) (Now x)
      ∙ elim (in_cases t (statements body) (arms_statements rest ++ else_statements other) (subst (IsIn t) (append_assoc (statements body) (arms_statements rest) (else_statements other)) i)) [
        | inl j ↦ or_left (body_assigns (body_of clocked body) (Now x)) (body_assigns (arms_body (tree_of v) (arms_of clocked rest) (else_of clocked other)) (Now x)) (sets clocked x t h body j)
        | inr j ↦ or_right (body_assigns (body_of clocked body) (Now x)) (body_assigns (arms_body (tree_of v) (arms_of clocked rest) (else_of clocked other)) (Now x)) (sets_arms clocked x t h v rest other last j)
      ]

  pub sets : (clocked : Bool) (x : Name) (t : Stmt) → Sets clocked x t → (b : Body) → IsIn t (statements b) → body_assigns (body_of clocked b) (Now x) ≡ true
  sets clocked x t h Done i = absurd i
  sets clocked x t h (Then s rest) i =
      elim (in_cases t (s ∷ inside s) (statements rest) i) [
        | inl j ↦ or_left (assigns (stmt_of clocked s) (Now x)) (body_assigns (body_of clocked rest) (Now x)) (sets_stmt clocked x t h s j)
        | inr j ↦ or_right (assigns (stmt_of clocked s) (Now x)) (body_assigns (body_of clocked rest) (Now x)) (sets clocked x t h rest j)
      ]

  sets_else : (clocked : Bool) (x : Name) (t : Stmt) → Sets clocked x t → (b : Else) → IsIn t (else_statements b) → body_assigns (else_of clocked b) (Now x) ≡ true
  sets_else clocked x t h NoElse i = absurd i
  sets_else clocked x t h (Otherwise body) i = sets clocked x t h body i

-- ---- paths

-- no assignment of a clocked block is to the name; and one to a part of it sets bit i in execution exactly where it sets bit j in the checks
abbrev pub Suits : Bool → Name → ℕ → ℕ → Stmt → Type 0
Suits clocked y i j (Assign slot line gens x part e) =
    (clocked ≡ true → bytes_eq y x ≡ false) × (bytes_eq y x ≡ true → covers (part_of part) i ≡ covers (part_in part) j)
Suits clocked y i j (Let slot line gens x e) = Unit {0}
Suits clocked y i j (If slot line gens c first second) = Unit {0}
Suits clocked y i j (Case slot line gens v arms other) = Unit {0}

plain : (b : Bool) → (b && true) ≡ false → b ≡ false
plain true e = e
plain false e = refl

not_both : (a b c : Bool) → (a ≡ true → b ≡ c) → (a && b) ≡ false → not (a && c) ≡ true
not_both true b c h e = not_from_false c (sym (h refl) ∙ e)
not_both false b c h e = refl

no_first : (a b : Bool) → a ≡ false → not (a && b) ≡ true
no_first true b e = absurd (true≢false e)
no_first false b e = refl

in_front : (a b c : Bool) → (b || c) ≡ true → ((a || b) || c) ≡ true
in_front true b c h = refl
in_front false b c h = h

-- a path of the translated statements that does not assign a bit is one of the statements
mutual
  pub skip_stmt : (clocked : Bool) (y : Name) (i j : ℕ) (s : Stmt) → EachOf (Suits clocked y i j) (s ∷ inside s) → Skips (stmt_of clocked s) (Now y) i → skips s y j ≡ true
  skip_stmt true y i j (Assign slot line gens x part e) off h = no_first (bytes_eq y x) (covers (part_in part) j) (off.0.0 refl)
  skip_stmt false y i j (Assign slot line gens x part e) off h =
      not_both (bytes_eq y x) (covers (part_of part) i) (covers (part_in part) j) off.0.1 (ap (λ b. b && covers (part_of part) i) (eq_turned y x) ∙ h)
  skip_stmt clocked y i j (Let slot line gens x e) off h = not_from_false (bytes_eq y x) (eq_turned y x ∙ plain (bytes_eq x y) h)
  skip_stmt clocked y i j (If slot line gens c first second) off (inl h) =
      or_left (body_skips first y j) (else_skips second y j) (skip_body clocked y i j first (each_left (Suits clocked y i j) (statements first) (else_statements second) off.1) h)
  skip_stmt clocked y i j (If slot line gens c first second) off (inr h) =
      or_right (body_skips first y j) (else_skips second y j) (skip_else clocked y i j second (each_right (Suits clocked y i j) (statements first) (else_statements second) off.1) h)
  skip_stmt clocked y i j (Case slot line gens v NoArms other) off h = refl
  skip_stmt clocked y i j (Case slot line gens v (ThenArm tests body rest) other) off (inl h) =
      or_left (arms_skip (ThenArm tests body rest) y j) (else_skips other y j)
      (or_left (body_skips body y j) (arms_skip rest y j) (skip_body clocked y i j body (each_left (Suits clocked y i j) (statements body) (arms_statements rest) (each_left (Suits clocked y i j) (statements body ++ arms_statements rest) (else_statements other) off.1)) h))
  skip_stmt clocked y i j (Case slot line gens v (ThenArm tests body rest) other) off (inr h) =
      in_front (body_skips body y j) (arms_skip rest y j) (else_skips other y j)
      (skip_arms clocked y i j v rest other (each_right (Suits clocked y i j) (statements body) (arms_statements rest) (each_left (Suits clocked y i j) (statements body ++ arms_statements rest) (else_statements other) off.1))
      (skip_else clocked y i j other (each_right (Suits clocked y i j) (statements body ++ arms_statements rest) (else_statements other) off.1)) h)

  -- of arms, and of what this tells of the default
  skip_arms : (clocked : Bool) (y : Name) (i j : ℕ) (v : Expr) (arms : Arms) (other : Else) → EachOf (Suits clocked y i j) (arms_statements arms) → (BodySkips (else_of clocked other) (Now y) i → else_skips other y j ≡ true)
      → BodySkips (arms_body (tree_of v) (arms_of clocked arms) (else_of clocked other)) (Now y) i → (arms_skip arms y j || else_skips other y j) ≡ true
  skip_arms clocked y i j v NoArms other off last h = last h
  skip_arms clocked y i j v (ThenArm tests body rest) other off last (inl h, more) =
      or_left (arms_skip (ThenArm tests body rest) y j) (else_skips other y j)
      (or_left (body_skips body y j) (arms_skip rest y j) (skip_body clocked y i j body (each_left (Suits clocked y i j) (statements body) (arms_statements rest) off) h))
  skip_arms clocked y i j v (ThenArm tests body rest) other off last (inr h, more) =
      in_front (body_skips body y j) (arms_skip rest y j) (else_skips other y j) (skip_arms clocked y i j v rest other (each_right (Suits clocked y i j) (statements body) (arms_statements rest) off) last h)

  pub skip_body : (clocked : Bool) (y : Name) (i j : ℕ) (b : Body) → EachOf (Suits clocked y i j) (statements b) → BodySkips (body_of clocked b) (Now y) i → body_skips b y j ≡ true
  skip_body clocked y i j Done off h = refl
  skip_body clocked y i j (Then s rest) off h =
      and_from (skips s y j) (body_skips rest y j) (skip_stmt clocked y i j s (each_left (Suits clocked y i j) (s ∷ inside s) (statements rest) off) h.0)
      (skip_body clocked y i j rest (each_right (Suits clocked y i j) (s ∷ inside s) (statements rest) off) h.1)

  pub skip_else : (clocked : Bool) (y : Name) (i j : ℕ) (b : Else) → EachOf (Suits clocked y i j) (else_statements b) → BodySkips (else_of clocked b) (Now y) i → else_skips b y j ≡ true
  skip_else clocked y i j NoElse off h = refl
  skip_else clocked y i j (Otherwise body) off h = skip_body clocked y i j body off h
