-- The widths of lets, statement by statement.
use Rattle.std.proofs.Common.{◌≡◌, ℕ, ℤ, Option, Bool, true, false, ◌||◌, ◌&&◌, bytes_eq, List, [], ◌∷◌, ◌++◌, Some, None, refl, sym, ap, ◌∙◌, subst, if◌then◌else◌, Ok}
use Rattle.std.proofs.lemmas.Bool.{or_left, or_right}
use Rattle.std.specs.List.{list_all}
use Rattle.tree_core.specs.Width.{width_of}
use Rattle.exec_core.specs.Block.{Name}
use Rattle.list_core.specs.Lists.{EachOf}
use Rattle.design_core.specs.Design.{Expr, Stmt, Assign, Let, If, Case, Body, Done, Then, Else, NoElse, Otherwise, Arms, NoArms, ThenArm}
use Rattle.design_exec.specs.Processes as processes
use Rattle.design_exec.specs.Processes.{tree_of, put, part_of, value_of, stmt_widths, body_widths, else_widths, arms_widths}
use Rattle.names.specs.Known.{Known, with}
use Rattle.design_core.specs.Statements.{inside, statements, else_statements, arms_statements}
use Rattle.check_core.specs.Names.{Scope, unknown_read, unknown_in, unknown_among, lets_in}
use Rattle.check_core.specs.Ports.{unknown_port_in}
use Rattle.check_core.specs.Widths as checked
use Rattle.check_core.specs.Widths.{Widths, is_literal, is_sized, is_part, arm_literals, bad_stmt, needed, needed_by, arms_width, width_in, stmt_mismatch, mismatch_among, put_let, put_width}
use Rattle.check_exec.proofs.Facts.{eq_turned, same_name, name_same, earlier_left, earlier_right}
use Rattle.check_exec.proofs.Names.{Differ}
use Rattle.exec_core.specs.Paths.{PartFits, part_width}
use Rattle.tree_core.proofs.Same.{both_true}
use Rattle.check_exec.proofs.Arms.{IsLiteralOf}
use Rattle.check_exec.proofs.PartWidths.{part_there, arms_there}
use Rattle.check_exec.proofs.Widths.{is_known, sized, matches, needed_there}
use Rattle.check_exec.proofs.SignalWidths.{not_taken}
use Rattle.check_exec.proofs.Fitting.{HasTree, Agree, fits_expr, width_at}

-- ---- the lets of statements in preorder

abbrev pub list_widths : List Stmt → processes.Widths → processes.Widths
list_widths [] E = E
list_widths (Assign slot line gens x part e ∷ rest) E = list_widths rest E
list_widths (Let slot line gens x e ∷ rest) E = list_widths rest (put x (width_of E (tree_of e)) E)
list_widths (If slot line gens c first second ∷ rest) E = list_widths rest E
list_widths (Case slot line gens v arms other ∷ rest) E = list_widths rest E

both_widths : (a b : List Stmt) (E : processes.Widths) → list_widths (a ++ b) E ≡ list_widths b (list_widths a E)
both_widths [] b E = refl
both_widths (Assign slot line gens x part e ∷ a) b E = both_widths a b E
both_widths (Let slot line gens x e ∷ a) b E = both_widths a b (put x (width_of E (tree_of e)) E)
both_widths (If slot line gens c first second ∷ a) b E = both_widths a b E
both_widths (Case slot line gens v arms other ∷ a) b E = both_widths a b E

mutual
  stmt_listed : (s : Stmt) (E : processes.Widths) → stmt_widths s E ≡ list_widths (s ∷ inside s) E
  stmt_listed (Assign slot line gens x part e) E = refl
  stmt_listed (Let slot line gens x e) E = refl
  stmt_listed (If slot line gens c first second) E =
      ap (else_widths second) (body_listed first E) ∙ else_listed second (list_widths (statements first) E) ∙ sym (both_widths (statements first) (else_statements second) E)
  stmt_listed (Case slot line gens v arms other) E =
      ap (else_widths other) (arms_listed arms E) ∙ else_listed other (list_widths (arms_statements arms) E) ∙ sym (both_widths (arms_statements arms) (else_statements other) E)

  arms_listed : (a : Arms) (E : processes.Widths) → arms_widths a E ≡ list_widths (arms_statements a) E
  arms_listed NoArms E = refl
  arms_listed (ThenArm tests body rest) E =
      ap (arms_widths rest) (body_listed body E) ∙ arms_listed rest (list_widths (statements body) E) ∙ sym (both_widths (statements body) (arms_statements rest) E)

  pub body_listed : (b : Body) (E : processes.Widths) → body_widths b E ≡ list_widths (statements b) E
  body_listed Done E = refl
  body_listed (Then s rest) E =
      ap (body_widths rest) (stmt_listed s E) ∙ body_listed rest (list_widths (s ∷ inside s) E) ∙ sym (both_widths (s ∷ inside s) (statements rest) E)

  else_listed : (b : Else) (E : processes.Widths) → else_widths b E ≡ list_widths (else_statements b) E
  else_listed NoElse E = refl
  else_listed (Otherwise body) E = body_listed body E

-- lets behind those that are taken do not change their widths
pub stays : (taken : Known) (list : List Stmt) (E : processes.Widths) (x : Name) → Differ taken (lets_in list) → taken x ≡ true → list_widths list E x ≡ E x
stays taken [] E x d t = refl
stays taken (Assign slot line gens y part e ∷ rest) E x d t = stays taken rest E x d t
stays taken (Let slot line gens y e ∷ rest) E x d t =
    stays (with y taken) rest (put y (width_of E (tree_of e)) E) x d.1 (or_right (bytes_eq x y) (taken x) t)
    ∙ ap (λ b. if b then width_of E (tree_of e) else E x) (eq_turned y x ∙ not_taken taken x y t d.0)
stays taken (If slot line gens c first second ∷ rest) E x d t = stays taken rest E x d t
stays taken (Case slot line gens v arms other ∷ rest) E x d t = stays taken rest E x d t

-- ---- what fits

-- a statement without those inside it: its expression has the width of what it sets, which lies in its target; a test has one bit; and
-- the literals of arms have the width of their value
abbrev pub FitsStmt : (Name → Type 0) → (Name → ℕ) → Stmt → Type 0
FitsStmt good F (Assign slot line gens x part e) = PartFits (part_of part) (F x) × HasTree good F e (part_width (part_of part) (F x))
FitsStmt good F (Let slot line gens x e) = HasTree good F e (F x)
FitsStmt good F (If slot line gens c first second) = HasTree good F c 1
FitsStmt good F (Case slot line gens v arms other) = (w : ℕ) × HasTree good F v w × EachOf (λ l. IsLiteralOf w (value_of l)) (arm_literals arms)

-- a let is good
abbrev pub LetIsGood : (Name → Type 0) → (Name → ℕ) → Stmt → Type 0
LetIsGood good F (Assign slot line gens x part e) = Unit {0}
LetIsGood good F (Let slot line gens x e) = HasTree good F e (F x) → good x
LetIsGood good F (If slot line gens c first second) = Unit {0}
LetIsGood good F (Case slot line gens v arms other) = Unit {0}

-- what is known before statements: the widths of the checks, those of execution and those in the end
pub record IsAt (scope : Scope) (assigned lets taken outputs : Known) (W : Widths) (E F : processes.Widths) (good : Name → Type 0) (list : List Stmt) : Type 0 where
  pub widths : (x : Name) → (lets x || scope.signal x) ≡ true → W x ≡ Some (E x)
  pub ends : (x : Name) → F x ≡ list_widths list E x
  pub takes : (x : Name) → (lets x || scope.signal x) ≡ true → taken x ≡ true
  pub fine : (x : Name) → (lets x || scope.signal x) ≡ true → good x
  pub outputs_are : (x : Name) → outputs x ≡ true → scope.signal x ≡ true
  pub assigned_are : (x : Name) → assigned x ≡ true → scope.signal x ≡ true
  pub differ : Differ taken (lets_in list)

module _ (scope : Scope) (assigned lets taken outputs : Known) (W : Widths) (E F : processes.Widths) (good : Name → Type 0) where
  -- both execution and the end agree with the checks
  now : (list : List Stmt) → IsAt scope assigned lets taken outputs W E F good list → Agree scope lets outputs W good E
  now list h = record {
    names = λ x e. (h.fine x e, h.widths x e);
    ports = λ x e. let k = or_right (lets x) (scope.signal x) (h.outputs_are x e) in (h.fine x k, h.widths x k);
  }

  same_end : (list : List Stmt) → IsAt scope assigned lets taken outputs W E F good list → (x : Name) → (lets x || scope.signal x) ≡ true → F x ≡ E x
  same_end list h x e = h.ends x ∙ stays taken list E x h.differ (h.takes x e)

  in_end : (list : List Stmt) → IsAt scope assigned lets taken outputs W E F good list → Agree scope lets outputs W good F
  in_end list h = record {
    names = λ x e. (h.fine x e, h.widths x e ∙ ap (λ w. Some w) (sym (same_end list h x e)));
    ports = λ x e. let k = or_right (lets x) (scope.signal x) (h.outputs_are x e) in (h.fine x k, h.widths x k ∙ ap (λ w. Some w) (sym (same_end list h x k)));
  }

  assign_fits : (slot line : ℕ) (gens : _) (x : Name) (part : Option (ℤ × ℤ)) (e : Expr) (rest : List Stmt) → IsAt scope assigned lets taken outputs W E F good (Assign slot line gens x part e ∷ rest)
      → unknown_in scope assigned lets (Assign slot line gens x part e) ≡ None → stmt_mismatch W (Assign slot line gens x part e) ≡ None → bad_stmt (Assign slot line gens x part e) ≡ None
      → unknown_port_in outputs (Assign slot line gens x part e) ≡ None → FitsStmt good F (Assign slot line gens x part e)
  assign_fits slot line gens x part e rest h u m s p =
      let list : List Stmt = Assign slot line gens x part e ∷ rest in
      let may = h.assigned_are x (is_known (assigned x) _ (earlier_right (unknown_read scope lets line e) _ u)) in
      let known = or_right (lets x) (scope.signal x) may in
      let target : checked.width_of W x ≡ F x = width_at W F x (h.widths x known ∙ ap (λ w. Some w) (sym (same_end list h x known))) in
      let found = matches line x (needed_by (checked.part_width (checked.width_of W x) part) (width_in W e)) m in
      let sizes = both_true (is_sized e) (is_part part) (sized (is_sized e && is_part part) line x s) in
      let there = part_there (F x) part (width_in W e) found.0 sizes.1 (ap (λ w. needed_by (checked.part_width w part) (width_in W e)) (sym target) ∙ found.1) in
      (there.0, fits_expr scope lets outputs W good F line line (in_end list h) e (part_width (part_of part) (F x)) (earlier_left (unknown_read scope lets line e) _ u) p sizes.0 there.1)

  test_fits : (slot line : ℕ) (gens : _) (c : Expr) (first : Body) (second : Else) (rest : List Stmt) → IsAt scope assigned lets taken outputs W E F good (If slot line gens c first second ∷ rest)
      → unknown_in scope assigned lets (If slot line gens c first second) ≡ None → stmt_mismatch W (If slot line gens c first second) ≡ None → bad_stmt (If slot line gens c first second) ≡ None
      → unknown_port_in outputs (If slot line gens c first second) ≡ None → FitsStmt good F (If slot line gens c first second)
  test_fits slot line gens c first second rest h u m s p =
      let found = matches line _ (needed 1 (width_in W c)) m in
      fits_expr scope lets outputs W good F line line (in_end (If slot line gens c first second ∷ rest) h) c 1 u p (sized (is_sized c) line _ s)
      (needed_there 1 (width_in W c) found.0 found.1)

  cases_fit : (slot line : ℕ) (gens : _) (v : Expr) (arms : Arms) (other : Else) (rest : List Stmt) → IsAt scope assigned lets taken outputs W E F good (Case slot line gens v arms other ∷ rest)
      → unknown_in scope assigned lets (Case slot line gens v arms other) ≡ None → stmt_mismatch W (Case slot line gens v arms other) ≡ None → bad_stmt (Case slot line gens v arms other) ≡ None
      → unknown_port_in outputs (Case slot line gens v arms other) ≡ None → FitsStmt good F (Case slot line gens v arms other)
  cases_fit slot line gens v arms other rest h u m s p =
      let found = matches line _ (arms_width (width_in W v) (arm_literals arms)) m in
      let sizes = both_true (is_sized v) (list_all is_literal (arm_literals arms)) (sized (is_sized v && list_all is_literal (arm_literals arms)) line _ s) in
      let there = arms_there (width_in W v) (arm_literals arms) found.0 sizes.1 found.1 in
      (there.0, fits_expr scope lets outputs W good F line line (in_end (Case slot line gens v arms other ∷ rest) h) v there.0 u p sizes.0 there.1, there.2)

  -- of a let, what is known behind it
  abbrev Behind : Name → Expr → List Stmt → Type 0
  Behind x e rest =
      IsAt scope assigned (with x lets) (with x taken) outputs (put_let x (width_in W e) W) (put x (width_of E (tree_of e)) E) F good rest

  let_behind : (slot line : ℕ) (gens : _) (x : Name) (e : Expr) (rest : List Stmt) → IsAt scope assigned lets taken outputs W E F good (Let slot line gens x e ∷ rest)
      → unknown_in scope assigned lets (Let slot line gens x e) ≡ None → stmt_mismatch W (Let slot line gens x e) ≡ None → bad_stmt (Let slot line gens x e) ≡ None
      → unknown_port_in outputs (Let slot line gens x e) ≡ None → good x → Behind x e rest
  let_behind slot line gens x e rest h u m s p g = record {
    widths = λ y k. ap (λ r. put_let x r W y) found.1 ∙ by_name y (bytes_eq y x) refl k;
    ends = h.ends;
    takes = λ y k. taken_by y (bytes_eq y x) k;
    fine = λ y k. good_by y (bytes_eq y x) refl k;
    outputs_are = h.outputs_are;
    assigned_are = h.assigned_are;
    differ = (h.differ).1;
  }
    where
      found : (w : ℕ) × (width_in W e ≡ Ok w)
      found = matches line x (width_in W e) m

      here : HasTree good E e found.0
      here = fits_expr scope lets outputs W good E line line (now (Let slot line gens x e ∷ rest) h) e found.0 u p (sized (is_sized e) line x s) found.1

      by_name : (y : Name) (b : Bool) → bytes_eq y x ≡ b → ((b || lets y) || scope.signal y) ≡ true → put_width x found.0 W y ≡ Some (put x (width_of E (tree_of e)) E y)
      by_name y true t k =
          ap (λ b. if b then Some found.0 else W y) t ∙ ap (λ w. Some w) (sym (ap (λ b. if b then width_of E (tree_of e) else E y) (eq_turned x y ∙ t) ∙ here.1))
      by_name y false t k =
          ap (λ b. if b then Some found.0 else W y) t ∙ h.widths y k ∙ ap (λ w. Some w) (sym (ap (λ b. if b then width_of E (tree_of e) else E y) (eq_turned x y ∙ t)))

      taken_by : (y : Name) (b : Bool) → ((b || lets y) || scope.signal y) ≡ true → (b || taken y) ≡ true
      taken_by y true k = refl
      taken_by y false k = h.takes y k

      good_by : (y : Name) (b : Bool) → bytes_eq y x ≡ b → ((b || lets y) || scope.signal y) ≡ true → good y
      good_by y true t k = subst good (sym (same_name y x t)) g
      good_by y false t k = h.fine y k

  let_fits : (slot line : ℕ) (gens : _) (x : Name) (e : Expr) (rest : List Stmt) → IsAt scope assigned lets taken outputs W E F good (Let slot line gens x e ∷ rest)
      → unknown_in scope assigned lets (Let slot line gens x e) ≡ None → stmt_mismatch W (Let slot line gens x e) ≡ None → bad_stmt (Let slot line gens x e) ≡ None
      → unknown_port_in outputs (Let slot line gens x e) ≡ None → FitsStmt good F (Let slot line gens x e)
  let_fits slot line gens x e rest h u m s p =
      let list : List Stmt = Let slot line gens x e ∷ rest in
      let found = matches line x (width_in W e) m in
      let fits = sized (is_sized e) line x s in
      let here = fits_expr scope lets outputs W good E line line (now list h) e found.0 u p fits found.1 in
      let there = fits_expr scope lets outputs W good F line line (in_end list h) e found.0 u p fits found.1 in
      let ends : F x ≡ found.0 =
      h.ends x ∙ stays (with x taken) rest (put x (width_of E (tree_of e)) E) x (h.differ).1 (or_left (bytes_eq x x) (taken x) (name_same x x refl))
      ∙ ap (λ b. if b then width_of E (tree_of e) else E x) (name_same x x refl) ∙ here.1 in
      (there.0, there.1 ∙ sym ends)

-- what is known behind a statement that is no let
same_behind : (scope : Scope) (assigned lets taken outputs : Known) (W : Widths) (E F : processes.Widths) (good : Name → Type 0) (a b : List Stmt) → list_widths a E ≡ list_widths b E → lets_in a ≡ lets_in b
    → IsAt scope assigned lets taken outputs W E F good a → IsAt scope assigned lets taken outputs W E F good b
same_behind scope assigned lets taken outputs W E F good a b e f h = record {
  widths = h.widths;
  ends = λ x. h.ends x ∙ ap (λ (v : processes.Widths). v x) e;
  takes = h.takes;
  fine = h.fine;
  outputs_are = h.outputs_are;
  assigned_are = h.assigned_are;
  differ = subst (Differ taken) f h.differ;
}

pub list_fits : (scope : Scope) (assigned lets taken outputs : Known) (W : Widths) (E F : processes.Widths) (good : Name → Type 0) (list : List Stmt)
    → IsAt scope assigned lets taken outputs W E F good list → EachOf (LetIsGood good F) list → unknown_among scope assigned lets list ≡ None → mismatch_among W list ≡ None
    → EachOf (λ s. bad_stmt s ≡ None) list → EachOf (λ s. unknown_port_in outputs s ≡ None) list → EachOf (FitsStmt good F) list
list_fits scope assigned lets taken outputs W E F good [] h g u m s p = tt
list_fits scope assigned lets taken outputs W E F good (Assign slot line gens x part e ∷ rest) h g u m s p =
    let t : Stmt = Assign slot line gens x part e in (
      assign_fits scope assigned lets taken outputs W E F good slot line gens x part e rest h (earlier_left (unknown_in scope assigned lets t) _ u) (earlier_left (stmt_mismatch W t) _ m) s.0 p.0,
      list_fits scope assigned lets taken outputs W E F good rest (same_behind scope assigned lets taken outputs W E F good (t ∷ rest) rest refl refl h) g.1
          (earlier_right (unknown_in scope assigned lets t) _ u) (earlier_right (stmt_mismatch W t) _ m) s.1 p.1,
    )
list_fits scope assigned lets taken outputs W E F good (Let slot line gens x e ∷ rest) h g u m s p =
    let t : Stmt = Let slot line gens x e in
    let here = earlier_left (unknown_in scope assigned lets t) _ u in
    let width = earlier_left (stmt_mismatch W t) _ m in (
      let_fits scope assigned lets taken outputs W E F good slot line gens x e rest h here width s.0 p.0,
      list_fits scope assigned (with x lets) (with x taken) outputs (put_let x (width_in W e) W) (put x (width_of E (tree_of e)) E) F good rest
          (let_behind scope assigned lets taken outputs W E F good slot line gens x e rest h here width s.0 p.0 (g.0 (let_fits scope assigned lets taken outputs W E F good slot line gens x e rest h here width s.0 p.0))) g.1
          (earlier_right (unknown_in scope assigned lets t) _ u) (earlier_right (stmt_mismatch W t) _ m) s.1 p.1,
    )
list_fits scope assigned lets taken outputs W E F good (If slot line gens c first second ∷ rest) h g u m s p =
    let t : Stmt = If slot line gens c first second in (
      test_fits scope assigned lets taken outputs W E F good slot line gens c first second rest h (earlier_left (unknown_in scope assigned lets t) _ u) (earlier_left (stmt_mismatch W t) _ m) s.0 p.0,
      list_fits scope assigned lets taken outputs W E F good rest (same_behind scope assigned lets taken outputs W E F good (t ∷ rest) rest refl refl h) g.1
          (earlier_right (unknown_in scope assigned lets t) _ u) (earlier_right (stmt_mismatch W t) _ m) s.1 p.1,
    )
list_fits scope assigned lets taken outputs W E F good (Case slot line gens v arms other ∷ rest) h g u m s p =
    let t : Stmt = Case slot line gens v arms other in (
      cases_fit scope assigned lets taken outputs W E F good slot line gens v arms other rest h (earlier_left (unknown_in scope assigned lets t) _ u) (earlier_left (stmt_mismatch W t) _ m) s.0 p.0,
      list_fits scope assigned lets taken outputs W E F good rest (same_behind scope assigned lets taken outputs W E F good (t ∷ rest) rest refl refl h) g.1
          (earlier_right (unknown_in scope assigned lets t) _ u) (earlier_right (stmt_mismatch W t) _ m) s.1 p.1,
    )
