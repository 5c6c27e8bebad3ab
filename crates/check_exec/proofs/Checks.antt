-- The blocks of an accepted design are checked.
use Rattle.std.proofs.Common.{◌≡◌, ℕ, ◌||◌, Bool, true, false, List, [], ◌∷◌, ◌++◌, map, Option, None, refl, sym, ap, ◌∙◌, subst, if◌then◌else◌}
use Rattle.std.proofs.lemmas.Bool.{or_left, or_right}
use Rattle.exec_core.specs.Block.{Name, Part, own, key_name}
use Rattle.list_core.specs.Lists.{EachOf, IsIn}
use Rattle.exec_core.specs.Paths as exec
use Rattle.exec_core.specs.Paths.{HasWidth, BodyWidths, IsWidth, PartFits, part_width, Checked, known_in}
use Rattle.exec_core.specs.Cases.{arms_body}
use Rattle.bv_core.specs.Operators.{flag_of}
use Rattle.design_core.specs.declared.expr.Literal.{Literal}
use Rattle.tree_core.specs.Tree.{Tree, Const}
use Rattle.tree_core.specs.Width.{width_of, WellFormed}
use Rattle.std.specs.Prelude.{bytes_eq}
use Rattle.std.specs.List.{list_any}
use Rattle.design_core.specs.declared.variant.Signal.{Signal}
use Rattle.exec_core.proofs.Telling.{tree_wide}
use Rattle.check_exec.proofs.Wide.{formed_as, name_wide}
use Rattle.exec_core.specs.Design.{Process, place, signals_of, width_in}
use Rattle.list_core.proofs.Lists.{each_member, each_from}
use Rattle.design_core.specs.declared.design.Instance.{Instance}
use Rattle.design_core.specs.Design.{Expr, Stmt, Assign, Let, If, Case, Body, Done, Then, Else, NoElse, Otherwise, Arms, NoArms, ThenArm, Block, Variant, Design}
use Rattle.design_exec.specs.Processes.{tree_of, target, part_of, value_of, stmt_of, body_of, else_of, arms_of, body_widths, signal_width, instance_signals, is_signal_of, process, processes_of}
use Rattle.names.specs.Known.{none}
use Rattle.design_core.specs.Statements.{inside, statements, else_statements, arms_statements}
use Rattle.check_core.specs.Faults.{first_of}
use Rattle.check_core.specs.Names.{scope_of, targets, named, any_kind, is_child_output, child_named, taken_in}
use Rattle.check_core.specs.Widths.{widths_of, arm_literals, signal_mismatch, mismatch_in_child, mismatch_in_block}
use Rattle.check_exec.specs.Premises.{IsSound, BlocksAreChecked}
use Rattle.check_exec.proofs.Facts.{each_left, each_right, none_found, earlier_right}
use Rattle.check_exec.proofs.Instances.{IsClean, Stands, clean, signals_are, each_process}
use Rattle.check_exec.proofs.Names.{signals_named, signals_differ, lets_differ}
use Rattle.check_exec.proofs.Targets.{MayAssign, block_known, targets_known, named_any, target_signal}
use Rattle.check_exec.proofs.Arms.{IsLiteralOf, false_bits, test_wide}
use Rattle.check_exec.proofs.Latches.{block_sized, signal_declared}
use Rattle.check_exec.proofs.Statements.{sets, Sets, SetIn, set_by}
use Rattle.check_exec.proofs.Reading.{ports_known, block_reads}
use Rattle.check_exec.proofs.SignalWidths.{put_known}
use Rattle.check_exec.proofs.LetWidths.{list_widths, body_listed, stays, FitsStmt, LetIsGood, IsAt, list_fits}

-- ---- from statements one after another to those inside one another

module _ (clocked : Bool) (known : Name → Bool) (F : Name → ℕ) where
  abbrev Good : Name → Type 0
  Good x = known x ≡ true

  target_width : (x : Name) (part : Option Part) (e : Tree Name) → PartFits part (F x) × HasWidth known F e (part_width part (F x))
      → PartFits part (F (key_name (target clocked x))) × HasWidth known F e (part_width part (F (key_name (target clocked x))))
  target_width x part e h = subst (λ y. PartFits part (F y) × HasWidth known F e (part_width part (F y))) (sym (named_by clocked)) h
    where
      named_by : (c : Bool) → key_name (target c x) ≡ x
      named_by true = refl
      named_by false = refl

  -- the condition of a `case` without an arm
  nothing_wide : HasWidth known F (Const (flag_of false)) 1
  nothing_wide = (false_bits, refl)

  each_values : (w : ℕ) (ls : List Literal) → EachOf (λ l. IsLiteralOf w (value_of l)) ls → EachOf (IsLiteralOf w) (map value_of ls)
  each_values w [] h = tt
  each_values w (l ∷ ls) h = (h.0, each_values w ls h.1)

  mutual
    stmt_fits : (s : Stmt) → EachOf (FitsStmt Good F) (s ∷ inside s) → exec.Widths known F (stmt_of clocked s)
    stmt_fits (Assign slot line gens x part e) h = target_width x (part_of part) (tree_of e) h.0
    stmt_fits (Let slot line gens x e) h = (tt, h.0)
    stmt_fits (If slot line gens c first second) h = (
      h.0,
      body_fits first (each_left (FitsStmt Good F) (statements first) (else_statements second) h.1),
      else_fits second (each_right (FitsStmt Good F) (statements first) (else_statements second) h.1),
    )
    stmt_fits (Case slot line gens v NoArms other) h = (nothing_wide, tt, else_fits other h.1)
    stmt_fits (Case slot line gens v (ThenArm tests body rest) other) h =
        let arms : List Stmt = statements body ++ arms_statements rest in
        let w : ℕ = h.0.0 in
        let literals = h.0.2 in
        let inner = each_left (FitsStmt Good F) arms (else_statements other) h.1 in (
          test_wide known F (tree_of v) w h.0.1 (map value_of tests) (each_values w tests (each_left (λ l. IsLiteralOf w (value_of l)) tests (arm_literals rest) literals)),
          body_fits body (each_left (FitsStmt Good F) (statements body) (arms_statements rest) inner),
          arms_fit v rest other w h.0.1 (each_right (λ l. IsLiteralOf w (value_of l)) tests (arm_literals rest) literals) (each_right (FitsStmt Good F) (statements body) (arms_statements rest) inner)
              (else_fits other (each_right (FitsStmt Good F) arms (else_statements other) h.1)),
        )

    -- arms, each in the else-branch of the one before it
    arms_fit : (v : Expr) (arms : Arms) (other : Else) (w : ℕ) → HasWidth known F (tree_of v) w → EachOf (λ l. IsLiteralOf w (value_of l)) (arm_literals arms) → EachOf (FitsStmt Good F) (arms_statements arms)
        → BodyWidths known F (else_of clocked other) → BodyWidths known F (arms_body (tree_of v) (arms_of clocked arms) (else_of clocked other))
    arms_fit v NoArms other w wide literals h last = last
    arms_fit v (ThenArm tests body rest) other w wide literals h last = (
      (
        test_wide known F (tree_of v) w wide (map value_of tests) (each_values w tests (each_left (λ l. IsLiteralOf w (value_of l)) tests (arm_literals rest) literals)),
        body_fits body (each_left (FitsStmt Good F) (statements body) (arms_statements rest) h),
        arms_fit v rest other w wide (each_right (λ l. IsLiteralOf w (value_of l)) tests (arm_literals rest) literals) (each_right (FitsStmt Good F) (statements body) (arms_statements rest) h) last,
      ),
      tt,
    )

    pub body_fits : (b : Body) → EachOf (FitsStmt Good F) (statements b) → BodyWidths known F (body_of clocked b)
    body_fits Done h = tt
    body_fits (Then s rest) h = (
      stmt_fits s (each_left (FitsStmt Good F) (s ∷ inside s) (statements rest) h),
      body_fits rest (each_right (FitsStmt Good F) (s ∷ inside s) (statements rest) h),
    )

    else_fits : (b : Else) → EachOf (FitsStmt Good F) (else_statements b) → BodyWidths known F (else_of clocked b)
    else_fits NoElse h = tt
    else_fits (Otherwise body) h = body_fits body h

-- ---- a block of a variant

module _ (d : Design) (sound : IsSound d) (i : ℕ) (r : Instance) (v : Variant) (b : Block) (stands : Stands d i r v) (c : IsClean d.variants v) (at : IsIn b v.blocks) where
  abbrev its : Process
  its = process i v.signals b

  abbrev F : Name → ℕ
  F = width_in (processes_of d) its

  abbrev known : Name → Bool
  known = known_in (signals_of (processes_of d) its) its.body

  -- the width in the end of a name
  ends : (x : Name) → F x ≡ list_widths (statements b.body) (signal_width v.signals) x
  ends x = by_signal (is_signal_of d (place i x)) refl
    where
      listed : body_widths b.body (signal_width v.signals) x ≡ list_widths (statements b.body) (signal_width v.signals) x
      listed = ap (λ (w : Name → ℕ). w x) (body_listed b.body (signal_width v.signals))

      by_signal : (s : Bool) → is_signal_of d (place i x) ≡ s → (if s then signal_width (instance_signals d i) x else body_widths b.body (signal_width v.signals) x) ≡ list_widths (statements b.body) (signal_width v.signals) x
      by_signal true e =
          ap (λ l. signal_width l x) (signals_are d i r v stands)
          ∙ sym (stays (taken_in v) (statements b.body) (signal_width v.signals) x (lets_differ v b at c.apart) (or_left (named any_kind v.signals x) (child_named v.children x) (sym (signals_named d i r v stands x) ∙ e)))
      by_signal false e = listed

  abbrev HasTree0 : (Name → Type 0) → (Name → ℕ) → Tree Name → ℕ → Type 0
  HasTree0 good W e w = WellFormed good W e × (width_of W e ≡ w)

  -- so one run of the block serves all instances of the variant
  pub widths_are : F ≡ body_widths b.body (signal_width v.signals)
  widths_are = λ j x. (ends x ∙ sym (ap (λ (w : Name → ℕ). w x) (body_listed b.body (signal_width v.signals)))) j

  -- a name that is known, and has a width from 1 to 128
  abbrev IsFine : Name → Type 0
  IsFine x = (known x ≡ true) × IsWidth (F x)

  fit_wide : (x : Name) (e : Tree Name) → HasTree0 IsFine F e (F x) → IsWidth (F x)
  fit_wide x e h = subst IsWidth h.1 (tree_wide IsFine F (λ y g. g.1) e h.0)

  signal_fine : (x : Name) → signals_of (processes_of d) its x ≡ true → IsWidth (F x)
  signal_fine x e =
      subst IsWidth (sym (ap (λ b. if b then signal_width (instance_signals d i) x else body_widths b_body (signal_width v.signals) x) e ∙ ap (λ l. signal_width l x) (signals_are d i r v stands)))
      (name_wide d sound i r v stands x (sym (ap (list_any (λ (s : Signal). bytes_eq s.name x)) (signals_are d i r v stands)) ∙ e))
    where
      b_body : Body
      b_body = b.body

  lets_good : EachOf (LetIsGood IsFine F) (statements b.body)
  lets_good = each_from (LetIsGood IsFine F) (statements b.body) by_kind
    where
      by_kind : (s : Stmt) → IsIn s (statements b.body) → LetIsGood IsFine F s
      by_kind (Assign slot line gens x part e) j = tt
      by_kind (Let slot line gens x e) j = λ h. (or_left (own its.body x) (signals_of (processes_of d) its x) (sets b.clocked x (Let slot line gens x e) refl b.body j), fit_wide x (tree_of e) h)
      by_kind (If slot line gens t first second) j = tt
      by_kind (Case slot line gens t arms other) j = tt

  is_at : IsAt (scope_of v) (targets (scope_of v) b.clocked) none (taken_in v) (named is_child_output v.signals) (widths_of any_kind v.signals) (signal_width v.signals) F IsFine (statements b.body)
  is_at = record {
    widths = λ x e. put_known any_kind v.signals x (signals_differ v c.apart) e;
    ends = ends;
    takes = λ x e. or_left (named any_kind v.signals x) (child_named v.children x) e;
    fine = λ x e. let s = signals_named d i r v stands x ∙ e in (or_right (own its.body x) (signals_of (processes_of d) its x) s, signal_fine x s);
    outputs_are = λ x e. named_any is_child_output v.signals x e;
    assigned_are = λ x e. target_signal v b.clocked x e;
    differ = lets_differ v b at c.apart;
  }

  all_fit : EachOf (FitsStmt IsFine F) (statements b.body)
  all_fit =
      list_fits (scope_of v) (targets (scope_of v) b.clocked) none (taken_in v) (named is_child_output v.signals) (widths_of any_kind v.signals) (signal_width v.signals) F IsFine (statements b.body)
      is_at lets_good (block_known d.variants v b c at)
      (each_member (λ k. mismatch_in_block (widths_of any_kind v.signals) k ≡ None) v.blocks
      (none_found (mismatch_in_block (widths_of any_kind v.signals)) v.blocks
      (earlier_right (first_of (mismatch_in_child (widths_of any_kind v.signals) d.variants) v.children) _ (earlier_right (first_of signal_mismatch v.signals) _ c.widths))) b at)
      (block_sized d.variants v b c at)
      (ports_known d.variants v b c at)

  known_fit : EachOf (FitsStmt (λ x. known x ≡ true) F) (statements b.body)
  known_fit = each_from (FitsStmt (λ x. known x ≡ true) F) (statements b.body) (λ s j. by_kind s (each_member (FitsStmt IsFine F) (statements b.body) all_fit s j))
    where
      by_kind : (s : Stmt) → FitsStmt IsFine F s → FitsStmt (λ x. known x ≡ true) F s
      by_kind (Assign slot line gens x part e) h = (h.0, (formed_as IsFine (λ x. known x ≡ true) F (λ y g. g.0) (tree_of e) h.1.0, h.1.1))
      by_kind (Let slot line gens x e) h = (formed_as IsFine (λ x. known x ≡ true) F (λ y g. g.0) (tree_of e) h.0, h.1)
      by_kind (If slot line gens t first second) h = (formed_as IsFine (λ x. known x ≡ true) F (λ y g. g.0) (tree_of t) h.0, h.1)
      by_kind (Case slot line gens t arms other) h = (h.0, (formed_as IsFine (λ x. known x ≡ true) F (λ y g. g.0) (tree_of t) h.1.0, h.1.1), h.2)

  own_wide : (x : Name) → own its.body x ≡ true → IsWidth (F x)
  own_wide x e = by_statement (set_by b.clocked x b.body e)
    where
      by_kind : (s : Stmt) → IsIn s (statements b.body) → Sets b.clocked x s → FitsStmt IsFine F s → IsWidth (F x)
      by_kind (Assign slot line gens y part t) here sets h =
          let may = each_member (MayAssign (targets (scope_of v) b.clocked)) (statements b.body) (targets_known d.variants v b c at) (Assign slot line gens y part t) here in
          subst (λ z. IsWidth (F z)) sets.1 (signal_fine y (signals_named d i r v stands y ∙ target_signal v b.clocked y may))
      by_kind (Let slot line gens y t) here sets h = subst (λ z. IsWidth (F z)) sets (fit_wide y (tree_of t) h)
      by_kind (If slot line gens t first second) here sets h = absurd sets
      by_kind (Case slot line gens t arms other) here sets h = absurd sets

      by_statement : SetIn b.clocked x (statements b.body) → IsWidth (F x)
      by_statement h = by_kind h.statement h.stands h.sets (each_member (FitsStmt IsFine F) (statements b.body) all_fit h.statement h.stands)

  known_wide : (x : Name) → known x ≡ true → IsWidth (F x)
  known_wide x e = at_test (own its.body x) refl e
    where
      at_test : (o : Bool) → own its.body x ≡ o → (o || signals_of (processes_of d) its x) ≡ true → IsWidth (F x)
      at_test true f h = own_wide x f
      at_test false f h = signal_fine x h

  block_widths : BodyWidths known F (body_of b.clocked b.body)
  block_widths = body_fits b.clocked known F b.body known_fit

  pub block_checked : Checked (signals_of (processes_of d) its) F its.body
  block_checked = record { reads = block_reads F d.variants v b (λ x e. signal_declared d i r v b stands x (signals_named d i r v stands x ∙ e)) c at; widths = block_widths; names = known_wide }

pub blocks_are_checked : BlocksAreChecked
blocks_are_checked d sound = each_process d _ (λ i r v b s at. block_checked d sound i r v b s (clean d sound.accepted i r v s) at)
