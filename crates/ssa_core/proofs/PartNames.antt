-- The widths by which a block was run, and those of its process: they agree on names that are assigned in part, which are signals.
use Rattle.std.proofs.Common.{◌≡◌, ℕ, ◌≤◌, Bool, true, false, ◌||◌, ◌&&◌, bytes_eq, is_some, List, [], ◌∷◌, ◌++◌, append_assoc, inl, inr, refl, sym, ap, ◌∙◌, subst, arith}
use Rattle.std.specs.List.{list_any}
use Rattle.std.proofs.lemmas.Bool.{cases_Bool, or_cases}
use Rattle.list_core.specs.Lists.{EachOf, IsIn}
use Rattle.list_core.proofs.Lists.{each_member}
use Rattle.exec_core.specs.Block as blocks
use Rattle.exec_core.specs.Block.{Name, Key, Now, Next, key_name, same_key, own}
use Rattle.exec_core.specs.Cases.{Arm, arms_body, case_of}
use Rattle.exec_core.specs.Design.{signals_of, width_in}
use Rattle.exec_core.specs.Paths.{Checked}
use Rattle.exec_core.specs.WholeNames.{SamePartWidths, assigns_part, body_assigns_part}
use Rattle.design_core.specs.declared.design.Instance.{Instance}
use Rattle.design_core.specs.declared.variant.Signal.{Signal}
use Rattle.design_core.specs.Design.{Expr, Stmt, Assign, Let, If, Case, Body, Done, Then, Else, NoElse, Otherwise, Arms, NoArms, ThenArm, Block, Variant, Design}
use Rattle.design_core.specs.Statements.{inside, statements, else_statements, arms_statements}
use Rattle.design_exec.specs.Processes.{arms_of, body_of, else_of, part_of, process, processes_of, stmt_of, target, tree_of}
use Rattle.names.specs.Known.{Known}
use Rattle.check_core.specs.Names.{scope_of, targets}
use Rattle.check_core.specs.Paths.{declared_width}
use Rattle.check_exec.specs.Premises.{IsSound}
use Rattle.check_exec.proofs.Checks.{blocks_are_checked}
use Rattle.check_exec.proofs.Declared.{declared_none}
use Rattle.check_exec.proofs.Facts.{each_left, each_right, same_name}
use Rattle.check_exec.proofs.Instances.{IsClean, Stands, clean, signals_are}
use Rattle.check_exec.proofs.Latches.{signal_declared}
use Rattle.check_exec.proofs.Names.{signals_named}
use Rattle.check_exec.proofs.Targets.{MayAssign, targets_known, target_signal}

-- ---- what is assigned in part is a target

both : (a b : Bool) → (a && b) ≡ true → (a ≡ true) × (b ≡ true)
both true b e = (refl, e)
both false b e = absurd cc

never : (b : Bool) → (b && false) ≡ true → ⊥
never true e = cc
never false e = cc

or_none : (b : Bool) → (b || false) ≡ b
or_none true = refl
or_none false = refl

named_by : (clocked : Bool) (x : Name) (y : Key) → same_key (target clocked x) y ≡ true → x ≡ key_name y
named_by true x (Next y) e = same_name x y e
named_by true x (Now y) e = absurd cc
named_by false x (Now y) e = same_name x y e
named_by false x (Next y) e = absurd cc

case_part : (slot : ℕ) (v : blocks.Expr) (arms : List Arm) (other : blocks.Body) (y : Key) → assigns_part (case_of slot v arms other) y ≡ body_assigns_part (arms_body v arms other) y
case_part slot v [] other y = refl
case_part slot v (arm ∷ arms) other y = sym (or_none _)

module _ (assigned : Known) (clocked : Bool) (y : Key) where
  mutual
    part_stmt : (s : Stmt) → EachOf (MayAssign assigned) (s ∷ inside s) → assigns_part (stmt_of clocked s) y ≡ true → assigned (key_name y) ≡ true
    part_stmt (Assign slot line gens x part e) h is = subst (λ z. assigned z ≡ true) (named_by clocked x y (both (same_key (target clocked x) y) (is_some (part_of part)) is).0) h.0
    part_stmt (Let slot line gens x e) h is = absurd (never (same_key (Now x) y) is)
    part_stmt (If slot line gens c first second) h is = elim (or_cases (body_assigns_part (body_of clocked first) y) (body_assigns_part (else_of clocked second) y) is) [
      | inl a ↦ part_body first (each_left (MayAssign assigned) (statements first) (else_statements second) h.1) a
      | inr b ↦ part_else second (each_right (MayAssign assigned) (statements first) (else_statements second) h.1) b
    ]
    part_stmt (Case slot line gens v arms other) h is =
        part_arms v arms other (λ g b. part_else other g b) h.1 (sym (case_part slot (tree_of v) (arms_of clocked arms) (else_of clocked other) y) ∙ is)

    part_body : (b : Body) → EachOf (MayAssign assigned) (statements b) → body_assigns_part (body_of clocked b) y ≡ true → assigned (key_name y) ≡ true
    part_body Done h is = absurd cc
    part_body (Then s rest) h is = elim (or_cases (assigns_part (stmt_of clocked s) y) (body_assigns_part (body_of clocked rest) y) is) [
      | inl a ↦ part_stmt s (h.0, each_left (MayAssign assigned) (inside s) (statements rest) h.1) a
      | inr b ↦ part_body rest (each_right (MayAssign assigned) (inside s) (statements rest) h.1) b
    ]

    part_else : (b : Else) → EachOf (MayAssign assigned) (else_statements b) → body_assigns_part (else_of clocked b) y ≡ true → assigned (key_name y) ≡ true
    part_else NoElse h is = absurd cc
    part_else (Otherwise body) h is = part_body body h is

    part_arms : (v : Expr) (arms : Arms) (other : Else) → (EachOf (MayAssign assigned) (else_statements other) → body_assigns_part (else_of clocked other) y ≡ true → assigned (key_name y) ≡ true)
        → EachOf (MayAssign assigned) (arms_statements arms ++ else_statements other) → body_assigns_part (arms_body (tree_of v) (arms_of clocked arms) (else_of clocked other)) y ≡ true → assigned (key_name y) ≡ true
    part_arms v NoArms other last h is = last h is
    part_arms v (ThenArm tests body rest) other last h is =
        let all = subst (EachOf (MayAssign assigned)) (append_assoc (statements body) (arms_statements rest) (else_statements other)) h in
        elim (or_cases (body_assigns_part (body_of clocked body) y) (body_assigns_part (arms_body (tree_of v) (arms_of clocked rest) (else_of clocked other)) y) (sym (or_none _) ∙ is)) [
          | inl a ↦ part_body body (each_left (MayAssign assigned) (statements body) (arms_statements rest ++ else_statements other) all) a
          | inr b ↦ part_arms v rest other last (each_right (MayAssign assigned) (statements body) (arms_statements rest ++ else_statements other) all) b
        ]

-- ---- the widths

pub same_widths : (d : Design) (sound : IsSound d) (i : ℕ) (r : Instance) (v : Variant) → Stands d i r v → (b : Block) → IsIn b v.blocks → IsIn (process i v.signals b) (processes_of d).processes
    → SamePartWidths (declared_width v.signals) (width_in (processes_of d) (process i v.signals b)) (body_of b.clocked b.body)
same_widths d sound i r v s b at among = record {
  parts = λ y e. sym (signal_declared d i r v b s (key_name y) (is_signal y e));
  own_first = λ x e. elim (cases_Bool (signals_of (processes_of d) (process i v.signals b) x)) [
    | inl here ↦ subst (λ w. 1 ≤ w) (signal_declared d i r v b s x here) (some_bit x e)
    | inr off ↦ subst (λ w. 1 ≤ w) (sym (declared_none v.signals x (sym (ap (list_any (λ (t : Signal). bytes_eq t.name x)) (signals_are d i r v s)) ∙ off))) (omega arith)
  ];
  own_second = some_bit;
}
  where
    is_clean : IsClean d.variants v
    is_clean = clean d sound.accepted i r v s

    is_signal : (y : Key) → body_assigns_part (body_of b.clocked b.body) y ≡ true → signals_of (processes_of d) (process i v.signals b) (key_name y) ≡ true
    is_signal y e = signals_named d i r v s (key_name y) ∙ target_signal v b.clocked (key_name y) (part_body (targets (scope_of v) b.clocked) b.clocked y b.body (targets_known d.variants v b is_clean at) e)

    checked : Checked (signals_of (processes_of d) (process i v.signals b)) (width_in (processes_of d) (process i v.signals b)) (body_of b.clocked b.body)
    checked = each_member (λ c. Checked (signals_of (processes_of d) c) (width_in (processes_of d) c) c.body) (processes_of d).processes (blocks_are_checked d sound) (process i v.signals b) among

    some_bit : (x : Name) → own (body_of b.clocked b.body) x ≡ true → 1 ≤ width_in (processes_of d) (process i v.signals b) x
    some_bit x e = (checked.names x (ap (λ o. o || signals_of (processes_of d) (process i v.signals b) x) e)).0
