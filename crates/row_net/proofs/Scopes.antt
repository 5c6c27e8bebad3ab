-- The names in scope in a block are known to its process.
use Rattle.std.proofs.Common.{◌≡◌, ℕ, Bool, true, bytes_eq, [], ◌++◌, append_assoc, map, option_map, unwrap_or, inl, inr, sym, ap, ◌∙◌, subst}
use Rattle.std.specs.List.{list_any}
use Rattle.std.proofs.lemmas.Bool.{or_left, or_right}
use Rattle.exec_core.specs.Block.{Name, Now, own, body_assigns, assigns}
use Rattle.list_core.specs.Lists.{IsIn}
use Rattle.exec_core.specs.Paths.{known_in}
use Rattle.exec_core.specs.Design.{place, signals_of}
use Rattle.design_core.specs.declared.design.Instance.{Instance}
use Rattle.design_core.specs.declared.variant.Signal.{Signal}
use Rattle.design_core.specs.Design as design
use Rattle.design_core.specs.Design.{Variant, Block, Design}
use Rattle.design_core.specs.Slots.{lets_of, let_of, else_lets, arms_lets, scope}
use Rattle.design_exec.specs.Processes.{instances_of, process, processes_at, processes_of, arms_of, body_of, stmt_of, else_of, tree_of, value_of, is_signal_of}
use Rattle.exec_core.specs.Cases.{arms_body}
use Rattle.check_exec.proofs.Arms.{case_assigns, arm_assigns}
use Rattle.check_exec.proofs.Facts.{in_any, name_same}
use Rattle.list_core.proofs.Lists.{in_cases}
use Rattle.check_exec.proofs.Instances.{Stands, signals_are}
use Rattle.list_core.proofs.Listing.{map_in, map_from, flat_in, at_number}

mutual
  let_set : (c : Bool) (x : Name) (s : design.Stmt) → IsIn x (let_of s) → assigns (stmt_of c s) (Now x) ≡ true
  let_set c x (design.Assign slot line gens y part e) i = absurd i
  let_set c x (design.Let slot line gens y e) (inl same) = name_same y x (sym same)
  let_set c x (design.Let slot line gens y e) (inr i) = absurd i
  let_set c x (design.If slot line gens t first second) i = elim (in_cases x (lets_of first) (else_lets second) i) [
    | inl h ↦ or_left (body_assigns (body_of c first) (Now x)) (body_assigns (else_of c second) (Now x)) (lets_set c x first h)
    | inr h ↦ or_right (body_assigns (body_of c first) (Now x)) (body_assigns (else_of c second) (Now x)) (else_set c x second h)
  ]
  let_set c x (design.Case slot line gens v arms other) i =
      case_assigns slot (tree_of v) (arms_of c arms) (else_of c other) (Now x) ∙ arms_set c x v arms other (else_set c x other) i

  -- of arms, or of the default, where what it has is set
  arms_set : (c : Bool) (x : Name) (v : design.Expr) (arms : design.Arms) (other : design.Else) → (IsIn x (else_lets other) → body_assigns (else_of c other) (Now x) ≡ true) → IsIn x (arms_lets arms ++ else_lets other)
      → body_assigns (arms_body (tree_of v) (arms_of c arms) (else_of c other)) (Now x) ≡ true
  arms_set c x v design.NoArms other last i = last i
  arms_set c x v (design.ThenArm tests body rest) other last i =
      arm_assigns (tree_of v) (record { tests = map value_of tests; body = body_of c body }) (arms_of c rest) (else_of c other) (Now x)
      ∙ elim (in_cases x (lets_of body) (arms_lets rest ++ else_lets other) (subst (IsIn x) (append_assoc (lets_of body) (arms_lets rest) (else_lets other)) i)) [
        | inl h ↦ or_left (body_assigns (body_of c body) (Now x)) (body_assigns (arms_body (tree_of v) (arms_of c rest) (else_of c other)) (Now x)) (lets_set c x body h)
        | inr h ↦ or_right (body_assigns (body_of c body) (Now x)) (body_assigns (arms_body (tree_of v) (arms_of c rest) (else_of c other)) (Now x)) (arms_set c x v rest other last h)
      ]

  lets_set : (c : Bool) (x : Name) (b : design.Body) → IsIn x (lets_of b) → body_assigns (body_of c b) (Now x) ≡ true
  lets_set c x design.Done i = absurd i
  lets_set c x (design.Then s rest) i = elim (in_cases x (let_of s) (lets_of rest) i) [
    | inl h ↦ or_left (assigns (stmt_of c s) (Now x)) (body_assigns (body_of c rest) (Now x)) (let_set c x s h)
    | inr h ↦ or_right (assigns (stmt_of c s) (Now x)) (body_assigns (body_of c rest) (Now x)) (lets_set c x rest h)
  ]

  else_set : (c : Bool) (x : Name) (b : design.Else) → IsIn x (else_lets b) → body_assigns (else_of c b) (Now x) ≡ true
  else_set c x design.NoElse i = absurd i
  else_set c x (design.Otherwise body) i = lets_set c x body i

pub scope_known : (d : Design) (i : ℕ) (r : Instance) (v : Variant) → Stands d i r v → (b : Block) (x : Name) → IsIn x (scope v b)
    → known_in (signals_of (processes_of d) (process i v.signals b)) (body_of b.clocked b.body) x ≡ true
scope_known d i r v stands b x at = elim (in_cases x (map (λ (s : Signal). s.name) v.signals) (lets_of b.body) at) [
  | inl h ↦
      let s = map_from (λ (s : Signal). s.name) v.signals x h in
      or_right (own (body_of b.clocked b.body) x) (is_signal_of d (place i x))
      (ap (list_any (λ (t : Signal). bytes_eq t.name x)) (signals_are d i r v stands) ∙ in_any (λ (t : Signal). bytes_eq t.name x) v.signals s.0 s.1.0 (name_same s.0.name x (sym s.1.1)))
  | inr h ↦ or_left (own (body_of b.clocked b.body) x) (is_signal_of d (place i x)) (lets_set b.clocked x b.body h)
]

-- ---- the process of a statement at an instance

pub process_in : (d : Design) (i : ℕ) (r : Instance) (v : Variant) → Stands d i r v → (b : Block) → IsIn b v.blocks → IsIn (process i v.signals b) (processes_of d).processes
process_in d i r v stands b among =
    flat_in (processes_at d) (instances_of d) (i, r) (process i v.signals b) (at_number d.instances i r stands.instance)
    (subst (λ l. IsIn (process i v.signals b) l)
    (sym (ap (λ o. map (process i (unwrap_or (option_map (λ (w : Variant). w.signals) o) [])) (unwrap_or (option_map (λ (w : Variant). w.blocks) o) [])) stands.variant))
    (map_in (process i v.signals) v.blocks b among))
