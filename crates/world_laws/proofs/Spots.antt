-- What the folded whole trees tell of a cycle, at a statement and an instance of its variant.
use Rattle.std.proofs.Common.{◌≡◌, ℕ, ◌==◌, Bool, true, false, true≢false, bytes_eq, List, [], ◌∷◌, ◌++◌, map, Option, Some, None, option_map, unwrap_or, inl, inr, refl, sym, ap, ap₂, ◌∙◌, subst, eqb-true, eq-eqb}
use Rattle.std.specs.Prelude.{slice_get, filter, is_some, option_and_then}
use Rattle.std.specs.List.{list_any}
use Rattle.std.proofs.lemmas.Bool.{or_left, or_right}
use Rattle.std.proofs.lemmas.Option.{same_Some}
use Rattle.bv_core.specs.Value.{Bits}
use Rattle.bv_core.specs.Operators.{flag_of}
use Rattle.tree_core.specs.Tree.{Tree}
use Rattle.exec_core.specs.Block.{Name, Key, Now, own, body_assigns, assigns, body_slots}
use Rattle.exec_core.specs.Exec.{Env}
use Rattle.list_core.specs.Lists.{IsIn, IsNotIn}
use Rattle.exec_core.specs.Trees.{Row, row_at}
use Rattle.exec_core.specs.Agree.{Shows, TellsVisit}
use Rattle.exec_core.specs.Paths.{known_in}
use Rattle.exec_core.specs.Design.{Process, place, signals_of, width_in}
use Rattle.exec_core.specs.Run.{slots_in}
use Rattle.list_core.proofs.Options.{some_if}
use Rattle.list_core.proofs.Lists.{filter_member, none_in, in_cases}
use Rattle.design_core.specs.declared.design.Instance.{Instance}
use Rattle.design_core.specs.declared.variant.Signal.{Signal}
use Rattle.design_core.specs.Design as design
use Rattle.design_core.specs.Design.{Variant, Block, Design}
use Rattle.design_core.specs.Slots.{heads, slots_of, lets_of, let_of, else_lets, arms_lets, scope}
use Rattle.design_core.specs.WellFormed.{IsDesign}
use Rattle.design_exec.specs.Processes.{instances_of, process, processes_at, processes_of, tree_of, value_of, body_of, stmt_of, else_of, arms_of, signals_in, blocks_in, is_signal_of}
use Rattle.exec_core.specs.Cases.{arms_body}
use Rattle.design_exec.proofs.Slots.{body_has}
use Rattle.check_exec.proofs.Arms.{case_assigns, arm_assigns}
use Rattle.check_exec.proofs.Facts.{in_any, name_same}
use Rattle.check_exec.proofs.Instances.{Stands, clean, signals_are}
use Rattle.check_exec.proofs.Checks.{widths_are}
use Rattle.check_exec.specs.Premises.{IsSound}
use Rattle.world_core.specs.Sites.{Site, sites_of, sites_in_order}
use Rattle.list_core.proofs.Listing.{map_in, map_from, flat_in, flat_from, filter_from, at_number}
use Rattle.world_laws.proofs.SitesOf.{SiteIs, SiteOf, site_of, ordered, at_numbers}

-- ---- the names in scope are known

mutual
  let_set : (c : Bool) (x : Name) (s : design.Stmt) → IsIn x (let_of s) → assigns (stmt_of c s) (Now x) ≡ true
  let_set c x (design.Assign slot line gens y part e) i = absurd i
  let_set c x (design.Let slot line gens y e) (inl same) = name_same y x (sym same)
  let_set c x (design.Let slot line gens y e) (inr i) = absurd i
  let_set c x (design.If slot line gens t first second) i = elim (in_cases x (lets_of first) (else_lets second) i) [
    | inl h ↦ or_left (body_assigns (body_of c first) (Now x)) (body_assigns (else_of c second) (Now x)) (lets_set c x first h)
    | inr h ↦ or_right (body_assigns (body_of c first) (Now x)) (body_assigns (else_of c second) (Now x)) (else_set c x second h)
  ]
  let_set c x (design.Case slot line gens v arms other) i =
      case_assigns slot (tree_of v) (arms_of c arms) (else_of c other) (Now x)
      ∙ elim (in_cases x (arms_lets arms) (else_lets other) i) [ inl h ↦ arm_set c x v arms other h | inr h ↦ last_set c x v arms other (else_set c x other h) ]

  -- in an arm, and in the default
  arm_set : (c : Bool) (x : Name) (v : design.Expr) (arms : design.Arms) (other : design.Else) → IsIn x (arms_lets arms) → body_assigns (arms_body (tree_of v) (arms_of c arms) (else_of c other)) (Now x) ≡ true
  arm_set c x v design.NoArms other i = absurd i
  arm_set c x v (design.ThenArm tests body rest) other i =
      arm_assigns (tree_of v) (record { tests = map value_of tests; body = body_of c body }) (arms_of c rest) (else_of c other) (Now x)
      ∙ elim (in_cases x (lets_of body) (arms_lets rest) i) [
        | inl h ↦ or_left (body_assigns (body_of c body) (Now x)) (body_assigns (arms_body (tree_of v) (arms_of c rest) (else_of c other)) (Now x)) (lets_set c x body h)
        | inr h ↦ or_right (body_assigns (body_of c body) (Now x)) (body_assigns (arms_body (tree_of v) (arms_of c rest) (else_of c other)) (Now x)) (arm_set c x v rest other h)
      ]

  last_set : (c : Bool) (x : Name) (v : design.Expr) (arms : design.Arms) (other : design.Else) → body_assigns (else_of c other) (Now x) ≡ true → body_assigns (arms_body (tree_of v) (arms_of c arms) (else_of c other)) (Now x) ≡ true
  last_set c x v design.NoArms other h = h
  last_set c x v (design.ThenArm tests body rest) other h =
      arm_assigns (tree_of v) (record { tests = map value_of tests; body = body_of c body }) (arms_of c rest) (else_of c other) (Now x)
      ∙ or_right (body_assigns (body_of c body) (Now x)) (body_assigns (arms_body (tree_of v) (arms_of c rest) (else_of c other)) (Now x)) (last_set c x v rest other h)

  lets_set : (c : Bool) (x : Name) (b : design.Body) → IsIn x (lets_of b) → body_assigns (body_of c b) (Now x) ≡ true
  lets_set c x design.Done i = absurd i
  lets_set c x (design.Then s rest) i = elim (in_cases x (let_of s) (lets_of rest) i) [
    | inl h ↦ or_left (assigns (stmt_of c s) (Now x)) (body_assigns (body_of c rest) (Now x)) (let_set c x s h)
    | inr h ↦ or_right (assigns (stmt_of c s) (Now x)) (body_assigns (body_of c rest) (Now x)) (lets_set c x rest h)
  ]

  else_set : (c : Bool) (x : Name) (b : design.Else) → IsIn x (else_lets b) → body_assigns (else_of c b) (Now x) ≡ true
  else_set c x design.NoElse i = absurd i
  else_set c x (design.Otherwise body) i = lets_set c x body i

pub scope_known : (d : Design) (i : ℕ) (r : Instance) (v : Variant) → Stands d i r v → (b : Block) (x : Name) → IsIn x (scope v b)
    → known_in (signals_of (processes_of d) (process i v.signals b)) (body_of b.clocked b.body) x ≡ true
scope_known d i r v stands b x at = elim (in_cases x (map (λ (s : Signal). s.name) v.signals) (lets_of b.body) at) [
  | inl h ↦
      let s = map_from (λ (s : Signal). s.name) v.signals x h in
      or_right (own (body_of b.clocked b.body) x) (is_signal_of d (place i x))
      (ap (list_any (λ (t : Signal). bytes_eq t.name x)) (signals_are d i r v stands) ∙ in_any (λ (t : Signal). bytes_eq t.name x) v.signals s.0 s.1.0 (name_same s.0.name x (sym s.1.1)))
  | inr h ↦ or_left (own (body_of b.clocked b.body) x) (is_signal_of d (place i x)) (lets_set b.clocked x b.body h)
]

-- ---- the process of a statement at an instance

pub process_in : (d : Design) (i : ℕ) (r : Instance) (v : Variant) → Stands d i r v → (b : Block) → IsIn b v.blocks → IsIn (process i v.signals b) (processes_of d).processes
process_in d i r v stands b among =
    flat_in (processes_at d) (instances_of d) (i, r) (process i v.signals b) (at_number d.instances i r stands.instance)
    (subst (λ l. IsIn (process i v.signals b) l)
    (sym (ap (λ o. map (process i (unwrap_or (option_map (λ (w : Variant). w.signals) o) [])) (unwrap_or (option_map (λ (w : Variant). w.blocks) o) [])) stands.variant))
    (map_in (process i v.signals) v.blocks b among))

-- ---- an instance of another variant does not have the slot

block_variant : (d : Design) (n : ℕ) (b : Block) → IsIn b (blocks_in d n) → (v : Variant) × ((slice_get d.variants n ≡ Some v) × IsIn b v.blocks)
block_variant d n b i = by_variant (slice_get d.variants n) refl i
  where
    by_variant : (o : Option Variant) → slice_get d.variants n ≡ o → IsIn b (unwrap_or (option_map (λ (w : Variant). w.blocks) o) []) → (v : Variant) × ((slice_get d.variants n ≡ Some v) × IsIn b v.blocks)
    by_variant (Some v) e j = (v, (e, j))
    by_variant None e j = absurd j

-- a slot that an instance has is one of a statement of its variant
slot_site : (d : Design) (i k : ℕ) (r : Instance) → slice_get d.instances i ≡ Some r → IsIn k (slots_in (processes_of d) i) → SiteOf d k r.variant
slot_site d i k r at h =
    let b = flat_from (λ (p : Process). body_slots p.body) (filter (λ (p : Process). p.instance == i) (processes_of d).processes) k h in
    let here = filter_from (λ (p : Process). p.instance == i) (processes_of d).processes b.0 b.1.0 in
    let q = flat_from (processes_at d) (instances_of d) b.0 here.0 in
    let block = map_from (process q.0.0 (signals_in d q.0.1.variant)) (blocks_in d q.0.1.variant) b.0 q.1.1 in
    let number : q.0.0 ≡ i = sym (ap (λ (p : Process). p.instance) block.1.1) ∙ eqb-true b.0.instance i here.1 in
    let same : q.0.1 ≡ r = same_Some q.0.1 r (sym (at_numbers d q.0 q.1.0) ∙ ap (slice_get d.instances) number ∙ at) in
    let v = block_variant d q.0.1.variant block.0 block.1.0 in
    let slot : IsIn k (slots_of (heads block.0.body)) = subst (λ l. IsIn k l) (ap (λ (p : Process). body_slots p.body) block.1.1 ∙ body_has block.0.clocked block.0.body) b.1.1 in
    subst (λ (z : Instance). SiteOf d k z.variant) same (site_of d q.0.1.variant v.0 block.0 k v.1.0 v.1.1 slot)

pub not_there : (d : Design) → IsDesign d → (s : Site) → IsIn s (sites_in_order d) → (i : ℕ) (r : Instance) → slice_get d.instances i ≡ Some r → (r.variant == s.variant) ≡ false → IsNotIn s.slot (slots_in (processes_of d) i)
not_there d kept s among i r at other = none_in s.slot (slots_in (processes_of d) i) (λ h.
    let site = slot_site d i s.slot r at h in
    let mine = ordered d kept s among in
    let same : site.site ≡ s = by_one site.site s (subst (λ l. IsIn site.site l) mine.alone (passed site.site (sites_of d) site.among site.slot_is)) in
    true≢false (sym (equal (r.variant) s.variant (sym site.variant_is ∙ ap (λ (z : Site). z.variant) same)) ∙ other))
  where
    by_one : (y z : Site) → IsIn y (z ∷ []) → y ≡ z
    by_one y z (inl e) = e
    by_one y z (inr j) = absurd j

    equal : (m n : ℕ) → m ≡ n → (m == n) ≡ true
    equal m n e = eq-eqb m n e

    passed : (y : Site) (all : List Site) → IsIn y all → y.slot ≡ s.slot → IsIn y (filter (λ (z : Site). z.slot == s.slot) all)
    passed y all j e = filter_member (λ (z : Site). z.slot == s.slot) all y j (eq-eqb y.slot s.slot e)

-- ---- what is told at a statement and an instance

pub row_slot : (n : ℕ) (rs : List Row) (row : Row) → row_at n rs ≡ Some row → row.slot ≡ n
row_slot n [] row e = cc
row_slot n (r ∷ rs) row e =
    some_if (r.slot == n) r row (row_at n rs) (row.slot ≡ n) (λ t same. ap (λ (q : Row). q.slot) (sym same) ∙ eqb-true r.slot n t) (λ t found. row_slot n rs row found) e

-- whether a visit is told, and what a name then has
pub enable_value : (known : Key → Bool) (V : Tree Name → Bits) (row : Row) (t : Tree Name) (visit : Option (Env Bits)) → row.enable ≡ Some t → TellsVisit known V row visit → V t ≡ flag_of (is_some visit)
enable_value known V row t (Some env) e tells = ap V (same_Some t tells.0 (sym e ∙ tells.1)) ∙ tells.2
enable_value known V row t None e tells = ap V (same_Some t tells.0 (sym e ∙ tells.1)) ∙ tells.2

pub name_value : (known : Key → Bool) (V : Tree Name → Bits) (row : Row) (x : Name) (t : Tree Name) (visit : Option (Env Bits)) → known (Now x) ≡ true → row.before (Now x) ≡ Some t → TellsVisit known V row visit → is_some visit ≡ true
    → option_and_then (λ (env : Env Bits). env (Now x)) visit ≡ Some (V t)
name_value known V row x t (Some env) k e tells seen = subst (λ o. Shows V o (env (Now x))) e (tells.3 (Now x) k)
name_value known V row x t None k e tells seen = absurd (true≢false (sym seen))

-- the widths at a statement are those of each process of its block
pub process_widths : (d : Design) → IsSound d → (i : ℕ) (r : Instance) (s : Site) (site : SiteIs d s) → Stands d i r site.of → s.widths ≡ width_in (processes_of d) (process i (site.of).signals s.block)
process_widths d sound i r s site stands = site.widths ∙ sym (widths_are d sound i r site.of s.block stands (clean d sound.accepted i r site.of stands) site.among)
