-- What a block may assign, and its own names.
use Rattle.std.proofs.Common.{◌≡◌, ℕ, Bool, true, false, true≢false, ◌&&◌, not, bytes_eq, List, [], ◌∷◌, map, None, inl, inr, if◌then◌else◌, refl, sym, ap, ◌∙◌, subst}
use Rattle.std.specs.List.{list_any}
use Rattle.std.proofs.lemmas.Bool.{or_left, or_right, and_from, not_from_false, false_from_ne_true}
use Rattle.tree_core.proofs.Same.{both_true}
use Rattle.exec_core.specs.Block as blocks
use Rattle.exec_core.specs.Block.{Name, covers}
use Rattle.list_core.specs.Lists.{EachOf, IsIn}
use Rattle.list_core.proofs.Lists.{each_member, each_from, in_left, in_right, in_cases}
use Rattle.design_core.specs.declared.variant.Signal.{Signal}
use Rattle.design_core.specs.declared.variant.Kind.{Kind}
use Rattle.design_core.specs.declared.variant.Kind.TheVariants as kind
use Rattle.design_core.specs.Design.{Stmt, Assign, Let, If, Case, Body, Done, Then, Else, NoElse, Otherwise, Arms, NoArms, ThenArm, Block, Variant}
use Rattle.design_core.specs.Slots.{let_of, lets_of, else_lets, arms_lets}
use Rattle.design_exec.specs.Processes.{part_of, body_of}
use Rattle.check_core.specs.Widths.{is_sized, is_part, bad_stmt}
use Rattle.check_core.specs.Paths.{part_in}
use Rattle.names.specs.Known.{Known, none, with, has}
use Rattle.design_core.specs.Statements.{inside, statements, else_statements, arms_statements}
use Rattle.check_core.specs.Faults.{first_of}
use Rattle.check_core.specs.Names.{Scope, scope_of, named, any_kind, is_driven, is_register, is_child_output, targets, signal_thing, unknown_in, unknown_among, unknown_read, unknown_in_block, unknown_in_child}
use Rattle.check_core.specs.Drivers.{Drive, driven_in}
use Rattle.check_core.specs.Paths as paths
use Rattle.check_exec.proofs.Facts.{name_same, same_name, any_in, in_any, none_found, earlier_left, earlier_right}
use Rattle.check_exec.proofs.Instances.{IsClean}
use Rattle.check_exec.proofs.Names.{Differ, differs_behind, signals_differ, let_no_signal}
use Rattle.check_exec.proofs.Widths.{is_known, sized}
use Rattle.check_exec.proofs.Statements.{Sets, SetIn, set_by, Suits}
use Rattle.check_exec.proofs.Arms.{same_part}
use Rattle.check_exec.proofs.Latches.{assignment_in, block_sized}

-- ---- lets

-- a let is listed
mutual
  let_listed_stmt : (slot line : ℕ) (gens : _) (x : Name) (e : _) (s : Stmt) → IsIn (Let slot line gens x e) (s ∷ inside s) → IsIn x (let_of s)
  let_listed_stmt slot line gens x e s (inl same) = subst (λ t. IsIn x (let_of t)) same (inl refl)
  let_listed_stmt slot line gens x e (Assign n l g y p f) (inr i) = absurd i
  let_listed_stmt slot line gens x e (Let n l g y f) (inr i) = absurd i
  let_listed_stmt slot line gens x e (If n l g c first second) (inr i) =
      elim (in_cases (Let slot line gens x e) (statements first) (else_statements second) i) [
        | inl j ↦ in_left x (lets_of first) (else_lets second) (let_listed slot line gens x e first j)
        | inr j ↦ in_right x (lets_of first) (else_lets second) (let_listed_else slot line gens x e second j)
      ]
  let_listed_stmt slot line gens x e (Case n l g v arms other) (inr i) =
      elim (in_cases (Let slot line gens x e) (arms_statements arms) (else_statements other) i) [
        | inl j ↦ in_left x (arms_lets arms) (else_lets other) (let_listed_arms slot line gens x e arms j)
        | inr j ↦ in_right x (arms_lets arms) (else_lets other) (let_listed_else slot line gens x e other j)
      ]

  let_listed_arms : (slot line : ℕ) (gens : _) (x : Name) (e : _) (a : Arms) → IsIn (Let slot line gens x e) (arms_statements a) → IsIn x (arms_lets a)
  let_listed_arms slot line gens x e NoArms i = absurd i
  let_listed_arms slot line gens x e (ThenArm tests body rest) i =
      elim (in_cases (Let slot line gens x e) (statements body) (arms_statements rest) i) [
        | inl j ↦ in_left x (lets_of body) (arms_lets rest) (let_listed slot line gens x e body j)
        | inr j ↦ in_right x (lets_of body) (arms_lets rest) (let_listed_arms slot line gens x e rest j)
      ]

  pub let_listed : (slot line : ℕ) (gens : _) (x : Name) (e : _) (b : Body) → IsIn (Let slot line gens x e) (statements b) → IsIn x (lets_of b)
  let_listed slot line gens x e Done i = absurd i
  let_listed slot line gens x e (Then s rest) i =
      elim (in_cases (Let slot line gens x e) (s ∷ inside s) (statements rest) i) [
        | inl j ↦ in_left x (let_of s) (lets_of rest) (let_listed_stmt slot line gens x e s j)
        | inr j ↦ in_right x (let_of s) (lets_of rest) (let_listed slot line gens x e rest j)
      ]

  let_listed_else : (slot line : ℕ) (gens : _) (x : Name) (e : _) (b : Else) → IsIn (Let slot line gens x e) (else_statements b) → IsIn x (else_lets b)
  let_listed_else slot line gens x e NoElse i = absurd i
  let_listed_else slot line gens x e (Otherwise body) i = let_listed slot line gens x e body i

-- ---- targets

-- what an assignment may be to
abbrev pub MayAssign : Known → Stmt → Type 0
MayAssign assigned (Assign slot line gens x part e) = assigned x ≡ true
MayAssign assigned (Let slot line gens x e) = Unit {0}
MayAssign assigned (If slot line gens c first second) = Unit {0}
MayAssign assigned (Case slot line gens v arms other) = Unit {0}

may_assign : (scope : Scope) (assigned lets : Known) (list : List Stmt) → unknown_among scope assigned lets list ≡ None → EachOf (MayAssign assigned) list
may_assign scope assigned lets [] e = tt
may_assign scope assigned lets (Assign slot line gens x part f ∷ list) e =
    let here = earlier_left (unknown_in scope assigned lets (Assign slot line gens x part f)) (unknown_among scope assigned lets list) e in
    (is_known (assigned x) _ (earlier_right (unknown_read scope lets line f) _ here), may_assign scope assigned lets list (earlier_right (unknown_in scope assigned lets (Assign slot line gens x part f)) _ e))
may_assign scope assigned lets (Let slot line gens x f ∷ list) e = (tt, may_assign scope assigned (with x lets) list (earlier_right (unknown_in scope assigned lets (Let slot line gens x f)) _ e))
may_assign scope assigned lets (If slot line gens c first second ∷ list) e = (tt, may_assign scope assigned lets list (earlier_right (unknown_in scope assigned lets (If slot line gens c first second)) _ e))
may_assign scope assigned lets (Case slot line gens v arms other ∷ list) e = (tt, may_assign scope assigned lets list (earlier_right (unknown_in scope assigned lets (Case slot line gens v arms other)) _ e))

pub block_known : (variants : List Variant) (v : Variant) (b : Block) → IsClean variants v → IsIn b v.blocks → unknown_in_block (scope_of v) b ≡ None
block_known variants v b c at =
    each_member (λ k. unknown_in_block (scope_of v) k ≡ None) v.blocks
    (none_found (unknown_in_block (scope_of v)) v.blocks (earlier_right (first_of (unknown_in_child (scope_of v)) v.children) _ c.known)) b at

pub targets_known : (variants : List Variant) (v : Variant) (b : Block) → IsClean variants v → IsIn b v.blocks → EachOf (MayAssign (targets (scope_of v) b.clocked)) (statements b.body)
targets_known variants v b c at = may_assign (scope_of v) (targets (scope_of v) b.clocked) none (statements b.body) (block_known variants v b c at)

-- ---- signals of some kinds

pub named_in : (kinds : Kind → Bool) (signals : List Signal) (x : Name) → named kinds signals x ≡ true → (s : Signal) × (IsIn s signals × ((kinds s.kind ≡ true) × (x ≡ s.name)))
named_in kinds signals x e =
    let found = any_in (λ (s : Signal). kinds s.kind && bytes_eq x s.name) signals e in
    let both = both_true (kinds found.0.kind) (bytes_eq x found.0.name) found.1.1 in
    (found.0, (found.1.0, (both.0, same_name x found.0.name both.1)))

pub in_named : (kinds : Kind → Bool) (signals : List Signal) (s : Signal) → IsIn s signals → kinds s.kind ≡ true → named kinds signals s.name ≡ true
in_named kinds signals s at e = in_any (λ (t : Signal). kinds t.kind && bytes_eq s.name t.name) signals s at (and_from (kinds s.kind) (bytes_eq s.name s.name) e (name_same s.name s.name refl))

pub named_any : (kinds : Kind → Bool) (signals : List Signal) (x : Name) → named kinds signals x ≡ true → named any_kind signals x ≡ true
named_any kinds signals x e =
    let found = named_in kinds signals x e in
    subst (λ y. named any_kind signals y ≡ true) (sym found.1.1.1) (in_named any_kind signals found.0 found.1.0 refl)

-- what is assigned is a signal
pub target_signal : (v : Variant) (clocked : Bool) (x : Name) → targets (scope_of v) clocked x ≡ true → named any_kind v.signals x ≡ true
target_signal v true x e = named_any is_register v.signals x e
target_signal v false x e = named_any is_driven v.signals x e

-- signals of one name are one
pub one_signal : (taken : Known) (signals : List Signal) → Differ taken (map signal_thing signals) → (s t : Signal) → IsIn s signals → IsIn t signals → s.name ≡ t.name → s ≡ t
one_signal taken [] d s t i j e = absurd i
one_signal taken (z ∷ signals) d s t (inl p) (inl q) e = p ∙ sym q
one_signal taken (z ∷ signals) d s t (inl p) (inr j) e = absurd (differs_behind taken z signals d.1 t j (sym e ∙ ap (λ (y : Signal). y.name) p))
one_signal taken (z ∷ signals) d s t (inr i) (inl q) e = absurd (differs_behind taken z signals d.1 s i (e ∙ ap (λ (y : Signal). y.name) q))
one_signal taken (z ∷ signals) d s t (inr i) (inr j) e = one_signal (with z.name taken) signals d.1 s t i j e

other_kind : (k : Kind) → is_driven k ≡ true → is_child_output k ≡ true → ⊥
other_kind kind.Input e f = true≢false (sym e)
other_kind kind.Output e f = true≢false (sym f)
other_kind kind.Wire e f = true≢false (sym f)
other_kind (kind.Reg start) e f = true≢false (sym e)
other_kind (kind.ChildOut k q) e f = true≢false (sym e)

-- ---- own names of a block

-- an own name is a let, or a target of a `comb`
pub data OwnName (v : Variant) (b : Block) (x : Name) : Type 0 where
  by_let : (slot line : ℕ) (gens : _) (e : _) → IsIn (Let slot line gens x e) (statements b.body) → OwnName v b x
  by_target : (line : ℕ) → b.clocked ≡ false → IsIn (line, x) (driven_in b) → named is_driven v.signals x ≡ true → OwnName v b x

pub own_name : (variants : List Variant) (v : Variant) (b : Block) → IsClean variants v → IsIn b v.blocks → (x : Name) → blocks.own (body_of b.clocked b.body) x ≡ true → OwnName v b x
own_name variants v b c at x own = by_set (set_by b.clocked x b.body own)
  where
    by_kind : (s : Stmt) → IsIn s (statements b.body) → Sets b.clocked x s → OwnName v b x
    by_kind (Assign slot line gens y part e) here sets =
        let may : targets (scope_of v) b.clocked y ≡ true = each_member (MayAssign (targets (scope_of v) b.clocked)) (statements b.body) (targets_known variants v b c at) (Assign slot line gens y part e) here in
        subst (OwnName v b) sets.1 (by_target line sets.0 (assignment_in (statements b.body) slot line gens y part e here) (ap (λ k. targets (scope_of v) k y) (sym sets.0) ∙ may))
    by_kind (Let slot line gens y e) here sets = subst (OwnName v b) sets (by_let slot line gens e here)
    by_kind (If slot line gens t first second) here sets = absurd sets
    by_kind (Case slot line gens t arms other) here sets = absurd sets

    by_set : SetIn b.clocked x (statements b.body) → OwnName v b x
    by_set h = by_kind h.statement h.stands h.sets

-- it is one for the checks
pub own_checked : (v : Variant) (b : Block) (x : Name) → OwnName v b x → paths.own b x ≡ true
own_checked v b x (by_let slot line gens e i) =
    or_left (has (lets_of b.body) x) (not b.clocked && list_any (λ (d : Drive). bytes_eq x d.1) (driven_in b))
    (in_any (bytes_eq x) (lets_of b.body) x (let_listed slot line gens x e b.body i) (name_same x x refl))
own_checked v b x (by_target line comb i driven) =
    or_right (has (lets_of b.body) x) (not b.clocked && list_any (λ (d : Drive). bytes_eq x d.1) (driven_in b))
    (and_from (not b.clocked) (list_any (λ (d : Drive). bytes_eq x d.1) (driven_in b)) (not_from_false b.clocked comb)
    (in_any (λ (d : Drive). bytes_eq x d.1) (driven_in b) (line, x) i (name_same x x refl)))

-- it is no output of a child
pub own_no_output : (variants : List Variant) (v : Variant) (b : Block) → IsClean variants v → IsIn b v.blocks → (x : Name) → OwnName v b x → named is_child_output v.signals x ≡ true → ⊥
own_no_output variants v b c at x (by_let slot line gens e i) out = let_no_signal v b at c.apart slot line gens x e i (named_any is_child_output v.signals x out)
own_no_output variants v b c at x (by_target line comb i driven) out =
    let one = named_in is_driven v.signals x driven in
    let two = named_in is_child_output v.signals x out in
    let same = one_signal none v.signals (signals_differ v c.apart) one.0 two.0 one.1.0 two.1.0 (sym one.1.1.1 ∙ two.1.1.1) in
    other_kind two.0.kind (subst (λ (s : Signal). is_driven s.kind ≡ true) same one.1.1.0) two.1.1.0

-- the bit of the checks that stands for a bit of a name: the same of a signal, and the first of a `let`, which is assigned as a whole
abbrev pub place_of : Variant → Name → ℕ → ℕ
place_of v x i = if named any_kind v.signals x then i else 0

-- and no register that the block writes; parts of it are those of the checks
pub own_suits : (variants : List Variant) (v : Variant) (b : Block) → IsClean variants v → IsIn b v.blocks → (x : Name) (k : ℕ) → OwnName v b x → EachOf (Suits b.clocked x k (place_of v x k)) (statements b.body)
own_suits variants v b c at x k own = each_from (Suits b.clocked x k (place_of v x k)) (statements b.body) (λ s i. by_kind s i own)
  where
    may : (slot line : ℕ) (gens : _) (y : Name) (part : _) (e : _) → IsIn (Assign slot line gens y part e) (statements b.body) → targets (scope_of v) b.clocked y ≡ true
    may slot line gens y part e i = each_member (MayAssign (targets (scope_of v) b.clocked)) (statements b.body) (targets_known variants v b c at) (Assign slot line gens y part e) i

    same_bit : (slot line : ℕ) (gens : _) (y : Name) (part : _) (e : _) → IsIn (Assign slot line gens y part e) (statements b.body) → bytes_eq x y ≡ true → covers (part_of part) k ≡ covers (part_in part) (place_of v x k)
    same_bit slot line gens y part e i same =
        let bad = each_member (λ s. bad_stmt s ≡ None) (statements b.body) (block_sized variants v b c at) (Assign slot line gens y part e) i in
        let signal : named any_kind v.signals x ≡ true = target_signal v b.clocked x (subst (λ z. targets (scope_of v) b.clocked z ≡ true) (sym (same_name x y same)) (may slot line gens y part e i)) in
        ap (λ p. covers p k) (sym (same_part part (both_true (is_sized e) (is_part part) (sized (is_sized e && is_part part) line y bad)).1))
        ∙ ap (λ t. covers (part_in part) (if t then k else 0)) (sym signal)

    by_kind : (s : Stmt) → IsIn s (statements b.body) → OwnName v b x → Suits b.clocked x k (place_of v x k) s
    by_kind (Assign slot line gens y part e) i (by_let n l g f j) = (
      λ clocked. false_from_ne_true (bytes_eq x y) (λ same.
          let_no_signal v b at c.apart n l g x f j (target_signal v b.clocked x (subst (λ z. targets (scope_of v) b.clocked z ≡ true) (sym (same_name x y same)) (may slot line gens y part e i)))),
      same_bit slot line gens y part e i,
    )
    by_kind (Assign slot line gens y part e) i (by_target l comb j driven) = (λ clocked. absurd (true≢false (sym clocked ∙ comb)), same_bit slot line gens y part e i)
    by_kind (Let slot line gens y e) i own = tt
    by_kind (If slot line gens t first second) i own = tt
    by_kind (Case slot line gens t arms other) i own = tt
