-- A signal that blocks drive is assigned by one of them; no block assigns another.
use Rattle.std.proofs.Common.{◌≡◌, ℕ, ℤ, ◌+◌, Bool, true, false, true≢false, ◌||◌, not, bytes_eq, List, [], ◌∷◌, Option, Some, None, is_some, ◌⊎◌, inl, inr, refl, sym, ap, ◌∙◌, subst, if◌then◌else◌}
use Rattle.std.specs.Prelude.{count_by}
use Rattle.std.proofs.lemmas.Bool.{or_cases, cases_Bool, false_from_ne_true}
use Rattle.exec_core.specs.Block.{Name, own}
use Rattle.list_core.specs.Lists.{EachOf, IsIn}
use Rattle.list_core.proofs.Lists.{each_member, each_from}
use Rattle.design_core.specs.declared.variant.Signal.{Signal}
use Rattle.design_core.specs.declared.variant.Kind.{Kind}
use Rattle.design_core.specs.declared.variant.Kind.TheVariants as kind
use Rattle.design_core.specs.Design.{Expr, Stmt, Assign, Let, If, Case, Block, Variant}
use Rattle.design_exec.specs.Processes.{body_of}
use Rattle.names.specs.Known.{none}
use Rattle.design_core.specs.Statements.{statements}
use Rattle.check_core.specs.Faults.{earlier, first_of, spot}
use Rattle.check_core.specs.declared.fault.CheckFault.TheVariants.{TwoDrivers}
use Rattle.check_core.specs.Names.{scope_of, named, any_kind, is_driven, is_register, targets}
use Rattle.check_core.specs.Drivers.{Drive, Lines, undriven_yet, driven_also, all_driven, second_drive, assignments, driven_in, driven_twice, twice_in_child, drives, is_assigned, undriven_at}
use Rattle.check_exec.proofs.Facts.{any_in, in_any, same_name, name_same, map_none, none_found, earlier_left, earlier_right}
use Rattle.check_exec.proofs.Instances.{IsClean}
use Rattle.check_exec.proofs.Names.{signals_differ, let_no_signal}
use Rattle.check_exec.proofs.Widths.{is_known}
use Rattle.check_exec.proofs.Statements.{sets}
use Rattle.check_exec.proofs.Targets.{MayAssign, targets_known, named_in, in_named, one_signal, OwnName, by_let, by_target, own_name}
use Rattle.check_exec.proofs.Counting.{count_skip, count_take, count_none, count_same}

-- ---- lines

pub left_some : {A : Type 0} (a b : Option A) → is_some a ≡ true → is_some (earlier a b) ≡ true
left_some (Some x) b e = refl
left_some None b e = absurd (true≢false (sym e))

pub right_some : {A : Type 0} (a b : Option A) → is_some b ≡ true → is_some (earlier a b) ≡ true
right_some (Some x) b e = refl
right_some None b e = e

none_driven : (before : Lines) (x : Name) → is_some (before x) ≡ true → before x ≡ None → ⊥
none_driven before x e f = true≢false (sym e ∙ ap is_some f)

-- what is driven before stays so, and what is driven now is
pub stays_driven : (before : Lines) (d : Drive) (x : Name) → is_some (before x) ≡ true → is_some (driven_also before d x) ≡ true
stays_driven before d x e = left_some (before x) (if bytes_eq x d.1 then Some d.0 else None) e

pub now_driven : (before : Lines) (d : Drive) (x : Name) → bytes_eq x d.1 ≡ true → is_some (driven_also before d x) ≡ true
now_driven before d x e = right_some (before x) (if bytes_eq x d.1 then Some d.0 else None) (ap (λ b. is_some (if b then Some d.0 else None)) e)

-- no second drive
pub not_driven : (before : Lines) (d : Drive) → second_drive before d ≡ None → (x : Name) → is_some (before x) ≡ true → bytes_eq x d.1 ≡ false
not_driven before d e x s = false_from_ne_true (bytes_eq x d.1) (λ same. none_driven before x s (ap before (same_name x d.1 same) ∙ map_none (λ first. TwoDrivers (spot d.0 d.1) first) (before d.1) e))

all_stay : (before : Lines) (list : List Drive) (x : Name) → is_some (before x) ≡ true → is_some (all_driven before list x) ≡ true
all_stay before [] x e = e
all_stay before (d ∷ list) x e = all_stay (driven_also before d) list x (stays_driven before d x e)

all_now : (before : Lines) (list : List Drive) (x : Name) → drives list x ≡ true → is_some (all_driven before list x) ≡ true
all_now before [] x e = absurd (true≢false (sym e))
all_now before (d ∷ list) x e = elim (or_cases (bytes_eq x d.1) (drives list x) e) [
  | inl h ↦ all_stay (driven_also before d) list x (now_driven before d x h)
  | inr h ↦ all_now (driven_also before d) list x h
]

-- ---- blocks

abbrev Of : Name → Block → Bool
Of x b = drives (driven_in b) x

-- no block behind one that drives a name does
no_more : (before : Lines) (blocks : List Block) (x : Name) → is_some (before x) ≡ true → driven_twice before blocks ≡ None → EachOf (λ b. Of x b ≡ false) blocks
no_more before [] x s e = tt
no_more before (b ∷ blocks) x s e = (
  false_from_ne_true (Of x b) (λ h.
      let found = any_in (λ (d : Drive). bytes_eq x d.1) (driven_in b) h in
      let free = each_member (λ d. second_drive before d ≡ None) (driven_in b) (none_found (second_drive before) (driven_in b) (earlier_left (first_of (second_drive before) (driven_in b)) _ e)) found.0 found.1.0 in
      true≢false (sym found.1.1 ∙ not_driven before found.0 free x s)),
  no_more (all_driven before (driven_in b)) blocks x (all_stay before (driven_in b) x s) (earlier_right (first_of (second_drive before) (driven_in b)) _ e),
)

one_block : (before : Lines) (blocks : List Block) (x : Name) → driven_twice before blocks ≡ None → is_assigned blocks x ≡ true → count_by (Of x) blocks ≡ 1
one_block before [] x e a = absurd (true≢false (sym a))
one_block before (b ∷ blocks) x e a = by_block (cases_Bool (Of x b)) (λ more. one_block (all_driven before (driven_in b)) blocks x (earlier_right (first_of (second_drive before) (driven_in b)) _ e) more)
  where
    by_block : (Of x b ≡ true) ⊎ (Of x b ≡ false) → (is_assigned blocks x ≡ true → count_by (Of x) blocks ≡ 1) → count_by (Of x) (b ∷ blocks) ≡ 1
    by_block (inl h) rest =
        count_take (Of x) b blocks h
        ∙ ap (λ n. 1 + n) (count_none (Of x) blocks (no_more (all_driven before (driven_in b)) blocks x (all_now before (driven_in b) x h) (earlier_right (first_of (second_drive before) (driven_in b)) _ e)))
    by_block (inr h) rest = count_skip (Of x) b blocks h ∙ rest (sym (ap (λ c. c || is_assigned blocks x) h) ∙ a)

-- ---- own names that are signals

-- the assignment of a drive
record IsAssigned (list : List Stmt) (line : ℕ) (x : Name) : Type 0 where
  slot : ℕ
  gens : _
  part : Option (ℤ × ℤ)
  value : Expr
  stands : IsIn (Assign slot line gens x part value) list

assigned_at : (list : List Stmt) (d : Drive) → IsIn d (assignments list) → IsAssigned list d.0 d.1
assigned_at [] d i = absurd i
assigned_at (Assign slot line gens y part e ∷ list) d (inl same) =
    subst (λ (z : Drive). IsAssigned (Assign slot line gens y part e ∷ list) z.0 z.1) (sym same) (record { slot = slot; gens = gens; part = part; value = e; stands = inl refl })
assigned_at (Assign slot line gens y part e ∷ list) d (inr i) = let h = assigned_at list d i in record { slot = h.slot; gens = h.gens; part = h.part; value = h.value; stands = inr h.stands }
assigned_at (Let slot line gens y e ∷ list) d i = let h = assigned_at list d i in record { slot = h.slot; gens = h.gens; part = h.part; value = h.value; stands = inr h.stands }
assigned_at (If slot line gens c first second ∷ list) d i = let h = assigned_at list d i in record { slot = h.slot; gens = h.gens; part = h.part; value = h.value; stands = inr h.stands }
assigned_at (Case slot line gens v arms other ∷ list) d i = let h = assigned_at list d i in record { slot = h.slot; gens = h.gens; part = h.part; value = h.value; stands = inr h.stands }

register_driven : (k : Kind) → is_driven k ≡ true → is_register k ≡ true → ⊥
register_driven kind.Input e f = true≢false (sym e)
register_driven kind.Output e f = true≢false (sym f)
register_driven kind.Wire e f = true≢false (sym f)
register_driven (kind.Reg start) e f = true≢false (sym e)
register_driven (kind.ChildOut k q) e f = true≢false (sym e)

abbrev Owns : Name → Block → Bool
Owns x b = own (body_of b.clocked b.body) x

module _ (variants : List Variant) (v : Variant) (c : IsClean variants v) (s : Signal) (at : IsIn s v.signals) where
  -- a block whose own name is a signal drives it
  owns_drives : (b : Block) → IsIn b v.blocks → Owns s.name b ≡ true → (named is_driven v.signals s.name ≡ true) × (Of s.name b ≡ true)
  owns_drives b here e = by_own (own_name variants v b c here s.name e)
    where
      by_own : OwnName v b s.name → (named is_driven v.signals s.name ≡ true) × (Of s.name b ≡ true)
      by_own (by_let slot line gens f i) = absurd (let_no_signal v b here c.apart slot line gens s.name f i (in_named any_kind v.signals s at refl))
      by_own (by_target line comb i driven) = (driven, in_any (λ (d : Drive). bytes_eq s.name d.1) (driven_in b) (line, s.name) i (name_same s.name s.name refl))

  the_same : (kinds : Kind → Bool) → named kinds v.signals s.name ≡ true → kinds s.kind ≡ true
  the_same kinds e =
      let found = named_in kinds v.signals s.name e in
      let same = one_signal none v.signals (signals_differ v c.apart) found.0 s found.1.0 at (sym found.1.1.1) in
      subst (λ (t : Signal). kinds t.kind ≡ true) same found.1.1.0

  -- and a block that drives a driven signal has it as an own name
  drives_owns : is_driven s.kind ≡ true → (b : Block) → IsIn b v.blocks → Of s.name b ≡ true → Owns s.name b ≡ true
  drives_owns driven b here e = by_clock (cases_Bool b.clocked)
    where
      found : (d : Drive) × (IsIn d (driven_in b) × (bytes_eq s.name d.1 ≡ true))
      found = any_in (λ (d : Drive). bytes_eq s.name d.1) (driven_in b) e

      one : IsAssigned (statements b.body) found.0.0 found.0.1
      one = assigned_at (statements b.body) found.0 found.1.0

      may : targets (scope_of v) b.clocked found.0.1 ≡ true
      may = each_member (MayAssign (targets (scope_of v) b.clocked)) (statements b.body) (targets_known variants v b c here) (Assign one.slot found.0.0 one.gens found.0.1 one.part one.value) one.stands

      by_clock : (b.clocked ≡ true) ⊎ (b.clocked ≡ false) → Owns s.name b ≡ true
      by_clock (inl clocked) =
          let register : named is_register v.signals s.name ≡ true = subst (λ y. named is_register v.signals y ≡ true) (sym (same_name s.name found.0.1 found.1.1)) (ap (λ k. targets (scope_of v) k found.0.1) (sym clocked) ∙ may) in
          absurd (register_driven s.kind driven (the_same is_register register))
      by_clock (inr comb) =
          sets b.clocked s.name (Assign one.slot found.0.0 one.gens found.0.1 one.part one.value) (comb, sym (same_name s.name found.0.1 found.1.1)) b.body one.stands

  -- so one block assigns a driven signal, and none another
  pub one_owner : is_driven s.kind ≡ true → count_by (Owns s.name) v.blocks ≡ 1
  one_owner driven =
      count_same (Owns s.name) (Of s.name) v.blocks by_block
      ∙ one_block undriven_yet v.blocks s.name (earlier_right (first_of twice_in_child v.children) _ c.one_driver) assigned
    where
      by_block : (b : Block) → IsIn b v.blocks → Owns s.name b ≡ Of s.name b
      by_block b here = same_test (Owns s.name b) (Of s.name b) (λ e. (owns_drives b here e).1) (λ e. drives_owns driven b here e)
        where
          same_test : (p q : Bool) → (p ≡ true → q ≡ true) → (q ≡ true → p ≡ true) → p ≡ q
          same_test true q f g = sym (f refl)
          same_test false true f g = g refl
          same_test false false f g = refl

      assigned : is_assigned v.blocks s.name ≡ true
      assigned =
          let known = is_known (not (is_driven s.kind) || is_assigned v.blocks s.name) _ (each_member (λ t. undriven_at (is_assigned v.blocks) t ≡ None) v.signals (none_found (undriven_at (is_assigned v.blocks)) v.signals c.driven) s at) in
          sym (ap (λ b. not b || is_assigned v.blocks s.name) driven) ∙ known

  pub no_owner : is_driven s.kind ≡ false → count_by (Owns s.name) v.blocks ≡ 0
  no_owner other =
      count_none (Owns s.name) v.blocks (each_from (λ b. Owns s.name b ≡ false) v.blocks (λ b here. false_from_ne_true (Owns s.name b) (λ e.
      true≢false (sym (the_same is_driven (owns_drives b here e).0) ∙ other))))
