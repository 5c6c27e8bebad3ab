-- Names that are taken once: signals, children and lets.
use Rattle.std.proofs.Common.{◌≡◌, ℕ, Bool, true, false, true≢false, ◌||◌, bytes_eq, List, [], ◌∷◌, ◌++◌, map, None, inl, inr, refl, sym, ap, ◌∙◌, subst}
use Rattle.std.specs.List.{list_any}
use Rattle.std.proofs.lemmas.Bool.{or_parts}
use Rattle.exec_core.specs.Block.{Name}
use Rattle.list_core.specs.Lists.{EachOf, IsIn}
use Rattle.exec_core.specs.Design.{place}
use Rattle.list_core.proofs.Lists.{each_member}
use Rattle.list_core.proofs.Options.{none_if}
use Rattle.design_core.specs.declared.design.Instance.{Instance}
use Rattle.design_core.specs.declared.variant.Signal.{Signal}
use Rattle.design_core.specs.Design.{Stmt, Assign, Let, If, Case, Block, Variant, Design}
use Rattle.design_exec.specs.Processes.{is_signal_of}
use Rattle.check_core.specs.declared.fault.CheckFault.TheVariants.{DuplicateName}
use Rattle.names.specs.Known.{Known, none, with}
use Rattle.design_core.specs.Statements.{statements}
use Rattle.check_core.specs.Faults.{spot}
use Rattle.check_core.specs.Names.{named, any_kind, child_named, taken_twice, signal_thing, child_thing, things, lets_in, duplicate_in_block, taken_in, duplicate_name}
use Rattle.check_exec.proofs.Facts.{name_same, eq_turned, earlier_left, earlier_right, none_found}
use Rattle.check_exec.proofs.Instances.{Stands, signals_are}

-- ---- names that are taken one after another

Numbered : Type 0
Numbered = ℕ × Name

-- none of them is taken, and each differs from those behind it
abbrev pub Differ : Known → List (ℕ × Name) → Type 0
Differ taken [] = Unit {0}
Differ taken (p ∷ rest) = (taken p.1 ≡ false) × Differ (with p.1 taken) rest

pub differ : (taken : Known) (list : List (ℕ × Name)) → taken_twice taken list ≡ None → Differ taken list
differ taken [] e = tt
differ taken (p ∷ rest) e =
    let both = none_if (taken p.1) (DuplicateName (spot p.0 p.1)) (taken_twice (with p.1 taken) rest) e in
    (both.0, differ (with p.1 taken) rest both.1)

-- what is known where less is taken
pub differ_less : (taken less : Known) (list : List (ℕ × Name)) → ((x : Name) → taken x ≡ false → less x ≡ false) → Differ taken list → Differ less list
differ_less taken less [] h d = tt
differ_less taken less (p ∷ rest) h d =
    (h p.1 d.0, differ_less (with p.1 taken) (with p.1 less) rest (λ x e. let both = or_parts (bytes_eq x p.1) (taken x) e in or_both (bytes_eq x p.1) (less x) both.0 (h x both.1)) d.1)
  where
    or_both : (a b : Bool) → a ≡ false → b ≡ false → (a || b) ≡ false
    or_both true b e f = e
    or_both false b e f = f

pub none_taken : (taken : Known) (list : List (ℕ × Name)) → Differ taken list → EachOf (λ p. taken p.1 ≡ false) list
none_taken taken [] d = tt
none_taken taken (p ∷ rest) d = (d.0, none_taken taken rest (differ_less (with p.1 taken) taken rest (λ x e. (or_parts (bytes_eq x p.1) (taken x) e).1) d.1))

pub differ_left : (taken : Known) (a b : List (ℕ × Name)) → Differ taken (a ++ b) → Differ taken a
differ_left taken [] b d = tt
differ_left taken (p ∷ a) b d = (d.0, differ_left (with p.1 taken) a b d.1)

pub differ_right : (taken : Known) (a b : List (ℕ × Name)) → Differ taken (a ++ b) → Differ taken b
differ_right taken [] b d = d
differ_right taken (p ∷ a) b d = differ_less (with p.1 taken) taken b (λ x e. (or_parts (bytes_eq x p.1) (taken x) e).1) (differ_right (with p.1 taken) a b d.1)

-- signals that are not taken, and those behind one
not_taken : (taken : Known) (rest : List Signal) → EachOf (λ p. taken p.1 ≡ false) (map signal_thing rest) → (t : Signal) → IsIn t rest → taken t.name ≡ false
not_taken taken [] h t j = absurd j
not_taken taken (z ∷ rest) h t (inl e) = subst (λ (y : Signal). taken y.name ≡ false) (sym e) h.0
not_taken taken (z ∷ rest) h t (inr j) = not_taken taken rest h.1 t j

pub other_behind : (taken : Known) (z : Signal) (signals : List Signal) → Differ (with z.name taken) (map signal_thing signals) → (t : Signal) → IsIn t signals → bytes_eq t.name z.name ≡ false
other_behind taken z signals d t j =
    (or_parts (bytes_eq t.name z.name) (taken t.name) (not_taken (with z.name taken) signals (none_taken (with z.name taken) (map signal_thing signals) d) t j)).0

pub differs_behind : (taken : Known) (z : Signal) (signals : List Signal) → Differ (with z.name taken) (map signal_thing signals) → (t : Signal) → IsIn t signals → t.name ≡ z.name → ⊥
differs_behind taken z signals d t j e = true≢false (sym (name_same t.name z.name e) ∙ other_behind taken z signals d t j)

-- ---- those of a variant

pub signals_differ : (v : Variant) → duplicate_name v ≡ None → Differ none (map signal_thing v.signals)
signals_differ v e = differ_left none (map signal_thing v.signals) (map child_thing v.children) (differ none (things v) (earlier_left (taken_twice none (things v)) _ e))

pub children_differ : (v : Variant) → duplicate_name v ≡ None → Differ none (map child_thing v.children)
children_differ v e = differ_right none (map signal_thing v.signals) (map child_thing v.children) (differ none (things v) (earlier_left (taken_twice none (things v)) _ e))

-- lets are no signals, and differ
pub lets_differ : (v : Variant) (b : Block) → IsIn b v.blocks → duplicate_name v ≡ None → Differ (taken_in v) (lets_in (statements b.body))
lets_differ v b at e =
    differ (taken_in v) (lets_in (statements b.body))
    (each_member (λ c. duplicate_in_block (taken_in v) c ≡ None) v.blocks (none_found (duplicate_in_block (taken_in v)) v.blocks (earlier_right (taken_twice none (things v)) _ e)) b at)

-- ---- signals

pub named_by : (signals : List Signal) (x : Name) → list_any (λ (s : Signal). bytes_eq s.name x) signals ≡ named any_kind signals x
named_by [] x = refl
named_by (s ∷ signals) x = ap (λ (b : Bool). b || list_any (λ (t : Signal). bytes_eq t.name x) signals) (eq_turned s.name x) ∙ ap (λ (b : Bool). bytes_eq x s.name || b) (named_by signals x)

-- a signal of an instance is one of its variant
pub signals_named : (d : Design) (i : ℕ) (r : Instance) (v : Variant) → Stands d i r v → (x : Name) → is_signal_of d (place i x) ≡ named any_kind v.signals x
signals_named d i r v s x = ap (list_any (λ (t : Signal). bytes_eq t.name x)) (signals_are d i r v s) ∙ named_by v.signals x

pub let_in : (list : List Stmt) (slot line : ℕ) (gens : _) (x : Name) (e : _) → IsIn (Let slot line gens x e) list → IsIn (line, x) (lets_in list)
let_in [] slot line gens x e i = absurd i
let_in (s ∷ list) slot line gens x e (inl same) = subst (λ t. IsIn (line, x) (lets_in (t ∷ list))) same (inl refl)
let_in (Assign n l g y part f ∷ list) slot line gens x e (inr i) = let_in list slot line gens x e i
let_in (Let n l g y f ∷ list) slot line gens x e (inr i) = inr (let_in list slot line gens x e i)
let_in (If n l g c a b ∷ list) slot line gens x e (inr i) = let_in list slot line gens x e i
let_in (Case n l g v a b ∷ list) slot line gens x e (inr i) = let_in list slot line gens x e i

-- a let is no signal
pub let_no_signal : (v : Variant) (b : Block) → IsIn b v.blocks → duplicate_name v ≡ None → (slot line : ℕ) (gens : _) (x : Name) (e : _) → IsIn (Let slot line gens x e) (statements b.body)
    → named any_kind v.signals x ≡ true → ⊥
let_no_signal v b at none slot line gens x e i signal =
    let free : taken_in v x ≡ false =
    each_member (λ p. taken_in v p.1 ≡ false) (lets_in (statements b.body)) (none_taken (taken_in v) (lets_in (statements b.body)) (lets_differ v b at none)) (line, x)
    (let_in (statements b.body) slot line gens x e i) in
    true≢false (sym signal ∙ (or_parts (named any_kind v.signals x) (child_named v.children x) free).0)
