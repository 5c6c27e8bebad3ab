-- Ports and registers of lists of signals.
use Rattle.std.proofs.Common.{◌≡◌, ℕ, zero, suc, ◌+◌, ◌<◌, ◌≤◌, Bool, true, false, ◌&&◌, ℤ, pos, negsuc, int_le, nat_le, leb-true, to_z-of_z, List, [], ◌∷◌, ◌++◌, length, take, drop, get_or, if◌then◌else◌, append_assoc, append-nil, true≢false, Some, option_map, refl, sym, ap, ◌∙◌, subst, arith}
use Rattle.std.proofs.lemmas.List.{take_more, take-append-drop}
use Rattle.std.proofs.lemmas.Option.{none-some, same_Some}
use Rattle.std.specs.List.{list_all, slice_get}
use Rattle.design_core.specs.declared.variant.Signal.{Signal}
use Rattle.design_core.specs.declared.variant.Kind.{Kind}
use Rattle.design_core.specs.declared.variant.Kind.TheVariants.{Input, Output, Wire, Reg, ChildOut}
use Rattle.design_core.specs.declared.design.Instance.{Instance}
use Rattle.design_core.specs.Design.{Variant}
use Rattle.exec_core.specs.Block.{Name}
use Rattle.gen_token.specs.Spelling.{IsName, is_name}
use Rattle.gen_token.proofs.ReadName.{test_from_name}
use Rattle.list_core.specs.Lists.{EachOf}
use Rattle.design_core.specs.Ports.{has_width, has_name, have_names, is_port, is_width, fits, all_fit, one_port, ports_in}
use Rattle.design_core.specs.Widths.{bits}
use Rattle.design_core.specs.WellFormed.{if_reg, regs, registers, signals_at, IfPort, IsVariant}

ports_both : (output : Bool) (first second : List Signal) → ports_in output (first ++ second) ≡ ports_in output first ++ ports_in output second
ports_both output [] second = refl
ports_both output (s ∷ first) second = ap (λ (l : List (Name × ℕ)). one_port output s ++ l) (ports_both output first second) ∙ sym (append_assoc (one_port output s) (ports_in output first) (ports_in output second))

regs_both : (first second : List Signal) → regs (first ++ second) ≡ regs first + regs second
regs_both [] second = omega arith
regs_both (s ∷ first) second = ap (λ n. if_reg s.kind + n) (regs_both first second) ∙ omega arith

-- one signal more
pub ports_more : (output : Bool) (signals : List Signal) (i : ℕ) (s : Signal) (before after : List (Name × ℕ)) → i < length signals → s ≡ get_or signals i s → before ≡ ports_in output (take i signals)
    → after ≡ before ++ one_port output s → after ≡ ports_in output (take (i + 1) signals)
ports_more output signals i s before after below at is grown =
    grown ∙ ap (λ (l : List (Name × ℕ)). l ++ one_port output s) is
    ∙ ap (λ (l : List (Name × ℕ)). ports_in output (take i signals) ++ l) (sym (append-nil (one_port output s)))
    ∙ sym (ports_both output (take i signals) (s ∷ []))
    ∙ ap (λ (t : Signal). ports_in output (take i signals ++ t ∷ [])) at
    ∙ ap (ports_in output) (sym (take_more signals i s below))

pub regs_more : (signals : List Signal) (i : ℕ) (s : Signal) → i < length signals → s ≡ get_or signals i s → regs (take (i + 1) signals) ≡ regs (take i signals) + if_reg s.kind
regs_more signals i s below at =
    ap regs (take_more signals i s below) ∙ regs_both (take i signals) (get_or signals i s ∷ []) ∙ ap (λ (t : Signal). regs (take i signals) + (if_reg t.kind + 0)) (sym at) ∙ omega arith

pub regs_within : (signals : List Signal) (i : ℕ) → regs (take i signals) ≤ regs signals
regs_within signals i = omega (arith, ap regs (sym (take-append-drop i signals)) ∙ regs_both (take i signals) (drop i signals))

pub one_fits : (signals : List Signal) (i : ℕ) (s : Signal) → all_fit signals ≡ true → i < length signals → s ≡ get_or signals i s → fits s s.kind ≡ true
one_fits [] i s h below at = absurd (omega (arith, below))
one_fits (t ∷ signals) zero s h below at = subst (λ (u : Signal). fits u u.kind ≡ true) (sym at) (left (fits t t.kind) (all_fit signals) h)
  where
    left : (a b : Bool) → a && b ≡ true → a ≡ true
    left true b e = refl
    left false b e = e
one_fits (t ∷ signals) (suc i) s h below at = one_fits signals i s (right (fits t t.kind) (all_fit signals) h) (omega (arith, below)) at
  where
    right : (a b : Bool) → a && b ≡ true → b ≡ true
    right true b e = e
    right false b e = absurd (true≢false (sym e))

pub port_width : (output : Bool) (s : Signal) (k : Kind) → is_port output k ≡ true → fits s k ≡ true → is_width s.width ≡ true
port_width output s Input e h = h
port_width output s Output e h = h
port_width output s Wire e h = absurd (true≢false (sym e))
port_width output s (Reg start) e h = absurd (true≢false (sym e))
port_width output s (ChildOut k port) e h = absurd (true≢false (sym e))

-- a width is positive, and small
pub width_shape : (w : ℤ) → is_width w ≡ true → (w ≡ pos (bits w)) × (bits w ≤ 128)
width_shape (pos n) h = (refl, leb-true n 128 (right (int_le (pos 1) (pos n)) (int_le (pos n) (pos 128)) h))
  where
    right : (a b : Bool) → a && b ≡ true → b ≡ true
    right true b e = e
    right false b e = absurd (true≢false (sym e))
width_shape (negsuc n) h = absurd (true≢false (sym h))

pub ruleset widths = (width_shape, to_z-of_z)

-- ---- registers of instances

registers_both : (variants : List Variant) (first second : List Instance) → registers variants (first ++ second) ≡ registers variants first + registers variants second
registers_both variants [] second = omega arith
registers_both variants (r ∷ first) second = ap (λ n. regs (signals_at r.variant variants) + n) (registers_both variants first second) ∙ omega arith

pub registers_more : (variants : List Variant) (instances : List Instance) (i : ℕ) (r : Instance) → i < length instances → r ≡ get_or instances i r
    → registers variants (take (i + 1) instances) ≡ registers variants (take i instances) + regs (signals_at r.variant variants)
registers_more variants instances i r below at =
    ap (registers variants) (take_more instances i r below) ∙ registers_both variants (take i instances) (get_or instances i r ∷ [])
    ∙ ap (λ (t : Instance). registers variants (take i instances) + (regs (signals_at t.variant variants) + 0)) (sym at) ∙ omega arith

pub registers_within : (variants : List Variant) (instances : List Instance) (i : ℕ) → registers variants (take i instances) ≤ registers variants instances
registers_within variants instances i =
    omega (arith, ap (registers variants) (sym (take-append-drop i instances)) ∙ registers_both variants (take i instances) (drop i instances))

-- what one more instance adds stays within what all have
pub registers_fit : (variants seen : List Variant) (instances items : List Instance) (signals : List Signal) (i : ℕ) (r : Instance) → items ≡ instances → i < length items → r ≡ get_or items i r → seen ≡ variants
    → signals ≡ signals_at r.variant seen → registers variants instances ≤ 200000 → registers variants (take i items) + regs signals ≤ 200000
registers_fit variants seen instances items signals i r same below at known is all =
    let here : regs signals ≡ regs (signals_at r.variant variants) = ap (λ (l : List Signal). regs l) (is ∙ ap (signals_at r.variant) known) in
    omega (arith, here, registers_more variants items i r below at, registers_within variants items (i + 1), ap (registers variants) same, all)

-- ---- the widths of ports

true_both : (a b : Bool) → a ≡ true → b ≡ true → a && b ≡ true
true_both a b e f = rw e f

and_parts : (a b : Bool) → a && b ≡ true → (a ≡ true) × (b ≡ true)
and_parts true b e = (refl, e)
and_parts false b e = absurd (true≢false (sym e))

all_both : (first second : List (Name × ℕ)) → list_all has_width first ≡ true → list_all has_width second ≡ true → list_all has_width (first ++ second) ≡ true
all_both [] second h g = g
all_both (p ∷ first) second h g = let parts = and_parts (has_width p) (list_all has_width first) h in true_both (has_width p) (list_all has_width (first ++ second)) parts.0 (all_both first second parts.1 g)

width_fits : (w : ℤ) → is_width w ≡ true → nat_le 1 (bits w) && nat_le (bits w) 128 ≡ true
width_fits (pos n) h = h
width_fits (negsuc n) h = absurd (true≢false (sym h))

one_has : (output : Bool) (s : Signal) (k : Kind) → fits s k ≡ true → list_all has_width (if is_port output k then (s.name, bits s.width) ∷ [] else []) ≡ true
one_has output s k h = by_test (is_port output k) refl
  where
    by_test : (b : Bool) → is_port output k ≡ b → list_all has_width (if b then (s.name, bits s.width) ∷ [] else []) ≡ true
    by_test true e = true_both _ _ (width_fits s.width (port_width output s k e h)) refl
    by_test false e = refl

pub ports_have : (output : Bool) (signals : List Signal) → all_fit signals ≡ true → list_all has_width (ports_in output signals) ≡ true
ports_have output [] h = refl
ports_have output (s ∷ signals) h =
    let parts = and_parts (fits s s.kind) (all_fit signals) h in
    all_both (one_port output s) (ports_in output signals) (one_has output s s.kind parts.0) (ports_have output signals parts.1)

-- the widths of a design's ports
pub widths_kept : (variants seen : List Variant) (signals : List Signal) (inputs outputs : List (Name × ℕ)) → seen ≡ variants → signals ≡ signals_at 0 seen → all_fit (signals_at 0 variants) ≡ true
    → inputs ≡ ports_in false signals → outputs ≡ ports_in true signals → list_all has_width inputs && list_all has_width outputs ≡ true
widths_kept variants seen signals inputs outputs known is fit ins outs =
    let all : all_fit signals ≡ true = ap all_fit (is ∙ ap (signals_at 0) known) ∙ fit in
    true_both _ _ (ap (list_all has_width) ins ∙ ports_have false signals all) (ap (list_all has_width) outs ∙ ports_have true signals all)

-- ---- the names of ports

names_both : (first second : List (Name × ℕ)) → list_all has_name first ≡ true → list_all has_name second ≡ true → list_all has_name (first ++ second) ≡ true
names_both [] second h g = g
names_both (p ∷ first) second h g = let parts = and_parts (has_name p) (list_all has_name first) h in true_both (has_name p) (list_all has_name (first ++ second)) parts.0 (names_both first second parts.1 g)

one_named : (output : Bool) (s : Signal) (k : Kind) → IfPort IsName s k → list_all has_name (if is_port output k then (s.name, bits s.width) ∷ [] else []) ≡ true
one_named true s Input h = refl
one_named false s Input h = true_both _ _ (test_from_name s.name h) refl
one_named true s Output h = true_both _ _ (test_from_name s.name h) refl
one_named false s Output h = refl
one_named output s Wire h = refl
one_named output s (Reg start) h = refl
one_named output s (ChildOut k port) h = refl

ports_named : (output : Bool) (signals : List Signal) → EachOf (λ s. IfPort IsName s s.kind) signals → list_all has_name (ports_in output signals) ≡ true
ports_named output [] h = refl
ports_named output (s ∷ signals) h = names_both (one_port output s) (ports_in output signals) (one_named output s s.kind h.0) (ports_named output signals h.1)

first_named : (all variants : List Variant) (top : Name) → EachOf (IsVariant all) variants → option_map (λ v. v.«module») (slice_get variants 0) ≡ Some top
    → IsName top × EachOf (λ s. IfPort IsName s s.kind) (signals_at 0 variants)
first_named all [] top h e = absurd (none-some top e)
first_named all (v ∷ variants) top h e = (subst IsName (same_Some v.«module» top e) h.0.named, h.0.ports)

-- a design's ports have names
pub names_kept : (variants seen : List Variant) (signals : List Signal) (top «module» : Name) (inputs outputs : List (Name × ℕ)) → seen ≡ variants → signals ≡ signals_at 0 seen → EachOf (IsVariant variants) variants
    → option_map (λ v. v.«module») (slice_get variants 0) ≡ Some top → «module» ≡ top → inputs ≡ ports_in false signals → outputs ≡ ports_in true signals → have_names «module» inputs outputs ≡ true
names_kept variants seen signals top «module» inputs outputs known is each named same ins outs =
    let first = first_named variants variants top each named in
    let all : EachOf (λ s. IfPort IsName s s.kind) signals = subst (EachOf (λ s. IfPort IsName s s.kind)) (sym (is ∙ ap (signals_at 0) known)) first.1 in
    true_both _ _
    (true_both _ _ (ap is_name same ∙ test_from_name top first.0) (ap (list_all has_name) ins ∙ ports_named false signals all))
    (ap (list_all has_name) outs ∙ ports_named true signals all)

pub ruleset register_steps = (registers_more, registers_within)

pub ruleset port_steps = (ports_more, regs_more, regs_within, one_fits)
