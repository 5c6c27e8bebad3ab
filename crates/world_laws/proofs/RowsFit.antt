-- A row of a stimulus gives each input of the top a value of its width, and what is looked up of it is the input of that name.
use Rattle.std.proofs.Common.{◌≡◌, ℕ, ◌==◌, Bool, true, false, bytes_eq, List, [], ◌∷◌, ◌++◌, map, Option, Some, None, option_map, unwrap_or, if◌then◌else◌, inl, inr, refl, sym, ap, ◌∙◌, subst, eqb-true}
use Rattle.std.specs.Prelude.{slice_get, All}
use Rattle.std.specs.List.{flat_map}
use Rattle.std.proofs.lemmas.Option.{none-some, same_Some}
use Rattle.std.proofs.lemmas.List.Elements.{All-head, All-tail}
use Rattle.bv_core.specs.Value.{Bits, IsBits}
use Rattle.tree_core.specs.Tree.{Origin, Input, Register}
use Rattle.tree_core.specs.Width.{IsOf}
use Rattle.exec_core.specs.Block.{Name}
use Rattle.list_core.specs.Lists.{EachOf, IsIn}
use Rattle.exec_core.specs.Design.{place}
use Rattle.exec_core.specs.States.{InputFits, RowFits}
use Rattle.design_core.specs.declared.design.Instance.{Instance}
use Rattle.design_core.specs.declared.variant.Signal.{Signal}
use Rattle.design_core.specs.declared.variant.Kind.{Kind}
use Rattle.design_core.specs.declared.variant.Kind.TheVariants as kind
use Rattle.design_core.specs.Design.{Variant, Design}
use Rattle.design_core.specs.Ports.{ports_in, is_port, top_signals}
use Rattle.design_exec.specs.Processes.{Numbered, Given, processes_of, given_by, givens_at}
use Rattle.names.specs.Known.{Known, none, with}
use Rattle.check_core.specs.Names.{signal_thing}
use Rattle.check_exec.specs.Premises.{IsSound}
use Rattle.gen_token.specs.Spelling.{is_name_text, IsName}
use Rattle.design_core.specs.WellFormed.{IfPort, IsVariant}
use Rattle.list_core.proofs.Lists.{each_member}
use Rattle.check_exec.proofs.Facts.{each_at, each_flat, name_same, eq_turned}
use Rattle.check_exec.proofs.Instances.{Stands, clean, each_instance}
use Rattle.check_exec.proofs.Names.{Differ, other_behind, signals_differ}
use Rattle.world_core.specs.Source.{value_named, rows_named}
use Rattle.design_core.specs.Widths.{bits}

abbrev pub Port : Type 0
Port = Name × ℕ

-- ---- the first input of a name

abbrev pub first_width : List Port → Name → Option ℕ
first_width [] x = None
first_width (p ∷ ps) x = if bytes_eq p.0 x then Some p.1 else first_width ps x

-- a row has one value for each input, of its width
abbrev pub HasWidths : List Port → List Bits → Type 0
HasWidths inputs row = map (λ (v : Bits). v.width) row ≡ map (λ (p : Port). p.1) inputs

pub value_fits : (inputs : List Port) (row : List Bits) (x : Name) (w : ℕ) → first_width inputs x ≡ Some w → HasWidths inputs row → All IsBits row → IsOf w (value_named inputs row x)
value_fits [] row x w e long bits = absurd (none-some w e)
value_fits (p ∷ ps) [] x w e long bits = absurd cc
value_fits (p ∷ ps) (v ∷ row) x w e long bits =
    let first : v.width ≡ p.1 = cc in
    let rest : HasWidths ps row = cc in
    by_test (bytes_eq p.0 x) e first (All-head IsBits v row bits) (λ more. value_fits ps row x w more rest (All-tail IsBits v row bits))
  where
    by_test : (b : Bool) → (if b then Some p.1 else first_width ps x) ≡ Some w → v.width ≡ p.1 → IsBits v → (first_width ps x ≡ Some w → IsOf w (value_named ps row x)) → IsOf w (if b then v else value_named ps row x)
    by_test true more width good later = record { width = width ∙ same_Some p.1 w more; bits = good }
    by_test false more width good later = later more

-- the signals of inputs, each of which has another name
pub input_first : (taken : Known) (signals : List Signal) → Differ taken (map signal_thing signals) → (s : Signal) → IsIn s signals → s.kind ≡ kind.Input → first_width (ports_in false signals) s.name ≡ Some (bits s.width)
input_first taken [] d s at e = absurd at
input_first taken (t ∷ signals) d s (inl same) e =
    subst (λ (z : Signal). first_width (ports_in false (z ∷ signals)) s.name ≡ Some (bits s.width)) same
    (ap (λ k. first_width ((if is_port false k then (s.name, bits s.width) ∷ [] else []) ++ ports_in false signals) s.name) e
    ∙ ap (λ b. if b then Some (bits s.width) else first_width (ports_in false signals) s.name) (name_same s.name s.name refl))
input_first taken (t ∷ signals) d s (inr at) e =
    passed (is_port false t.kind) (eq_turned t.name s.name ∙ other_behind taken t signals d.1 s at) ∙ input_first (with t.name taken) signals d.1 s at e
  where
    passed : (b : Bool) → bytes_eq t.name s.name ≡ false → first_width ((if b then (t.name, bits t.width) ∷ [] else []) ++ ports_in false signals) s.name ≡ first_width (ports_in false signals) s.name
    passed true differs = ap (λ c. if c then Some (bits t.width) else first_width (ports_in false signals) s.name) differs
    passed false differs = refl

-- and each is among the inputs
pub input_among : (signals : List Signal) (s : Signal) → IsIn s signals → s.kind ≡ kind.Input → IsIn (s.name, bits s.width) (ports_in false signals)
input_among [] s at e = absurd at
input_among (t ∷ signals) s (inl same) e =
    subst (λ (z : Signal). IsIn (s.name, bits s.width) (ports_in false (z ∷ signals))) same
    (subst (λ k. IsIn (s.name, bits s.width) ((if is_port false k then (s.name, bits s.width) ∷ [] else []) ++ ports_in false signals)) (sym e) (inl refl))
input_among (t ∷ signals) s (inr at) e = behind (is_port false t.kind) (input_among signals s at e)
  where
    behind : (b : Bool) → IsIn (s.name, bits s.width) (ports_in false signals) → IsIn (s.name, bits s.width) ((if b then (t.name, bits t.width) ∷ [] else []) ++ ports_in false signals)
    behind true i = inr i
    behind false i = i

-- ---- what is given by a design

abbrev of_signal : Numbered → Signal → List Given
of_signal q s = given_by q s.name (bits s.width) s.kind

givens_none : (d : Design) (i : ℕ) (r : Instance) → slice_get d.variants r.variant ≡ None → givens_at d (i, r) ≡ []
givens_none d i r e = ap (λ o. flat_map (of_signal (i, r)) (unwrap_or (option_map (λ (w : Variant). w.signals) o) [])) e

givens_are : (d : Design) (i : ℕ) (r : Instance) (v : Variant) → Stands d i r v → givens_at d (i, r) ≡ flat_map (of_signal (i, r)) v.signals
givens_are d i r v s = ap (λ o. flat_map (of_signal (i, r)) (unwrap_or (option_map (λ (w : Variant). w.signals) o) [])) s.variant

-- the first instance is the top
top_is : (d : Design) → IsSound d → (i : ℕ) (r : Instance) (v : Variant) → Stands d i r v → i ≡ 0 → top_signals d ≡ v.signals
top_is d sound i r v s e =
    let first : slice_get d.instances 0 ≡ Some r = ap (slice_get d.instances) (sym e) ∙ s.instance in
    let same : r ≡ record { path = d.top; variant = 0; parent = None } = same_Some r _ (sym first ∙ sound.kept.top) in
    let zeroth : r.variant ≡ 0 = ap (λ (q : Instance). q.variant) same in
    ap (λ o. unwrap_or (option_map (λ (w : Variant). w.signals) o) []) (ap (slice_get d.variants) (sym zeroth) ∙ s.variant)

-- a fact of each input of the top, and of each register
abbrev Of : (Name → ℕ → Type 0) → Origin → Type 0
Of P (Input name width) = P name width
Of P (Register instance name start) = Unit {0}

module _ (d : Design) (sound : IsSound d) (P : Name → ℕ → Type 0) (h : (s : Signal) → IsIn s (top_signals d) → Differ none (map signal_thing (top_signals d)) → s.kind ≡ kind.Input → P s.name (bits s.width)) where
  given_one : (i : ℕ) (r : Instance) (v : Variant) → Stands d i r v → (s : Signal) → IsIn s v.signals → (k : Kind) → s.kind ≡ k → EachOf (λ (given : Given). Of P given.1) (given_by (i, r) s.name (bits s.width) k)
  given_one i r v stands s at kind.Input e = by_top (i == 0) refl
    where
      by_top : (b : Bool) → (i == 0) ≡ b → EachOf (λ (given : Given). Of P given.1) (if b then (place i s.name, Input s.name (bits s.width)) ∷ [] else [])
      by_top true z =
          let top = top_is d sound i r v stands (eqb-true i 0 z) in
          let differ = signals_differ v (clean d sound.accepted i r v stands).apart in
          ((h s (subst (λ l. IsIn s l) (sym top) at) (subst (λ l. Differ none (map signal_thing l)) (sym top) differ) e), tt)
      by_top false z = tt
  given_one i r v stands s at kind.Output e = tt
  given_one i r v stands s at kind.Wire e = tt
  given_one i r v stands s at (kind.Reg start) e = (tt, tt)
  given_one i r v stands s at (kind.ChildOut k port) e = tt

  each_given : EachOf (λ (given : Given). Of P given.1) (processes_of d).givens
  each_given =
      each_instance (λ (given : Given). Of P given.1) d (givens_at d)
      (λ i r e. subst (EachOf (λ (given : Given). Of P given.1)) (sym (givens_none d i r e)) tt)
      (λ i r v s. subst (EachOf (λ (given : Given). Of P given.1)) (sym (givens_are d i r v s))
      (each_flat (λ (given : Given). Of P given.1) (of_signal (i, r)) v.signals (λ t at. given_one i r v s t at t.kind refl)))

-- ---- what each given input is

abbrev pub IsFirst : List Port → Origin → Type 0
IsFirst inputs (Input name width) = first_width inputs name ≡ Some width
IsFirst inputs (Register instance name start) = Unit {0}

abbrev pub IsPort : List Port → Origin → Type 0
IsPort inputs (Input name width) = IsIn (name, width) inputs
IsPort inputs (Register instance name start) = Unit {0}

each_of : {A : Type 0} (P Q : A → Type 0) (list : List A) → ((a : A) → P a → Q a) → EachOf P list → EachOf Q list
each_of P Q [] f h = tt
each_of P Q (a ∷ list) f h = (f a h.0, each_of P Q list f h.1)

pub inputs_first : (d : Design) → IsSound d → EachOf (λ (given : Given). IsFirst (ports_in false (top_signals d)) given.1) (processes_of d).givens
inputs_first d sound =
    let P : Name → ℕ → Type 0 = λ x w. first_width (ports_in false (top_signals d)) x ≡ Some w in
    each_of (λ (given : Given). Of P given.1) (λ (given : Given). IsFirst (ports_in false (top_signals d)) given.1) (processes_of d).givens (λ given h. by_origin P given.1 (λ x w e. e) h)
    (each_given d sound P (λ s at differ e. input_first none (top_signals d) differ s at e))
  where
    by_origin : (P : Name → ℕ → Type 0) (o : Origin) → ((x : Name) (w : ℕ) → P x w → first_width (ports_in false (top_signals d)) x ≡ Some w) → Of P o → IsFirst (ports_in false (top_signals d)) o
    by_origin P (Input name width) f h = f name width h
    by_origin P (Register instance name start) f h = tt

pub inputs_ports : (d : Design) → IsSound d → EachOf (λ (given : Given). IsPort (ports_in false (top_signals d)) given.1) (processes_of d).givens
inputs_ports d sound =
    let P : Name → ℕ → Type 0 = λ x w. IsIn (x, w) (ports_in false (top_signals d)) in
    each_of (λ (given : Given). Of P given.1) (λ (given : Given). IsPort (ports_in false (top_signals d)) given.1) (processes_of d).givens (λ given h. by_origin P given.1 (λ x w i. i) h)
    (each_given d sound P (λ s at differ e. input_among (top_signals d) s at e))
  where
    by_origin : (P : Name → ℕ → Type 0) (o : Origin) → ((x : Name) (w : ℕ) → P x w → IsIn (x, w) (ports_in false (top_signals d))) → Of P o → IsPort (ports_in false (top_signals d)) o
    by_origin P (Input name width) f h = f name width h
    by_origin P (Register instance name start) f h = tt

-- ---- rows

pub row_fits : (d : Design) → IsSound d → (row : List Bits) → HasWidths (ports_in false (top_signals d)) row → All IsBits row → RowFits (processes_of d) (value_named (ports_in false (top_signals d)) row)
row_fits d sound row long bits =
    each_of (λ (given : Given). IsFirst (ports_in false (top_signals d)) given.1) (λ (given : Given). InputFits (value_named (ports_in false (top_signals d)) row) given.1) (processes_of d).givens
    (λ given h. by_origin given.1 h) (inputs_first d sound)
  where
    by_origin : (o : Origin) → IsFirst (ports_in false (top_signals d)) o → InputFits (value_named (ports_in false (top_signals d)) row) o
    by_origin (Input name width) h = value_fits (ports_in false (top_signals d)) row name width h long bits
    by_origin (Register instance name start) h = tt

pub rows_fit : (d : Design) → IsSound d → (rows : List (List Bits)) → All (HasWidths (ports_in false (top_signals d))) rows → All (All IsBits) rows
    → EachOf (RowFits (processes_of d)) (rows_named (ports_in false (top_signals d)) rows)
rows_fit d sound [] long bits = tt
rows_fit d sound (row ∷ rows) long bits = (
  row_fits d sound row (All-head (HasWidths (ports_in false (top_signals d))) row rows long) (All-head (All IsBits) row rows bits),
  rows_fit d sound rows (All-tail (HasWidths (ports_in false (top_signals d))) row rows long) (All-tail (All IsBits) row rows bits),
)

-- ---- the names of inputs

abbrev pub HasInputName : Origin → Type 0
HasInputName (Input name width) = is_name_text name ≡ true
HasInputName (Register instance name start) = Unit {0}

pub inputs_named : (d : Design) → IsSound d → EachOf (λ (given : Given). HasInputName given.1) (processes_of d).givens
inputs_named d sound =
    let P : Name → ℕ → Type 0 = λ x w. is_name_text x ≡ true in
    each_of (λ (given : Given). Of P given.1) (λ (given : Given). HasInputName given.1) (processes_of d).givens (λ given h. by_origin P given.1 (λ x w e. e) h)
    (each_given d sound P (λ s at differ e. named (slice_get d.variants 0) refl s at e))
  where
    by_origin : (P : Name → ℕ → Type 0) (o : Origin) → ((x : Name) (w : ℕ) → P x w → is_name_text x ≡ true) → Of P o → HasInputName o
    by_origin P (Input name width) f h = f name width h
    by_origin P (Register instance name start) f h = tt

    named : (o : Option Variant) → slice_get d.variants 0 ≡ o → (s : Signal) → IsIn s (unwrap_or (option_map (λ (w : Variant). w.signals) o) []) → s.kind ≡ kind.Input → is_name_text s.name ≡ true
    named None e s at k = absurd at
    named (Some v) e s at k =
        let variant : IsVariant d.variants v = each_at (IsVariant d.variants) d.variants 0 v e sound.kept.each in
        let port : IfPort IsName s s.kind = each_member (λ (t : Signal). IfPort IsName t t.kind) v.signals variant.ports s at in
        (subst (λ q. IfPort IsName s q) k port).text
