-- No check refuses the chain's design.
use Rattle.std.proofs.Common.{◌≡◌, ℕ, zero, suc, ◌+◌, ◌<◌, ◌≤◌, Bool, true, false, ◌&&◌, ◌||◌, List, [], ◌∷◌, ◌++◌, map, Option, Some, None, refl, sym, ap, ap₂, subst, ◌∙◌, arith, inl, inr}
use Rattle.std.proofs.lemmas.Bool.{cases_lt}
use Rattle.std.proofs.lemmas.List.{map-append}
use Rattle.std.specs.Prelude.{codes, bytes_eq, if◌then◌else◌, option_map}
use Rattle.list_core.specs.Lists.{EachOf, IsNotIn, AreApart}
use Rattle.exec_core.specs.Block.{Name}
use Rattle.design_core.specs.declared.Signal.{Signal}
use Rattle.design_core.specs.Design as design
use Rattle.design_core.specs.Design.{Design, Variant}
use Rattle.check_core.specs.declared.fault.Refusal.{Refusal}
use Rattle.check_core.specs.declared.fault.Refusal.TheVariants.{UnknownName, DuplicateName, BadWidth, UnknownPort, UnboundInput, WidthMismatch, TwoDrivers, Undriven, Latch, ReadBeforeWrite}
use Rattle.check_core.specs.Faults.{earlier, first_of, fault_in}
use Rattle.check_core.specs.Names.{named, any_kind, is_child_output, child_named, scope_of, unknown_in_child, signal_thing, child_thing, things, taken_twice}
use Rattle.check_core.specs.Ports.{unknown_port_in_child, unbound_in_child}
use Rattle.check_core.specs.Widths.{bad_signal, bad_in_child, Widths, put_signals, put_signal, no_width, widths_of, signal_mismatch, mismatch_in_child}
use Rattle.check_core.specs.Drivers.{twice_in_child, undriven_at, is_assigned}
use Rattle.check_core.specs.Verdict.{refused, refused_at, refused_by, in_order, verdict}
use Rattle.names.specs.Known.{Known, none, with}
use Rattle.check_exec.proofs.Facts.{name_same, same_name, in_any}
use Rattle.chain_laws.proofs.Spans.{map_span, in_span}
use Rattle.chain_laws.proofs.Cells.{span, cell_name, cell_output, chain_signals, output_block, design_child, top_variant, cell_variant, design_cell, chain_design}
use Rattle.chain_laws.proofs.Names.{cell_output_name, chain_names, names_apart}

-- ---- lists

none_in_span : {X A : Type 0} (find : X → Option A) (f : ℕ → X) (k n : ℕ) → ((i : ℕ) → k ≤ i → i < k + n → find (f i) ≡ None) → first_of find (span f k n) ≡ None
none_in_span find f k zero h = refl
none_in_span find f k (suc n) h = rw (h k (omega arith) (omega arith)) (none_in_span find f (suc k) n (λ i l m. h i (omega arith) (omega arith)))

two_none : {A : Type 0} (a b : Option A) → a ≡ None → b ≡ None → earlier a b ≡ None
two_none a b e f = rw (e, f) refl

abbrev both_variants : ℕ → List Variant
both_variants k = top_variant k ∷ cell_variant ∷ []

-- ---- names

signal_there : (k i : ℕ) → i ≤ k → named is_child_output (chain_signals (suc k)) (cell_output_name i) ≡ true
signal_there k i h = in_any (λ (s : Signal). is_child_output s.kind && bytes_eq (cell_output_name i) s.name) (chain_signals (suc k)) (cell_output i) (inr (inr (in_span cell_output 0 (suc k) i (omega arith) (omega arith)))) (name_same (cell_output_name i) (cell_output_name i) refl)

child_there : (k i : ℕ) → i ≤ k → child_named (span design_child 0 (suc k)) (cell_name i) ≡ true
child_there k i h = in_any (λ (c : design.Child). bytes_eq (cell_name i) c.name) (span design_child 0 (suc k)) (design_child i) (in_span design_child 0 (suc k) i (omega arith) (omega arith)) (name_same (cell_name i) (cell_name i) refl)

known_in_child : (k i : ℕ) → i ≤ k → unknown_in_child (scope_of (top_variant k)) (design_child i) ≡ None
known_in_child k zero h = refl
known_in_child k (suc i) h = rw (child_there k i (omega arith)) refl

no_unknown : (k : ℕ) → refused UnknownName (both_variants k) (top_variant k) ≡ None
no_unknown k = two_none _ _ (none_in_span (unknown_in_child (scope_of (top_variant k))) design_child 0 (suc k) (λ i l m. known_in_child k i (omega arith))) (rw (child_there k k (omega arith)) refl)

-- ---- each name once

not_same : (x y : Name) → (y ≡ x → ⊥) → bytes_eq y x ≡ false
not_same x y h = by (bytes_eq y x) refl
  where
    by : (b : Bool) → bytes_eq y x ≡ b → b ≡ false
    by true e = absurd (h (same_name y x e))
    by false e = refl

taken_false : (b c : Bool) → b ≡ false → c ≡ false → (b || c) ≡ false
taken_false b c e f = rw (e, f) refl

abbrev FreeOf : Known → List Name → Type 0
FreeOf taken names = EachOf (λ x. taken x ≡ false) names

free_with : (x : Name) (taken : Known) (names : List Name) → IsNotIn x names → FreeOf taken names → FreeOf (with x taken) names
free_with x taken [] h g = tt
free_with x taken (y ∷ names) h g = (taken_false (bytes_eq y x) (taken y) (not_same x y h.0) g.0, free_with x taken names h.1 g.1)

none_twice : (taken : Known) (ps : List (ℕ × Name)) → AreApart (map (λ p. p.1) ps) → FreeOf taken (map (λ p. p.1) ps) → taken_twice taken ps ≡ None
none_twice taken [] h g = refl
none_twice taken (p ∷ ps) h g = rw g.0 (none_twice (with p.1 taken) ps h.1 (free_with p.1 taken (map (λ q. q.1) ps) h.0 g.1))

all_free : (names : List Name) → FreeOf none names
all_free [] = tt
all_free (x ∷ names) = (refl, all_free names)

-- the names of the things of the top
things_named : (k : ℕ) → map (λ p. p.1) (things (top_variant k)) ≡ chain_names (suc k)
things_named k =
    ap (λ ps. codes "x" ∷ codes "y" ∷ ps)
    (map-append (λ (p : ℕ × Name). p.1) (map signal_thing (span cell_output 0 (suc k))) (map child_thing (span design_child 0 (suc k)))
    ∙ ap₂ (λ xs ys. xs ++ ys)
    (ap (map (λ (p : ℕ × Name). p.1)) (map_span signal_thing cell_output 0 (suc k)) ∙ map_span (λ (p : ℕ × Name). p.1) (λ i. signal_thing (cell_output i)) 0 (suc k))
    (ap (map (λ (p : ℕ × Name). p.1)) (map_span child_thing design_child 0 (suc k)) ∙ map_span (λ (p : ℕ × Name). p.1) (λ i. child_thing (design_child i)) 0 (suc k)))

no_duplicate : (k : ℕ) → suc k ≤ 4000 → refused DuplicateName (both_variants k) (top_variant k) ≡ None
no_duplicate k h = two_none _ _ (none_twice none (things (top_variant k)) (subst AreApart (sym (things_named k)) (names_apart (suc k) h)) (all_free (map (λ p. p.1) (things (top_variant k))))) refl

-- ---- widths

sized_child : (i : ℕ) → bad_in_child (design_child i) ≡ None
sized_child zero = refl
sized_child (suc i) = refl

no_bad_width : (k : ℕ) → refused BadWidth (both_variants k) (top_variant k) ≡ None
no_bad_width k = two_none _ _ (none_in_span bad_signal cell_output 0 (suc k) (λ i l m. refl)) (two_none _ _ (none_in_span bad_in_child design_child 0 (suc k) (λ i l m. sized_child i)) refl)

abbrev Is16 : Option ℕ → Type 0
Is16 o = o ≡ Some 16

chosen : (b : Bool) (o : Option ℕ) → Is16 o → Is16 (if b then Some 16 else o)
chosen true o e = refl
chosen false o e = e

stays_16 : (j n : ℕ) (w : Widths) (x : Name) → Is16 (w x) → Is16 (put_signals any_kind (span cell_output j n) w x)
stays_16 j zero w x e = e
stays_16 j (suc n) w x e = stays_16 (suc j) n (put_signal any_kind (cell_output j) w) x (chosen (bytes_eq x (cell_output_name j)) (w x) e)

chosen_so : (b : Bool) (o : Option ℕ) → b ≡ true → Is16 (if b then Some 16 else o)
chosen_so b o e = rw e refl

output_16 : (j n : ℕ) (w : Widths) (i : ℕ) → j ≤ i → i < j + n → Is16 (put_signals any_kind (span cell_output j n) w (cell_output_name i))
output_16 j zero w i l m = absurd (omega arith)
output_16 j (suc n) w i l m = elim (cases_lt j i) [
  | inl lt ↦ output_16 (suc j) n (put_signal any_kind (cell_output j) w) i (omega arith) (omega arith)
  | inr ge ↦ stays_16 (suc j) n (put_signal any_kind (cell_output j) w) (cell_output_name i) (chosen_so (bytes_eq (cell_output_name i) (cell_output_name j)) (w (cell_output_name i)) (name_same (cell_output_name i) (cell_output_name j) (ap cell_output_name (omega arith))))
]

abbrev chain_widths : ℕ → Widths
chain_widths k = widths_of any_kind (chain_signals (suc k))

width_x : (k : ℕ) → Is16 (chain_widths k (codes "x"))
width_x k = stays_16 0 (suc k) (put_signals any_kind (chain_signals 0) no_width) (codes "x") refl

width_y : (k : ℕ) → Is16 (chain_widths k (codes "y"))
width_y k = stays_16 0 (suc k) (put_signals any_kind (chain_signals 0) no_width) (codes "y") refl

width_out : (k i : ℕ) → i ≤ k → Is16 (chain_widths k (cell_output_name i))
width_out k i h = output_16 0 (suc k) (put_signals any_kind (chain_signals 0) no_width) i (omega arith) (omega arith)

matching_child : (k i : ℕ) → i ≤ k → mismatch_in_child (chain_widths k) (both_variants k) (design_child i) ≡ None
matching_child k zero h = rw (width_x k) refl
matching_child k (suc i) h = rw (width_out k i (omega arith)) refl

no_mismatch : (k : ℕ) → refused WidthMismatch (both_variants k) (top_variant k) ≡ None
no_mismatch k =
    two_none _ _ (none_in_span signal_mismatch cell_output 0 (suc k) (λ i l m. refl))
    (two_none _ _ (none_in_span (mismatch_in_child (chain_widths k) (both_variants k)) design_child 0 (suc k) (λ i l m. matching_child k i (omega arith)))
    (rw (width_y k, width_out k k (omega arith)) refl))

-- ---- ports

ports_known : (k i : ℕ) → i ≤ k → unknown_port_in_child (named is_child_output (chain_signals (suc k))) (both_variants k) (design_child i) ≡ None
ports_known k zero h = refl
ports_known k (suc i) h = rw (signal_there k i (omega arith)) refl

no_unknown_port : (k : ℕ) → refused UnknownPort (both_variants k) (top_variant k) ≡ None
no_unknown_port k =
    two_none _ _ (none_in_span (unknown_port_in_child (named is_child_output (chain_signals (suc k))) (both_variants k)) design_child 0 (suc k) (λ i l m. ports_known k i (omega arith)))
    (rw (signal_there k k (omega arith)) refl)

no_unbound : (k : ℕ) → refused UnboundInput (both_variants k) (top_variant k) ≡ None
no_unbound k = none_in_span (unbound_in_child (both_variants k)) design_child 0 (suc k) (λ i l m. refl)

-- ---- drivers

no_second : (k : ℕ) → refused TwoDrivers (both_variants k) (top_variant k) ≡ None
no_second k = two_none _ _ (none_in_span twice_in_child design_child 0 (suc k) (λ i l m. refl)) refl

no_undriven : (k : ℕ) → refused Undriven (both_variants k) (top_variant k) ≡ None
no_undriven k = none_in_span (undriven_at (is_assigned (output_block 4 k ∷ []))) cell_output 0 (suc k) (λ i l m. refl)

-- ---- the verdict

top_passes : (k : ℕ) → suc k ≤ 4000 → (r : Refusal) → refused r (both_variants k) (top_variant k) ≡ None
top_passes k h UnknownName = no_unknown k
top_passes k h DuplicateName = no_duplicate k h
top_passes k h BadWidth = no_bad_width k
top_passes k h UnknownPort = no_unknown_port k
top_passes k h UnboundInput = no_unbound k
top_passes k h WidthMismatch = no_mismatch k
top_passes k h TwoDrivers = no_second k
top_passes k h Undriven = no_undriven k
top_passes k h Latch = refl
top_passes k h ReadBeforeWrite = refl

cell_passes : (k : ℕ) (r : Refusal) → refused r (both_variants k) cell_variant ≡ None
cell_passes k UnknownName = refl
cell_passes k DuplicateName = refl
cell_passes k BadWidth = refl
cell_passes k UnknownPort = refl
cell_passes k UnboundInput = refl
cell_passes k WidthMismatch = refl
cell_passes k TwoDrivers = refl
cell_passes k Undriven = refl
cell_passes k Latch = refl
cell_passes k ReadBeforeWrite = refl

not_refused : (k : ℕ) → suc k ≤ 4000 → (r : Refusal) → refused_by (chain_design k) r ≡ None
not_refused k h r =
    two_none _ _ (ap (option_map (fault_in (codes "Chain"))) (top_passes k h r))
    (none_in_span (refused_at r (chain_design k)) design_cell 0 (suc k) (λ i l m. ap (option_map (fault_in (design_cell i).path)) (cell_passes k r)))

all_none : (d : Design) (rs : List Refusal) → ((r : Refusal) → refused_by d r ≡ None) → first_of (refused_by d) rs ≡ None
all_none d [] h = refl
all_none d (r ∷ rs) h = two_none (refused_by d r) (first_of (refused_by d) rs) (h r) (all_none d rs h)

pub no_check_refuses : (k : ℕ) → suc k ≤ 4000 → verdict (chain_design k) ≡ None
no_check_refuses k h = all_none (chain_design k) in_order (not_refused k h)
