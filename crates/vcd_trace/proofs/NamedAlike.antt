-- What a table names it names at a node that is named, so traces that agree there tell the same world.
use Rattle.std.proofs.Common.{◌≡◌, ℕ, zero, suc, ◌<◌, ◌==◌, ◌||◌, Bool, true, false, List, [], ◌∷◌, Option, Some, None, refl, ap, ◌∙◌, arith}
use Rattle.std.specs.Prelude.{slice_get, option_map, option_and_then, filter, position}
use Rattle.std.specs.List.{list_any}
use Rattle.std.proofs.lemmas.Bool.Decides.{nat_tests}
use Rattle.std.proofs.lemmas.Option.{none-some, same_Some}
use Rattle.bv_core.specs.declared.reference.Ref.{Ref}
use Rattle.bv_core.specs.declared.reference.Ref.TheVariants.{Node, Const}
use Rattle.bv_core.specs.declared.reference.Binding.{Binding}
use Rattle.bv_core.specs.declared.reference.Binding.TheVariants.{Value, Unset, Removed}
use Rattle.exec_core.specs.Block.{Name}
use Rattle.symtab.specs.declared.parts.Row.{Row}
use Rattle.symtab.specs.declared.parts.Slot.{Slot}
use Rattle.symtab.specs.declared.parts.TableParts.{TableParts}
use Rattle.symtab.specs.Shape.{width_of}
use Rattle.symtab.specs.Lookups.{instances_of, name_place, row_of, enable_of, binding_of}
use Rattle.trace_core.specs.Samples.{Samples}
use Rattle.trace_core.specs.Known.{known, is_one}
use Rattle.world_core.specs.World.{HasWidth, shown_by, AreSame}
use Rattle.world_core.proofs.Seen.{same_worlds_seen_alike}
use Rattle.trace_world.specs.TraceWorld.{found_by, is_on, binding_shown, trace_world}
use Rattle.vcd_trace.specs.Named.{is_at, cell_names, row_names, slot_names, is_named}
use Rattle.vcd_trace.specs.Alike.{SameNamed, SameNamedTellSame}

-- an element that is found passes for the whole
any_at : {X : Type 0} (test : X → Bool) (xs : List X) (k : ℕ) (x : X) → slice_get xs k ≡ Some x → test x ≡ true → list_any test xs ≡ true
any_at test [] k x e h = absurd (none-some x e)
any_at test (y ∷ xs) zero x e h = ap (λ (b : Bool). b || list_any test xs) (ap test (same_Some y x e) ∙ h)
any_at test (y ∷ xs) (suc k) x e h = ap (λ (b : Bool). test y || b) (any_at test xs k x e h) ∙ last (test y)
  where
    last : (b : Bool) → (b || true) ≡ true
    last true = refl
    last false = refl

or_last : (b c : Bool) → c ≡ true → (b || c) ≡ true
or_last true c e = refl
or_last false c e = e

or_first : (b c : Bool) → b ≡ true → (b || c) ≡ true
or_first b c e = ap (λ (x : Bool). x || c) e

-- what an option is taken from
taken : {A B : Type 0} (step : A → Option B) (o : Option A) (b : B) → option_and_then step o ≡ Some b → (a : A) × (o ≡ Some a) × (step a ≡ Some b)
taken step None b e = absurd (none-some b e)
taken step (Some a) b e = (a, refl, e)

mapped : {A B : Type 0} (f : A → B) (o : Option A) (b : B) → option_map f o ≡ Some b → (a : A) × (o ≡ Some a) × (f a ≡ b)
mapped f None b e = absurd (none-some b e)
mapped f (Some a) b e = (a, refl, same_Some (f a) b e)

-- a row of a table names what the table names
row_named : (parts : TableParts) (k i n : ℕ) (row : Row) → row_of parts k i ≡ Some row → row_names n row ≡ true → is_named parts n ≡ true
row_named parts k i n row e h =
    let slot = taken (λ (s : Slot). option_and_then (slice_get s.rows) (position (λ other. other == i) (instances_of parts k))) (slice_get parts.slots k) row e in
    let place = taken (slice_get slot.0.rows) (position (λ other. other == i) (instances_of parts k)) row slot.2 in
    any_at (slot_names n) parts.slots k slot.0 slot.1 (any_at (row_names n) slot.0.rows place.0 row place.2 h)

enable_named : (parts : TableParts) (k i n : ℕ) (at : Ref) → enable_of parts k i ≡ Some at → is_at n at ≡ true → is_named parts n ≡ true
enable_named parts k i n at e h =
    let row = mapped (λ (r : Row). r.on) (row_of parts k i) at e in
    row_named parts k i n row.0 row.1 (or_first (is_at n row.0.on) (list_any (cell_names n) row.0.cells) (ap (is_at n) row.2 ∙ h))

value_named : (parts : TableParts) (k i n : ℕ) (x : Name) (at : Ref) → binding_of parts k i x ≡ Some (Value at) → is_at n at ≡ true → is_named parts n ≡ true
value_named parts k i n x at e h =
    let row = taken (λ (r : Row). option_and_then (slice_get r.cells) (name_place parts k x)) (row_of parts k i) (Value at) e in
    let place = taken (slice_get row.0.cells) (name_place parts k x) (Value at) row.2 in
    row_named parts k i n row.0 row.1 (or_last (is_at n row.0.on) (list_any (cell_names n) row.0.cells) (any_at (cell_names n) row.0.cells place.0 (Value at) place.2 h))

own : (n : ℕ) → (n == n) ≡ true
own n = grind (arith, nat_tests)

module _ (parts : TableParts) (v w : Samples) (same : SameNamed parts v w) (t : ℕ) (inside : t < w.cycles) where
  found_same : (at : Ref) → ((n : ℕ) → is_at n at ≡ true → is_named parts n ≡ true) → found_by (v.sample t) at ≡ found_by (w.sample t) at
  found_same (Const bits) h = refl
  found_same (Node id width) h = ap known (same.sample t id.0 inside (h id.0 (own id.0)))

  on_same : (k i : ℕ) (o : Option Ref) → enable_of parts k i ≡ o → is_on (v.sample t) o ≡ is_on (w.sample t) o
  on_same k i None e = refl
  on_same k i (Some at) e = ap is_one (found_same at (λ n. enable_named parts k i n at e))

  shown_same : (k i : ℕ) (x : Name) (o : Option Binding) → binding_of parts k i x ≡ o → binding_shown (v.sample t) o ≡ binding_shown (w.sample t) o
  shown_same k i x None e = refl
  shown_same k i x (Some Unset) e = refl
  shown_same k i x (Some Removed) e = refl
  shown_same k i x (Some (Value at)) e = ap (shown_by (HasWidth (width_of at))) (found_same at (λ n. value_named parts k i n x at e))

  threads_same : (k : ℕ) → filter (λ i. is_on (v.sample t) (enable_of parts k i)) (instances_of parts k) ≡ filter (λ i. is_on (w.sample t) (enable_of parts k i)) (instances_of parts k)
  threads_same k = (λ j. filter (λ i. on_same k i (enable_of parts k i) refl j) (instances_of parts k))

worlds_same : (parts : TableParts) (v w : Samples) → SameNamed parts v w → AreSame (trace_world parts v) (trace_world parts w)
worlds_same parts v w same = record {
  cycles = same.cycles;
  paths = refl;
  slots = refl;
  status = λ k i x has scope. refl;
  threads = λ t k inside below. threads_same parts v w same t inside k;
  shown = λ t k i x inside thread scope. shown_same parts v w same t inside k i x (binding_of parts k i x) refl;
}

pub same_named_tell_same : SameNamedTellSame
same_named_tell_same parts v w same =
    let worlds = worlds_same parts v w same in
    record { same = worlds; alike = same_worlds_seen_alike (trace_world parts v) (trace_world parts w) worlds }
