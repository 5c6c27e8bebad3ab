-- A trace that fits a table samples all that the table names, and another with the same samples tells the same world.
use Rattle.std.proofs.Common.{◌≡◌, ℕ, ◌<◌, ◌≤◌, length, Option, Some, None, option_map, refl, ap, ◌∙◌, subst, arith}
use Rattle.std.specs.Prelude.{slice_get, option_and_then, filter}
use Rattle.std.proofs.lemmas.Option.{none-some, same_Some, slice_get-map, slice_get_within, get_or_from_slice_get}
use Rattle.bv_core.specs.declared.reference.Ref.{Ref}
use Rattle.bv_core.specs.declared.reference.Ref.TheVariants.{Node, Const}
use Rattle.bv_core.specs.declared.reference.Binding.{Binding}
use Rattle.bv_core.specs.declared.reference.Binding.TheVariants.{Value, Unset, Removed}
use Rattle.exec_core.specs.Block.{Name}
use Rattle.symtab.specs.declared.parts.NodeName.{NodeName}
use Rattle.symtab.specs.declared.parts.Row.{Row}
use Rattle.symtab.specs.declared.parts.TableParts.{TableParts}
use Rattle.symtab.specs.Shape.{width_of, IsFound, IsCell, IsTable}
use Rattle.symtab.specs.Lookups.{instances_of, name_place, row_of, enable_of, binding_of}
use Rattle.symtab.proofs.Rows.{row_fits}
use Rattle.trace_core.specs.Samples.{Samples, SameSamples}
use Rattle.trace_core.specs.Known.{known, is_one}
use Rattle.world_core.specs.World.{HasWidth, shown_by, AreSame}
use Rattle.world_core.proofs.Seen.{same_worlds_seen_alike}
use Rattle.trace_world.specs.TraceWorld.{found_by, is_on, binding_shown, trace_world}
use Rattle.trace_world.specs.Fitting.{widths_of, FitsTable, IsSampled, FittingTracesSample, SameSamplesTellSame}

-- what an option is taken from
taken : {A B : Type 0} (step : A → Option B) (o : Option A) (b : B) → option_and_then step o ≡ Some b → (a : A) × ((o ≡ Some a) × (step a ≡ Some b))
taken step None b e = absurd (none-some b e)
taken step (Some a) b e = (a, (refl, e))

mapped : {A B : Type 0} (f : A → B) (o : Option A) (b : B) → option_map f o ≡ Some b → (a : A) × ((o ≡ Some a) × (f a ≡ b))
mapped f None b e = absurd (none-some b e)
mapped f (Some a) b e = (a, (refl, same_Some (f a) b e))

-- ---- what a table names

module _ (parts : TableParts) (table : IsTable parts) where
  enable_found : (k i : ℕ) (at : Ref) → enable_of parts k i ≡ Some at → IsFound parts.nodes at
  enable_found k i at e =
      let row = mapped (λ (r : Row). r.on) (row_of parts k i) at e in
      subst (IsFound parts.nodes) row.1.1 (row_fits parts table k i row.0 row.1.0).2.on

  value_found : (k i : ℕ) (x : Name) (at : Ref) → binding_of parts k i x ≡ Some (Value at) → IsFound parts.nodes at
  value_found k i x at e =
      let row = taken (λ (r : Row). option_and_then (slice_get r.cells) (name_place parts k x)) (row_of parts k i) (Value at) e in
      let place = taken (slice_get row.0.cells) (name_place parts k x) (Value at) row.1.1 in
      subst (IsCell parts.nodes) (get_or_from_slice_get row.0.cells place.0 (Value at) (Value at) place.1.1)
      ((row_fits parts table k i row.0 row.1.0).2.cells place.0 (Value at) (slice_get_within row.0.cells place.0 (Value at) place.1.1))

-- ---- that it is sampled

module _ (parts : TableParts) (s : Samples) (fits : FitsTable parts s) where
  width_there : (id width : ℕ) → option_map (λ (node : NodeName). node.width) (slice_get parts.nodes id) ≡ Some width → slice_get (widths_of parts) id ≡ Some width
  width_there id width h = slice_get-map (λ (node : NodeName). node.width) parts.nodes id ∙ h

  node_below : (id width : ℕ) → slice_get (widths_of parts) id ≡ Some width → id < s.nodes
  node_below id width there =
      let below : id < length (widths_of parts) = slice_get_within (widths_of parts) id width there in
      let enough : length (widths_of parts) ≤ s.nodes = fits.sampled in
      omega (arith, below, enough)

  found_sampled : (at : Ref) → IsFound parts.nodes at → IsSampled s at
  found_sampled (Const bits) h = tt
  found_sampled (Node id width) h = let there = width_there id.0 width h in (node_below id.0 width there, λ cycle inside. fits.width cycle id.0 width inside there)

pub fitting_traces_sample : FittingTracesSample
fitting_traces_sample parts table s fits = record {
  enables = λ k i at e. found_sampled parts s fits at (enable_found parts table k i at e);
  values = λ k i x at e. found_sampled parts s fits at (value_found parts table k i x at e);
}

-- ---- traces with the same samples

module _ (parts : TableParts) (table : IsTable parts) (v w : Samples) (fits : FitsTable parts w) (same : SameSamples v w) (t : ℕ) (inside : t < w.cycles) where
  found_same : (at : Ref) → IsFound parts.nodes at → found_by (v.sample t) at ≡ found_by (w.sample t) at
  found_same (Const bits) h = refl
  found_same (Node id width) h = ap known (same.sample t id.0 inside (node_below parts w fits id.0 width (width_there parts w fits id.0 width h)))

  on_same : (k i : ℕ) (o : Option Ref) → enable_of parts k i ≡ o → is_on (v.sample t) o ≡ is_on (w.sample t) o
  on_same k i None e = refl
  on_same k i (Some at) e = ap is_one (found_same at (enable_found parts table k i at e))

  shown_same : (k i : ℕ) (x : Name) (o : Option Binding) → binding_of parts k i x ≡ o → binding_shown (v.sample t) o ≡ binding_shown (w.sample t) o
  shown_same k i x None e = refl
  shown_same k i x (Some Unset) e = refl
  shown_same k i x (Some Removed) e = refl
  shown_same k i x (Some (Value at)) e = ap (shown_by (HasWidth (width_of at))) (found_same at (value_found parts table k i x at e))

  threads_same : (k : ℕ) → filter (λ i. is_on (v.sample t) (enable_of parts k i)) (instances_of parts k) ≡ filter (λ i. is_on (w.sample t) (enable_of parts k i)) (instances_of parts k)
  threads_same k = (λ j. filter (λ i. on_same k i (enable_of parts k i) refl j) (instances_of parts k))

worlds_same : (parts : TableParts) → IsTable parts → (v w : Samples) → FitsTable parts w → SameSamples v w → AreSame (trace_world parts v) (trace_world parts w)
worlds_same parts table v w fits same = record {
  cycles = same.cycles;
  paths = refl;
  slots = refl;
  status = λ k i x has scope. refl;
  threads = λ t k inside below. threads_same parts table v w fits same t inside k;
  shown = λ t k i x inside thread scope. shown_same parts table v w fits same t inside k i x (binding_of parts k i x) refl;
}

pub same_samples_tell_same : SameSamplesTellSame
same_samples_tell_same parts table v w fits same =
    let worlds = worlds_same parts table v w fits same in
    record { same = worlds; alike = same_worlds_seen_alike (trace_world parts v) (trace_world parts w) worlds }
