-- In a run of an accepted design each name that has a width has a value of it at each thread.
use Rattle.std.proofs.Common.{◌≡◌, ℕ, zero, suc, ◌+◌, ◌<◌, ◌==◌, ◌||◌, Bool, true, false, true≢false, List, [], ◌∷◌, length, map, Option, Some, None, option_map, if◌then◌else◌, refl, sym, ap, ◌∙◌, subst, arith, eqb-true, eq-eqb}
use Rattle.std.specs.Prelude.{slice_get, is_some, option_and_then}
use Rattle.std.proofs.lemmas.Option.{none-some, same_Some, slice_get-map}
use Rattle.bv_core.specs.Value.{Bits}
use Rattle.tree_core.specs.Tree.{Tree, Whole, value_of}
use Rattle.tree_core.specs.Width.{width_of, tree_width, IsOf}
use Rattle.tree_core.specs.Fold.{constant}
use Rattle.tree_core.proofs.Folding.{value_is}
use Rattle.exec_core.specs.Block.{Name, Now}
use Rattle.exec_core.specs.Exec.{Env}
use Rattle.list_core.specs.Lists.{IsIn, from}
use Rattle.exec_core.specs.Trees.{Row, block_rows, row_at}
use Rattle.exec_core.specs.Agree.{Shows, TellsVisit}
use Rattle.exec_core.specs.Paths.{TreeFits, known_in}
use Rattle.exec_core.specs.Whole.{Place, IsOrder}
use Rattle.exec_core.specs.Design as exec
use Rattle.exec_core.specs.Design.{Process, place, same_place, within, moved, signals_of, width_in, folded_tree, driver_of}
use Rattle.exec_core.specs.Run as runs
use Rattle.exec_core.specs.Run.{Settled, next_value, IsRun, thread_of}
use Rattle.exec_core.specs.Accepted.{Accepted}
use Rattle.exec_core.proofs.Slots.{blocks_agree}
use Rattle.exec_core.proofs.Checking.{checked_bits}
use Rattle.list_core.proofs.Lists.{each_member, filter_member}
use Rattle.exec_core.proofs.Threads.{block_row_in, none_visits, visits_here}
use Rattle.exec_core.proofs.Moving.{value_moved, moved_fits, signal_width}
use Rattle.exec_core.proofs.Sources.{same_place-sound, block_apart, block_checked, process_checked}
use Rattle.exec_core.proofs.Folded.{nodes_by_node}
use Rattle.design_core.specs.declared.design.Instance.{Instance}
use Rattle.design_core.specs.Design.{Design}
use Rattle.design_exec.specs.Processes.{process, processes_of}
use Rattle.check_exec.proofs.Instances.{clean}
use Rattle.check_exec.proofs.Checks.{widths_are}
use Rattle.check_exec.specs.Premises.{IsSound}
use Rattle.list_core.proofs.Listing.{some_at, filter_from, from_in, from_at}
use Rattle.check_exec.proofs.Facts.{in_at}
use Rattle.check_exec.proofs.Instances.{Stands}
use Rattle.check_exec.proofs.Ready.{accepted_is_ready}
use Rattle.world_core.specs.declared.mode.Mode.{Mode}
use Rattle.world_core.specs.World as world
use Rattle.world_core.specs.World.{Status, IsUnset, IsRemoved, HasWidth, shown_by, Unknown, IsInScope}
use Rattle.world_core.specs.Sites.{site_body, Site, sites_of, sites_at, sites_in_order, slot_count}
use Rattle.world_core.specs.Kept.{block_row, whole_in, name_tree, is_kept}
use Rattle.world_core.specs.Source.{settled_in, visit_in, unset_at, tree_among, tree_before, kept_status, status_at, shows_of, value_before, source_world}
use Rattle.world_laws.specs.Values.{HasValue, SourceHasValues, SourceIsKnown}
use Rattle.world_laws.proofs.SitesOf.{SiteIs, sites_are, site_slot, ordered, order_slots}
use Rattle.world_laws.proofs.Spots.{scope_known, process_in, not_there}

-- ---- options

mapped_from : {A B : Type 0} (f : A → B) (o : Option A) (b : B) → option_map f o ≡ Some b → (a : A) × ((o ≡ Some a) × (f a ≡ b))
mapped_from f None b e = absurd (none-some b e)
mapped_from f (Some a) b e = (a, (refl, same_Some (f a) b e))

then_from : {A B : Type 0} (f : A → Option B) (o : Option A) (b : B) → option_and_then f o ≡ Some b → (a : A) × ((o ≡ Some a) × (f a ≡ Some b))
then_from f None b e = absurd (none-some b e)
then_from f (Some a) b e = (a, (refl, e))

is_there : {A : Type 0} (o : Option A) → is_some o ≡ true → (a : A) × (o ≡ Some a)
is_there None e = absurd (true≢false (sym e))
is_there (Some a) e = (a, refl)

-- ---- each cycle of a run has settled

record HasSettled (d : exec.Design) (E : Place → Bits) : Type 0 where
  registers : Place → Bits
  row : Name → Bits
  settled : Settled d registers row E

settled_at : (d : exec.Design) (registers : Place → Bits) (rows : List (Name → Bits)) (run : List (Place → Bits)) → IsRun d registers rows run → (t : ℕ) → t < length run → HasSettled d (settled_in run t)
settled_at d registers [] [] r t l = absurd (omega arith)
settled_at d registers [] (E ∷ run) r t l = absurd r
settled_at d registers (row ∷ rows) [] r t l = absurd r
settled_at d registers (row ∷ rows) (E ∷ run) r zero l = record { registers = registers; row = row; settled = r.0 }
settled_at d registers (row ∷ rows) (E ∷ run) r (suc t) l = settled_at d (next_value d E) rows run r.1 t (omega arith)

-- ---- a name at a visited slot of a process

-- a value of the width of a tree
HasTreeValue : Whole → Option Bits → Type 0
HasTreeValue T v = (bits : Bits) × ((v ≡ Some bits) × IsOf (tree_width T) bits)

module _ (d : exec.Design) (order : List Place) (ok : Accepted d order) (registers : Place → Bits) (row : Name → Bits) (E : Place → Bits) (s : Settled d registers row E) (b : Process) (m : IsIn b d.processes) (slot : ℕ) (r : Row) (e : row_at slot (block_rows (width_in d b) b.body) ≡ Some r) where
  row_tells : TellsVisit (λ y. true) (value_of (within b.instance E)) r (thread_of d E b.instance slot)
  row_tells =
      let bits = checked_bits (signals_of d b) (width_in d b) b.body (block_checked d order ok b m) (within b.instance E) (λ x k. subst (λ w. IsOf w (E (place b.instance x))) (sym (signal_width d b x k)) (s.widths (place b.instance x) k)) in
      let here = visits_here d E slot (runs.processes_of d b.instance) b (ok.slots b.instance) (filter_member (λ (c : Process). c.instance == b.instance) d.processes b m (eq-eqb _ _ refl)) (block_row_in (width_in d b) slot b.body r e) in
      subst (TellsVisit (λ y. true) (value_of (within b.instance E)) r) (sym here)
      ((blocks_agree (width_in d b) (within b.instance E) b.body bits).each (block_apart d order ok b m) slot r e)

  name_has : (x : Name) → known_in (signals_of d b) b.body x ≡ true → (t : Tree Name) → r.before (Now x) ≡ Some t → (env : Env Bits) → thread_of d E b.instance slot ≡ Some env
      → HasTreeValue (folded_tree d (length order) (moved b.instance t)) (env (Now x))
  unfolding HasTreeValue
  name_has x known t before env thread =
      let tells = subst (TellsVisit (λ y. true) (value_of (within b.instance E)) r) thread row_tells in
      let value : env (Now x) ≡ Some (value_of (within b.instance E) t) = subst (λ o. Shows (value_of (within b.instance E)) o (env (Now x))) before (tells.3 (Now x) refl) in
      let fits = subst (TreeFits (signals_of d b) (width_in d b) (width_in d b x)) before (((process_checked d order ok b m).each_row slot r e).trees (Now x) known) in
      let there = moved_fits d b t fits.0 in
      let width = ((nodes_by_node d order ok).fits (moved b.instance t) there.0).1 in
      let wide = value_is same_place same_place-sound (λ p. d.is_signal p ≡ true) d.width E (λ p signal. s.widths p signal) (moved b.instance t) there.0 in (
        value_of (within b.instance E) t,
        (
          value,
          subst (λ w. IsOf w (value_of (within b.instance E) t)) (sym width) (subst (IsOf (width_of d.width (moved b.instance t))) (value_moved b.instance E t) wide),
        ),
      )

-- ---- a status

-- where a status tells a width, a value of this width
HasBits : Status → Option Bits → Type 0
HasBits IsUnset v = Unit {0}
HasBits IsRemoved v = Unit {0}
HasBits (HasWidth width) v = (bits : Bits) × ((v ≡ Some bits) × IsOf width bits)

has_by_tree : (kept : Whole → Bool) (o : Option Whole) (v : Option Bits) → ((T : Whole) → o ≡ Some T → HasTreeValue T v) → HasBits (kept_status kept o) v
unfolding HasTreeValue HasBits
has_by_tree kept None v h = tt
has_by_tree kept (Some T) v h = by_test (is_some (constant T) || kept T)
  where
    by_test : (b : Bool) → HasBits (if b then HasWidth (tree_width T) else IsRemoved) v
    by_test true = h T refl
    by_test false = tt

has_by : (unset : Bool) (kept : Whole → Bool) (o : Option Whole) (v : Option Bits) → ((T : Whole) → o ≡ Some T → HasTreeValue T v) → HasBits (if unset then IsUnset else kept_status kept o) v
unfolding HasBits
has_by true kept o v h = tt
has_by false kept o v h = has_by_tree kept o v h

-- ---- a statement of a design

record SiteAt (d : Design) (k : ℕ) (shows : world.Shows) : Type 0 where
  site : Site
  among : IsIn site (sites_in_order d)
  slot : site.slot ≡ k
  shows_it : shows_of d site ≡ shows

site_at : (d : Design) → IsSound d → (k : ℕ) (shows : world.Shows) → slice_get (map (shows_of d) (sites_in_order d)) k ≡ Some shows → SiteAt d k shows
site_at d sound k shows e =
    let got = mapped_from (shows_of d) (slice_get (sites_in_order d) k) shows (sym (slice_get-map (shows_of d) (sites_in_order d) k) ∙ e) in
    let slot : slice_get (from 0 (slot_count d)) k ≡ Some got.0.slot =
    ap (λ xs. slice_get xs k) (sym (order_slots d sound.kept)) ∙ slice_get-map site_slot (sites_in_order d) k ∙ ap (option_map site_slot) got.1.0 in
    record {
      site = got.0;
      among = in_at (sites_in_order d) k got.0 got.1.0;
      slot = from_at 0 (slot_count d) k got.0.slot slot ∙ (let z : 0 + k ≡ k = omega arith in z);
      shows_it = got.1.1;
    }

module _ (d : Design) (sound : IsSound d) (order : List Place) (ok : Accepted (processes_of d) order) (E : Place → Bits) (settled : HasSettled (processes_of d) E) (s : Site) (among : IsIn s (sites_in_order d)) where
  -- an instance that executes it is one of its variant
  of_variant : (i : ℕ) (r : Instance) → slice_get d.instances i ≡ Some r → (env : Env Bits) → thread_of (processes_of d) E i s.slot ≡ Some env → r.variant ≡ s.variant
  of_variant i r at env thread = by_test (r.variant == s.variant) refl
    where
      by_test : (b : Bool) → (r.variant == s.variant) ≡ b → r.variant ≡ s.variant
      by_test true e = eqb-true r.variant s.variant e
      by_test false e = absurd (none-some env (sym (none_visits (processes_of d) E s.slot (runs.processes_of (processes_of d) i) (not_there d sound.kept s among i r at e)) ∙ thread))

  tree_has : (i : ℕ) (r : Instance) → slice_get d.instances i ≡ Some r → (x : Name) → IsIn x s.names → (env : Env Bits) → thread_of (processes_of d) E i s.slot ≡ Some env
      → (T : Whole) → name_tree d (length order) (s, i) x ≡ Some T → HasTreeValue T (env (Now x))
  tree_has i r at x in_scope env thread T e =
      let tree = mapped_from (whole_in d (length order) i) (option_and_then (λ (q : Row). q.before (Now x)) (block_row s)) T e in
      let row = then_from (λ (q : Row). q.before (Now x)) (block_row s) tree.0 tree.1.0 in
      let site = each_member (SiteIs d) (sites_of d) (sites_are d) s (ordered d sound.kept s among).among in
      let stands : Stands d i r site.of = record { instance = at; variant = ap (slice_get d.variants) (of_variant i r at env thread) ∙ site.at } in
      subst (λ (U : Whole). HasTreeValue U (env (Now x))) tree.1.1
      (name_has (processes_of d) order ok settled.registers settled.row E settled.settled (process i site.of.signals s.block) (process_in d i r site.of stands s.block site.among) s.slot row.0
      (subst (λ w. row_at s.slot (block_rows w (site_body s)) ≡ Some row.0) (site.widths ∙ sym (widths_are d sound i r site.of s.block stands (clean d sound.accepted i r site.of stands) site.among)) row.1.0) x
      (scope_known d i r site.of stands s.block x (subst (λ l. IsIn x l) site.names in_scope)) tree.0 row.1.1 env thread)

-- ---- the world of a run

source_has_bits : (d : Design) → IsSound d → (order : List Place) → IsOrder (processes_of d).is_signal (driver_of (processes_of d)) order
    → (mode : Mode) (registers : Place → Bits) (rows : List (Name → Bits)) (run : List (Place → Bits)) → IsRun (processes_of d) registers rows run
    → (t k i : ℕ) (x : Name) → t < length run → IsIn i ((source_world d (length order) mode run).threads t k) → IsInScope (source_world d (length order) mode run) k x
    → HasBits (status_at d (length order) mode k i x) (value_before d run t k i x)
source_has_bits d sound order in_order mode registers rows run is_run t k i x inside thread scope =
    let ok = accepted_is_ready d sound order in_order in
    let z = site_at d sound k scope.shows scope.slot in
    let alone : sites_at d k ≡ z.site ∷ [] = ap (sites_at d) (sym z.slot) ∙ (ordered d sound.kept z.site z.among).alone in
    let mine = filter_from (λ j. is_some (visit_in d run t k j)) (from 0 (length d.instances)) i thread in
    let below : i < length d.instances = (let l = (from_in 0 (length d.instances) i mine.0).1 in omega arith) in
    let r = some_at d.instances i below in
    let env = is_there (visit_in d run t k i) mine.1 in
    has_by (unset_at d k x) (is_kept d (length order) mode) (tree_before d (length order) k i x) (option_and_then (λ (v : Env Bits). v (Now x)) (visit_in d run t k i))
    (λ T e.
    subst (HasTreeValue T) (sym (ap (option_and_then (λ (v : Env Bits). v (Now x))) env.1))
    (tree_has d sound order ok (settled_in run t) (settled_at (processes_of d) registers rows run is_run t inside) z.site z.among i r.0 r.1 x
    (subst (λ (w : world.Shows). IsIn x w.names) (sym z.shows_it) scope.name) env.0 (ap (λ j. visit_in d run t j i) z.slot ∙ env.1) T
    (sym (ap (λ (l : List Site). tree_among d (length order) l i x) alone) ∙ e)))

-- what is shown of such a value
value_is_shown : (status : Status) (v : Option Bits) → HasBits status v → HasValue status (shown_by status v)
unfolding HasBits
value_is_shown IsUnset v h = tt
value_is_shown IsRemoved v h = tt
value_is_shown (HasWidth width) v h = (h.0, (ap (shown_by (HasWidth width)) h.1.0, h.1.1))

pub source_has_values : SourceHasValues
source_has_values d sound order in_order mode registers rows run is_run t k i x inside thread scope =
    value_is_shown (status_at d (length order) mode k i x) (value_before d run t k i x)
    (source_has_bits d sound order in_order mode registers rows run is_run t k i x inside thread scope)

never_unknown : (status : Status) (v : Option Bits) → HasBits status v → shown_by status v ≡ Unknown → ⊥
unfolding HasBits
never_unknown IsUnset v h e = cc
never_unknown IsRemoved v h e = cc
never_unknown (HasWidth width) v h e = by_value v h.1.0 e
  where
    by_value : (u : Option Bits) → u ≡ Some h.0 → shown_by (HasWidth width) u ≡ Unknown → ⊥
    by_value (Some bits) f g = cc
    by_value None f g = none-some h.0 f

pub source_is_known : SourceIsKnown
source_is_known d sound order in_order mode registers rows run is_run t k i x inside thread scope =
    never_unknown (status_at d (length order) mode k i x) (value_before d run t k i x)
    (source_has_bits d sound order in_order mode registers rows run is_run t k i x inside thread scope)
