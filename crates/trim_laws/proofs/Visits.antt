-- What the trees of a statement tell of a cycle of a run, in an instance.
use Rattle.std.proofs.Common.{◌≡◌, ℕ, zero, suc, ◌+◌, ◌<◌, true, false, List, [], ◌∷◌, length, map, Option, Some, None, option_map, refl, sym, ap, ◌∙◌, subst, arith}
use Rattle.std.specs.Prelude.{◌↔◌, slice_get, slice_index_or, is_some, option_and_then}
use Rattle.std.proofs.lemmas.Bool.{false_from_ne_true}
use Rattle.std.proofs.lemmas.Option.{none-some, same_Some}
use Rattle.bv_core.specs.Value.{Bits}
use Rattle.bv_core.specs.Operators.{flag_of}
use Rattle.tree_core.specs.Tree.{Origin, Whole, value_of}
use Rattle.exec_core.specs.Block.{Name, Now}
use Rattle.list_core.specs.Lists.{IsIn, from}
use Rattle.exec_core.specs.Trees.{Row, block_rows, row_at}
use Rattle.exec_core.specs.Agree.{TellsVisit}
use Rattle.exec_core.specs.Paths.{IsUnset, known_in, known_key, RowChecked}
use Rattle.exec_core.specs.Whole.{Place}
use Rattle.exec_core.specs.Design as exec
use Rattle.exec_core.specs.Design.{signals_of, width_in}
use Rattle.exec_core.specs.Accepted.{Accepted}
use Rattle.exec_core.specs.States.{net_value, ProcessTold, CycleAgrees, CyclesAgree}
use Rattle.exec_core.specs.KeptStates.{SameKept}
use Rattle.list_core.proofs.Lists.{each_member}
use Rattle.exec_core.proofs.Sources.{process_checked}
use Rattle.design_core.specs.Design.{Variant, Design}
use Rattle.design_exec.specs.Processes.{process, processes_of}
use Rattle.check_exec.specs.Premises.{IsSound}
use Rattle.check_exec.proofs.Instances.{Stands}
use Rattle.world_core.specs.Sites.{Site, site_body, sites_of, unset_in, Spot, all_spots}
use Rattle.world_core.specs.Kept.{block_row, whole_in, enable_tree, name_tree}
use Rattle.world_core.specs.Source.{nothing, settled_in, visit_in, unset_among, unset_at}
use Rattle.world_core.proofs.Status.{unset_means, unset_told}
use Rattle.world_laws.proofs.SitesOf.{SiteIs, sites_are, IsOrdered, ordered, spot_is}
use Rattle.world_laws.proofs.Spots.{scope_known, process_in, process_widths, row_slot, enable_value, name_value}

-- ---- options

pub mapped_from : {A B : Type 0} (f : A → B) (o : Option A) (b : B) → option_map f o ≡ Some b → (a : A) × ((o ≡ Some a) × (f a ≡ b))
mapped_from f None b e = absurd (none-some b e)
mapped_from f (Some a) b e = (a, (refl, same_Some (f a) b e))

pub mapped_none : {A B : Type 0} (f : A → B) (o : Option A) → option_map f o ≡ None → o ≡ None
mapped_none f None e = refl
mapped_none f (Some a) e = absurd (none-some (f a) (sym e))

-- a statement that has an enable has a row
pub row_of_enable : (d : Design) (n : ℕ) (p : Spot) (T : Whole) → enable_tree d n p ≡ Some T → (row : Row) × (block_row p.0 ≡ Some row)
row_of_enable d n p T e = by_row (block_row p.0) e
  where
    by_row : (o : Option Row) → option_map (whole_in d n p.1) (option_and_then (λ (row : Row). row.enable) o) ≡ Some T → (row : Row) × (o ≡ Some row)
    by_row (Some row) e = (row, refl)
    by_row None e = absurd (none-some T e)

-- ---- a statement and an instance of its variant

-- a name is unset exactly where it has no tree
pub record SpotUnset (d : Design) (n : ℕ) (p : Spot) : Type 0 where
  pub unset : (x : Name) → name_tree d n p x ≡ None → unset_at d p.0.slot x ≡ true
  pub set : (x : Name) (T : Whole) → name_tree d n p x ≡ Some T → unset_at d p.0.slot x ≡ false

-- what its trees tell under a state, with a run and a cycle
pub record SpotTells (d : Design) (n : ℕ) (run : List (Place → Bits)) (t : ℕ) (H : Origin → Bits) (p : Spot) : Type 0 where
  pub enable : (T : Whole) → enable_tree d n p ≡ Some T → value_of H T ≡ flag_of (is_some (visit_in d run t p.0.slot p.1))
  pub value :
      (x : Name) → IsIn x p.0.names → (T : Whole) → name_tree d n p x ≡ Some T → is_some (visit_in d run t p.0.slot p.1) ≡ true →
      option_and_then (λ env. env (Now x)) (visit_in d run t p.0.slot p.1) ≡ Some (value_of H T)

module _ (d : Design) (sound : IsSound d) (order : List Place) (ok : Accepted (processes_of d) order) where
  module _ (s : Site) (i : ℕ) (v : Variant) (m : IsIn (process i v.signals s.block) (processes_of d).processes) (wide : s.widths ≡ width_in (processes_of d) (process i v.signals s.block)) (row : Row) (is : block_row s ≡ Some row) where
    in_process : row_at s.slot (block_rows (width_in (processes_of d) (process i v.signals s.block)) (site_body s)) ≡ Some row
    in_process = subst (λ w. row_at s.slot (block_rows w (site_body s)) ≡ Some row) wide is

    checked : RowChecked (signals_of (processes_of d) (process i v.signals s.block)) (width_in (processes_of d) (process i v.signals s.block)) (site_body s) row
    checked = (process_checked (processes_of d) order ok (process i v.signals s.block) m).each_row s.slot row in_process

    before_is : (x : Name) → name_tree d (length order) (s, i) x ≡ option_map (whole_in d (length order) i) (row.before (Now x))
    before_is x = ap (λ o. option_map (whole_in d (length order) i) (option_and_then (λ (r : Row). r.before (Now x)) o)) is

    module _ (alone : IsOrdered d s) where
      -- a name is unset by the widths of its process where it is by those of the statement
      unset_wide : (x : Name) → IsUnset s.widths (site_body s) s.slot x ↔ IsUnset (width_in (processes_of d) (process i v.signals s.block)) (site_body s) row.slot x
      unset_wide x = (
        λ h. subst (λ w. IsUnset w (site_body s) row.slot x) wide (subst (λ k. IsUnset s.widths (site_body s) k x) (sym (row_slot s.slot _ row in_process)) h),
        λ h. subst (λ k. IsUnset s.widths (site_body s) k x) (row_slot s.slot _ row in_process) (subst (λ w. IsUnset w (site_body s) row.slot x) (sym wide) h),
      )

      unset_is : (x : Name) → unset_at d s.slot x ≡ unset_in s s.slot x
      unset_is x = ap (λ l. unset_among l s.slot x) alone.alone

      none_unset : (x : Name) → row.before (Now x) ≡ None → unset_at d s.slot x ≡ true
      none_unset x e =
          unset_is x ∙ unset_told s s.slot x ((unset_wide x).1 ((checked.unset x).0 e))

      unset_none : (x : Name) → unset_at d s.slot x ≡ true → row.before (Now x) ≡ None
      unset_none x e =
          (checked.unset x).1 ((unset_wide x).0 (unset_means s s.slot x (sym (unset_is x) ∙ e)))

      pub site_unset : SpotUnset d (length order) (s, i)
      site_unset = record {
        unset = λ x e. none_unset x (mapped_none (whole_in d (length order) i) (row.before (Now x)) (sym (before_is x) ∙ e));
        set = λ x T e. false_from_ne_true (unset_at d s.slot x) (λ u.
            none-some T (sym (ap (option_map (whole_in d (length order) i)) (unset_none x u)) ∙ sym (before_is x) ∙ e));
      }

    module _ (run : List (Place → Bits)) (t : ℕ) (H : Origin → Bits) (agrees : CycleAgrees (processes_of d) (length order) (settled_in run t) H)
        (known : (x : Name) → IsIn x s.names → known_in (signals_of (processes_of d) (process i v.signals s.block)) (site_body s) x ≡ true) where
      tells : TellsVisit (known_key (signals_of (processes_of d) (process i v.signals s.block)) (site_body s)) (net_value (processes_of d) (length order) H (process i v.signals s.block)) row (visit_in d run t s.slot i)
      tells = (each_member (ProcessTold (processes_of d) (length order) (settled_in run t) H) (processes_of d).processes agrees.processes (process i v.signals s.block) m).slots s.slot row in_process

      enable_tells : (T : Whole) → enable_tree d (length order) (s, i) ≡ Some T → value_of H T ≡ flag_of (is_some (visit_in d run t s.slot i))
      enable_tells T e =
          let here : option_map (whole_in d (length order) i) row.enable ≡ Some T = sym (ap (λ o. option_map (whole_in d (length order) i) (option_and_then (λ (r : Row). r.enable) o)) is) ∙ e in
          let tree = mapped_from (whole_in d (length order) i) row.enable T here in
          sym (ap (value_of H) tree.1.1)
          ∙ enable_value (known_key (signals_of (processes_of d) (process i v.signals s.block)) (site_body s)) (net_value (processes_of d) (length order) H (process i v.signals s.block)) row tree.0 (visit_in d run t s.slot i) tree.1.0 tells

      value_tells : (x : Name) → IsIn x s.names → (T : Whole) → name_tree d (length order) (s, i) x ≡ Some T → is_some (visit_in d run t s.slot i) ≡ true
          → option_and_then (λ env. env (Now x)) (visit_in d run t s.slot i) ≡ Some (value_of H T)
      value_tells x at T e seen =
          let tree = mapped_from (whole_in d (length order) i) (row.before (Now x)) T (sym (before_is x) ∙ e) in
          name_value (known_key (signals_of (processes_of d) (process i v.signals s.block)) (site_body s)) (net_value (processes_of d) (length order) H (process i v.signals s.block)) row x tree.0 (visit_in d run t s.slot i) (known x at) tree.1.0 tells seen
          ∙ ap (λ b. Some (value_of H b)) tree.1.1

      pub site_tells : SpotTells d (length order) run t H (s, i)
      site_tells = record { enable = enable_tells; value = value_tells }

  -- the widths of a statement are those of each process of its block
  wide_is : (p : Spot) (among : IsIn p (all_spots d)) →
      p.0.widths ≡ width_in (processes_of d) (process p.1 (each_member (SiteIs d) (sites_of d) (sites_are d) p.0 (ordered d sound.kept p.0 (spot_is d p among).site).among).of.signals p.0.block)
  wide_is p among =
      let is = spot_is d p among in
      let alone = ordered d sound.kept p.0 is.site in
      let site = each_member (SiteIs d) (sites_of d) (sites_are d) p.0 alone.among in
      let stands : Stands d p.1 is.of site.of = record { instance = is.at; variant = ap (slice_get d.variants) is.variant ∙ site.at } in
      process_widths d sound p.1 is.of p.0 site stands

  pub spot_unset : (p : Spot) → IsIn p (all_spots d) → (row : Row) → block_row p.0 ≡ Some row → SpotUnset d (length order) p
  spot_unset p among row e =
      let is = spot_is d p among in
      let alone = ordered d sound.kept p.0 is.site in
      let site = each_member (SiteIs d) (sites_of d) (sites_are d) p.0 alone.among in
      let stands : Stands d p.1 is.of site.of = record { instance = is.at; variant = ap (slice_get d.variants) is.variant ∙ site.at } in
      site_unset p.0 p.1 site.of (process_in d p.1 is.of site.of stands p.0.block site.among) (wide_is p among) row e alone

  pub spot_tells : (run : List (Place → Bits)) (t : ℕ) (H : Origin → Bits) → CycleAgrees (processes_of d) (length order) (settled_in run t) H → (p : Spot) → IsIn p (all_spots d) → (row : Row) → block_row p.0 ≡ Some row
      → SpotTells d (length order) run t H p
  spot_tells run t H agrees p among row e =
      let is = spot_is d p among in
      let alone = ordered d sound.kept p.0 is.site in
      let site = each_member (SiteIs d) (sites_of d) (sites_are d) p.0 alone.among in
      let stands : Stands d p.1 is.of site.of = record { instance = is.at; variant = ap (slice_get d.variants) is.variant ∙ site.at } in
      site_tells p.0 p.1 site.of (process_in d p.1 is.of site.of stands p.0.block site.among) (wide_is p among) row e run t H agrees
      (λ x j. scope_known d p.1 is.of site.of stands p.0.block x (subst (λ l. IsIn x l) site.names j))

-- ---- cycle after cycle

-- a state of a list
abbrev pub state_at : List (Origin → Bits) → ℕ → Origin → Bits
state_at states t = slice_index_or states t (λ o. record { width = 1; value = 0 })

pub record CyclesAre (d : exec.Design) (n : ℕ) (run : List (Place → Bits)) (states : List (Origin → Bits)) : Type 0 where
  pub count : length run ≡ length states
  pub each : (t : ℕ) → t < length states → CycleAgrees d n (slice_index_or run t nothing) (state_at states t)

pub cycles_are : (d : exec.Design) (n : ℕ) (run : List (Place → Bits)) (states : List (Origin → Bits)) → CyclesAgree d n run states → CyclesAre d n run states
cycles_are d n [] [] h = record { count = refl; each = λ t l. absurd (omega arith) }
cycles_are d n [] (G ∷ states) h = absurd h
cycles_are d n (E ∷ run) [] h = absurd h
cycles_are d n (E ∷ run) (G ∷ states) h =
    let rest = cycles_are d n run states h.1 in
    record { count = ap suc rest.count; each = by_cycle rest.each }
  where
    by_cycle : ((j : ℕ) → j < length states → CycleAgrees d n (slice_index_or run j nothing) (state_at states j)) → (t : ℕ) → t < suc (length states) → CycleAgrees d n (slice_index_or (E ∷ run) t nothing) (state_at (G ∷ states) t)
    by_cycle later zero l = h.0
    by_cycle later (suc t) l = later t (omega arith)

-- kept trees have the values that the states give them
pub kept_values : (kept : Whole → Type 0) (f : ℕ → Origin → Bits) (a m : ℕ) (states : List (Origin → Bits)) → SameKept kept (map f (from a m)) states
    → (t : ℕ) → t < m → (T : Whole) → kept T → value_of (f (a + t)) T ≡ value_of (state_at states t) T
kept_values kept f a zero states h t l T k = absurd (omega arith)
kept_values kept f a (suc m) [] h t l T k = absurd h
kept_values kept f a (suc m) (H ∷ states) h zero l T k = ap (λ j. value_of (f j) T) (let e : a + 0 ≡ a = omega arith in e) ∙ h.0 T k
kept_values kept f a (suc m) (H ∷ states) h (suc t) l T k =
    ap (λ j. value_of (f j) T) (let e : a + suc t ≡ a + 1 + t = omega arith in e) ∙ kept_values kept f (a + 1) m states h.1 t (omega arith) T k
