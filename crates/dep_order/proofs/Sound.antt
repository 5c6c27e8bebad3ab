-- The drivers of an accepted design are trees of signals.
use Rattle.std.proofs.Common.{◌≡◌, ℕ, Bool, true, true≢false, ◌||◌, ◌==◌, Option, Some, None, is_some, refl, sym, subst, ap, ◌∙◌, eq-eqb, eqb-true}
use Rattle.std.specs.Prelude.{find, option_map, option_and_then}
use Rattle.std.proofs.lemmas.Option.{none-some}
use Rattle.tree_core.specs.Tree.{Tree}
use Rattle.tree_core.specs.Width.{WellFormed}
use Rattle.tree_core.proofs.Same.{both_true}
use Rattle.list_core.specs.Lists.{AreApart, IsIn}
use Rattle.exec_core.specs.Block.{Name, Now, own, body_slots}
use Rattle.exec_core.specs.Trees.{block_trees}
use Rattle.exec_core.specs.Paths.{BodySkips, SomeBit, Checked, TreeFits, TreesChecked}
use Rattle.exec_core.specs.Whole.{Place, OverSignals}
use Rattle.exec_core.specs.Design.{Process, place, moved, signals_of, width_in, links_to, assigns_to, process_tree, or_else, driver_of}
use Rattle.exec_core.specs.Run as run
use Rattle.exec_core.specs.Accepted.{LinkFits}
use Rattle.exec_core.proofs.Checking.{trees_checked}
use Rattle.list_core.proofs.Lists.{each_member, filter_member, find_member, flat_map_apart}
use Rattle.exec_core.proofs.Moving.{moved_fits, good_leaves}
use Rattle.list_core.proofs.Options.{some_same}
use Rattle.design_core.specs.Design as design
use Rattle.design_exec.specs.Processes.{processes_of, is_signal_of}
use Rattle.check_exec.specs.Premises.{IsSound}
use Rattle.check_exec.proofs.Checks.{blocks_are_checked}
use Rattle.check_exec.proofs.Latches.{no_latch_is_left}
use Rattle.check_exec.proofs.Links.{links_fit}
use Rattle.check_exec.proofs.Slots.{slots_are_apart}
use Rattle.ssa_core.proofs.Wide.{width_of_process}
use Rattle.place_core.specs.Linking.{Link}
use Rattle.dep_order.specs.Wiring.{shown_tree}
use Rattle.dep_order.specs.Ordering.{is_met_in, shown_driver, AcceptedAreTrees}

module _ (d : design.Design) (sound : IsSound d) where
  apart : (b : Process) → IsIn b (processes_of d).processes → AreApart (body_slots b.body)
  apart b m =
      flat_map_apart (λ (c : Process). body_slots c.body) (run.processes_of (processes_of d) b.instance) b (filter_member (λ c. c.instance == b.instance) (processes_of d).processes b m (eq-eqb _ _ refl))
      (slots_are_apart d sound.kept b.instance)

  checked : (b : Process) → IsIn b (processes_of d).processes → TreesChecked (signals_of (processes_of d) b) (width_in (processes_of d) b) b.body
  checked b m =
      trees_checked (signals_of (processes_of d) b) (width_in (processes_of d) b) b.body
      (each_member (λ b. Checked (signals_of (processes_of d) b) (width_in (processes_of d) b) b.body) (processes_of d).processes (blocks_are_checked d sound) b m) (apart b m)

  known : (b : Process) (x : Name) → own b.body x ≡ true → (own b.body x || signals_of (processes_of d) b x) ≡ true
  known b x e = ap (λ (c : Bool). c || signals_of (processes_of d) b x) e

  process_over : (b : Process) → IsIn b (processes_of d).processes → (p : Place) (t : Tree Place) → own b.body p.name ≡ true → process_tree (processes_of d) p b ≡ Some t → OverSignals (is_signal_of d) t
  process_over b m p t is e = go (block_trees (width_in (processes_of d) b) b.body (Now p.name)) ((checked b m).ends (Now p.name) (known b p.name is)) e
    where
      go : (o : Option (Tree Name)) → TreeFits (signals_of (processes_of d) b) (width_in (processes_of d) b) (width_in (processes_of d) b p.name) o → option_map (moved b.instance) o ≡ Some t → OverSignals (is_signal_of d) t
      go None h f = absurd (none-some t f)
      go (Some u) h f =
          good_leaves (λ q. is_signal_of d q ≡ true) (processes_of d).width t
          (subst (WellFormed (λ q. is_signal_of d q ≡ true) (processes_of d).width) (some_same (moved b.instance u) t f) (moved_fits (processes_of d) b u h.0).0)

  driver_over : (p : Place) (t : Tree Place) → driver_of (processes_of d) p ≡ Some t → OverSignals (is_signal_of d) t
  driver_over p t e = go (find (links_to p) (processes_of d).links) (find (assigns_to p) (processes_of d).processes) refl refl e
    where
      go : (o : Option Link) (u : Option Process) → find (links_to p) (processes_of d).links ≡ o → find (assigns_to p) (processes_of d).processes ≡ u →
          or_else (option_map (λ (link : Link). link.1) o) (option_and_then (process_tree (processes_of d) p) u) ≡ Some t → OverSignals (is_signal_of d) t
      go (Some l) u f g h =
          let m = find_member (links_to p) (processes_of d).links l f in
          good_leaves (λ q. is_signal_of d q ≡ true) (processes_of d).width t
          (subst (WellFormed (λ q. is_signal_of d q ≡ true) (processes_of d).width) (some_same l.1 t h) (each_member (LinkFits (processes_of d)) (processes_of d).links (links_fit d sound) l m.0).expression)
      go None (Some b) f g h =
          let m = find_member (assigns_to p) (processes_of d).processes b g in
          process_over b m.0 p t (both_true (b.instance == p.instance) (own b.body p.name) m.1).1 h
      go None None f g h = absurd (none-some t h)

  target_has_tree : (b : Process) → IsIn b (processes_of d).processes → (x : Name) → run.IsTarget (processes_of d) b x → is_some (block_trees (width_in (processes_of d) b) b.body (Now x)) ≡ true
  target_has_tree b m x target = go (block_trees (width_in (processes_of d) b) b.body (Now x)) refl
    where
      go : (o : Option (Tree Name)) → block_trees (width_in (processes_of d) b) b.body (Now x) ≡ o → is_some o ≡ true
      go (Some t) e = refl
      go None e =
          absurd (each_member (λ b. (x : Name) → run.IsTarget (processes_of d) b x → SomeBit (width_in (processes_of d) b x) (BodySkips b.body (Now x)) → ⊥) (processes_of d).processes (no_latch_is_left d sound) b m x target (((checked b m).ends_unset x).0 e).1)

  driver_is : (p : Place) → is_signal_of d p ≡ true → is_met_in d p ≡ true → is_some (driver_of (processes_of d) p) ≡ true
  driver_is p s e = go (find (links_to p) (processes_of d).links) (find (assigns_to p) (processes_of d).processes) refl e
    where
      moved_some : (i : ℕ) (o : Option (Tree Name)) → is_some o ≡ true → is_some (option_map (moved i) o) ≡ true
      moved_some i None h = absurd (true≢false (sym h))
      moved_some i (Some t) h = refl

      go : (o : Option Link) (u : Option Process) → find (assigns_to p) (processes_of d).processes ≡ u → (is_some o || is_some u) ≡ true →
          is_some (or_else (option_map (λ (link : Link). link.1) o) (option_and_then (process_tree (processes_of d) p) u)) ≡ true
      go (Some l) u g h = refl
      go None None g h = absurd (true≢false (sym h))
      go None (Some b) g h =
          let m = find_member (assigns_to p) (processes_of d).processes b g in
          let is = both_true (b.instance == p.instance) (own b.body p.name) m.1 in
          moved_some b.instance (block_trees (width_in (processes_of d) b) b.body (Now p.name))
          (target_has_tree b m.0 p.name (is.1, ap (λ (i : ℕ). is_signal_of d (place i p.name)) (eqb-true _ _ is.0) ∙ s))

  process_shown : (p : Place) (o : Option Link) (u : Option Process) → find (assigns_to p) (processes_of d).processes ≡ u →
      or_else (option_map (λ (link : Link). link.1) o) (option_and_then (shown_tree p) u) ≡ or_else (option_map (λ (link : Link). link.1) o) (option_and_then (process_tree (processes_of d) p) u)
  process_shown p o None g = refl
  process_shown p o (Some b) g =
      ap (λ w. or_else (option_map (λ (link : Link). link.1) o) (option_map (moved b.instance) (block_trees w b.body (Now p.name))))
      (sym (width_of_process d sound b (find_member (assigns_to p) (processes_of d).processes b g).0))

  drivers_shown : shown_driver d ≡ driver_of (processes_of d)
  drivers_shown = λ i p. process_shown p (find (links_to p) (processes_of d).links) (find (assigns_to p) (processes_of d).processes) refl i

pub accepted_drivers : AcceptedAreTrees
accepted_drivers d sound = record { shown = drivers_shown d sound; trees = driver_is d sound; over = driver_over d sound }
