-- The world that a compiled design tells by its table and the samples of its net is the world of its run.
use Rattle.std.proofs.Common.{◌≡◌, ℕ, zero, suc, ◌+◌, ◌<◌, ◌==◌, Bool, true, false, cond, List, [], ◌∷◌, length, map, Option, Some, None, option_map, if◌then◌else◌, inl, inr, refl, sym, ap, ap₂, ◌∙◌, subst, arith}
use Rattle.std.specs.Prelude.{slice_get, is_some, option_and_then, filter}
use Rattle.std.specs.List.{enumerate_from}
use Rattle.std.proofs.lemmas.Bool.{false_from_ne_true}
use Rattle.std.proofs.lemmas.List.{length-map}
use Rattle.std.proofs.lemmas.Option.{none-some, same_Some, slice_get-map, slice_get-get_or, slice_get_within, get_or_from_slice_get}
use Rattle.bv_core.specs.Value.{Bits}
use Rattle.bv_core.specs.declared.reference.Ref.{Ref}
use Rattle.bv_core.specs.declared.reference.Ref.TheVariants.{Node, Const}
use Rattle.bv_core.specs.declared.reference.Binding.{Binding}
use Rattle.bv_core.specs.declared.reference.Binding.TheVariants as bindings
use Rattle.bv_core.specs.declared.reference.Sample.TheVariants.{Known}
use Rattle.tree_core.specs.Tree.{Leaf, Origin, Input, Register, Whole, value_of}
use Rattle.tree_core.specs.Fold.{constant}
use Rattle.exec_core.specs.Block.{Name, Now}
use Rattle.list_core.specs.Lists.{EachOf, IsIn, IsNotIn, from}
use Rattle.exec_core.specs.Whole.{Place}
use Rattle.exec_core.specs.Kept.{root}
use Rattle.exec_core.specs.Trees.{Row}
use Rattle.exec_core.specs.Run.{starts, slots_in}
use Rattle.exec_core.specs.Accepted.{Accepted}
use Rattle.exec_core.specs.States.{OverGivens, CycleAgrees, RunAgrees}
use Rattle.exec_core.specs.KeptStates.{AreKeptStates, SameKept}
use Rattle.list_core.proofs.Lists.{each_member, each_from}
use Rattle.exec_core.proofs.KeptTrees.{kept_states_suffice}
use Rattle.design_core.specs.declared.design.Instance.{Instance}
use Rattle.design_core.specs.Design.{Gens, Design}
use Rattle.design_core.specs.Ports.{ports_in, top_signals}
use Rattle.design_exec.specs.Processes.{Given, Numbered, processes_of}
use Rattle.net_core.specs.Nodes.{trees_of}
use Rattle.net_core.specs.Builder.{Stands}
use Rattle.net_core.specs.Nets.{NetParts}
use Rattle.net_core.proofs.TreeLists.{trees_length}
use Rattle.symtab.specs.declared.parts.Slot.{Slot}
use Rattle.symtab.specs.declared.parts.InstanceParts.{InstanceParts}
use Rattle.symtab.specs.declared.parts.TableParts.{TableParts}
use Rattle.symtab.specs.Lookups.{instances_of, enable_of, binding_of}
use Rattle.stim_text.specs.Stimulus.{Stimulus}
use Rattle.sim_hist.specs.Run.{run_samples}
use Rattle.check_exec.proofs.Facts.{in_index}
use Rattle.check_exec.proofs.Ready.{runs_of_accepted_agree}
use Rattle.place_core.specs.Orders.{signal_at}
use Rattle.check_exec.proofs.Orders.{orders_are_accepted}
use Rattle.world_core.specs.declared.mode.Mode.{Mode}
use Rattle.world_core.specs.World.{IsUnset, Shows, Shown, shown_by, AreSame}
use Rattle.world_core.specs.Sites.{Site, sites_in_order, sites_at, instances_with, slot_count, spots_of, all_spots}
use Rattle.world_core.specs.Kept.{block_row, asked_trees, name_tree, IsKeptIn, kept_trees, is_kept}
use Rattle.world_core.specs.Source.{settled_in, visit_in, unset_at, tree_among, tree_before, kept_status, status_at, shows_of, rows_named, source_world}
use Rattle.list_core.proofs.Listing.{map_in, got_in, flat_in, filter_from, from_at, from_length}
use Rattle.world_core.proofs.Kept.{number_told, has_told}
use Rattle.world_core.proofs.Seen.{same_worlds_seen_alike}
use Rattle.lower_core.specs.Shape.{gen_part, instance_part, slot_part}
use Rattle.lower_core.specs.Lowered.{HasNode, NextTold}
use Rattle.trace_world.specs.TraceWorld.{gen_of, found_by, is_on, status_by, value_by, shows_by, trace_world}
use Rattle.trim_core.specs.Trimmed.{FoundTold, NameTold, NextKept, bare_slot, IsTrimmed}
use Rattle.world_laws.proofs.SitesOf.{order_slots, ordered}
use Rattle.trim_laws.specs.Worlds.{IsRunOf, WorldsAreSame, WorldsAreSeenAlike}
use Rattle.world_laws.proofs.RowsFit.{Port, IsFirst, inputs_first}
use Rattle.trim_laws.proofs.Running.{rows_of_stimulus}
use Rattle.trim_laws.proofs.States.{state_in, GivensKept, are_states}
use Rattle.world_laws.proofs.Spots.{not_there}
use Rattle.trim_laws.proofs.Visits.{mapped_from, row_of_enable, SpotUnset, SpotTells, spot_unset, spot_tells, state_at, CyclesAre, cycles_are, kept_values}
use Rattle.trim_laws.proofs.Tables.{variant_places, slot_instances, RowIs, row_is, enable_is, CellIs, cell_is}
use Rattle.trim_laws.proofs.Values.{found_status, removed_status, found_value, enable_on}

-- ---- lists

filter_same : {A : Type 0} (f g : A → Bool) (xs : List A) → ((x : A) → IsIn x xs → f x ≡ g x) → filter f xs ≡ filter g xs
filter_same f g [] h = refl
filter_same f g (x ∷ xs) h = ap₂ (λ b l. cond b (x ∷ l) l) (h x (inl refl)) (filter_same f g xs (λ y i. h y (inr i)))

-- the numbers of the instances of a variant that pass a test, where none of another variant does
threads_from : (v : ℕ) (test : ℕ → Bool) (n : ℕ) (list : List Instance) → ((j : ℕ) (r : Instance) → slice_get list j ≡ Some r → (r.variant == v) ≡ false → test (n + j) ≡ false)
    → filter test (map (λ (q : Numbered). q.0) (filter (λ (q : Numbered). q.1.variant == v) (enumerate_from n list))) ≡ filter test (from n (length list))
threads_from v test n [] h = refl
threads_from v test n (r ∷ list) h =
    by_test (threads_from v test (n + 1) list (λ j q at other. subst (λ k. test k ≡ false) (let e : n + suc j ≡ n + 1 + j = omega arith in e) (h (suc j) q at other)))
    (r.variant == v) (λ other. subst (λ k. test k ≡ false) (let e : n + 0 ≡ n = omega arith in e) (h zero r refl other))
  where
    by_test : filter test (map (λ (q : Numbered). q.0) (filter (λ (q : Numbered). q.1.variant == v) (enumerate_from (n + 1) list))) ≡ filter test (from (n + 1) (length list))
        → (b : Bool) → (b ≡ false → test n ≡ false)
        → filter test (map (λ (q : Numbered). q.0) (cond b ((n, r) ∷ filter (λ (q : Numbered). q.1.variant == v) (enumerate_from (n + 1) list)) (filter (λ (q : Numbered). q.1.variant == v) (enumerate_from (n + 1) list))))
        ≡ cond (test n) (n ∷ filter test (from (n + 1) (length list))) (filter test (from (n + 1) (length list)))
    by_test rest true g = ap (λ l. cond (test n) (n ∷ l) l) rest
    by_test rest false g = rest ∙ sym (ap (λ b. cond b (n ∷ filter test (from (n + 1) (length list))) (filter test (from (n + 1) (length list)))) (g refl))

paths_same : (list : List Instance) → map (λ (p : InstanceParts). p.path) (map instance_part list) ≡ map (λ (r : Instance). r.path) list
paths_same [] = refl
paths_same (r ∷ list) = ap (λ l. r.path ∷ l) (paths_same list)

gens_same : (gens : Gens) → map gen_of (map gen_part gens) ≡ gens
gens_same [] = refl
gens_same (g ∷ gens) = ap (λ l. g ∷ l) (gens_same gens)

same_length : (kept : Whole → Type 0) (states others : List (Origin → Bits)) → SameKept kept states others → length states ≡ length others
same_length kept [] [] h = refl
same_length kept [] (H ∷ others) h = absurd h
same_length kept (G ∷ states) [] h = absurd h
same_length kept (G ∷ states) (H ∷ others) h = ap suc (same_length kept states others h.1)

within_some : {A : Type 0} (xs : List A) (k : ℕ) → k < length xs → (x : A) × (slice_get xs k ≡ Some x)
within_some [] k l = absurd (omega arith)
within_some (x ∷ xs) zero l = (x, refl)
within_some (x ∷ xs) (suc k) l = within_some xs k (omega arith)

-- ---- the slots

module _ (d : Design) (parts : TableParts) (places_same : (v : ℕ) → (shows_by parts (record { variant = v; line = 0; gens = []; names = []; rows = [] })).instances ≡ instances_with d v) where
  slots_shown : (slots : List Slot) (sites : List Site) → map bare_slot slots ≡ map slot_part sites → map (shows_by parts) slots ≡ map (shows_of d) sites
  slots_shown [] [] e = refl
  slots_shown [] (s ∷ sites) e = cc
  slots_shown (slot ∷ slots) [] e = cc
  slots_shown (slot ∷ slots) (s ∷ sites) e =
      let head : bare_slot slot ≡ slot_part s = cc in
      let rest : map bare_slot slots ≡ map slot_part sites = cc in
      ap₂ (λ (x : Shows) l. x ∷ l) (one head) (slots_shown slots sites rest)
    where
      one : bare_slot slot ≡ slot_part s → shows_by parts slot ≡ shows_of d s
      one same =
          ap (shows_by parts) same
          ∙ ap₂ (λ (g : Gens) (is : List ℕ). record { line = s.line; gens = g; names = s.names; instances = is }) (gens_same s.gens) (places_same s.variant)

-- ---- a compiled design and its run

module _ (d : Design) (pairs : List (ℕ × ℕ)) (mode : Mode) (net : NetParts) (parts : TableParts) (stim : Stimulus) (run : List (Place → Bits)) (h : IsRunOf d pairs mode net parts stim run) where
  abbrev pub order : List Place
  order = h.order.order

  pub count_same : length pairs ≡ length order
  count_same = sym (length-map pairs (signal_at d)) ∙ ap length h.order.signals ∙ length-map order (λ (p : Place). Some p)

  pub trimmed : IsTrimmed d (length order) mode net parts
  trimmed = subst (λ n. IsTrimmed d n mode net parts) count_same h.trimmed

  pub ok : Accepted (processes_of d) order
  ok = orders_are_accepted d pairs h.sound h.order

  -- a kept tree has a node, and a node's tree is kept
  kept_node : (t : Whole) → IsKeptIn d (length order) mode t → (id : ℕ) × Stands net.nodes id t
  kept_node t k =
      let at = in_index (trees_of net.nodes) t ((trimmed.is_kept.kept t).1 k) in (
        at.0,
        record {
          within = subst (λ m. at.0 < m) (trees_length net.nodes) (slice_get_within (trees_of net.nodes) at.0 t at.1);
          tree = get_or_from_slice_get (trees_of net.nodes) at.0 t _ at.1;
        },
      )

  node_there : (id : ℕ) (t : Whole) → Stands net.nodes id t → IsIn t (trees_of net.nodes)
  node_there id t s =
      got_in (trees_of net.nodes) id t
      (slice_get-get_or (trees_of net.nodes) id _ (subst (λ m. id < m) (sym (trees_length net.nodes)) s.within) ∙ ap (λ u. Some u) s.tree)

  -- ---- states

  told : GivensKept d (length order) (IsKeptIn d (length order) mode) net stim
  told = record {
    first = subst (λ (ps : List Port). EachOf (λ (given : Given). IsFirst ps given.1) (processes_of d).givens) (sym h.inputs) (inputs_first d h.sound);
    nodes = each_from (λ (given : Given). IsKeptIn d (length order) mode (Leaf given.1) → HasNode net.nodes given) (processes_of d).givens (λ given i k. let node = kept_node (Leaf given.1) k in record { id = node.0; stands = node.1 });
    nexts = each_from (λ (given : Given). IsKeptIn d (length order) mode (Leaf given.1) → NextTold d (length order) net given.0 given.1) (processes_of d).givens
        (λ given i. by_origin given.0 given.1 (each_member (λ (q : Given). NextKept d (length order) net q.0 q.1) (processes_of d).givens trimmed.is_kept.nexts given i));
  }
    where
      by_origin : (p : Place) (o : Origin) → NextKept d (length order) net p o → IsKeptIn d (length order) mode (Leaf o) → NextTold d (length order) net p o
      by_origin p (Input name width) g k = tt
      by_origin p (Register instance name start) g k = g ((trimmed.is_kept.kept (Leaf (Register instance name start))).1 k)

  over_roots : EachOf (OverGivens (processes_of d)) (asked_trees d (length order) mode)
  over_roots = each_from (OverGivens (processes_of d)) (asked_trees d (length order) mode) (λ t i.
      let node = kept_node t (root t i) in subst (OverGivens (processes_of d)) node.1.tree (trimmed.is_kept.over node.0 node.1.within))

  pub all : RunAgrees (processes_of d) (length order) (rows_named (ports_in false (top_signals d)) stim.rows)
  all = runs_of_accepted_agree d h.sound order h.order.in_order (rows_named (ports_in false (top_signals d)) stim.rows) (rows_of_stimulus d stim h.sound h.stimulus h.inputs)

  abbrev pub others : List (Origin → Bits)
  others = all.states

  states : AreKeptStates (processes_of d) (length order) (IsKeptIn d (length order) mode) (starts (processes_of d)) (rows_named (ports_in false (top_signals d)) stim.rows) (map (state_in net stim) (from 0 (length stim.rows)))
  states =
      subst (λ (ps : List Port). AreKeptStates (processes_of d) (length order) (IsKeptIn d (length order) mode) (starts (processes_of d)) (rows_named ps stim.rows) (map (state_in net stim) (from 0 (length stim.rows)))) h.inputs
      (are_states d (length order) (IsKeptIn d (length order) mode) net trimmed.is_kept.is_net stim h.stimulus told order ok)

  same : SameKept (IsKeptIn d (length order) mode) (map (state_in net stim) (from 0 (length stim.rows))) others
  same = kept_states_suffice (processes_of d) order ok (asked_trees d (length order) mode) over_roots (rows_named (ports_in false (top_signals d)) stim.rows) (map (state_in net stim) (from 0 (length stim.rows))) others states all.are_states

  pub cycles : CyclesAre (processes_of d) (length order) run others
  cycles = cycles_are (processes_of d) (length order) run others (all.agree run h.run_over others all.are_states)

  pub as_many : length others ≡ length stim.rows
  as_many = sym (same_length (IsKeptIn d (length order) mode) (map (state_in net stim) (from 0 (length stim.rows))) others same) ∙ length-map (from 0 (length stim.rows)) (state_in net stim) ∙ from_length 0 (length stim.rows)

  module _ (t : ℕ) (inside : t < length stim.rows) where
    pub agrees : CycleAgrees (processes_of d) (length order) (settled_in run t) (state_at others t)
    agrees = cycles.each t (subst (λ m. t < m) (sym as_many) inside)

    -- a node has the value of its tree
    pub sample_is : (id : ℕ) (T : Whole) → Stands net.nodes id T → (run_samples net stim).sample t id ≡ Known (value_of (state_at others t) T)
    sample_is id T s =
        ap (λ b. Known b)
        (ap (value_of (state_in net stim t)) s.tree ∙ ap (λ j. value_of (state_in net stim j) T) (let z : t ≡ 0 + t = omega arith in z) ∙ kept_values (IsKeptIn d (length order) mode) (state_in net stim) 0 (length stim.rows) others same t inside T ((trimmed.is_kept.kept T).0 (node_there id T s)))

  -- ---- a statement by its number

  record SiteAt (k : ℕ) : Type 0 where
    site : Site
    at : slice_get (sites_in_order d) k ≡ Some site
    slot : site.slot ≡ k
    among : IsIn site (sites_in_order d)
    alone : sites_at d k ≡ site ∷ []

  site_at : (k : ℕ) (s : Site) → slice_get (sites_in_order d) k ≡ Some s → SiteAt k
  site_at k s e =
      let there : slice_get (from 0 (slot_count d)) k ≡ Some s.slot = ap (λ xs. slice_get xs k) (sym (order_slots d h.sound.kept)) ∙ slice_get-map (λ (z : Site). z.slot) (sites_in_order d) k ∙ ap (option_map (λ (z : Site). z.slot)) e in
      let number : s.slot ≡ k = from_at 0 (slot_count d) k s.slot there ∙ (let z : 0 + k ≡ k = omega arith in z) in
      let i = got_in (sites_in_order d) k s e in
      record { site = s; at = e; slot = number; among = i; alone = ap (sites_at d) (sym number) ∙ (ordered d h.sound.kept s i).alone }

  shown_site : (k : ℕ) (shows : Shows) → slice_get (map (shows_of d) (sites_in_order d)) k ≡ Some shows → (s : Site) × ((slice_get (sites_in_order d) k ≡ Some s) × (shows_of d s ≡ shows))
  shown_site k shows e = mapped_from (shows_of d) (slice_get (sites_in_order d) k) shows (sym (slice_get-map (shows_of d) (sites_in_order d) k) ∙ e)

  module _ (k : ℕ) (z : SiteAt k) where
    module _ (i : ℕ) (of : IsIn i (instances_with d z.site.variant)) where
      spot_in : IsIn (z.site, i) (all_spots d)
      spot_in = flat_in (spots_of d) (sites_in_order d) z.site (z.site, i) z.among (map_in (λ j. (z.site, j)) (instances_with d z.site.variant) i of)

      row : RowIs d (length order) mode net.nodes parts trimmed.tells.shape trimmed.tells.slots k z.site z.at i
      row = row_is d (length order) mode net.nodes parts trimmed.tells.shape trimmed.tells.slots k z.site z.at i of

      block : (r : Row) × (block_row z.site ≡ Some r)
      block = row_of_enable d (length order) (z.site, i) row.row_told.enable row.row_told.is

      unsets : SpotUnset d (length order) (z.site, i)
      unsets = spot_unset d h.sound order ok (z.site, i) spot_in block.0 block.1

      module _ (x : Name) (at : IsIn x z.site.names) where
        cell : CellIs d (length order) mode net.nodes parts trimmed.tells.shape trimmed.tells.slots k z.site z.at i x
        cell = cell_is d (length order) mode net.nodes parts trimmed.tells.shape trimmed.tells.slots k z.site z.at i of x at

        before : tree_before d (length order) k i x ≡ name_tree d (length order) (z.site, i) x
        before = ap (λ sites. tree_among d (length order) sites i x) z.alone

        unset_status : name_tree d (length order) (z.site, i) x ≡ None → IsUnset ≡ status_at d (length order) mode k i x
        unset_status e =
            sym (ap (λ u. if u then IsUnset else kept_status (is_kept d (length order) mode) (tree_before d (length order) k i x)) (ap (λ j. unset_at d j x) (sym z.slot) ∙ unsets.unset x e))

        kept_at : (T : Whole) → name_tree d (length order) (z.site, i) x ≡ Some T → kept_status (is_kept d (length order) mode) (Some T) ≡ status_at d (length order) mode k i x
        kept_at T e =
            sym (ap (λ u. if u then IsUnset else kept_status (is_kept d (length order) mode) (tree_before d (length order) k i x)) (ap (λ j. unset_at d j x) (sym z.slot) ∙ unsets.set x T e)
            ∙ ap (kept_status (is_kept d (length order) mode)) (before ∙ e))

        node_has : (T : Whole) (id : ℕ) → Stands net.nodes id T → is_kept d (length order) mode T ≡ true
        node_has T id stands = has_told T (kept_trees d (length order) mode) (subst (λ ts. IsIn T ts) trimmed.is_kept.numbered (node_there id T stands))

        status_is : (o : Option Whole) → name_tree d (length order) (z.site, i) x ≡ o → (c : Binding) → NameTold d (length order) mode net.nodes o c → status_by (Some c) ≡ status_at d (length order) mode k i x
        status_is None e (bindings.Value at) g = absurd g
        status_is None e bindings.Removed g = absurd g
        status_is None e bindings.Unset g = unset_status e
        status_is (Some T) e bindings.Unset g = absurd g
        status_is (Some T) e bindings.Removed g =
            removed_status (is_kept d (length order) mode) T g.0 (false_from_ne_true (is_kept d (length order) mode T) (λ k. g.1 ((trimmed.is_kept.kept T).0 (subst (λ ts. IsIn T ts) (sym trimmed.is_kept.numbered) (number_told T (kept_trees d (length order) mode) k)))))
            ∙ kept_at T e
        status_is (Some T) e (bindings.Value at) g = found_status (is_kept d (length order) mode) net.nodes T at (has at g) g ∙ kept_at T e
          where
            has : (at : Ref) → FoundTold net.nodes T at → constant T ≡ None → is_kept d (length order) mode T ≡ true
            has (Const b) g none = absurd (none-some b (sym none ∙ g))
            has (Node id width) g none = node_has T id.0 g.1.0

        same_status : status_by (binding_of parts k i x) ≡ status_at d (length order) mode k i x
        same_status = ap status_by cell.is ∙ status_is (name_tree d (length order) (z.site, i) x) refl cell.cell cell.cell_told

      -- ---- in a cycle

      module _ (t : ℕ) (inside : t < length stim.rows) where
        tells : SpotTells d (length order) run t (state_at others t) (z.site, i)
        tells = spot_tells d h.sound order ok run t (state_at others t) (agrees t inside) (z.site, i) spot_in block.0 block.1

        found : (T : Whole) (at : Ref) → FoundTold net.nodes T at → found_by ((run_samples net stim).sample t) at ≡ Some (value_of (state_at others t) T)
        found T at g = found_value net.nodes (value_of (state_at others t)) ((run_samples net stim).sample t) (λ b. refl) T at g (λ id stands. sample_is t inside id T stands)

        same_enable : is_on ((run_samples net stim).sample t) (enable_of parts k i) ≡ is_some (visit_in d run t k i)
        unfolding row
        same_enable =
            ap (is_on ((run_samples net stim).sample t)) (enable_is d (length order) mode net.nodes parts trimmed.tells.shape trimmed.tells.slots k z.site z.at i of)
            ∙ enable_on ((run_samples net stim).sample t) row.row.on (value_of (state_at others t) row.row_told.enable) (is_some (visit_in d run t z.site.slot i)) (found row.row_told.enable row.row.on row.row_told.on) (tells.enable row.row_told.enable row.row_told.is)
            ∙ ap (λ j. is_some (visit_in d run t j i)) z.slot

        module _ (seen : is_some (visit_in d run t k i) ≡ true) (x : Name) (at : IsIn x z.site.names) where
          source : Shown
          source = shown_by (status_at d (length order) mode k i x) (option_and_then (λ env. env (Now x)) (visit_in d run t k i))

          shown_is : (o : Option Whole) → name_tree d (length order) (z.site, i) x ≡ o → (c : Binding) → NameTold d (length order) mode net.nodes o c
              → shown_by (status_at d (length order) mode k i x) (value_by ((run_samples net stim).sample t) (Some c)) ≡ shown_by (status_at d (length order) mode k i x) (option_and_then (λ env. env (Now x)) (visit_in d run t k i))
          shown_is None e (bindings.Value at) g = absurd g
          shown_is None e bindings.Removed g = absurd g
          shown_is None e bindings.Unset g = by_status (unset_status x at e)
            where
              by_status : IsUnset ≡ status_at d (length order) mode k i x → shown_by (status_at d (length order) mode k i x) None ≡ shown_by (status_at d (length order) mode k i x) (option_and_then (λ env. env (Now x)) (visit_in d run t k i))
              by_status f = ap (λ st. shown_by st None) (sym f) ∙ ap (λ st. shown_by st (option_and_then (λ env. env (Now x)) (visit_in d run t k i))) f
          shown_is (Some T) e bindings.Unset g = absurd g
          shown_is (Some T) e bindings.Removed g =
              let f = status_is x at (Some T) e bindings.Removed g in
              ap (λ st. shown_by st None) (sym f) ∙ ap (λ st. shown_by st (option_and_then (λ env. env (Now x)) (visit_in d run t k i))) f
          shown_is (Some T) e (bindings.Value at_ref) g =
              ap (shown_by (status_at d (length order) mode k i x))
              (found T at_ref g ∙ sym (ap (λ j. option_and_then (λ env. env (Now x)) (visit_in d run t j i)) (sym z.slot) ∙ tells.value x at T e (ap (λ j. is_some (visit_in d run t j i)) z.slot ∙ seen)))

          same_shown : shown_by (status_by (binding_of parts k i x)) (value_by ((run_samples net stim).sample t) (binding_of parts k i x)) ≡ shown_by (status_at d (length order) mode k i x) (option_and_then (λ env. env (Now x)) (visit_in d run t k i))
          same_shown =
              ap (λ st. shown_by st (value_by ((run_samples net stim).sample t) (binding_of parts k i x))) (same_status x at)
              ∙ ap (λ c. shown_by (status_at d (length order) mode k i x) (value_by ((run_samples net stim).sample t) c)) (cell x at).is
              ∙ shown_is (name_tree d (length order) (z.site, i) x) refl (cell x at).cell (cell x at).cell_told

    -- the threads of a statement
    same_threads : (t : ℕ) → t < length stim.rows
        → filter (λ i. is_on ((run_samples net stim).sample t) (enable_of parts k i)) (instances_of parts k) ≡ filter (λ i. is_some (visit_in d run t k i)) (from 0 (length d.instances))
    same_threads t inside =
        ap (filter (λ i. is_on ((run_samples net stim).sample t) (enable_of parts k i))) (slot_instances d (length order) mode net.nodes parts trimmed.tells.shape trimmed.tells.slots k z.site z.at)
        ∙ filter_same (λ i. is_on ((run_samples net stim).sample t) (enable_of parts k i)) (λ i. is_some (visit_in d run t k i)) (instances_with d z.site.variant) (λ i of. same_enable i of t inside)
        ∙ threads_from z.site.variant (λ i. is_some (visit_in d run t k i)) 0 d.instances (λ j r at other.
        ap is_some (ap (λ m. visit_in d run t m (0 + j)) (sym z.slot)
        ∙ (agrees t inside).nothing (0 + j) z.site.slot (subst (λ m. IsNotIn z.site.slot (slots_in (processes_of d) m)) (let e : j ≡ 0 + j = omega arith in e) (not_there d h.sound.kept z.site z.among j r at other))))

    -- a thread is an instance of the statement's variant
    thread_of_variant : (t : ℕ) → t < length stim.rows → (i : ℕ) → IsIn i (filter (λ j. is_some (visit_in d run t k j)) (from 0 (length d.instances))) → IsIn i (instances_with d z.site.variant) × (is_some (visit_in d run t k i) ≡ true)
    thread_of_variant t inside i among =
        let mine = filter_from (λ j. is_some (visit_in d run t k j)) (from 0 (length d.instances)) i among in
        let theirs = filter_from (λ j. is_on ((run_samples net stim).sample t) (enable_of parts k j)) (instances_of parts k) i (subst (λ l. IsIn i l) (sym (same_threads t inside)) among) in
        (subst (λ l. IsIn i l) (slot_instances d (length order) mode net.nodes parts trimmed.tells.shape trimmed.tells.slots k z.site z.at) theirs.0, mine.1)

  number_same : length (map (shows_of d) (sites_in_order d)) ≡ length (sites_in_order d)
  number_same = length-map (sites_in_order d) (shows_of d)

  site_below : (k : ℕ) → k < length (map (shows_of d) (sites_in_order d)) → SiteAt k
  site_below k l =
      by_site (slice_get (sites_in_order d) k) refl
    where
      by_site : (o : Option Site) → slice_get (sites_in_order d) k ≡ o → SiteAt k
      by_site (Some s) e = site_at k s e
      by_site None e = absurd (some_there (subst (λ m. k < m) number_same l))
        where
          some_there : k < length (sites_in_order d) → ⊥
          some_there l = let got = within_some (sites_in_order d) k l in none-some got.0 (sym e ∙ got.1)

  same_world : AreSame (trace_world parts (run_samples net stim)) (source_world d (length order) mode run)
  unfolding site_at shown_site
  same_world = record {
    cycles = sym (cycles.count ∙ as_many);
    paths = ap (λ (p : TableParts). map (λ (q : InstanceParts). q.path) p.instances) trimmed.tells.shape ∙ paths_same d.instances;
    slots = slots_shown d parts (λ v. variant_places d (length order) mode net.nodes parts trimmed.tells.shape trimmed.tells.slots v) parts.slots (sites_in_order d) (ap (λ (p : TableParts). p.slots) trimmed.tells.shape);
    status = λ k i x has scope.
        let mine = shown_site k has.shows has.slot in
        let z = site_at k mine.0 mine.1.0 in
        let other = shown_site k scope.shows scope.slot in
        let names : IsIn x mine.0.names = subst (λ (q : Site). IsIn x q.names) (same_Some other.0 mine.0 (sym other.1.0 ∙ mine.1.0)) (subst (λ (w : Shows). IsIn x w.names) (sym other.1.1) scope.name) in
        same_status k z i (subst (λ (w : Shows). IsIn i w.instances) (sym mine.1.1) has.instance) x names;
    threads = λ t k inside l. same_threads k (site_below k l) t (subst (λ m. t < m) (cycles.count ∙ as_many) inside);
    shown = λ t k i x inside thread scope.
        let mine = shown_site k scope.shows scope.slot in
        let z = site_at k mine.0 mine.1.0 in
        let now : t < length stim.rows = subst (λ m. t < m) (cycles.count ∙ as_many) inside in
        let of = thread_of_variant k z t now i thread in
        same_shown k z i of.0 t now of.1 x (subst (λ (w : Shows). IsIn x w.names) (sym mine.1.1) scope.name);
  }

pub worlds_are_same : WorldsAreSame
worlds_are_same d pairs mode net parts stim run h =
    subst (λ n. AreSame (trace_world parts (run_samples net stim)) (source_world d n mode run)) (sym (count_same d pairs mode net parts stim run h)) (same_world d pairs mode net parts stim run h)

pub worlds_are_seen_alike : WorldsAreSeenAlike
worlds_are_seen_alike d pairs mode net parts stim run h =
    same_worlds_seen_alike (trace_world parts (run_samples net stim)) (source_world d (length pairs) mode run) (worlds_are_same d pairs mode net parts stim run h)
