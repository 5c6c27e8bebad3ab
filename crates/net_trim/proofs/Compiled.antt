-- What trimming makes of a lowered design.
use Rattle.std.proofs.Common.{◌≡◌, ℕ, ◌<◌, ◌^◌, List, [], length, map, Option, Some, None, sym, ap, ◌∙◌, subst, arith}
use Rattle.std.specs.Prelude.{All}
use Rattle.std.proofs.lemmas.List.{length-map}
use Rattle.std.proofs.lemmas.Option.{none-some, same_Some}
use Rattle.bv_core.specs.declared.reference.NodeId.{NodeId}
use Rattle.tree_core.specs.Tree.{Origin}
use Rattle.list_core.specs.Lists.{EachOf, IsIn, from}
use Rattle.exec_core.specs.Kept.{root, next_in, NumberedAreKept}
use Rattle.design_exec.specs.Processes.{processes_of}
use Rattle.net_core.specs.Nodes.{trees_of, tree_of}
use Rattle.net_core.specs.Builder.{Stands}
use Rattle.net_core.specs.Nets.{NetParts, IsNet}
use Rattle.symtab.specs.declared.parts.TableParts.{TableParts}
use Rattle.symtab.specs.Shape.{IsTable}
use Rattle.world_core.specs.Sites.{Site, slot_count, sites_in_order, all_spots}
use Rattle.world_core.specs.Kept.{asked_trees, IsKeptIn}
use Rattle.list_core.proofs.Listing.{from_length}
use Rattle.world_laws.proofs.SitesOf.{order_slots}
use Rattle.lower_core.specs.declared.row.FullRow.{FullRow}
use Rattle.lower_core.specs.declared.row.Lowered as code
use Rattle.lower_core.specs.Shape.{slot_part}
use Rattle.walk_net.specs.Next.{trees_by, next_whole}
use Rattle.walk_net.specs.Renaming.{id_at, IsNode}
use Rattle.walk_net.specs.Answer.{IsRoot, IsKeptAs, AreIds, AreNumbers, OutputsStand, NextStands}
use Rattle.trim_core.specs.Trimmed.{IsKeptNet, TellsDesign, IsTrimmed}
use Rattle.trim_table.proofs.Tables.{trimmed_are_tables}
use Rattle.net_trim.specs.Roots.{root_ids}
use Rattle.net_trim.specs.Made.{CanBeMade, AreFilled}
use Rattle.net_trim.specs.Whole.{Ordered, IsLoweredOf, ArePartsMade}
use Rattle.net_trim.proofs.Asked.{asked_are, asked_nodes, outputs_asked, enable_asked}
use Rattle.net_trim.proofs.Nexts.{nexts_same}
use Rattle.net_trim.proofs.Nets.{IsKeptOf, net_is_kept}
use Rattle.net_trim.proofs.Told.{AreNewIds, slots_told, rows_can, bare_filled}

-- what a walk from these roots gave
pub record IsWalkedFrom (net : NetParts) (roots : List NodeId) (kept : NetParts) (ids : List (Option NodeId)) : Type 0 where
  pub rounds : AreNumbers (trees_by net.nodes roots) (next_whole net) (trees_of kept.nodes)
  pub are_kept : NumberedAreKept (trees_by net.nodes roots) (next_whole net) (trees_of kept.nodes)
  pub are_ids : AreIds (trees_by net.nodes roots) (next_whole net) net.nodes kept.nodes ids
  pub outputs : OutputsStand net.nodes kept.nodes net.outputs kept.outputs
  pub nexts : EachOf (NextStands (next_whole net) kept.nodes) kept.nexts
  pub is_net : IsNet kept

pub kept_of : (net : NetParts) (roots : List NodeId) (kept : NetParts) (ids : List (Option NodeId)) → IsWalkedFrom net roots kept ids → IsKeptOf net (trees_by net.nodes roots) kept
kept_of net roots kept ids w = record { rounds = w.rounds; are_kept = w.are_kept; outputs = w.outputs; nexts = w.nexts; is_net = w.is_net }

module _ (of : Ordered) (l : code.Lowered) (h : IsLoweredOf of l) where
  -- ---- what is asked for

  pub roots_are_nodes : (roots : List NodeId) → roots ≡ root_ids l.net.outputs l.mode l.rows → EachOf (IsNode l.net.nodes) roots
  roots_are_nodes roots e = subst (EachOf (IsNode l.net.nodes)) (sym e) (asked_nodes of.design (length of.pairs) l.net.nodes l.net.outputs h.lowered.outputs l.mode l.rows h.lowered.rows)

  pub outputs_are_roots : (roots : List NodeId) → roots ≡ root_ids l.net.outputs l.mode l.rows → EachOf (IsRoot l.net.nodes (trees_by l.net.nodes roots)) l.net.outputs
  outputs_are_roots roots e = subst (λ ids. EachOf (IsRoot l.net.nodes (trees_by l.net.nodes ids)) l.net.outputs) (sym e) (outputs_asked l.net.nodes l.net.outputs l.mode l.rows)

  -- ---- ids

  module _ (kept : NetParts) (ids : List (Option NodeId)) (are : AreIds (trees_by l.net.nodes (root_ids l.net.outputs l.mode l.rows)) (next_whole l.net) l.net.nodes kept.nodes ids) where
    ids_of_design : AreIds (trees_by l.net.nodes (root_ids l.net.outputs l.mode l.rows)) (next_in (processes_of of.design) (length of.pairs)) l.net.nodes kept.nodes ids
    ids_of_design =
        subst (λ next. AreIds (trees_by l.net.nodes (root_ids l.net.outputs l.mode l.rows)) next l.net.nodes kept.nodes ids) (λ i o. next_of_design o i) are
      where
        next_of_design : (o : Origin) → next_whole l.net o ≡ next_in (processes_of of.design) (length of.pairs) o
        next_of_design o = nexts_same of.design (length of.pairs) l.mode l h.lowered o

    are_new : AreNewIds (IsKeptIn of.design (length of.pairs) l.mode) l.net.nodes kept.nodes ids
    are_new = record {
      numbered = h.lowered.is_net.shared.numbered;
      some = λ j id within e. some_at j (id_at ids j) (its j within) id e;
      none = λ j within e. none_at j (id_at ids j) (its j within) e;
    }
      where
        its : (j : ℕ) → j < length l.net.nodes → IsKeptAs (asked_trees of.design (length of.pairs) l.mode) (next_in (processes_of of.design) (length of.pairs)) kept.nodes (tree_of l.net.nodes j) (id_at ids j)
        its j within = subst (λ roots. IsKeptAs roots (next_in (processes_of of.design) (length of.pairs)) kept.nodes (tree_of l.net.nodes j) (id_at ids j)) (asked_are of.design (length of.pairs) l.net.nodes l.net.outputs h.lowered.outputs l.mode l.rows h.lowered.rows) (ids_of_design.each j within)

        some_at : (j : ℕ) (o : Option NodeId) → IsKeptAs (asked_trees of.design (length of.pairs) l.mode) (next_in (processes_of of.design) (length of.pairs)) kept.nodes (tree_of l.net.nodes j) o → (id : NodeId) → o ≡ Some id → Stands kept.nodes id.0 (tree_of l.net.nodes j)
        some_at j None k id e = absurd (none-some id e)
        some_at j (Some other) k id e = subst (λ (q : NodeId). Stands kept.nodes q.0 (tree_of l.net.nodes j)) (same_Some other id e) k.1

        none_at : (j : ℕ) (o : Option NodeId) → IsKeptAs (asked_trees of.design (length of.pairs) l.mode) (next_in (processes_of of.design) (length of.pairs)) kept.nodes (tree_of l.net.nodes j) o → o ≡ None → IsKeptIn of.design (length of.pairs) l.mode (tree_of l.net.nodes j) → ⊥
        none_at j None k e = k
        none_at j (Some other) k e = absurd (none-some other (sym e))

    enable_kept : (row : FullRow) → IsIn row l.rows → IsKeptIn of.design (length of.pairs) l.mode (tree_of l.net.nodes row.on.0)
    enable_kept row i =
        root (tree_of l.net.nodes row.on.0)
        (subst (λ ts. IsIn (tree_of l.net.nodes row.on.0) ts) (asked_are of.design (length of.pairs) l.net.nodes l.net.outputs h.lowered.outputs l.mode l.rows h.lowered.rows) (enable_asked l.net.nodes l.net.outputs l.mode l.rows row i))

    pub all_can : All (CanBeMade l.net.nodes ids) l.rows
    all_can = rows_can of.design (length of.pairs) l.mode l.net.nodes kept.nodes ids are_new (all_spots of.design) l.rows h.lowered.rows enable_kept

    -- ---- the parts

    shape_slots : l.shape.slots ≡ map slot_part (sites_in_order of.design)
    shape_slots = ap (λ (p : TableParts). p.slots) h.lowered.shape

    in_order : map (λ (s : Site). s.slot) (sites_in_order of.design) ≡ from 0 (length (sites_in_order of.design))
    in_order =
        order_slots of.design h.sound.kept
        ∙ ap (from 0) (sym (sym (length-map (sites_in_order of.design) (λ (s : Site). s.slot)) ∙ ap length (order_slots of.design h.sound.kept) ∙ from_length 0 (slot_count of.design)))

    module _ (parts : TableParts) (made : ArePartsMade l.net.nodes ids l.rows kept.nodes l.shape parts) where
      filled : AreFilled l.net.nodes ids 0 l.rows (map slot_part (sites_in_order of.design)) parts.slots
      filled = subst (λ slots. AreFilled l.net.nodes ids 0 l.rows slots parts.slots) shape_slots made.slots

      tells : TellsDesign of.design (length of.pairs) l.mode kept.nodes parts
      tells = record {
        shape =
            (λ i. record { top = made.top i; nodes = []; variants = made.variants i; instances = made.instances i; slots = bare_filled l.net.nodes ids 0 l.rows (sites_in_order of.design) parts.slots filled i })
            ∙ (λ i. record { top = (h.lowered.shape i).top; nodes = []; variants = (h.lowered.shape i).variants; instances = (h.lowered.shape i).instances; slots = map slot_part (sites_in_order of.design) });
        names = made.nodes;
        slots = slots_told of.design (length of.pairs) l.mode l.net.nodes kept.nodes ids are_new 0 (sites_in_order of.design) in_order l.rows h.lowered.rows parts.slots filled;
      }

      module _ (is : IsKeptOf l.net (trees_by l.net.nodes (root_ids l.net.outputs l.mode l.rows)) kept) (few : length kept.nodes < 2 ^ 64) where
        net_kept : IsKeptNet of.design (length of.pairs) l.mode kept
        net_kept = net_is_kept of.design (length of.pairs) l.mode l h.lowered kept is

        pub is_table : IsTable parts
        is_table = trimmed_are_tables of.design of.pairs l.mode kept parts h.sound h.order few net_kept tells

        pub is_trimmed : IsTrimmed of.design (length of.pairs) l.mode kept parts
        is_trimmed = record { is_kept = net_kept; tells = tells; is_table = is_table }

pub few_slots : (of : Ordered) (l : code.Lowered) → IsLoweredOf of l → length l.shape.slots < 2 ^ 32
few_slots of l h =
    let sites : length l.shape.slots ≡ length (sites_in_order of.design) = ap (λ (p : TableParts). length p.slots) h.lowered.shape ∙ length-map (sites_in_order of.design) slot_part in
    let count : length (sites_in_order of.design) ≡ slot_count of.design =
    sym (length-map (sites_in_order of.design) (λ (s : Site). s.slot)) ∙ ap length (order_slots of.design h.sound.kept) ∙ from_length 0 (slot_count of.design) in
    omega (arith, sites, count, h.sound.kept.statements)
