-- The rows of a process of an accepted design.
use Rattle.std.proofs.Common.{◌≡◌, ℕ, List, [], ◌++◌, map, Option, Some, length, option_map, unwrap_or, sym, ap, ◌∙◌, subst}
use Rattle.std.specs.Prelude.{slice_get}
use Rattle.std.proofs.Math.ListN.{set}
use Rattle.std.proofs.lemmas.Option.{same_Some}
use Rattle.bv_core.specs.declared.reference.NodeId.{NodeId}
use Rattle.exec_core.specs.Block.{Name}
use Rattle.list_core.specs.Lists.{EachOf}
use Rattle.exec_core.specs.Design.{Process, width_in}
use Rattle.exec_core.specs.Trees.{Row, block_rows}
use Rattle.design_core.specs.Design.{Block, Variant}
use Rattle.design_core.specs.Slots.{scope, lets_of}
use Rattle.design_exec.specs.Processes.{Widths, process, processes_of, body_of, body_widths, signal_width, signals_in}
use Rattle.net_core.specs.Nodes.{Shape}
use Rattle.block_net.specs.Blocks.{BlockParts}
use Rattle.block_net.specs.Logs.{rows_of}
use Rattle.block_net.proofs.Widths.{starts_shown}
use Rattle.check_exec.proofs.Instances.{Stands, clean}
use Rattle.check_exec.proofs.Checks.{widths_are}
use Rattle.term_net.specs.Growth.{Grown}
use Rattle.term_net.specs.Leaves.{leaf_id, leaf_tree}
use Rattle.term_net.specs.Memos.{Fits}
use Rattle.world_core.specs.Sites.{sites_in_block}
use Rattle.lower_core.specs.declared.row.FullRow.{FullRow}
use Rattle.lower_core.specs.Rows.{AreTold}
use Rattle.ssa_core.specs.declared.process.ProcessKey.{ProcessKey}
use Rattle.ssa_core.specs.Processes.{process_at, terms_at}
use Rattle.ssa_nodes.specs.State.{names_in}
use Rattle.ssa_nodes.specs.declared.parts.Parts as code
use Rattle.ssa_nodes.specs.Driving.{AllHave}
use Rattle.ssa_nodes.specs.Parts.{HasParts, HasState, all_in, blocks_in, design_in}
use Rattle.ssa_nodes.proofs.Ends.{signals_of, tells_of, instance_of}
use Rattle.ssa_nodes.proofs.Memos.{state_more, memo_set}
use Rattle.ssa_nodes.proofs.Sources.{accepted, by_node, signals_more}
use Rattle.row_net.specs.Blocks.{block_sites, HasKey, IsBlockOf, signal_names}
use Rattle.row_net.specs.Spots.{at_instance}
use Rattle.row_net.specs.Told.{RowReady, RowsHave, log_rows, name_row}
use Rattle.row_net.proofs.Aligned.{Aligned, block_aligned}
use Rattle.row_net.proofs.Checked.{rows_ready, rows_told, slots_apart}
use Rattle.row_net.proofs.Scopes.{process_in}

module _ (p : code.Parts) (h : HasParts p) (ns : List Shape) (nodes : List (Option NodeId)) (memos : List (List (Option NodeId))) (state : HasState p ns nodes memos) (all : AllHave p nodes)
    (i v : ℕ) (block : Block) (of : IsBlockOf (design_in p) i v block) (places : Name → Option ℕ) (names : List Name) (is : places ≡ names_in (all_in p) i) (named : names ≡ signal_names (signals_in (design_in p) v)) where
  abbrev the_scope : List Name
  the_scope = names ++ lets_of block.body

  stands : Stands (design_in p) i of.instance of.of
  stands = record { instance = of.stands; variant = ap (slice_get (design_in p).variants) of.variant ∙ of.named }

  same_scope : scope of.of block ≡ the_scope
  same_scope = ap (λ (l : List Name). l ++ lets_of block.body) (sym (named ∙ ap (λ o. signal_names (unwrap_or (option_map (λ (w : Variant). w.signals) o) [])) of.named))

  abbrev here : Process
  here = process i (of.of).signals block

  -- its rows, by the widths of its process and so by those at its statements
  abbrev the_rows : List Row
  the_rows = block_rows (width_in (processes_of (design_in p)) here) (body_of block.clocked block.body)

  rows_there : block_rows (body_widths block.body (signal_width (of.of).signals)) (body_of block.clocked block.body) ≡ the_rows
  rows_there =
      ap (λ (w : Widths). block_rows w (body_of block.clocked block.body)) (sym (widths_are (design_in p) h.parts.sound i of.instance of.of block stands (clean (design_in p) h.parts.sound.accepted i of.instance of.of stands) of.among))

  -- those that the log of its terms tells
  pub told_rows : (rows : List Row) → rows ≡ block_rows (width_in (processes_of (design_in p)) (process i (signals_in (design_in p) v) block)) (body_of block.clocked block.body) → rows ≡ the_rows
  told_rows rows e =
      e ∙ ap (λ signals. block_rows (width_in (processes_of (design_in p)) (process i signals block)) (body_of block.clocked block.body)) (ap (λ o. unwrap_or (option_map (λ (w : Variant). w.signals) o) []) of.named)

  rows_here : EachOf (RowReady (leaf_id (names_in (all_in p) i) nodes) (leaf_tree ns (names_in (all_in p) i) nodes) the_scope) (map name_row the_rows)
  rows_here =
      subst (λ l. EachOf (RowReady (leaf_id (names_in (all_in p) i) nodes) (leaf_tree ns (names_in (all_in p) i) nodes) l) (map name_row the_rows)) same_scope
      (rows_ready (design_in p) (length p.order.now) (h.parts).told.order (accepted p h) (by_node p h) (all_in p) nodes all ns state.shared state.signals i of.instance of.of stands block of.among)

  pub ready : (rows : List Row) → rows ≡ the_rows → EachOf (RowReady (leaf_id places nodes) (leaf_tree ns places nodes) the_scope) (map name_row rows)
  ready rows same =
      subst (λ l. EachOf (RowReady (leaf_id places nodes) (leaf_tree ns places nodes) the_scope) (map name_row l)) (sym same)
      (subst (λ (f : Name → Option ℕ). EachOf (RowReady (leaf_id f nodes) (leaf_tree ns f nodes) the_scope) (map name_row the_rows)) (sym is) rows_here)

  aligned : Aligned the_scope (sites_in_block v of.of block) the_rows
  aligned =
      subst (λ l. Aligned l (sites_in_block v of.of block) the_rows) same_scope
      (subst (Aligned (scope of.of block) (sites_in_block v of.of block)) rows_there
      (block_aligned v of.of block (slots_apart (design_in p) (length p.order.now) (h.parts).told.order (accepted p h) (by_node p h) (all_in p) nodes all ns state.shared state.signals i of.instance of.of stands block of.among)))

  sites_here : block_sites (design_in p) v block ≡ sites_in_block v of.of block
  sites_here = ap (λ o. unwrap_or (option_map (λ w. sites_in_block v w block) o) []) of.named

  pub told : (rows : List Row) → rows ≡ the_rows → (new : List Shape) (fulls : List FullRow) → Grown ns new → RowsHave new (leaf_tree new places nodes) i the_scope (map name_row rows) fulls
      → AreTold (design_in p) (length p.order.now) new (at_instance i (block_sites (design_in p) v block)) fulls
  told rows same new fulls g have =
      subst (λ sites. AreTold (design_in p) (length p.order.now) new (at_instance i sites) fulls) (sym sites_here)
      (rows_told (design_in p) (length p.order.now) (h.parts).told.order (accepted p h) (by_node p h) (all_in p) nodes new g.shared
      (signals_more p h ns new nodes g (signals_of p h ns nodes memos state)).signals i (leaf_tree ns (names_in (all_in p) i) nodes) the_scope (sites_in_block v of.of block) the_rows fulls aligned rows_here
      (subst (λ (f : Name → Option ℕ). RowsHave new (leaf_tree new f nodes) i the_scope (map name_row the_rows) fulls) is
      (subst (λ l. RowsHave new (leaf_tree new places nodes) i the_scope (map name_row l) fulls) same have)))

-- ---- a process by its number

module _ (p : code.Parts) (h : HasParts p) (k i v : ℕ) (block : Block) (has : HasKey (design_in p) p.keys.items k i v block) (key : ProcessKey) (found : slice_get p.keys.items k ≡ Some key) where
  same_key : has.key ≡ key
  same_key = same_Some has.key key (sym has.found ∙ found)

  pub key_is : process_at (design_in p) key ≡ Some (process i (signals_in (design_in p) v) block)
  key_is = subst (λ q. process_at (design_in p) q ≡ Some (process i (signals_in (design_in p) v) block)) same_key has.is

  pub instance_is : i ≡ key.instance
  instance_is = instance_of p h key (process i (signals_in (design_in p) v) block) key_is

  -- the log of its terms tells its rows
  pub log_is : (parts : BlockParts) → terms_at (blocks_in p) key.variant key.block ≡ Some parts
      → log_rows parts (body_of block.clocked block.body) ≡ block_rows (width_in (processes_of (design_in p)) (process i (signals_in (design_in p) v) block)) (body_of block.clocked block.body)
  log_is parts at =
      let b = process i (signals_in (design_in p) v) block in
      let tells = tells_of p h k key b parts found key_is at in
      ap (rows_of parts.terms parts.log) (sym (starts_shown (width_in (processes_of (design_in p)) b) b.body tells.some_bit)) ∙ tells.tells.rows

  -- nodes of its terms are known, by the names of its instance
  pub memo_is : (ns : List Shape) (nodes : List (Option NodeId)) (memos : List (List (Option NodeId))) (parts : BlockParts) (places : Name → Option ℕ) (memo : List (Option NodeId)) → HasState p ns nodes memos → terms_at (blocks_in p) key.variant key.block ≡ Some parts →
      places ≡ names_in (all_in p) i → slice_get memos k ≡ Some memo → Fits ns places nodes parts.terms memo
  memo_is ns nodes memos parts places memo state at is there =
      let m = state.terms.each k key parts found at in
      subst (λ (f : Name → Option ℕ). Fits ns f nodes parts.terms memo) (sym (is ∙ ap (λ (j : ℕ). names_in (all_in p) j) instance_is))
      (subst (Fits ns (names_in (all_in p) key.instance) nodes parts.terms) (same_Some m.memo memo (sym m.found ∙ there)) m.fits)

  pub memo_put : (ns new : List Shape) (nodes : List (Option NodeId)) (memos : List (List (Option NodeId))) (parts : BlockParts) (places : Name → Option ℕ) (memo : List (Option NodeId)) → HasState p ns nodes memos → Grown ns new →
      terms_at (blocks_in p) key.variant key.block ≡ Some parts → places ≡ names_in (all_in p) i → Fits new places nodes parts.terms memo → HasState p new nodes (set memos k memo)
  memo_put ns new nodes memos parts places memo state g at is fits =
      let d = processes_of (design_in p) in
      let n = length p.order.now in
      memo_set d n p.keys.items (blocks_in p) (all_in p) new nodes memos k key parts memo (state_more d n p.keys.items (blocks_in p) (all_in p) ns new nodes memos g state) found at
      (subst (λ (f : Name → Option ℕ). Fits new f nodes parts.terms memo) (is ∙ ap (λ (j : ℕ). names_in (all_in p) j) instance_is) fits)
