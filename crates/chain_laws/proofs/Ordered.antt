-- The driven signals of the chain's design have an order.
use Rattle.std.proofs.Common.{◌≡◌, ℕ, zero, suc, ◌+◌, ◌<◌, Bool, true, false, true≢false, ◌||◌, [], ◌∷◌, map, Option, Some, None, inl, inr, refl, sym, subst, ◌∙◌, arith, lit<}
use Rattle.std.specs.Prelude.{codes, bytes_eq, if◌then◌else◌}
use Rattle.std.specs.List.{enumerate_from, flat_map}
use Rattle.list_core.specs.Lists.{EachOf}
use Rattle.list_core.proofs.Lists.{each_member, each_append}
use Rattle.list_core.proofs.Listing.{got_in}
use Rattle.tree_core.specs.Tree.{Leaf}
use Rattle.exec_core.specs.Block.{Name, Now, own}
use Rattle.exec_core.specs.Trees.{block_trees}
use Rattle.exec_core.specs.Leaves.{EachLeaf}
use Rattle.exec_core.proofs.WholeNaming.{all_true}
use Rattle.exec_core.specs.Whole.{Place}
use Rattle.exec_core.specs.Design.{Process, place, driver_of}
use Rattle.design_core.specs.declared.Signal.{Signal}
use Rattle.design_exec.specs.Processes.{Numbered, process, processes_of, instances_of, processes_at, links_at, none_or, conn_link, child_links, output_link, numbers_below, child_at, kept_below}
use Rattle.check_exec.specs.Premises.{IsSound}
use Rattle.check_exec.proofs.Facts.{same_name, each_flat}
use Rattle.dep_order.specs.Either.{HasOrder, HasLoop}
use Rattle.dep_order.proofs.Found.{order_or_loop}
use Rattle.chain_laws.proofs.Cells.{span, cell_signals, comb_body, cell_output, cell_blocks, chain_signals, output_block, design_child, design_cell, design_top, chain_design}
use Rattle.chain_laws.proofs.Names.{cell_output_name}
use Rattle.chain_laws.proofs.Ranks.{LinkLower, IfTree, ProcessLower, AllLower, all_lower, ranks_rule_out}
use Rattle.dep_order.proofs.Sound.{accepted_drivers}

-- an input of the top, a register, an output of a cell, that output in the top, and what is driven from there
abbrev rank_in : ℕ → Name → ℕ
rank_in zero x = if bytes_eq x (codes "x") then 0 else if bytes_eq x (codes "y") then 3 else 2
rank_in (suc i) x = if bytes_eq x (codes "s") then 0 else if bytes_eq x (codes "y") then 1 else 3

abbrev signal_rank : Place → ℕ
signal_rank p = rank_in p.instance p.name

-- ---- the instances, with their numbers

cells_numbered : (P : Numbered → Type 0) → ((i : ℕ) (j : ℕ) → P (suc i, design_cell j)) → (i n j : ℕ) → EachOf P (enumerate_from (suc i) (span design_cell j n))
cells_numbered P h i zero j = tt
cells_numbered P h i (suc n) j = (h i j, subst (λ (m : ℕ). EachOf P (enumerate_from m (span design_cell (suc j) n))) (next i) (cells_numbered P h (suc i) n (suc j)))
  where
    next : (i : ℕ) → suc (suc i) ≡ suc i + 1
    next i = omega arith

all_numbered : (P : Numbered → Type 0) (k : ℕ) → P (0, design_top) → ((i : ℕ) (j : ℕ) → P (suc i, design_cell j)) → EachOf P (instances_of (chain_design k))
all_numbered P k h g = (h, cells_numbered P g 0 (suc k) 0)

-- ---- those below the top

below_top : (k : ℕ) → EachOf (λ (j : ℕ). 0 < j) (numbers_below (chain_design k) 0)
below_top k =
    each_flat (λ (j : ℕ). 0 < j) (kept_below 0) (instances_of (chain_design k))
    (λ a m. each_member (λ (r : Numbered). EachOf (λ (j : ℕ). 0 < j) (kept_below 0 r)) (instances_of (chain_design k)) (all_numbered (λ r. EachOf (λ (j : ℕ). 0 < j) (kept_below 0 r)) k tt (λ i j. (omega arith, tt))) a m)

abbrev BehindTop : Option ℕ → Type 0
BehindTop None = Unit {0}
BehindTop (Some j) = 0 < j

child_behind : (k i : ℕ) → BehindTop (child_at (chain_design k) 0 i)
child_behind k i = by (child_at (chain_design k) 0 i) refl
  where
    by : (o : Option ℕ) → child_at (chain_design k) 0 i ≡ o → BehindTop o
    by None e = tt
    by (Some j) e = each_member (λ (n : ℕ). 0 < n) (numbers_below (chain_design k) 0) (below_top k) j (got_in (numbers_below (chain_design k) 0) i j e)

-- ---- links

conns_lower : (i : ℕ) (o : Option ℕ) → BehindTop o → EachOf (LinkLower signal_rank) (none_or (λ j. map (conn_link 0 j) (design_child i).conns) o)
conns_lower i None h = tt
conns_lower i (Some zero) h = absurd (omega arith)
conns_lower zero (Some (suc j)) h = (lit< tt, tt)
conns_lower (suc i) (Some (suc j)) h = (lit< tt, tt)

output_lower : (i : ℕ) (o : Option ℕ) → BehindTop o → EachOf (LinkLower signal_rank) (none_or (λ j. (place 0 (cell_output_name i), Leaf (place j (codes "y"))) ∷ []) o)
output_lower i None h = tt
output_lower i (Some zero) h = absurd (omega arith)
output_lower i (Some (suc j)) h = (lit< tt, tt)

children_lower : (k m i n : ℕ) → EachOf (LinkLower signal_rank) (flat_map (child_links (chain_design k) 0) (enumerate_from m (span design_child i n)))
children_lower k m i zero = tt
children_lower k m i (suc n) = each_append (LinkLower signal_rank) (child_links (chain_design k) 0 (m, design_child i)) (flat_map (child_links (chain_design k) 0) (enumerate_from (m + 1) (span design_child (suc i) n))) (conns_lower i (child_at (chain_design k) 0 m) (child_behind k m)) (children_lower k (m + 1) (suc i) n)

outputs_lower : (k i n : ℕ) → EachOf (LinkLower signal_rank) (flat_map (λ (s : Signal). output_link (chain_design k) 0 s.name s.kind) (span cell_output i n))
outputs_lower k i zero = tt
outputs_lower k i (suc n) = each_append (LinkLower signal_rank) (output_link (chain_design k) 0 (cell_output_name i) (cell_output i).kind) (flat_map (λ (s : Signal). output_link (chain_design k) 0 s.name s.kind) (span cell_output (suc i) n)) (output_lower i (child_at (chain_design k) 0 i) (child_behind k i)) (outputs_lower k (suc i) n)

top_links : (k : ℕ) → EachOf (LinkLower signal_rank) (links_at (chain_design k) (0, design_top))
top_links k = each_append (LinkLower signal_rank) (flat_map (child_links (chain_design k) 0) (enumerate_from 0 (span design_child 0 (suc k)))) (flat_map (λ (s : Signal). output_link (chain_design k) 0 s.name s.kind) (chain_signals (suc k))) (children_lower k 0 0 (suc k)) (outputs_lower k 0 (suc k))

links_lower : (k : ℕ) → EachOf (LinkLower signal_rank) (processes_of (chain_design k)).links
links_lower k =
    each_flat (LinkLower signal_rank) (links_at (chain_design k)) (instances_of (chain_design k))
    (λ a m. each_member (λ (r : Numbered). EachOf (LinkLower signal_rank) (links_at (chain_design k) r)) (instances_of (chain_design k)) (all_numbered (λ r. EachOf (LinkLower signal_rank) (links_at (chain_design k) r)) k (top_links k) (λ i j. tt)) a m)

-- ---- processes

abbrev EndsLower : Process → Name → Type 0
EndsLower b x = IfTree signal_rank (λ t. EachLeaf (λ y. signal_rank (place b.instance y) < signal_rank (place b.instance x)) t) (block_trees b.let_width b.body (Now x))

-- its only own name is `y`
only_y : (b : Process) → EndsLower b (codes "y") → (x : Name) (c : Bool) → bytes_eq (codes "y") x ≡ c → (c ≡ false → own b.body x ≡ false) → own b.body x ≡ true → EndsLower b x
only_y b h x true e f g = subst (EndsLower b) (same_name (codes "y") x e) h
only_y b h x false e f g = absurd (true≢false (sym g ∙ f refl))

when_false : (c : Bool) → c ≡ false → (c || false) ≡ false
when_false c e = rw e refl

when_all_false : (c : Bool) → c ≡ false → (c || (((c || false) || false) || false)) ≡ false
when_all_false c e = rw e refl

abbrev top_block : ℕ → Process
top_block k = process 0 (chain_signals (suc k)) (output_block 4 k)

-- the output that it reads is no own name, so all bits of it are there, however many those are
top_end : (k : ℕ) → EndsLower (top_block k) (codes "y")
top_end k =
    subst (λ whole. IfTree signal_rank (λ t. EachLeaf (λ y. signal_rank (place 0 y) < signal_rank (place 0 (codes "y"))) t) (if whole then Some (Leaf (cell_output_name k)) else None))
    (sym (all_true ((top_block k).let_width (cell_output_name k)) (λ i. true) (λ i. refl))) (lit< tt)

top_process : (k : ℕ) → ProcessLower signal_rank (top_block k)
top_process k x e = only_y (top_block k) (top_end k) x (bytes_eq (codes "y") x) refl (when_false (bytes_eq (codes "y") x)) e

cell_processes : (i : ℕ) → EachOf (ProcessLower signal_rank) (map (process (suc i) cell_signals) (cell_blocks 0 1 2 3))
cell_processes i = (
  λ x e. only_y (process (suc i) cell_signals (record { line = 5; clocked = false; body = comb_body 0 1 2 })) (lit< tt, (lit< tt, tt), lit< tt) x (bytes_eq (codes "y") x) refl (when_all_false (bytes_eq (codes "y") x)) e,
  (λ x e. absurd (true≢false (sym e)), tt),
)

processes_lower : (k : ℕ) → EachOf (ProcessLower signal_rank) (processes_of (chain_design k)).processes
processes_lower k =
    each_flat (ProcessLower signal_rank) (processes_at (chain_design k)) (instances_of (chain_design k))
    (λ a m. each_member (λ (r : Numbered). EachOf (ProcessLower signal_rank) (processes_at (chain_design k) r)) (instances_of (chain_design k)) (all_numbered (λ r. EachOf (ProcessLower signal_rank) (processes_at (chain_design k) r)) k (top_process k, tt) (λ i j. cell_processes i)) a m)

-- ---- the order

no_loop_told : (k : ℕ) → IsSound (chain_design k) → HasLoop (chain_design k) → ⊥
no_loop_told k sound h =
    ranks_rule_out signal_rank (driver_of (processes_of (chain_design k)))
    (subst (AllLower signal_rank) (accepted_drivers (chain_design k) sound).shown (all_lower signal_rank (chain_design k) (links_lower k) (processes_lower k))) h.tells.loop h.tells.depend

pub chain_has_order : (k : ℕ) → IsSound (chain_design k) → HasOrder (chain_design k)
chain_has_order k sound = elim (order_or_loop (chain_design k) sound) [ inl order ↦ order | inr loop ↦ absurd (no_loop_told k sound loop) ]
