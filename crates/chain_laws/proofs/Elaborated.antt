-- The walk over the chain's modules, for each number of cells.
use Rattle.std.proofs.Common.{◌≡◌, ℕ, zero, suc, ◌+◌, ◌-◌, ◌<◌, ◌≤◌, Bool, true, false, cond, List, [], ◌∷◌, ◌++◌, Some, None, refl, ap, ◌∙◌, arith, ltb}
use Rattle.std.proofs.lemmas.Bool.Decides.{nat_tests}
use Rattle.std.specs.Prelude.{nat_le, ℤ, pos, negsuc, ◌+ℤ◌, ◌-ℤ◌, codes}
use Rattle.gen_tree.specs.Tree as tree
use Rattle.gen_tree.specs.Tree.{num, var, Fam, inst, comb, repeat_items, no_item, item}
use Rattle.elab_core.specs.declared.fault.Count.TheVariants.{Turns, Parts}
use Rattle.elab_core.specs.Walk.{Walk, Gives, Counted, and_then, Seen, none_seen, one_more}
use Rattle.elab_core.specs.Numbers.{number, index_name, fam_name, two_numbers, find, bound, in_range}
use Rattle.exec_core.specs.Block.{Name}
use Rattle.design_core.specs.declared.Kind.TheVariants.{Input, Output, ChildOut}
use Rattle.design_core.specs.declared.Signal.{Signal}
use Rattle.design_core.specs.Design.{Gens, Expr, Out}
use Rattle.elab_core.specs.Elaborated.{Child, Instance}
use Rattle.elab_core.specs.Elab.{literal, expr, turns, part_bounds, statement, distinct, arguments, parameters, values, ports, conns, Asked, asked, count_outputs, register, wire_signal, Made, Here, with_child, with_block, instances_of, item_walk, items_walk, module_walk, instance, top_arguments, top_values, top_walk}
use Rattle.chain_laws.proofs.Tree.{member, reads_name, top_items, one_before, cell_module, cell_item, output_before, loop_body, top_comb, chain_modules}
use Rattle.chain_laws.proofs.Walks.{walk_end, ends_then}
use Rattle.chain_laws.proofs.Spans.{length_span, span_more}
use Rattle.chain_laws.proofs.Cells.{span, signal_16, cell_name, cell_line, cell_source, cell_content, cell_child, cell_output, cell_instance, top_gens, chain_signals, output_block, chain_instances}

abbrev top_here : Here
top_here = record { path = codes "Chain"; number = 0 }

-- a cell as it is asked for
abbrev want : ℕ → Name → Expr → Asked
want line name v = record { line = line; name = name; found = (0, cell_module); params = []; conns = record { line = line; port = codes "x"; value = v } ∷ [] }

abbrev cell_below : Name → List Instance
cell_below name = record { path = codes "Chain" ++ (codes "." ++ name); parent = Some 0; place = 0; params = []; content = cell_content } ∷ []

-- a cell counts itself, its output twice, its two other signals, four statements and seven parts, and one of its connection
abbrev pub cell_seen : Seen → Seen
cell_seen seen = record {
  instances = seen.instances + 1;
  turns = seen.turns;
  statements = seen.statements + 1 + 1 + 1 + 1;
  signals = seen.signals + 1 + 1 + 1 + 1;
  parts = seen.parts + 1 + 1 + 1 + 1 + 1 + 1 + 1 + 1;
}

cell_walk : (line : ℕ) (gens : Gens) (f : Fam) (e : tree.Expr) (name : Name) (v : Expr) (made : Made) (seen : Seen) → fam_name line gens f ≡ Gives name → expr line gens e ≡ Counted Parts line (Gives v)
    → walk_end seen (item_walk chain_modules (instance chain_modules 32) top_here (inst line f (codes "Cell") [] (record { line = line; port = codes "x"; value = e } ∷ [])) gens made)
    ≡ Some (with_child made (want line name v) (cell_below name), cell_seen seen)
unfolding walk_end and_then number index_name two_numbers literal expr turns part_bounds statement distinct arguments parameters values ports conns asked count_outputs register wire_signal item_walk module_walk instance
cell_walk line gens f e name v made seen p q = rw (p, q) refl

-- ---- numbers

sub_one : (b : Bool) (z : ℤ) (m j : ℕ) → b ≡ false → m ≡ j → cond b z (pos m) ≡ pos j
sub_one true z m j e p = cc
sub_one false z m j e p = ap pos p

before_is : (j : ℕ) → pos (suc j) -ℤ pos 1 ≡ pos j
before_is j = sub_one (ltb (suc j) 1) (negsuc (1 - suc (suc j))) (suc j - 1) j (grind (arith, nat_tests)) (omega arith)

after_is : (j : ℕ) → pos (suc j) +ℤ pos 1 ≡ pos (suc (suc j))
after_is j = ap pos (omega arith)

pub small_in_range : (j : ℕ) → j ≤ 4000 → in_range (pos j) ≡ true
small_in_range j h = let lt : j < 4611686018427387904 = omega arith in grind (arith, nat_tests)

before_number : (line : ℕ) (gens : Gens) (x : Name) (j : ℕ) → j ≤ 4000 → find gens x ≡ Some (pos (suc j)) → number line gens (one_before x) ≡ Gives (pos j)
unfolding number and_then
before_number line gens x j h e = rw (e, before_is j, small_in_range j h) refl

output_walk : (line : ℕ) (gens : Gens) (x : Name) (j : ℕ) → j ≤ 4000 → find gens x ≡ Some (pos (suc j)) → expr line gens (output_before x) ≡ Counted Parts line (Gives (Out (cell_name j) (codes "y")))
unfolding expr index_name and_then
output_walk line gens x j h e = rw (before_number line gens x j h e) refl

-- ---- the turns of the loop

-- what was made with so many cells
abbrev chain_made : ℕ → Made
chain_made k = record { content = record { signals = chain_signals k; children = span cell_child 0 k; blocks = [] }; below = span cell_instance 0 k }

abbrev made_with : List Signal → List Child → List Instance → Made
made_with signals children below = record { content = record { signals = signals; children = children; blocks = [] }; below = below }

one_more_cell : (k : ℕ) → with_child (chain_made k) (want (cell_line k) (cell_name k) (cell_source k)) (cell_below (cell_name k)) ≡ chain_made (suc k)
one_more_cell k =
    ap (λ at. made_with (signal_16 14 (codes "x") Input ∷ signal_16 15 (codes "y") Output ∷ (span cell_output 0 k ++ signal_16 (cell_line k) (cell_name k ++ (codes "." ++ codes "y")) (ChildOut at (codes "y")) ∷ [])) (span cell_child 0 k ++ cell_child k ∷ []) (span cell_instance 0 k ++ cell_instance k ∷ [])) (length_span cell_child 0 k)
    ∙ ap (λ signals. made_with (signal_16 14 (codes "x") Input ∷ signal_16 15 (codes "y") Output ∷ signals) (span cell_child 0 k ++ cell_child k ∷ []) (span cell_instance 0 k ++ cell_instance k ∷ [])) (span_more cell_output 0 k k (omega arith))
    ∙ ap (λ children. made_with (chain_signals (suc k)) children (span cell_instance 0 k ++ cell_instance k ∷ [])) (span_more cell_child 0 k k (omega arith))
    ∙ ap (made_with (chain_signals (suc k)) (span cell_child 0 (suc k))) (span_more cell_instance 0 k k (omega arith))

cell_made : (k : ℕ) (gens : Gens) (f : Fam) (e : tree.Expr) (seen : Seen) → fam_name (cell_line k) gens f ≡ Gives (cell_name k) → expr (cell_line k) gens e ≡ Counted Parts (cell_line k) (Gives (cell_source k))
    → walk_end seen (item_walk chain_modules (instance chain_modules 32) top_here (inst (cell_line k) f (codes "Cell") [] (record { line = cell_line k; port = codes "x"; value = e } ∷ [])) gens (chain_made k)) ≡ Some (chain_made (suc k), cell_seen seen)
cell_made k gens f e seen p q = cell_walk (cell_line k) gens f e (cell_name k) (cell_source k) (chain_made k) seen p q ∙ ap (λ made. Some (made, cell_seen seen)) (one_more_cell k)

abbrev cell_turn : ℕ → ℤ → Made → Walk Made
cell_turn n i more = items_walk chain_modules (instance chain_modules 32) top_here loop_body (bound (codes "i") i (top_gens n)) more

turn_made : (n j : ℕ) (seen : Seen) → j ≤ 4000 → walk_end seen (cell_turn n (pos (suc j)) (chain_made (suc j))) ≡ Some (chain_made (suc (suc j)), cell_seen seen)
unfolding items_walk number index_name and_then walk_end
turn_made n j seen h =
    ends_then seen (cell_seen seen) (item_walk chain_modules (instance chain_modules 32) top_here (cell_item 18 (var (codes "i")) (output_before (codes "i"))) (bound (codes "i") (pos (suc j)) (top_gens n)) (chain_made (suc j)))
    (λ more. Gives more) (chain_made (suc (suc j))) _
    (cell_made (suc j) (bound (codes "i") (pos (suc j)) (top_gens n)) (member (codes "c") (var (codes "i"))) (output_before (codes "i")) seen refl (output_walk 18 (bound (codes "i") (pos (suc j)) (top_gens n)) (codes "i") j h refl))
    refl

abbrev pub turns_seen : ℕ → Seen → Seen
turns_seen zero seen = seen
turns_seen (suc c) seen = turns_seen c (cell_seen (one_more Turns seen))

turns_made : (n c j m : ℕ) (seen : Seen) → m ≡ j + c → m ≤ 4000 → walk_end seen (turns 17 (cell_turn n) (pos (suc j)) c (chain_made (suc j))) ≡ Some (chain_made (suc m), turns_seen c seen)
unfolding turns and_then walk_end
turns_made n zero j m seen e h = let same : m ≡ j = omega arith in rw same refl
turns_made n (suc c) j m seen e h =
    ends_then (one_more Turns seen) (cell_seen (one_more Turns seen)) (cell_turn n (pos (suc j)) (chain_made (suc j))) (λ more. turns 17 (cell_turn n) (pos (suc j) +ℤ pos 1) c more) (chain_made (suc (suc j))) _
    (turn_made n j (one_more Turns seen) (omega arith))
    (ap (λ i. walk_end (cell_seen (one_more Turns seen)) (turns 17 (cell_turn n) i c (chain_made (suc (suc j))))) (after_is j) ∙ turns_made n c (suc j) m (cell_seen (one_more Turns seen)) (omega arith) h)

-- ---- the top

few_turns : (k : ℕ) → k ≤ 4000 → nat_le k 4096 ≡ true
few_turns k h = let le : k ≤ 4096 = omega arith in grind (arith, nat_tests)

loop_made : (k : ℕ) (seen : Seen) → k ≤ 4000
    → walk_end seen (item_walk chain_modules (instance chain_modules 32) top_here (repeat_items 17 (codes "i") (num 1) (var (codes "N")) loop_body) (top_gens (suc k)) (chain_made 1)) ≡ Some (chain_made (suc k), turns_seen k seen)
unfolding item_walk two_numbers number and_then
loop_made k seen h = rw (before_is k, few_turns k h) (turns_made (suc k) k 0 k seen (omega arith) h)

abbrev top_made : ℕ → Made
top_made k = with_block (chain_made (suc k)) (output_block 0 k)

abbrev pub block_seen : Seen → Seen
block_seen seen = record { instances = seen.instances; turns = seen.turns; statements = seen.statements + 1; signals = seen.signals; parts = seen.parts + 1 }

block_made : (k : ℕ) (seen : Seen) → k ≤ 4000 → walk_end seen (item_walk chain_modules (instance chain_modules 32) top_here (comb 20 top_comb) (top_gens (suc k)) (chain_made (suc k))) ≡ Some (top_made k, block_seen seen)
unfolding item_walk part_bounds statement index_name and_then walk_end
block_made k seen h = rw (output_walk 20 (top_gens (suc k)) (codes "N") k h refl) refl

abbrev pub items_seen : ℕ → Seen → Seen
items_seen k seen = block_seen (turns_seen k (cell_seen seen))

items_made : (k : ℕ) (seen : Seen) → k ≤ 4000 → walk_end seen (items_walk chain_modules (instance chain_modules 32) top_here top_items (top_gens (suc k)) (chain_made 0)) ≡ Some (top_made k, items_seen k seen)
unfolding items_walk number index_name expr and_then walk_end
items_made k seen h =
    ends_then seen (cell_seen seen) (item_walk chain_modules (instance chain_modules 32) top_here (cell_item 16 (num 0) (reads_name (codes "x"))) (top_gens (suc k)) (chain_made 0))
    (λ more. items_walk chain_modules (instance chain_modules 32) top_here (item (repeat_items 17 (codes "i") (num 1) (var (codes "N")) loop_body) (item (comb 20 top_comb) no_item)) (top_gens (suc k)) more) (chain_made 1) _
    (cell_made 0 (top_gens (suc k)) (member (codes "c") (num 0)) (reads_name (codes "x")) seen refl refl)
    (ends_then (cell_seen seen) (turns_seen k (cell_seen seen)) (item_walk chain_modules (instance chain_modules 32) top_here (repeat_items 17 (codes "i") (num 1) (var (codes "N")) loop_body) (top_gens (suc k)) (chain_made 1))
    (λ more. items_walk chain_modules (instance chain_modules 32) top_here (item (comb 20 top_comb) no_item) (top_gens (suc k)) more) (chain_made (suc k)) _
    (loop_made k (cell_seen seen) h)
    (ends_then (turns_seen k (cell_seen seen)) (items_seen k seen) (item_walk chain_modules (instance chain_modules 32) top_here (comb 20 top_comb) (top_gens (suc k)) (chain_made (suc k))) (λ more. Gives more) (top_made k) _
    (block_made k (turns_seen k (cell_seen seen)) h)
    refl))

-- the top itself, and its two ports
abbrev pub top_seen : Seen
top_seen = record { instances = 1; turns = 0; statements = 0; signals = 2; parts = 0 }

pub walk_ends : (k : ℕ) → k ≤ 4000 → walk_end none_seen (top_walk chain_modules (codes "Chain") (top_gens (suc k))) ≡ Some (chain_instances k, items_seen k top_seen)
unfolding top_walk top_values top_arguments distinct parameters module_walk ports number and_then walk_end
walk_ends k h =
    ends_then top_seen (items_seen k top_seen) (items_walk chain_modules (instance chain_modules 32) top_here top_items (top_gens (suc k)) (chain_made 0))
    (λ made. Gives (instances_of (codes "Chain") None 1 (top_gens (suc k)) made)) (top_made k) _ (items_made k top_seen h) refl
