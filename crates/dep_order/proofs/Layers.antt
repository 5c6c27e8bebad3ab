-- Versions read what was there before them.
use Rattle.std.proofs.Common.{◌≡◌, ◌≢◌, ℕ, ◌<◌, ◌≤◌, List, length, Some, sym, subst, inl, inr, arith}
use Rattle.std.specs.Prelude.{slice_get}
use Rattle.std.proofs.lemmas.Bool.{cases_lt}
use Rattle.exec_core.specs.Block.{Name}
use Rattle.list_core.specs.Lists.{EachOf}
use Rattle.graph_order.specs.Graphs.{Graph, edges_of}
use Rattle.place_core.specs.Numbering.{Numbers}
use Rattle.dep_order.specs.Blocks.{AreSignals, Grown}
use Rattle.dep_order.specs.Wiring.{KeepsOthers, StaysLayered}
use Rattle.dep_order.specs.Linking.{AllLayered}
use Rattle.place_core.proofs.Numbers.{each_get}

pub layered_same : (g : Graph) (numbers : Numbers) → StaysLayered g g numbers
layered_same g numbers signals are low l = l

pub layered_both : (g h k : Graph) (numbers : Numbers) → length g ≤ length h → StaysLayered g h numbers → StaysLayered h k numbers → StaysLayered g k numbers
layered_both g h k numbers more first second signals are low l = second signals are (omega (arith, low, more)) (first signals are low l)

pub layered_set : (g h : Graph) (numbers : Numbers) (x : Name) (n : ℕ) → numbers x ≡ Some n → ((v : ℕ) → v ≢ n → edges_of h v ≡ edges_of g v) → StaysLayered g h numbers
layered_set g h numbers x n e same signals are low l v high =
    let below : n < signals = are x n e in
    subst (EachOf (λ w. w < v)) (sym (same v (λ f. absurd (omega (arith, f, below, high))))) (l v high)

pub layered_others : (g h : Graph) (numbers : Numbers) → KeepsOthers g h numbers → StaysLayered g h numbers
layered_others g h numbers keeps signals are low l v high = subst (EachOf (λ w. w < v)) (sym (keeps.kept v (λ x f. none_here v high (are x v f)))) (l v high)
  where
    none_here : (v : ℕ) → signals ≤ v → v < signals → ⊥
    none_here v high below = absurd (omega (arith, high, below))

pub layered_grown : (g h : Graph) (numbers : Numbers) → Grown g h → StaysLayered g h numbers
layered_grown g h numbers grown signals are low l v high =
    elim (cases_lt v (length g)) [
      | inl old ↦ subst (EachOf (λ w. w < v)) (sym (grown.kept v old)) (l v high)
      | inr new ↦ grown.lower v new
    ]

pub layered_block : (g h k : Graph) (numbers : Numbers) → Grown g h → KeepsOthers h k numbers → StaysLayered g k numbers
layered_block g h k numbers grown keeps = layered_both g h k numbers grown.longer (layered_grown g h numbers grown) (layered_others h k numbers keeps)

-- ---- all instances

pub all_same : (g : Graph) (all : List Numbers) → AllLayered g g all
all_same g all signals are low l = l

pub all_both : (g h k : Graph) (all : List Numbers) → length g ≤ length h → AllLayered g h all → AllLayered h k all → AllLayered g k all
all_both g h k all more first second signals are low l = second signals are (omega (arith, low, more)) (first signals are low l)

pub all_one : (g h : Graph) (all : List Numbers) (i : ℕ) (numbers : Numbers) → slice_get all i ≡ Some numbers → StaysLayered g h numbers → AllLayered g h all
all_one g h all i numbers e one signals are low l = one signals (each_get (AreSignals signals) all i numbers are e) low l
