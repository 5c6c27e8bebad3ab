-- After a clock edge each register has the value of the node of its next value.
use Rattle.std.proofs.Common.{◌≡◌, ℕ, zero, suc, ◌+◌, ◌<◌, true, List, [], ◌∷◌, length, map, Option, Some, unwrap_or, slice_get, refl, sym, ap, ◌∙◌, arith}
use Rattle.bv_core.specs.Value.{Bits}
use Rattle.tree_core.specs.Tree as tree
use Rattle.net_core.specs.Nodes.{Shape, Fixed, TopInput, Register, OfOne, OfTwo, OfMux, shape_at, node_tree, trees_of, trees_from}
use Rattle.net_core.specs.Nets.{is_register, next_node}
use Rattle.net_core.proofs.TreeLists.{tree_is}
use Rattle.sim_core.specs.Leaves.{registers_of, numbers_from}
use Rattle.sim_core.specs.Given.{given, node_value, next_registers}
use Rattle.sim_core.specs.Laws.{RegistersTakeNextValues}
use Rattle.sim_core.specs.Sample.{Counts}
use Rattle.sim_core.proofs.Origins.{any_can_be_given}
use Rattle.sim_core.proofs.Edges.{next_widths, named}

taken_from : (E : tree.Origin → Bits) (V : ℕ → Bits) (nexts : List (ℕ × ℕ)) (k : ℕ) (ms : List Shape) → map E (registers_of ms) ≡ map V (map (next_node nexts) (numbers_from k ms))
    → (i : ℕ) → i < length ms → (instance name : List ℕ) (start : Bits) → shape_at ms i ≡ Register instance name start → E (tree.Register instance name start) ≡ V (next_node nexts (k + i))
taken_from E V nexts k [] e i l instance name start at = absurd (omega arith)
taken_from E V nexts k (Fixed b ∷ ms) e zero l instance name start at = cc
taken_from E V nexts k (Fixed b ∷ ms) e (suc i) l instance name start at =
    taken_from E V nexts (k + 1) ms e i (omega arith) instance name start at ∙ ap (λ j. V (next_node nexts j)) (let same : k + 1 + i ≡ k + suc i = omega arith in same)
taken_from E V nexts k (TopInput n w ∷ ms) e zero l instance name start at = cc
taken_from E V nexts k (TopInput n w ∷ ms) e (suc i) l instance name start at =
    taken_from E V nexts (k + 1) ms e i (omega arith) instance name start at ∙ ap (λ j. V (next_node nexts j)) (let same : k + 1 + i ≡ k + suc i = omega arith in same)
taken_from E V nexts k (Register a n s ∷ ms) e zero l instance name start at =
    let head : E (tree.Register a n s) ≡ V (next_node nexts k) = cc in
    let i : a ≡ instance = cc in
    let j : n ≡ name = cc in
    let t : s ≡ start = cc in
    sym (λ z. E (tree.Register (i z) (j z) (t z))) ∙ head ∙ ap (λ p. V (next_node nexts p)) (let same : k ≡ k + 0 = omega arith in same)
taken_from E V nexts k (Register a n s ∷ ms) e (suc i) l instance name start at =
    let tail : map E (registers_of ms) ≡ map V (map (next_node nexts) (numbers_from (k + 1) ms)) = cc in
    taken_from E V nexts (k + 1) ms tail i (omega arith) instance name start at ∙ ap (λ j. V (next_node nexts j)) (let same : k + 1 + i ≡ k + suc i = omega arith in same)
taken_from E V nexts k (OfOne op a ∷ ms) e zero l instance name start at = cc
taken_from E V nexts k (OfOne op a ∷ ms) e (suc i) l instance name start at =
    taken_from E V nexts (k + 1) ms e i (omega arith) instance name start at ∙ ap (λ j. V (next_node nexts j)) (let same : k + 1 + i ≡ k + suc i = omega arith in same)
taken_from E V nexts k (OfTwo op a b ∷ ms) e zero l instance name start at = cc
taken_from E V nexts k (OfTwo op a b ∷ ms) e (suc i) l instance name start at =
    taken_from E V nexts (k + 1) ms e i (omega arith) instance name start at ∙ ap (λ j. V (next_node nexts j)) (let same : k + 1 + i ≡ k + suc i = omega arith in same)
taken_from E V nexts k (OfMux c a b ∷ ms) e zero l instance name start at = cc
taken_from E V nexts k (OfMux c a b ∷ ms) e (suc i) l instance name start at =
    taken_from E V nexts (k + 1) ms e i (omega arith) instance name start at ∙ ap (λ j. V (next_node nexts j)) (let same : k + 1 + i ≡ k + suc i = omega arith in same)

record IsRegister (s : Shape) : Type 0 where
  instance : List ℕ
  name : List ℕ
  start : Bits
  is : s ≡ Register instance name start

register_shape : (ts : List tree.Whole) (s : Shape) → is_register (node_tree ts s) ≡ true → IsRegister s
register_shape ts (Fixed b) e = cc
register_shape ts (TopInput name width) e = cc
register_shape ts (Register instance name start) e = record { instance = instance; name = name; start = start; is = refl }
register_shape ts (OfOne op a) e = cc
register_shape ts (OfTwo op a b) e = cc
register_shape ts (OfMux c a b) e = cc

pub registers_take_next_values : RegistersTakeNextValues
registers_take_next_values net is_net inputs registers later i r w k register next at =
    let pair = is_net.nexts.registers k (register, next) at in
    let found = named net.nexts k register next at in
    let one : found.place ≡ k = is_net.nexts.once found.place k register (next_node net.nexts register) next found.at at in
    let both : ◌≡◌ {A = Option (ℕ × ℕ)} (Some (register, next_node net.nexts register)) (Some (register, next)) = sym found.at ∙ ap (slice_get net.nexts) one ∙ at in
    let same : next_node net.nexts register ≡ next = ap (λ (o : Option (ℕ × ℕ)). (unwrap_or o (0, 0)).1) both in
    let is = tree_is net.nodes is_net.shared.numbered register pair.within in
    let shape = register_shape (trees_of net.nodes) (shape_at net.nodes register) (ap is_register (sym is) ∙ pair.register) in
    let gives = any_can_be_given net is_net later (next_registers net inputs registers) w (next_widths net is_net inputs registers i r) in
    let zero_more : 0 + register ≡ register = omega arith in
    let E : tree.Origin → Bits = given net.nodes later (next_registers net inputs registers) in
    ap (tree.value_of E) (is ∙ ap (node_tree (trees_of net.nodes)) shape.is)
    ∙ taken_from E (node_value net.nodes inputs registers) net.nexts 0 net.nodes gives.to_registers register pair.within shape.instance shape.name shape.start shape.is
    ∙ ap (λ p. node_value net.nodes inputs registers (next_node net.nexts p)) zero_more
    ∙ ap (node_value net.nodes inputs registers) same

pub counts : Counts
unfolding trees_from
counts = record { starts = refl; counts = refl; wraps = refl; stays = refl; sum = refl }
