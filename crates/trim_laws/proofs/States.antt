-- The kept inputs and registers of a net under a stimulus have what the states of its design give them.
use Rattle.std.proofs.Common.{◌≡◌, ℕ, zero, suc, ◌+◌, ◌<◌, ◌≤◌, ◌==◌, ◌&&◌, Bool, true, false, bytes_eq, List, [], ◌∷◌, length, map, Some, if◌then◌else◌, inl, inr, refl, sym, ap, ◌∙◌, arith, eq-eqb}
use Rattle.std.specs.Prelude.{slice_index_or}
use Rattle.std.specs.List.{zip}
use Rattle.std.proofs.lemmas.Option.{none-some, same_Some}
use Rattle.bv_core.specs.Value.{Bits}
use Rattle.tree_core.specs.Tree as tree
use Rattle.tree_core.specs.Tree.{Origin, Input, Leaf, Whole, value_of}
use Rattle.exec_core.specs.Block.{Name}
use Rattle.list_core.specs.Lists.{EachOf, IsIn, from}
use Rattle.exec_core.specs.Whole.{Place}
use Rattle.exec_core.specs.Design as exec
use Rattle.exec_core.specs.Design.{next_tree, folded_tree}
use Rattle.exec_core.specs.Run.{given_value, starts, start_of}
use Rattle.exec_core.specs.Accepted.{Accepted}
use Rattle.exec_core.specs.KeptStates.{GivesKept, AreKeptStates}
use Rattle.list_core.proofs.Lists.{each_member, each_from, in_left, in_right}
use Rattle.exec_core.proofs.Sources.{given_origin}
use Rattle.design_core.specs.Design.{Design}
use Rattle.design_exec.specs.Processes.{Given, processes_of}
use Rattle.net_core.specs.Nodes.{Shape, Fixed, TopInput, Register, OfOne, OfTwo, OfMux, shape_at, node_tree, trees_of}
use Rattle.net_core.specs.Builder.{Stands}
use Rattle.net_core.specs.Nets.{NetParts, IsNet}
use Rattle.net_core.proofs.TreeLists.{tree_is}
use Rattle.stim_text.specs.Stimulus.{Stimulus, IsStimulus}
use Rattle.sim_core.specs.Leaves.{gathered, input_in, register_in, inputs_of, registers_of, starts_of}
use Rattle.sim_core.specs.Given.{value_beside, given, node_value}
use Rattle.sim_core.specs.Given as sim
use Rattle.sim_core.proofs.Origins.{any_can_be_given}
use Rattle.sim_core.proofs.Turns.{registers_take_next_values}
use Rattle.sim_hist.specs.Run.{inputs_in, registers_in, port_origins}
use Rattle.sim_hist.proofs.Running.{input_widths, register_widths, first_registers, next_registers_in, is_row}
use Rattle.check_exec.proofs.Facts.{in_index}
use Rattle.world_core.specs.Source.{value_named, rows_named}
use Rattle.lower_core.specs.Lowered.{HasNode, NextTold}
use Rattle.world_laws.proofs.RowsFit.{Port, first_width, HasWidths, IsFirst}

-- ---- lists

mapped_in : {A B : Type 0} (f g : A → B) (xs : List A) (x : A) → map f xs ≡ map g xs → IsIn x xs → f x ≡ g x
mapped_in f g [] x e i = absurd i
mapped_in f g (y ∷ ys) x e (inl same) = let here : f y ≡ g y = cc in ap f same ∙ here ∙ sym (ap g same)
mapped_in f g (y ∷ ys) x e (inr i) = let rest : map f ys ≡ map g ys = cc in mapped_in f g ys x rest i

gathered_in : {X : Type 0} (of : Shape → List X) (ns : List Shape) (k : ℕ) (x : X) → k < length ns → IsIn x (of (shape_at ns k)) → IsIn x (gathered of ns)
gathered_in of [] k x l i = absurd (omega arith)
gathered_in of (n ∷ ns) zero x l i = in_left x (of n) (gathered of ns) i
gathered_in of (n ∷ ns) (suc k) x l i = in_right x (of n) (gathered of ns) (gathered_in of ns k x (omega arith) i)

-- ---- the node of an input or a register

input_shape : (ts : List Whole) (n : Shape) (name : List ℕ) (width : ℕ) → node_tree ts n ≡ Leaf (Input name width) → IsIn (Input name width) (input_in n)
input_shape ts (Fixed b) name width e = cc
input_shape ts (TopInput m w) name width e = let same : Input name width ≡ Input m w = cc in inl same
input_shape ts (Register instance m start) name width e = cc
input_shape ts (OfOne op a) name width e = cc
input_shape ts (OfTwo op a b) name width e = cc
input_shape ts (OfMux c a b) name width e = cc

register_shape : (ts : List Whole) (n : Shape) (instance name : List ℕ) (start : Bits) → node_tree ts n ≡ Leaf (tree.Register instance name start) → IsIn (tree.Register instance name start) (register_in n)
register_shape ts (Fixed b) instance name start e = cc
register_shape ts (TopInput m w) instance name start e = cc
register_shape ts (Register i m s) instance name start e = let same : tree.Register instance name start ≡ tree.Register i m s = cc in inl same
register_shape ts (OfOne op a) instance name start e = cc
register_shape ts (OfTwo op a b) instance name start e = cc
register_shape ts (OfMux c a b) instance name start e = cc

-- ---- what a row gives an input, by its port and by its name

beside_named : (inputs : List Port) (row : List Bits) (x : Name) (w : ℕ) → first_width inputs x ≡ Some w → HasWidths inputs row → value_beside (zip (port_origins inputs) row) (Input x w) ≡ value_named inputs row x
beside_named [] row x w e long = absurd (none-some w e)
beside_named (p ∷ ps) [] x w e long = absurd cc
beside_named (p ∷ ps) (v ∷ row) x w e long =
    let rest : HasWidths ps row = cc in by_test (bytes_eq p.0 x) e (λ more. beside_named ps row x w more rest)
  where
    by_test : (b : Bool) → (if b then Some p.1 else first_width ps x) ≡ Some w → (first_width ps x ≡ Some w → value_beside (zip (port_origins ps) row) (Input x w) ≡ value_named ps row x)
        → (if b && p.1 == w then v else value_beside (zip (port_origins ps) row) (Input x w)) ≡ (if b then v else value_named ps row x)
    by_test true more later = ap (λ b. if b then v else value_beside (zip (port_origins ps) row) (Input x w)) (eq-eqb p.1 w (same_Some p.1 w more))
    by_test false more later = later more

-- ---- the state of a cycle

abbrev pub state_in : NetParts → Stimulus → ℕ → Origin → Bits
state_in net s t = given net.nodes (inputs_in net s t) (registers_in net s t)

start_value : Origin → Bits
start_value (Input name width) = record { width = width; value = 0 }
start_value (tree.Register instance name start) = start

starts_are : (ns : List Shape) → starts_of ns ≡ map start_value (registers_of ns)
unfolding start_value
starts_are [] = refl
starts_are (Fixed b ∷ ns) = starts_are ns
starts_are (TopInput m w ∷ ns) = starts_are ns
starts_are (Register i m s ∷ ns) = ap (λ l. s ∷ l) (starts_are ns)
starts_are (OfOne op a ∷ ns) = starts_are ns
starts_are (OfTwo op a b ∷ ns) = starts_are ns
starts_are (OfMux c a b ∷ ns) = starts_are ns

module _ (net : NetParts) (is_net : IsNet net) (s : Stimulus) (kept : IsStimulus s) where
  gives : (t : ℕ) → t < length s.rows → sim.Gives net.nodes (inputs_in net s t) (registers_in net s t) (state_in net s t)
  gives t l = any_can_be_given net is_net (inputs_in net s t) (registers_in net s t) (input_widths net s t kept l) (register_widths net s t is_net kept (let m : t ≤ length s.rows = omega arith in m))

  shape_is : (id : ℕ) (T : Whole) → Stands net.nodes id T → node_tree (trees_of net.nodes) (shape_at net.nodes id) ≡ T
  shape_is id T h = sym (tree_is net.nodes is_net.shared.numbered id h.within) ∙ h.tree

  input_node : (id : ℕ) (name : List ℕ) (width : ℕ) → Stands net.nodes id (Leaf (Input name width)) → IsIn (Input name width) (inputs_of net.nodes)
  input_node id name width h =
      gathered_in input_in net.nodes id (Input name width) h.within (input_shape (trees_of net.nodes) (shape_at net.nodes id) name width (shape_is id (Leaf (Input name width)) h))

  register_node : (id : ℕ) (instance name : List ℕ) (start : Bits) → Stands net.nodes id (Leaf (tree.Register instance name start)) → IsIn (tree.Register instance name start) (registers_of net.nodes)
  register_node id instance name start h =
      gathered_in register_in net.nodes id (tree.Register instance name start) h.within
      (register_shape (trees_of net.nodes) (shape_at net.nodes id) instance name start (shape_is id (Leaf (tree.Register instance name start)) h))

  -- an input has what the row has beside its name
  state_input : (t : ℕ) → t < length s.rows → (id : ℕ) (name : List ℕ) (width : ℕ) → Stands net.nodes id (Leaf (Input name width)) → first_width s.ports.inputs name ≡ Some width
      → state_in net s t (Input name width) ≡ value_named s.ports.inputs (slice_index_or s.rows t []) name
  state_input t l id name width h first =
      mapped_in (state_in net s t) (value_beside (zip (port_origins s.ports.inputs) (slice_index_or s.rows t []))) (inputs_of net.nodes) (Input name width) (gives t l).to_inputs (input_node id name width h)
      ∙ beside_named s.ports.inputs (slice_index_or s.rows t []) name width first (is_row s t kept l)

  -- a register starts with its start value
  state_start : 0 < length s.rows → (id : ℕ) (instance name : List ℕ) (start : Bits) → Stands net.nodes id (Leaf (tree.Register instance name start)) → state_in net s 0 (tree.Register instance name start) ≡ start
  unfolding start_value
  state_start l id instance name start h =
      mapped_in (state_in net s 0) start_value (registers_of net.nodes) (tree.Register instance name start)
      ((gives 0 l).to_registers ∙ first_registers net s ∙ starts_are net.nodes) (register_node id instance name start h)

  -- and has in the next cycle what the node of its next value has in this one
  state_next : (t : ℕ) → t + 1 < length s.rows → (id next : ℕ) (o : Origin) (T : Whole) → IsIn (id, next) net.nexts → Stands net.nodes id (Leaf o) → Stands net.nodes next T
      → state_in net s (t + 1) o ≡ value_of (state_in net s t) T
  state_next t l id next o T among here there =
      let k = in_index net.nexts (id, next) among in
      let now : t < length s.rows = omega arith in
      let upto : t ≤ length s.rows = omega arith in
      ap (value_of (state_in net s (t + 1))) (sym here.tree)
      ∙ ap (λ rs. node_value net.nodes (inputs_in net s (t + 1)) rs id) (next_registers_in net s t)
      ∙ registers_take_next_values net is_net (inputs_in net s t) (registers_in net s t) (inputs_in net s (t + 1)) (input_widths net s t kept now) (register_widths net s t is_net kept upto)
      (input_widths net s (t + 1) kept l) k.0 id next k.1
      ∙ ap (value_of (state_in net s t)) there.tree

-- ---- the rows from a cycle on

record RowsFrom (s : Stimulus) (t : ℕ) (rows : List (List Bits)) : Type 0 where
  count : t + length rows ≡ length s.rows
  at : (j : ℕ) → j < length rows → slice_index_or s.rows (t + j) [] ≡ slice_index_or rows j []

rows_all : (s : Stimulus) → RowsFrom s 0 s.rows
rows_all s = record { count = omega arith; at = λ j l. ap (λ k. slice_index_or s.rows k []) (let e : 0 + j ≡ j = omega arith in e) }

rows_more : (s : Stimulus) (t : ℕ) (row : List Bits) (rows : List (List Bits)) → RowsFrom s t (row ∷ rows) → RowsFrom s (t + 1) rows
rows_more s t row rows f = record {
  count = let all = f.count in omega arith;
  at = λ j l. ap (λ k. slice_index_or s.rows k []) (let e : t + 1 + j ≡ t + suc j = omega arith in e) ∙ f.at (suc j) (omega arith);
}

rows_inside : (s : Stimulus) (t : ℕ) (row : List Bits) (rows : List (List Bits)) → RowsFrom s t (row ∷ rows) → t < length s.rows
rows_inside s t row rows f = let all = f.count in omega arith

rows_head : (s : Stimulus) (t : ℕ) (row : List Bits) (rows : List (List Bits)) → RowsFrom s t (row ∷ rows) → slice_index_or s.rows t [] ≡ row
rows_head s t row rows f = ap (λ k. slice_index_or s.rows k []) (let e : t ≡ t + 0 = omega arith in e) ∙ f.at 0 (omega arith)

-- a register that is kept has what these registers give it
abbrev Holds : (Whole → Type 0) → NetParts → Stimulus → ℕ → (Place → Bits) → Place → Origin → Type 0
Holds kept net s t registers p (Input name width) = Unit {0}
Holds kept net s t registers p (tree.Register instance name start) = kept (Leaf (tree.Register instance name start)) → state_in net s t (tree.Register instance name start) ≡ registers p

abbrev AllHold : Design → (Whole → Type 0) → NetParts → Stimulus → ℕ → (Place → Bits) → Type 0
AllHold d kept net s t registers = EachOf (λ (given : Given). Holds kept net s t registers given.0 given.1) (processes_of d).givens

-- what is given and kept has a node, and each register of these its next value
pub record GivensKept (d : Design) (n : ℕ) (kept : Whole → Type 0) (net : NetParts) (s : Stimulus) : Type 0 where
  pub first : EachOf (λ (given : Given). IsFirst s.ports.inputs given.1) (processes_of d).givens
  pub nodes : EachOf (λ (given : Given). kept (Leaf given.1) → HasNode net.nodes given) (processes_of d).givens
  pub nexts : EachOf (λ (given : Given). kept (Leaf given.1) → NextTold d n net given.0 given.1) (processes_of d).givens

module _ (d : Design) (n : ℕ) (kept : Whole → Type 0) (net : NetParts) (is_net : IsNet net) (s : Stimulus) (is_stimulus : IsStimulus s) (told : GivensKept d n kept net s) where
  node_of : (given : Given) → IsIn given (processes_of d).givens → kept (Leaf given.1) → HasNode net.nodes given
  node_of given i = each_member (λ (q : Given). kept (Leaf q.1) → HasNode net.nodes q) (processes_of d).givens told.nodes given i

  gives_row : (t : ℕ) (row : List Bits) → t < length s.rows → slice_index_or s.rows t [] ≡ row → (registers : Place → Bits) → AllHold d kept net s t registers
      → GivesKept (processes_of d) kept registers (value_named s.ports.inputs row) (state_in net s t)
  gives_row t row l here registers holds =
      each_from (λ (given : Given). kept (Leaf given.1) → state_in net s t given.1 ≡ given_value registers (value_named s.ports.inputs row) given.0 given.1) (processes_of d).givens
      (λ given i k. by_origin given.0 given.1 k (node_of given i k)
      (each_member (λ (given : Given). IsFirst s.ports.inputs given.1) (processes_of d).givens told.first given i)
      (each_member (λ (given : Given). Holds kept net s t registers given.0 given.1) (processes_of d).givens holds given i))
    where
      by_origin : (p : Place) (o : Origin) → kept (Leaf o) → HasNode net.nodes (p, o) → IsFirst s.ports.inputs o → Holds kept net s t registers p o → state_in net s t o ≡ given_value registers (value_named s.ports.inputs row) p o
      by_origin p (Input name width) k node first h = state_input net is_net s is_stimulus t l node.id name width node.stands first ∙ ap (λ r. value_named s.ports.inputs r name) here
      by_origin p (tree.Register instance name start) k node first h = h k

  holds_next : (t : ℕ) → t + 1 < length s.rows → AllHold d kept net s (t + 1) (λ p. value_of (state_in net s t) (folded_tree (processes_of d) n (next_tree (processes_of d) p)))
  holds_next t l =
      each_from (λ (given : Given). Holds kept net s (t + 1) (λ p. value_of (state_in net s t) (folded_tree (processes_of d) n (next_tree (processes_of d) p))) given.0 given.1) (processes_of d).givens
      (λ given i. by_origin given.0 given.1 (each_member (λ (given : Given). kept (Leaf given.1) → NextTold d n net given.0 given.1) (processes_of d).givens told.nexts given i))
    where
      by_origin : (p : Place) (o : Origin) → (kept (Leaf o) → NextTold d n net p o) → Holds kept net s (t + 1) (λ q. value_of (state_in net s t) (folded_tree (processes_of d) n (next_tree (processes_of d) q))) p o
      by_origin p (Input name width) h = tt
      by_origin p (tree.Register instance name start) h = λ k.
          state_next net is_net s is_stimulus t l (h k).id (h k).next (tree.Register instance name start) (folded_tree (processes_of d) n (next_tree (processes_of d) p)) (h k).among (h k).register (h k).stands

  states_from : (t : ℕ) (rows : List (List Bits)) → RowsFrom s t rows → (registers : Place → Bits) → (t < length s.rows → AllHold d kept net s t registers)
      → AreKeptStates (processes_of d) n kept registers (rows_named s.ports.inputs rows) (map (state_in net s) (from t (length rows)))
  states_from t [] f registers holds = tt
  states_from t (row ∷ rows) f registers holds =
      let inside = rows_inside s t row rows f in (
        gives_row t row inside (rows_head s t row rows f) registers (holds inside),
        states_from (t + 1) rows (rows_more s t row rows f) (λ p. value_of (state_in net s t) (folded_tree (processes_of d) n (next_tree (processes_of d) p))) (holds_next t),
      )

  module _ (order : List Place) (ok : Accepted (processes_of d) order) where
    holds_first : 0 < length s.rows → AllHold d kept net s 0 (starts (processes_of d))
    holds_first l =
        each_from (λ (given : Given). Holds kept net s 0 (starts (processes_of d)) given.0 given.1) (processes_of d).givens
        (λ given i. by_origin given.0 given.1 (node_of given i) (given_origin (processes_of d) order ok given i))
      where
        by_origin : (p : Place) (o : Origin) → (kept (Leaf o) → HasNode net.nodes (p, o)) → exec.origin_at (processes_of d) p ≡ Some o → Holds kept net s 0 (starts (processes_of d)) p o
        by_origin p (Input name width) node e = tt
        by_origin p (tree.Register instance name start) node e = λ k. state_start net is_net s is_stimulus l (node k).id instance name start (node k).stands ∙ sym (ap start_of e)

    pub are_states : AreKeptStates (processes_of d) n kept (starts (processes_of d)) (rows_named s.ports.inputs s.rows) (map (state_in net s) (from 0 (length s.rows)))
    are_states = states_from 0 s.rows (rows_all s) (starts (processes_of d)) holds_first
