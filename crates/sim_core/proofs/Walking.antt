-- The values of nodes, one node after another.
use Rattle.std.proofs.Common.{◌≡◌, ℕ, ◌+◌, ◌<◌, ◌≤◌, ⊎_elim, List, [], ◌∷◌, ◌++◌, length, map, drop, set, refl, sym, ap, ap₂, ◌∙◌, subst, arith}
use Rattle.std.proofs.lemmas.List.{drop_at, drop-map, map-append, length-map, length-set, get_or-set_same, get_or-set_other}
use Rattle.std.proofs.lemmas.Bool.{cases_lt}
use Rattle.bv_core.specs.Value.{Bits}
use Rattle.bv_core.specs.Operators.{Fits1, Fits2, apply1_of, apply2_of, choose_of, width1_of, width2_of}
use Rattle.tree_core.specs.Tree as tree
use Rattle.tree_core.specs.Width.{origin_width, tree_width, IsWhole}
use Rattle.net_core.specs.Nodes.{Shape, Fixed, TopInput, Register, OfOne, OfTwo, OfMux, shape_at, node_tree, trees_of, tree_of, width_at, OperandsBelow}
use Rattle.net_core.specs.Nets.{equation}
use Rattle.net_core.specs.Builder.{AreShared}
use Rattle.net_core.proofs.TreeLists.{tree_is, trees_length}
use Rattle.net_core.proofs.Solutions.{one_solution}
use Rattle.sim_core.specs.Leaves.{input_in, register_in, inputs_of, registers_of}
use Rattle.sim_core.specs.Given.{HaveWidths, Gives}
use Rattle.sim_core.specs.Steps.{bits_at, IsReady, step_value, inputs_left, registers_left}
use Rattle.sim_core.specs.State.{AreSolved}
use Rattle.bv_core.proofs.Results.{one_has_width, two_have_width, choice_has_width}
use Rattle.sim_core.proofs.Gathering.{gather_next}

-- the nodes below k have their values, and the inputs and registers that are left are those of the other nodes
pub record AreWalked (ns : List Shape) (k : ℕ) (inputs registers more_inputs more_registers values : List Bits) : Type 0 where
  pub long : length values ≡ length ns
  pub input_widths : HaveWidths (inputs_of (drop k ns)) more_inputs
  pub register_widths : HaveWidths (registers_of (drop k ns)) more_registers
  pub widths : (j : ℕ) → j < k → (bits_at values j).width ≡ width_at ns j
  pub left : (E : tree.Origin → Bits) → Gives ns inputs registers E → Gives (drop k ns) more_inputs more_registers E
  pub solved : (E : tree.Origin → Bits) → Gives ns inputs registers E → (j : ℕ) → j < k → bits_at values j ≡ tree.value_of E (tree_of ns j)

pub none_walked : (ns : List Shape) (inputs registers values : List Bits) → length values ≡ length ns → HaveWidths (inputs_of ns) inputs → HaveWidths (registers_of ns) registers
    → AreWalked ns 0 inputs registers inputs registers values
none_walked ns inputs registers values long ins regs = record {
  long = long;
  input_widths = ins;
  register_widths = regs;
  widths = λ j l. absurd (omega arith);
  left = λ E given. given;
  solved = λ E given j l. absurd (omega arith);
}

pub all_walked : (ns : List Shape) (k : ℕ) (inputs registers more_inputs more_registers values : List Bits) → length ns ≤ k → AreWalked ns k inputs registers more_inputs more_registers values → AreSolved ns inputs registers values
all_walked ns k inputs registers more_inputs more_registers values past w = record {
  long = w.long;
  widths = λ j l. w.widths j (omega arith);
  solved = λ E given j l. w.solved E given j (omega arith);
}

-- ---- what a node takes

split_off : {X Y : Type 0} (f : X → Y) (xs ys : List X) (all : List Y) → map f (xs ++ ys) ≡ all → map f ys ≡ drop (length xs) all
split_off f xs ys all e =
    sym (drop_at (map f xs) (map f ys) (length xs) (length-map xs f))
    ∙ ap (drop (length xs)) (sym (map-append f xs ys) ∙ e)

widths_off : (xs ys : List tree.Origin) (values : List Bits) → HaveWidths (xs ++ ys) values → HaveWidths ys (drop (length xs) values)
widths_off xs ys values e =
    sym (drop-map (λ (v : Bits). v.width) (length xs) values) ∙ sym (split_off origin_width xs ys (map (λ (v : Bits). v.width) values) (sym e))

first_width : (o : tree.Origin) (ys : List tree.Origin) (values : List Bits) → HaveWidths (o ∷ ys) values → (0 < length values) × ((bits_at values 0).width ≡ origin_width o)
first_width o ys [] e = cc
first_width o ys (v ∷ values) e = (omega arith, let w : v.width ≡ origin_width o = cc in w)

first_value : (E : tree.Origin → Bits) (o : tree.Origin) (ys : List tree.Origin) (values : List Bits) → map E (o ∷ ys) ≡ values → bits_at values 0 ≡ E o
first_value E o ys values e = ap (λ l. bits_at l 0) (sym e)

-- ---- its value

-- the operands of a node have values of the widths of their nodes
Known : List Shape → ℕ → List Bits → Type 0
Known ns k values = (j : ℕ) → j < k → (bits_at values j).width ≡ width_at ns j

ready_by : (ns : List Shape) (k : ℕ) (values inputs registers : List Bits) (ins regs : List tree.Origin) (s : Shape) → k ≤ length values → Known ns k values → OperandsBelow k s
    → IsWhole (node_tree (trees_of ns) s) → HaveWidths (input_in s ++ ins) inputs → HaveWidths (register_in s ++ regs) registers → IsReady values inputs registers s
unfolding Known
ready_by ns k values inputs registers ins regs (Fixed b) long known below whole i r = tt
ready_by ns k values inputs registers ins regs (TopInput name width) long known below whole i r = (first_width (tree.Input name width) ins inputs i).0
ready_by ns k values inputs registers ins regs (Register instance name start) long known below whole i r = (first_width (tree.Register instance name start) regs registers r).0
ready_by ns k values inputs registers ins regs (OfOne op a) long known below whole i r =
    (omega arith, subst (Fits1 op) (sym (known a below)) whole.1)
ready_by ns k values inputs registers ins regs (OfTwo op a b) long known below whole i r =
    let la : a < k = below.0 in
    let lb : b < k = below.1 in
    (omega arith, omega arith, subst (λ w. Fits2 op w (bits_at values b).width) (sym (known a la)) (subst (Fits2 op (width_at ns a)) (sym (known b lb)) whole.2))
ready_by ns k values inputs registers ins regs (OfMux c a b) long known below whole i r =
    let lc : c < k = below.0 in
    let la : a < k = below.1 in
    let lb : b < k = below.2 in
    (omega arith, omega arith, omega arith, (known c lc ∙ whole.3.0, known a la ∙ whole.3.1 ∙ sym (known b lb)))

width_by : (ns : List Shape) (k : ℕ) (values inputs registers : List Bits) (ins regs : List tree.Origin) (s : Shape) → Known ns k values → OperandsBelow k s
    → IsReady values inputs registers s → HaveWidths (input_in s ++ ins) inputs → HaveWidths (register_in s ++ regs) registers
    → (step_value values inputs registers s).width ≡ tree_width (node_tree (trees_of ns) s)
unfolding Known
width_by ns k values inputs registers ins regs (Fixed b) known below ready i r = refl
width_by ns k values inputs registers ins regs (TopInput name width) known below ready i r = (first_width (tree.Input name width) ins inputs i).1
width_by ns k values inputs registers ins regs (Register instance name start) known below ready i r = (first_width (tree.Register instance name start) regs registers r).1
width_by ns k values inputs registers ins regs (OfOne op a) known below ready i r = one_has_width op (bits_at values a) ∙ ap (width1_of op) (known a below)
width_by ns k values inputs registers ins regs (OfTwo op a b) known below ready i r =
    two_have_width op (bits_at values a) (bits_at values b) ∙ ap₂ (width2_of op) (known a below.0) (known b below.1)
width_by ns k values inputs registers ins regs (OfMux c a b) known below ready i r =
    choice_has_width (bits_at values c) (bits_at values a) (bits_at values b) ready.3 ∙ known a below.1

value_by : (E : tree.Origin → Bits) (V : ℕ → Bits) (k : ℕ) (values inputs registers : List Bits) (ins regs : List tree.Origin) (s : Shape)
    → ((j : ℕ) → j < k → bits_at values j ≡ V j) → OperandsBelow k s → map E (input_in s ++ ins) ≡ inputs → map E (register_in s ++ regs) ≡ registers
    → step_value values inputs registers s ≡ equation E V s
value_by E V k values inputs registers ins regs (Fixed b) known below i r = refl
value_by E V k values inputs registers ins regs (TopInput name width) known below i r = first_value E (tree.Input name width) ins inputs i
value_by E V k values inputs registers ins regs (Register instance name start) known below i r = first_value E (tree.Register instance name start) regs registers r
value_by E V k values inputs registers ins regs (OfOne op a) known below i r = ap (apply1_of op) (known a below)
value_by E V k values inputs registers ins regs (OfTwo op a b) known below i r = ap₂ (apply2_of op) (known a below.0) (known b below.1)
value_by E V k values inputs registers ins regs (OfMux c a b) known below i r = λ z. choose_of (known c below.0 z) (known a below.1 z) (known b below.2 z)

-- ---- one node more

module _ (ns : List Shape) (g : AreShared ns) (k : ℕ) (inputs registers more_inputs more_registers values : List Bits) (s : Shape) (inside : k < length ns) (at : s ≡ shape_at ns k)
    (w : AreWalked ns k inputs registers more_inputs more_registers values) where
  below : OperandsBelow k s
  below = subst (OperandsBelow k) (sym at) (g.numbered.below k inside)

  is_tree : tree_of ns k ≡ node_tree (trees_of ns) s
  is_tree = tree_is ns g.numbered k inside ∙ ap (node_tree (trees_of ns)) (sym at)

  whole : IsWhole (node_tree (trees_of ns) s)
  whole = subst IsWhole is_tree (g.trees.whole k (omega (arith, trees_length ns)))

  these_inputs : inputs_of (drop k ns) ≡ input_in s ++ inputs_of (drop (k + 1) ns)
  these_inputs = gather_next input_in ns k s inside at

  these_registers : registers_of (drop k ns) ≡ register_in s ++ registers_of (drop (k + 1) ns)
  these_registers = gather_next register_in ns k s inside at

  ins : HaveWidths (input_in s ++ inputs_of (drop (k + 1) ns)) more_inputs
  ins = w.input_widths ∙ ap (map origin_width) these_inputs

  regs : HaveWidths (register_in s ++ registers_of (drop (k + 1) ns)) more_registers
  regs = w.register_widths ∙ ap (map origin_width) these_registers

  pub ready : IsReady values more_inputs more_registers s
  unfolding Known
  ready = ready_by ns k values more_inputs more_registers (inputs_of (drop (k + 1) ns)) (registers_of (drop (k + 1) ns)) s (let long = w.long in omega arith) w.widths below whole ins regs

  step_width : (step_value values more_inputs more_registers s).width ≡ width_at ns k
  unfolding Known
  step_width =
      width_by ns k values more_inputs more_registers (inputs_of (drop (k + 1) ns)) (registers_of (drop (k + 1) ns)) s w.widths below ready ins regs
      ∙ ap tree_width (sym is_tree)

  step_solves : (E : tree.Origin → Bits) → Gives ns inputs registers E → step_value values more_inputs more_registers s ≡ tree.value_of E (tree_of ns k)
  step_solves E given =
      let more = w.left E given in
      value_by E (λ j. tree.value_of E (tree_of ns j)) k values more_inputs more_registers (inputs_of (drop (k + 1) ns)) (registers_of (drop (k + 1) ns)) s (w.solved E given) below
      (ap (map E) (sym these_inputs) ∙ more.to_inputs) (ap (map E) (sym these_registers) ∙ more.to_registers)
      ∙ ap (equation E (λ j. tree.value_of E (tree_of ns j))) at
      ∙ sym ((one_solution ns g.numbered E).solves k inside)

  here : (j : ℕ) → j ≡ k → bits_at (set values k (step_value values more_inputs more_registers s)) j ≡ step_value values more_inputs more_registers s
  here j e = ap (bits_at (set values k (step_value values more_inputs more_registers s))) e ∙ get_or-set_same values k (step_value values more_inputs more_registers s) (record { width = 1; value = 0 }) (let long = w.long in omega arith)

  there : (j : ℕ) → j < k → bits_at (set values k (step_value values more_inputs more_registers s)) j ≡ bits_at values j
  there j l = get_or-set_other values k j (step_value values more_inputs more_registers s) (record { width = 1; value = 0 }) (λ e. omega arith)

  pub walked : AreWalked ns (k + 1) inputs registers (inputs_left more_inputs s) (registers_left more_registers s) (set values k (step_value values more_inputs more_registers s))
  walked = record {
    long = length-set values k (step_value values more_inputs more_registers s) ∙ w.long;
    input_widths = widths_off (input_in s) (inputs_of (drop (k + 1) ns)) more_inputs ins;
    register_widths = widths_off (register_in s) (registers_of (drop (k + 1) ns)) more_registers regs;
    widths = λ j l. ⊎_elim
        (λ (m : j < k). ap (λ (v : Bits). v.width) (there j m) ∙ w.widths j m)
        (λ (m : k ≤ j). let e : j ≡ k = omega arith in ap (λ (v : Bits). v.width) (here j e) ∙ step_width ∙ ap (width_at ns) (sym e))
        (cases_lt j k);
    left = λ E given. record {
      to_inputs = split_off E (input_in s) (inputs_of (drop (k + 1) ns)) more_inputs (ap (map E) (sym these_inputs) ∙ (w.left E given).to_inputs);
      to_registers = split_off E (register_in s) (registers_of (drop (k + 1) ns)) more_registers (ap (map E) (sym these_registers) ∙ (w.left E given).to_registers);
    };
    solved = λ E given j l. ⊎_elim
        (λ (m : j < k). there j m ∙ w.solved E given j m)
        (λ (m : k ≤ j). let e : j ≡ k = omega arith in here j e ∙ step_solves E given ∙ ap (λ i. tree.value_of E (tree_of ns i)) (sym e))
        (cases_lt j k);
  }

-- where what it takes and leaves is told by equations
pub walked_as : (ns : List Shape) (g : AreShared ns) (k : ℕ) (inputs registers old_inputs old_registers new_inputs new_registers values : List Bits) (s : Shape) (v : Bits) → k < length ns → s ≡ shape_at ns k
    → AreWalked ns k inputs registers old_inputs old_registers values
    → v ≡ step_value values old_inputs old_registers s → new_inputs ≡ inputs_left old_inputs s → new_registers ≡ registers_left old_registers s
    → AreWalked ns (k + 1) inputs registers new_inputs new_registers (set values k v)
walked_as ns g k inputs registers old_inputs old_registers new_inputs new_registers values s v inside at w e f h =
    subst (λ x. AreWalked ns (k + 1) inputs registers new_inputs new_registers (set values k x)) (sym e)
    (subst (λ xs. AreWalked ns (k + 1) inputs registers xs new_registers (set values k (step_value values old_inputs old_registers s))) (sym f)
    (subst (λ xs. AreWalked ns (k + 1) inputs registers (inputs_left old_inputs s) xs (set values k (step_value values old_inputs old_registers s))) (sym h)
    (walked ns g k inputs registers old_inputs old_registers values s inside at w)))
