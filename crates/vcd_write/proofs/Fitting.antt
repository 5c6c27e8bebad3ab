-- The values of a run fit their nodes.
use Rattle.std.proofs.Common.{◌≡◌, ℕ, zero, suc, ◌+◌, ◌<◌, ◌≤◌, ◌^◌, Bool, true, false, List, [], ◌∷◌, ◌++◌, length, map, if◌then◌else◌, Option, Some, None, ◌⊎◌, inl, inr, refl, sym, ap, ap₂, ◌∙◌, subst, arith}
use Rattle.std.specs.Prelude.{All, slice_get, slice_index_or}
use Rattle.std.specs.List.{zip}
use Rattle.std.proofs.lemmas.List.Elements.{All-nil, All-cons, All-head, All-tail, All-get_or}
use Rattle.std.proofs.Math.Pow.{pow_pos}
use Rattle.bv_core.specs.Value.{Bits, IsBits}
use Rattle.tree_core.specs.Tree as tree
use Rattle.tree_core.specs.Width.{IsOf, IsOrigin, IsWhole, origin_width, GivesWidths, tree_width}
use Rattle.tree_core.specs.Fold.{same_origin}
use Rattle.tree_core.proofs.Same.{same_origin-sound}
use Rattle.tree_core.proofs.Folding.{values_fit}
use Rattle.list_core.specs.Lists.{EachOf}
use Rattle.design_core.specs.declared.Ports.{Ports}
use Rattle.net_core.specs.Nodes.{Shape, Fixed, TopInput, Register, OfOne, OfTwo, OfMux, shape_at, tree_at, node_tree, trees_of, tree_of}
use Rattle.net_core.specs.Nets.{NetParts, IsNet}
use Rattle.net_core.proofs.TreeLists.{tree_is, trees_length}
use Rattle.net_core.proofs.Sharing.{got}
use Rattle.stim_text.specs.Stimulus.{Stimulus, IsStimulus}
use Rattle.sim_core.specs.Leaves.{inputs_of, starts_of, sources_of}
use Rattle.sim_core.specs.Given.{HaveWidths, value_beside, given, node_value}
use Rattle.sim_core.proofs.Origins.{widths_are_given}
use Rattle.sim_hist.specs.Run.{port_origins, inputs_in, registers_in}
use Rattle.sim_hist.proofs.Running.{is_row, input_widths, register_widths}
use Rattle.vcd_write.specs.Run.{value_in, shown_of, row_of}

-- ---- values beside inputs

zero_of : (o : tree.Origin) → IsOrigin o → IsOf (origin_width o) (record { width = origin_width o; value = 0 })
zero_of (tree.Input name width) good = record { width = refl; bits = record { some = good.0; most = good.1; fits = pow_pos width } }
zero_of (tree.Register instance name start) good = record { width = refl; bits = record { some = good.some; most = good.most; fits = pow_pos start.width } }

beside_of : (os : List tree.Origin) (values : List Bits) → HaveWidths os values → All IsBits values → (o : tree.Origin) → IsOrigin o → IsOf (origin_width o) (value_beside (zip os values) o)
beside_of [] values e all o good = zero_of o good
beside_of (p ∷ os) [] e all o good = cc
beside_of (p ∷ os) (v ∷ values) e all o good =
    let rest : map (λ (x : Bits). x.width) values ≡ map origin_width os = cc in
    by_test (beside_of os values rest (All-tail IsBits v values all) o good) (same_origin p o) refl
  where
    by_test : IsOf (origin_width o) (value_beside (zip os values) o) → (b : Bool) → same_origin p o ≡ b → IsOf (origin_width o) (if same_origin p o then v else value_beside (zip os values) o)
    by_test later true t =
        let w : v.width ≡ origin_width p = cc in
        subst (λ b. IsOf (origin_width o) (if b then v else value_beside (zip os values) o)) (sym t)
        (record { width = w ∙ ap origin_width (same_origin-sound p o t); bits = All-head IsBits v values all })
    by_test later false t = subst (λ b. IsOf (origin_width o) (if b then v else value_beside (zip os values) o)) (sym t) later

port_widths : (inputs : List (List ℕ × ℕ)) → map (λ (input : List ℕ × ℕ). input.1) inputs ≡ map origin_width (port_origins inputs)
port_widths [] = refl
port_widths (input ∷ inputs) = ap (λ ws. input.1 ∷ ws) (port_widths inputs)

inputs_all : (F : tree.Origin → Bits) → ((o : tree.Origin) → IsOrigin o → IsBits (F o)) → (ns : List Shape) → ((i : ℕ) (name : List ℕ) (width : ℕ) → slice_get ns i ≡ Some (TopInput name width) → IsOrigin (tree.Input name width)) → All IsBits (map F (inputs_of ns))
inputs_all F f [] h = All-nil IsBits
inputs_all F f (Fixed b ∷ ns) h = inputs_all F f ns (λ i. h (suc i))
inputs_all F f (TopInput name width ∷ ns) h = All-cons IsBits (F (tree.Input name width)) (map F (inputs_of ns)) (f (tree.Input name width) (h 0 name width refl)) (inputs_all F f ns (λ i. h (suc i)))
inputs_all F f (Register instance name start ∷ ns) h = inputs_all F f ns (λ i. h (suc i))
inputs_all F f (OfOne op a ∷ ns) h = inputs_all F f ns (λ i. h (suc i))
inputs_all F f (OfTwo op a b ∷ ns) h = inputs_all F f ns (λ i. h (suc i))
inputs_all F f (OfMux c a b ∷ ns) h = inputs_all F f ns (λ i. h (suc i))

starts_all : (ns : List Shape) → ((i : ℕ) (instance name : List ℕ) (start : Bits) → slice_get ns i ≡ Some (Register instance name start) → IsBits start) → All IsBits (starts_of ns)
starts_all [] h = All-nil IsBits
starts_all (Fixed b ∷ ns) h = starts_all ns (λ i. h (suc i))
starts_all (TopInput name width ∷ ns) h = starts_all ns (λ i. h (suc i))
starts_all (Register instance name start ∷ ns) h = All-cons IsBits start (starts_of ns) (h 0 instance name start refl) (starts_all ns (λ i. h (suc i)))
starts_all (OfOne op a ∷ ns) h = starts_all ns (λ i. h (suc i))
starts_all (OfTwo op a b ∷ ns) h = starts_all ns (λ i. h (suc i))
starts_all (OfMux c a b ∷ ns) h = starts_all ns (λ i. h (suc i))

all_map : (f : ℕ → Bits) → ((n : ℕ) → IsBits (f n)) → (ns : List ℕ) → All IsBits (map f ns)
all_map f h [] = All-nil IsBits
all_map f h (n ∷ ns) = All-cons IsBits (f n) (map f ns) (h n) (all_map f h ns)

pub each_map : (f : ℕ → Bits) → ((n : ℕ) → IsBits (f n)) → (ns : List ℕ) → EachOf IsBits (map f ns)
each_map f h [] = tt
each_map f h (n ∷ ns) = (h n, each_map f h ns)

-- ---- trees of a net

past : (ts : List tree.Whole) (n : ℕ) → length ts ≤ n → tree_at ts n ≡ tree.Const (record { width = 1; value = 0 })
past [] n l = refl
past (t ∷ ts) zero l = absurd (omega arith)
past (t ∷ ts) (suc n) l = past ts n (omega arith)

pub either : (n m : ℕ) → (n < m) ⊎ (m ≤ n)
either n zero = inr (omega arith)
either zero (suc m) = inl (omega arith)
either (suc n) (suc m) = by (either n m)
  where
    by : (n < m) ⊎ (m ≤ n) → (suc n < suc m) ⊎ (suc m ≤ suc n)
    by (inl l) = inl (omega arith)
    by (inr l) = inr (omega arith)

module _ (net : NetParts) (is : IsNet net) where
  whole_at : (n : ℕ) → IsWhole (tree_of net.nodes n)
  whole_at n = by (either n (length (trees_of net.nodes)))
    where
      by : (n < length (trees_of net.nodes)) ⊎ (length (trees_of net.nodes) ≤ n) → IsWhole (tree_of net.nodes n)
      by (inl l) = is.shared.trees.whole n l
      by (inr l) = subst IsWhole (sym (past (trees_of net.nodes) n l)) (record { some = omega arith; most = omega arith; fits = pow_pos 1 })

  pub tree_at_shape : (i : ℕ) (shape : Shape) → slice_get net.nodes i ≡ Some shape → tree_of net.nodes i ≡ node_tree (trees_of net.nodes) shape
  tree_at_shape i shape e = let g = got net.nodes i shape e in tree_is net.nodes is.shared.numbered i g.0 ∙ ap (node_tree (trees_of net.nodes)) g.1

  input_origin : (i : ℕ) (name : List ℕ) (width : ℕ) → slice_get net.nodes i ≡ Some (TopInput name width) → IsOrigin (tree.Input name width)
  input_origin i name width e = subst IsWhole (tree_at_shape i (TopInput name width) e) (whole_at i)

  register_start : (i : ℕ) (instance name : List ℕ) (start : Bits) → slice_get net.nodes i ≡ Some (Register instance name start) → IsBits start
  register_start i instance name start e = subst IsWhole (tree_at_shape i (Register instance name start) e) (whole_at i)

  module _ (s : Stimulus) (kept : IsStimulus s) where
    inputs_bits : (t : ℕ) → t < length s.rows → All IsBits (inputs_in net s t)
    inputs_bits t l =
        let row = slice_index_or s.rows t [] in
        inputs_all (value_beside (zip (port_origins s.ports.inputs) row))
        (λ o good. (beside_of (port_origins s.ports.inputs) row (is_row s t kept l ∙ port_widths s.ports.inputs) (All-get_or (All IsBits) s.rows t [] l kept.bits) o good).bits) net.nodes input_origin

    given_widths : (t : ℕ) → t < length s.rows → All IsBits (registers_in net s t) → GivesWidths (given net.nodes (inputs_in net s t) (registers_in net s t))
    given_widths t l registers =
        widths_are_given net (inputs_in net s t) (registers_in net s t) (input_widths net s t kept l) (register_widths net s t is kept (let m : t ≤ length s.rows = omega arith in m)) (inputs_bits t l) registers

    values_bits : (t : ℕ) → t < length s.rows → All IsBits (registers_in net s t) → (n : ℕ) → IsBits (value_in net s t n)
    values_bits t l registers n = (values_fit (given net.nodes (inputs_in net s t) (registers_in net s t)) (given_widths t l registers) (tree_of net.nodes n) (whole_at n)).bits

    registers_bits : (t : ℕ) → t ≤ length s.rows → All IsBits (registers_in net s t)
    unfolding registers_in
    registers_bits zero l = starts_all net.nodes register_start
    registers_bits (suc t) l = all_map (value_in net s t) (values_bits t (omega arith) (registers_bits t (omega arith))) (sources_of net)

    pub row_bits : (t : ℕ) → t < length s.rows → EachOf IsBits (row_of net s t)
    row_bits t l = each_map (value_in net s t) (values_bits t l (registers_bits t (omega arith))) (shown_of net)
