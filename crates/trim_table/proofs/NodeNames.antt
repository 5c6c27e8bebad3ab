-- The names of the nodes of a compiled design differ.
use Rattle.std.proofs.Common.{◌≡◌, ℕ, suc, ◌+◌, ◌<◌, ◌^◌, true, false, true≢false, List, [], ◌∷◌, length, map, drop, Option, Some, None, refl, sym, ap, ◌∙◌, subst, arith}
use Rattle.std.specs.Prelude.{slice_get}
use Rattle.std.specs.List.{enumerate_from}
use Rattle.std.proofs.lemmas.Fmt.{decimal_injective}
use Rattle.std.proofs.lemmas.Option.{none-some, same_Some, slice_get_within, get_or_from_slice_get}
use Rattle.tree_core.specs.Tree.{Leaf, Origin, Input, Whole}
use Rattle.gen_token.specs.Spelling.{is_name_text}
use Rattle.list_core.specs.Lists.{IsIn, IsNotIn, AreApart}
use Rattle.exec_core.specs.States.{OverGivens}
use Rattle.list_core.proofs.Lists.{each_member}
use Rattle.design_core.specs.Design.{Design}
use Rattle.design_core.specs.Ports.{ports_in, top_signals}
use Rattle.design_exec.specs.Processes.{Given, processes_of}
use Rattle.net_core.specs.Nodes.{Shape, Fixed, TopInput, Register, OfOne, OfTwo, OfMux, no_shape, shape_at, node_tree, trees_of, tree_of}
use Rattle.net_core.specs.Nets.{NetParts}
use Rattle.net_core.proofs.TreeLists.{tree_is, trees_length}
use Rattle.symtab.specs.declared.parts.NodeName.{NodeName}
use Rattle.check_exec.specs.Premises.{IsSound}
use Rattle.world_core.specs.declared.mode.Mode.{Mode}
use Rattle.list_core.proofs.Listing.{map_from}
use Rattle.world_laws.proofs.RowsFit.{IsFirst, inputs_first, HasInputName, inputs_named}
use Rattle.trim_core.specs.Named.{numbered_name, name_of, named, node_names}
use Rattle.trim_core.specs.Trimmed.{IsKeptNet}

-- ---- a node is an input, or called by its number

input_of : Shape → Option (List ℕ × ℕ)
input_of (Fixed b) = None
input_of (TopInput name width) = Some (name, width)
input_of (Register instance name start) = None
input_of (OfOne op a) = None
input_of (OfTwo op a b) = None
input_of (OfMux c a b) = None

called : ℕ → Option (List ℕ × ℕ) → List ℕ
called i None = numbered_name i
called i (Some input) = input.0

name_is : (i : ℕ) (s : Shape) → name_of i s ≡ called i (input_of s)
unfolding called input_of
name_is i (Fixed b) = refl
name_is i (TopInput name width) = refl
name_is i (Register instance name start) = refl
name_is i (OfOne op a) = refl
name_is i (OfTwo op a b) = refl
name_is i (OfMux c a b) = refl

is_input : (s : Shape) (name : List ℕ) (width : ℕ) → input_of s ≡ Some (name, width) → s ≡ TopInput name width
unfolding input_of
is_input (Fixed b) name width e = absurd (none-some (name, width) e)
is_input (TopInput m w) name width e =
    let same : (m, w) ≡ (name, width) = same_Some (m, w) (name, width) e in ap (λ (p : List ℕ × ℕ). TopInput p.0 p.1) same
is_input (Register instance m start) name width e = absurd (none-some (name, width) e)
is_input (OfOne op a) name width e = absurd (none-some (name, width) e)
is_input (OfTwo op a b) name width e = absurd (none-some (name, width) e)
is_input (OfMux c a b) name width e = absurd (none-some (name, width) e)

no_name : (i : ℕ) → is_name_text (numbered_name i) ≡ true → ⊥
no_name i e = true≢false (sym e)

module _ (d : Design) (sound : IsSound d) (n : ℕ) (mode : Mode) (net : NetParts) (kept : IsKeptNet d n mode net) (few : length net.nodes < 2 ^ 64) where
  -- an input is given in the design
  record IsGivenInput (i : ℕ) (name : List ℕ) (width : ℕ) : Type 0 where
    tree : tree_of net.nodes i ≡ Leaf (Input name width)
    first : IsFirst (ports_in false (top_signals d)) (Input name width)
    text : is_name_text name ≡ true

  given_input : (i : ℕ) (name : List ℕ) (width : ℕ) → slice_get net.nodes i ≡ Some (TopInput name width) → IsGivenInput i name width
  given_input i name width at =
      let inside = slice_get_within net.nodes i (TopInput name width) at in
      let shape : shape_at net.nodes i ≡ TopInput name width = get_or_from_slice_get net.nodes i (TopInput name width) no_shape at in
      let tree_same : tree_of net.nodes i ≡ Leaf (Input name width) = tree_is net.nodes kept.is_net.shared.numbered i inside ∙ ap (node_tree (trees_of net.nodes)) shape in
      let among : IsIn (Input name width) (map (λ (given : Given). given.1) (processes_of d).givens) = subst (λ (t : Whole). OverGivens (processes_of d) t) tree_same (kept.over i inside) in
      let given = map_from (λ (given : Given). given.1) (processes_of d).givens (Input name width) among in
      record {
        tree = tree_same;
        first = subst (λ (o : Origin). IsFirst (ports_in false (top_signals d)) o) (sym given.1.1) (each_member (λ (q : Given). IsFirst (ports_in false (top_signals d)) q.1) (processes_of d).givens (inputs_first d sound) given.0 given.1.0);
        text = subst HasInputName (sym given.1.1) (each_member (λ (q : Given). HasInputName q.1) (processes_of d).givens (inputs_named d sound) given.0 given.1.0);
      }

  same_width : (name : List ℕ) (v w : ℕ) → IsFirst (ports_in false (top_signals d)) (Input name v) → IsFirst (ports_in false (top_signals d)) (Input name w) → v ≡ w
  same_width name v w a b = same_Some v w (sym a ∙ b)

  -- two nodes have two names
  differ : (i j : ℕ) (a b : Shape) → slice_get net.nodes i ≡ Some a → slice_get net.nodes j ≡ Some b → i < j → name_of i a ≡ name_of j b → ⊥
  unfolding called
  differ i j a b at there less same = by_inputs (input_of a) refl (input_of b) refl
    where
      in_i : i < length net.nodes
      in_i = slice_get_within net.nodes i a at

      in_j : j < length net.nodes
      in_j = slice_get_within net.nodes j b there

      not_equal : i ≡ j → ⊥
      not_equal e = omega (arith, e, less)

      by_inputs : (x : Option (List ℕ × ℕ)) → input_of a ≡ x → (y : Option (List ℕ × ℕ)) → input_of b ≡ y → ⊥
      by_inputs None e None f =
          let names : numbered_name i ≡ numbered_name j = sym (name_is i a ∙ ap (called i) e) ∙ same ∙ (name_is j b ∙ ap (called j) f) in
          not_equal (decimal_injective i j (omega (arith, in_i, few)) (omega (arith, in_j, few)) (ap (drop 1) names))
      by_inputs (Some p) e None f =
          let names : p.0 ≡ numbered_name j = sym (name_is i a ∙ ap (called i) e) ∙ same ∙ (name_is j b ∙ ap (called j) f) in
          no_name j (subst (λ x. is_name_text x ≡ true) names (given_input i p.0 p.1 (at ∙ ap (λ s. Some s) (is_input a p.0 p.1 e))).text)
      by_inputs None e (Some q) f =
          let names : numbered_name i ≡ q.0 = sym (name_is i a ∙ ap (called i) e) ∙ same ∙ (name_is j b ∙ ap (called j) f) in
          no_name i (subst (λ x. is_name_text x ≡ true) (sym names) (given_input j q.0 q.1 (there ∙ ap (λ s. Some s) (is_input b q.0 q.1 f))).text)
      by_inputs (Some p) e (Some q) f =
          let names : p.0 ≡ q.0 = sym (name_is i a ∙ ap (called i) e) ∙ same ∙ (name_is j b ∙ ap (called j) f) in
          let mine = given_input i p.0 p.1 (at ∙ ap (λ s. Some s) (is_input a p.0 p.1 e)) in
          let its = given_input j q.0 q.1 (there ∙ ap (λ s. Some s) (is_input b q.0 q.1 f)) in
          let widths : p.1 ≡ q.1 = same_width q.0 p.1 q.1 (subst (λ x. IsFirst (ports_in false (top_signals d)) (Input x p.1)) names mine.first) its.first in
          let trees : tree_of net.nodes i ≡ tree_of net.nodes j = mine.tree ∙ (λ k. Leaf (Input (names k) (widths k))) ∙ sym its.tree in
          not_equal (kept.is_net.shared.trees.one_id.one i j (subst (λ m. i < m) (sym (trees_length net.nodes)) in_i) (subst (λ m. j < m) (sym (trees_length net.nodes)) in_j) trees)

  -- ---- the list of names

  abbrev names_from : ℕ → List Shape → List (List ℕ)
  names_from k ns = map (λ (node : NodeName). node.name) (map (named net.nodes) (enumerate_from k ns))

  not_named : (i : ℕ) (a : Shape) → slice_get net.nodes i ≡ Some a → (k : ℕ) (ns : List Shape) → i < k → ((j : ℕ) (b : Shape) → slice_get ns j ≡ Some b → slice_get net.nodes (k + j) ≡ Some b) → IsNotIn (name_of i a) (names_from k ns)
  not_named i a at k [] less h = tt
  not_named i a at k (b ∷ ns) less h = (
    (λ same. differ i k a b at (ap (slice_get net.nodes) (let e : k ≡ k + 0 = omega arith in e) ∙ h 0 b refl) less (sym same)),
    not_named i a at (k + 1) ns (omega (arith, less)) (λ j c e. ap (slice_get net.nodes) (let f : k + 1 + j ≡ k + suc j = omega arith in f) ∙ h (suc j) c e),
  )

  apart_from : (k : ℕ) (ns : List Shape) → ((j : ℕ) (b : Shape) → slice_get ns j ≡ Some b → slice_get net.nodes (k + j) ≡ Some b) → AreApart (names_from k ns)
  apart_from k [] h = tt
  apart_from k (b ∷ ns) h =
      let later : (j : ℕ) (c : Shape) → slice_get ns j ≡ Some c → slice_get net.nodes (k + 1 + j) ≡ Some c =
      λ j c e. ap (slice_get net.nodes) (let f : k + 1 + j ≡ k + suc j = omega arith in f) ∙ h (suc j) c e in
      (not_named k b (ap (slice_get net.nodes) (let e : k ≡ k + 0 = omega arith in e) ∙ h 0 b refl) (k + 1) ns (omega arith) later, apart_from (k + 1) ns later)

  pub node_names_apart : AreApart (map (λ (node : NodeName). node.name) (node_names net.nodes))
  node_names_apart = apart_from 0 net.nodes (λ j b e. ap (slice_get net.nodes) (let f : 0 + j ≡ j = omega arith in f) ∙ e)
