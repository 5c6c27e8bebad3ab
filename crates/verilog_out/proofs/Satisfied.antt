-- Whatever is given, there are values that meet the printed module.
use Rattle.std.proofs.Common.{◌≡◌, ℕ, ◌^◌, ◌<◌, Bool, true, false, true≢false, List, [], ◌∷◌, ◌++◌, Some, length, map, bytes_eq, if◌then◌else◌, ◌⊎◌, inl, inr, ⊎_elim, refl, sym, ap, ◌∙◌, subst, arith}
use Rattle.std.proofs.lemmas.Option.{slice_get-get_or}
use Rattle.std.proofs.lemmas.Slice.Eq.{bytes_eq-Decides}
use Rattle.bv_core.specs.Value.{Bits}
use Rattle.bv_core.specs.Operators.{apply1_of, apply2_of, choose_of}
use Rattle.gen_token.specs.Spelling.{IsName}
use Rattle.tree_core.specs.Tree as tree
use Rattle.tree_core.specs.Width.{GivesWidths, tree_width}
use Rattle.tree_core.proofs.Folding.{values_fit}
use Rattle.list_core.specs.Lists.{IsIn, AreApart, from}
use Rattle.list_core.proofs.Lists.{each_member, each_from, in_left, in_right, not_in, apart_split, in_cases}
use Rattle.list_core.proofs.Listing.{map_in}
use Rattle.design_core.specs.declared.ports.Ports.{Ports}
use Rattle.net_core.specs.Nodes.{Shape, Fixed, TopInput, Register, OfOne, OfTwo, OfMux, no_shape, shape_at, node_tree, trees_of, tree_of, width_at, OperandsBelow}
use Rattle.net_core.specs.Nets.{NetParts, IsNet, Solves, equation}
use Rattle.net_core.proofs.TreeLists.{trees_length, tree_is}
use Rattle.net_core.proofs.Solutions.{one_solution}
use Rattle.verilog_out.specs.Syntax.{Numbered}
use Rattle.verilog_out.specs.Printed.{identifier_of, identifier_at, module_of, FitsPorts}
use Rattle.verilog_out.specs.Meaning.{name_of, zeros_of}
use Rattle.verilog_out.specs.ReadBack.{by_number, IsGiven, AreGiven, HaveNames, IsSatisfied}
use Rattle.verilog_out.proofs.Members.{in_mapped, in_from, from_in}
use Rattle.verilog_out.proofs.Once.{one_number, not_numbered}
use Rattle.verilog_out.proofs.Equations.{to_module, output_node}

-- ---- values by names

-- the value that stands beside a name, the first of them, or else another
value_in : List (List ℕ × Bits) → (List ℕ → Bits) → List ℕ → Bits
value_in [] f x = f x
value_in (pair ∷ pairs) f x = if bytes_eq pair.0 x then pair.1 else value_in pairs f x

either_holds : (P : Bits → Type 0) (b : Bool) (name x : List ℕ) (v w : Bits) → bytes_eq name x ≡ b → (name ≡ x → P v) → (b ≡ false → P w) → P (if b then v else w)
either_holds P true name x v w e f g = f ((bytes_eq-Decides name x).0 e)
either_holds P false name x v w e f g = g refl

-- a fact of the value of a name, where it holds of what stands beside the name and of the other
value_holds : (P : Bits → Type 0) (pairs : List (List ℕ × Bits)) (f : List ℕ → Bits) (x : List ℕ) → ((pair : List ℕ × Bits) → IsIn pair pairs → pair.0 ≡ x → P pair.1) → P (f x) → P (value_in pairs f x)
unfolding value_in
value_holds P [] f x all h = h
value_holds P (pair ∷ pairs) f x all h =
    either_holds P (bytes_eq pair.0 x) pair.0 x pair.1 (value_in pairs f x) refl (all pair (inl refl)) (λ d. value_holds P pairs f x (λ p m. all p (inr m)) h)

-- and where the name stands there
value_found : (P : Bits → Type 0) (pairs : List (List ℕ × Bits)) (f : List ℕ → Bits) (x : List ℕ) → ((pair : List ℕ × Bits) → IsIn pair pairs → pair.0 ≡ x → P pair.1) → (v : Bits) → IsIn {A = List ℕ × Bits} (x, v) pairs → P (value_in pairs f x)
unfolding value_in
value_found P [] f x all v h = absurd h
value_found P (pair ∷ pairs) f x all v h =
    either_holds P (bytes_eq pair.0 x) pair.0 x pair.1 (value_in pairs f x) refl (all pair (inl refl))
    (λ different. ⊎_elim
    (λ e. absurd (true≢false (sym ((bytes_eq-Decides pair.0 x).1 (ap (λ (p : List ℕ × Bits). p.0) (sym e))) ∙ different)))
    (λ i. value_found P pairs f x (λ p m. all p (inr m)) v i) h)

-- ---- names that differ

-- elements of one name, where names differ
one_named : {B : Type 0} (list : List (List ℕ × B)) (p q : List ℕ × B) → AreApart (map (λ (x : List ℕ × B). x.0) list) → IsIn p list → IsIn q list → p.0 ≡ q.0 → p ≡ q
one_named [] p q apart h i e = absurd h
one_named (x ∷ list) p q apart (inl s) (inl t) e = s ∙ sym t
one_named {B = B} (x ∷ list) p q apart (inl s) (inr i) e =
    absurd (not_in x.0 (map (λ (x : List ℕ × B). x.0) list) apart.0 (subst (λ n. IsIn n (map (λ (x : List ℕ × B). x.0) list)) (sym e ∙ ap (λ (x : List ℕ × B). x.0) s) (map_in (λ (x : List ℕ × B). x.0) list q i)))
one_named {B = B} (x ∷ list) p q apart (inr h) (inl t) e =
    absurd (not_in x.0 (map (λ (x : List ℕ × B). x.0) list) apart.0 (subst (λ n. IsIn n (map (λ (x : List ℕ × B). x.0) list)) (e ∙ ap (λ (x : List ℕ × B). x.0) t) (map_in (λ (x : List ℕ × B). x.0) list p h)))
one_named (x ∷ list) p q apart (inr h) (inr i) e = one_named list p q apart.1 h i e

names_kept : (f : List ℕ × ℕ → ℕ) (list : List (List ℕ × ℕ)) → map (λ (x : List ℕ × ℕ). x.0) (map (λ (o : List ℕ × ℕ). (o.0, f o)) list) ≡ map (λ (x : List ℕ × ℕ). x.0) list
names_kept f [] = refl
names_kept f (o ∷ list) = ap (λ l. o.0 ∷ l) (names_kept f list)

names_joined : (xs ys : List (List ℕ × ℕ)) → map (λ (x : List ℕ × ℕ). x.0) (xs ++ ys) ≡ map (λ (x : List ℕ × ℕ). x.0) xs ++ map (λ (x : List ℕ × ℕ). x.0) ys
names_joined [] ys = refl
names_joined (x ∷ xs) ys = ap (λ l. x.0 ∷ l) (names_joined xs ys)

-- a node is an input, or called by its number
record IsInput (s : Shape) : Type 0 where
  name : List ℕ
  width : ℕ
  is : s ≡ TopInput name width

input_or_number : (i : ℕ) (s : Shape) → IsInput s ⊎ (identifier_of i s ≡ Numbered i)
input_or_number i (TopInput name width) = inl (record { name = name; width = width; is = refl })
input_or_number i (Fixed b) = inr refl
input_or_number i (Register instance name start) = inr refl
input_or_number i (OfOne op a) = inr refl
input_or_number i (OfTwo op a b) = inr refl
input_or_number i (OfMux c a b) = inr refl

-- an equation depends on the values of the operands alone
equation_along : (E : tree.Origin → Bits) (V W : ℕ → Bits) (k : ℕ) (n : Shape) → ((i : ℕ) → i < k → V i ≡ W i) → OperandsBelow k n → equation E V n ≡ equation E W n
equation_along E V W k (Fixed b) same h = refl
equation_along E V W k (TopInput name width) same h = refl
equation_along E V W k (Register instance name start) same h = refl
equation_along E V W k (OfOne op a) same h = ap (apply1_of op) (same a h)
equation_along E V W k (OfTwo op a b) same h = λ i. apply2_of op (same a h.0 i) (same b h.1 i)
equation_along E V W k (OfMux c a b) same h = λ i. choose_of (same c h.0 i) (same a h.1 i) (same b h.2 i)

module _ (net : NetParts) (ports : Ports) (few : length net.nodes < 2 ^ 64) (is : IsNet net) (fits : FitsPorts net ports) (names : HaveNames ports) where
  abbrev called : ℕ → List ℕ
  called i = name_of (identifier_at net.nodes i)

  abbrev input_names : List (List ℕ)
  input_names = map (λ (x : List ℕ × ℕ). x.0) ports.inputs

  abbrev output_names : List (List ℕ)
  output_names = map (λ (x : List ℕ × ℕ). x.0) ports.outputs

  apart_names : AreApart (input_names ++ output_names)
  apart_names = subst AreApart (names_joined ports.inputs ports.outputs) fits.apart

  named_port : (p : List ℕ × ℕ) → IsIn p (ports.inputs ++ ports.outputs) → IsName p.0
  named_port p h = each_member (λ (port : List ℕ × ℕ). IsName port.0) (ports.inputs ++ ports.outputs) names.port_names p h

  output_port : (o : List ℕ × ℕ) → IsIn o net.outputs → IsIn {A = List ℕ × ℕ} (o.0, width_at net.nodes o.1) ports.outputs
  output_port o h = subst (IsIn {A = List ℕ × ℕ} (o.0, width_at net.nodes o.1)) fits.outputs (map_in (λ (output : List ℕ × ℕ). (output.0, width_at net.nodes output.1)) net.outputs o h)

  input_port : (i : ℕ) → i < length net.nodes → (g : IsInput (shape_at net.nodes i)) → IsIn {A = List ℕ × ℕ} (g.name, g.width) ports.inputs
  input_port i l g = fits.inputs i g.name g.width (slice_get-get_or net.nodes i no_shape l ∙ ap Some g.is)

  input_tree : (i : ℕ) → i < length net.nodes → (g : IsInput (shape_at net.nodes i)) → tree_of net.nodes i ≡ tree.Leaf (tree.Input g.name g.width)
  input_tree i l g = tree_is net.nodes is.shared.numbered i l ∙ ap (node_tree (trees_of net.nodes)) g.is

  called_input : (i : ℕ) (g : IsInput (shape_at net.nodes i)) → called i ≡ g.name
  called_input i g = ap (λ s. name_of (identifier_of i s)) g.is

  called_number : (i : ℕ) → identifier_of i (shape_at net.nodes i) ≡ Numbered i → called i ≡ name_of (Numbered i)
  called_number i e = ap name_of e

  -- no port is called by a number
  port_not_number : (p : List ℕ × ℕ) → IsIn p (ports.inputs ++ ports.outputs) → (i : ℕ) → p.0 ≡ name_of (Numbered i) → ⊥
  port_not_number p h i e = not_numbered p.0 _ (named_port p h) e

  inputs_of_name : (p q : List ℕ × ℕ) → IsIn p ports.inputs → IsIn q ports.inputs → p.0 ≡ q.0 → p ≡ q
  inputs_of_name p q h i e = one_named ports.inputs p q (apart_split input_names output_names apart_names).left h i e

  outputs_of_name : (o p : List ℕ × ℕ) → IsIn o net.outputs → IsIn p net.outputs → o.0 ≡ p.0 → o ≡ p
  outputs_of_name o p h i e =
      one_named net.outputs o p
      (subst AreApart (ap (map (λ (x : List ℕ × ℕ). x.0)) (sym fits.outputs) ∙ names_kept (λ o. width_at net.nodes o.1) net.outputs) (apart_split input_names output_names apart_names).right) h i e

  input_not_output : (p o : List ℕ × ℕ) → IsIn p ports.inputs → IsIn o net.outputs → p.0 ≡ o.0 → ⊥
  input_not_output p o h i e =
      not_in p.0 output_names ((apart_split input_names output_names apart_names).not_right p.0 (map_in (λ (x : List ℕ × ℕ). x.0) ports.inputs p h))
      (subst (λ n. IsIn n output_names) (sym e) (map_in (λ (x : List ℕ × ℕ). x.0) ports.outputs _ (output_port o i)))

  -- nodes of one name are one, and no output has a node's name
  one_node : (i j : ℕ) → i < length net.nodes → j < length net.nodes → called i ≡ called j → i ≡ j
  one_node i j l k e = ⊎_elim (λ g. ⊎_elim (both_inputs g) (input_number g) (input_or_number j (shape_at net.nodes j))) (λ g. ⊎_elim (number_input g) (both_numbers g) (input_or_number j (shape_at net.nodes j))) (input_or_number i (shape_at net.nodes i))
    where
      both_inputs : IsInput (shape_at net.nodes i) → IsInput (shape_at net.nodes j) → i ≡ j
      both_inputs g h =
          let port = inputs_of_name (g.name, g.width) (h.name, h.width) (input_port i l g) (input_port j k h) (sym (called_input i g) ∙ e ∙ called_input j h) in
          is.shared.trees.one_id.one i j (subst (λ n. i < n) (sym (trees_length net.nodes)) l) (subst (λ n. j < n) (sym (trees_length net.nodes)) k)
          (input_tree i l g ∙ ap (λ (p : List ℕ × ℕ). tree.Leaf (tree.Input p.0 p.1)) port ∙ sym (input_tree j k h))

      input_number : IsInput (shape_at net.nodes i) → identifier_of j (shape_at net.nodes j) ≡ Numbered j → i ≡ j
      input_number g h = absurd (port_not_number (g.name, g.width) (in_left _ ports.inputs ports.outputs (input_port i l g)) j (sym (called_input i g) ∙ e ∙ called_number j h))

      number_input : identifier_of i (shape_at net.nodes i) ≡ Numbered i → IsInput (shape_at net.nodes j) → i ≡ j
      number_input g h = absurd (port_not_number (h.name, h.width) (in_left _ ports.inputs ports.outputs (input_port j k h)) i (sym (called_input j h) ∙ sym e ∙ called_number i g))

      both_numbers : identifier_of i (shape_at net.nodes i) ≡ Numbered i → identifier_of j (shape_at net.nodes j) ≡ Numbered j → i ≡ j
      both_numbers g h = one_number i j (omega arith) (omega arith) (sym (called_number i g) ∙ e ∙ called_number j h)

  node_not_output : (i : ℕ) → i < length net.nodes → (o : List ℕ × ℕ) → IsIn o net.outputs → called i ≡ o.0 → ⊥
  node_not_output i l o h e =
      ⊎_elim (λ g. input_not_output (g.name, g.width) o (input_port i l g) h (sym (called_input i g) ∙ e))
      (λ g. port_not_number (o.0, width_at net.nodes o.1) (in_right _ ports.inputs ports.outputs (output_port o h)) i (sym e ∙ called_number i g))
      (input_or_number i (shape_at net.nodes i))

  module _ (E : tree.Origin → Bits) (gives : GivesWidths E) where
    value_at : ℕ → Bits
    value_at i = tree.value_of E (tree_of net.nodes i)

    abbrev count_all : List ℕ
    count_all = from 0 (length net.nodes)

    abbrev node_pair : ℕ → List ℕ × Bits
    node_pair i = (called i, value_at i)

    abbrev output_pair : List ℕ × ℕ → List ℕ × Bits
    output_pair o = (o.0, value_at o.1)

    abbrev port_pair : List ℕ × ℕ → List ℕ × Bits
    port_pair p = (p.0, zeros_of p.1)

    unused : List ℕ → Bits
    unused x = value_in (map port_pair ports.inputs) (λ _. zeros_of 1) x

    values : List ℕ → Bits
    values x = value_in (map node_pair count_all ++ map output_pair net.outputs) unused x

    within : (i : ℕ) → IsIn i count_all → i < length net.nodes
    within i h = let r = (in_from 0 (length net.nodes) i h).1 in omega arith

    node_has : (i : ℕ) → i < length net.nodes → values (called i) ≡ value_at i
    unfolding values
    node_has i l =
        value_found (λ v. v ≡ value_at i) (map node_pair count_all ++ map output_pair net.outputs) unused (called i)
        (λ pair h e. ⊎_elim
        (λ n. let r = in_mapped node_pair count_all pair n in
        ap (λ (p : List ℕ × Bits). p.1) r.is ∙ ap value_at (one_node r.one i (within r.one r.among) l (sym (ap (λ (p : List ℕ × Bits). p.0) r.is) ∙ e)))
        (λ o. let r = in_mapped output_pair net.outputs pair o in
        absurd (node_not_output i l r.one r.among (sym e ∙ ap (λ (p : List ℕ × Bits). p.0) r.is)))
        (in_cases pair (map node_pair count_all) (map output_pair net.outputs) h))
        (value_at i) (in_left _ (map node_pair count_all) (map output_pair net.outputs) (map_in node_pair count_all i (from_in 0 (length net.nodes) i (omega arith) (omega arith))))

    output_has : (o : List ℕ × ℕ) → IsIn o net.outputs → values o.0 ≡ value_at o.1
    unfolding values
    output_has o m =
        value_found (λ v. v ≡ value_at o.1) (map node_pair count_all ++ map output_pair net.outputs) unused o.0
        (λ pair h e. ⊎_elim
        (λ n. let r = in_mapped node_pair count_all pair n in
        absurd (node_not_output r.one (within r.one r.among) o m (sym (ap (λ (p : List ℕ × Bits). p.0) r.is) ∙ e)))
        (λ q. let r = in_mapped output_pair net.outputs pair q in
        ap (λ (p : List ℕ × Bits). p.1) r.is ∙ ap (λ (x : List ℕ × ℕ). value_at x.1) (outputs_of_name r.one o r.among m (sym (ap (λ (p : List ℕ × Bits). p.0) r.is) ∙ e)))
        (in_cases pair (map node_pair count_all) (map output_pair net.outputs) h))
        (value_at o.1) (in_right _ (map node_pair count_all) (map output_pair net.outputs) (map_in output_pair net.outputs o m))

    unused_width : (p : List ℕ × ℕ) → IsIn p ports.inputs → (unused p.0).width ≡ p.1
    unfolding unused
    unused_width p m =
        value_found (λ v. v.width ≡ p.1) (map port_pair ports.inputs) (λ _. zeros_of 1) p.0
        (λ pair h e. let r = in_mapped port_pair ports.inputs pair h in
        ap (λ (x : List ℕ × Bits). x.1.width) r.is ∙ ap (λ (x : List ℕ × ℕ). x.1) (inputs_of_name r.one p r.among m (sym (ap (λ (x : List ℕ × Bits). x.0) r.is) ∙ e)))
        (zeros_of p.1) (map_in port_pair ports.inputs p m)

    input_width : (i : ℕ) → i < length net.nodes → (p : List ℕ × ℕ) → IsIn p ports.inputs → called i ≡ p.0 → (value_at i).width ≡ p.1
    unfolding value_at
    input_width i l p m e =
        ⊎_elim
        (λ g. (values_fit E gives (tree_of net.nodes i) (is.shared.trees.whole i (subst (λ n. i < n) (sym (trees_length net.nodes)) l))).width
        ∙ ap tree_width (input_tree i l g)
        ∙ ap (λ (x : List ℕ × ℕ). x.1) (inputs_of_name (g.name, g.width) p (input_port i l g) m (sym (called_input i g) ∙ e)))
        (λ g. absurd (port_not_number p (in_left _ ports.inputs ports.outputs m) i (sym e ∙ called_number i g)))
        (input_or_number i (shape_at net.nodes i))

    port_width : (p : List ℕ × ℕ) → IsIn p ports.inputs → (values p.0).width ≡ p.1
    unfolding values
    port_width p m =
        value_holds (λ v. v.width ≡ p.1) (map node_pair count_all ++ map output_pair net.outputs) unused p.0
        (λ pair h e. ⊎_elim
        (λ n. let r = in_mapped node_pair count_all pair n in
        ap (λ (x : List ℕ × Bits). x.1.width) r.is ∙ input_width r.one (within r.one r.among) p m (sym (ap (λ (x : List ℕ × Bits). x.0) r.is) ∙ e))
        (λ o. let r = in_mapped output_pair net.outputs pair o in
        absurd (input_not_output p r.one m r.among (sym e ∙ ap (λ (x : List ℕ × Bits). x.0) r.is)))
        (in_cases pair (map node_pair count_all) (map output_pair net.outputs) h))
        (unused_width p m)

    given_as : (i : ℕ) → i < length net.nodes → (s : Shape) → shape_at net.nodes i ≡ s → IsGiven E (values (called i)) s
    unfolding value_at
    given_as i l (TopInput name width) e = sym (node_has i l ∙ ap (tree.value_of E) (tree_is net.nodes is.shared.numbered i l ∙ ap (node_tree (trees_of net.nodes)) e))
    given_as i l (Register instance name start) e = sym (node_has i l ∙ ap (tree.value_of E) (tree_is net.nodes is.shared.numbered i l ∙ ap (node_tree (trees_of net.nodes)) e))
    given_as i l (Fixed b) e = tt
    given_as i l (OfOne op a) e = tt
    given_as i l (OfTwo op a b) e = tt
    given_as i l (OfMux c a b) e = tt

    are_given : AreGiven net.nodes E values
    are_given i l = given_as i l (shape_at net.nodes i) refl

    solved : Solves net.nodes E (by_number net.nodes values)
    unfolding value_at
    solved j l =
        node_has j l
        ∙ (one_solution net.nodes is.shared.numbered E).solves j l
        ∙ sym (equation_along E (by_number net.nodes values) (λ i. tree.value_of E (tree_of net.nodes i)) j (shape_at net.nodes j) (λ i k. node_has i (omega arith)) (is.shared.numbered.below j l))

    pub satisfied : IsSatisfied net ports (module_of net ports) E
    satisfied = record {
      values = values;
      given = are_given;
      meets = to_module net ports is fits E values gives are_given (record {
        inputs = each_from _ ports.inputs port_width;
        solves = solved;
        outputs = each_from _ net.outputs (λ o h. output_has o h ∙ sym (node_has o.1 (output_node net ports is fits o h)));
      });
    }
