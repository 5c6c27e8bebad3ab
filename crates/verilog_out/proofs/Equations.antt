-- Values of names meet the printed module exactly where they meet the net.
use Rattle.std.proofs.Common.{◌≡◌, ℕ, ◌<◌, List, ◌++◌, Option, Some, None, length, map, slice_get, ⊎_elim, refl, sym, ap, ◌∙◌, subst, arith}
use Rattle.std.specs.List.{filter_map}
use Rattle.std.specs.Option.{option_map}
use Rattle.std.proofs.lemmas.Option.{slice_get-get_or}
use Rattle.bv_core.specs.Value.{Bits}
use Rattle.tree_core.specs.Tree as tree
use Rattle.tree_core.specs.Width.{tree_width, IsWhole, GivesWidths}
use Rattle.tree_core.proofs.Folding.{values_fit}
use Rattle.list_core.specs.Lists.{IsIn, from}
use Rattle.list_core.proofs.Lists.{each_member, each_from, in_left, in_right, in_cases}
use Rattle.list_core.proofs.Listing.{map_in}
use Rattle.design_core.specs.declared.ports.Ports.{Ports}
use Rattle.net_core.specs.Nodes.{Shape, Fixed, TopInput, Register, OfOne, OfTwo, OfMux, no_shape, shape_at, node_tree, trees_of, tree_of, width_at, OperandsBelow}
use Rattle.net_core.specs.Nets.{NetParts, IsNet, equation}
use Rattle.net_core.proofs.TreeLists.{trees_length, tree_is}
use Rattle.net_core.proofs.Solutions.{one_solution}
use Rattle.verilog_out.specs.Syntax.{Numbered, Expression, Literal, Choose, Declaration, Assignment, Module}
use Rattle.verilog_out.specs.Printed.{identifier_of, identifier_at, one_printed, two_printed, expression_of, declaration_of, declared, assigned, output_assigned, module_of, FitsPorts}
use Rattle.verilog_out.specs.Meaning.{name_of, meaning, ExpressionFits, declared_name, names_of, Holds, Meets}
use Rattle.verilog_out.specs.ReadBack.{by_number, IsGiven, AreGiven, MeetsNet}
use Rattle.verilog_out.proofs.Members.{in_mapped, in_found, found_in, in_from, from_in, place_of}
use Rattle.verilog_out.proofs.Once.{number_of}
use Rattle.verilog_out.proofs.Values.{one_value, one_fits, two_value, two_fits}

-- what has a declaration, and what has an assignment, is called by its number
declared_number : (i w : ℕ) (s : Shape) (d : Declaration) → declaration_of i w s ≡ Some d → identifier_of i s ≡ Numbered i
declared_number i w (TopInput name v) d e = cc
declared_number i w (Fixed b) d e = refl
declared_number i w (Register instance name start) d e = refl
declared_number i w (OfOne op a) d e = refl
declared_number i w (OfTwo op a b) d e = refl
declared_number i w (OfMux c a b) d e = refl

assigned_number : (ns : List Shape) (i : ℕ) (s : Shape) (x : Expression) → expression_of ns s ≡ Some x → identifier_of i s ≡ Numbered i
assigned_number ns i (TopInput name v) x e = cc
assigned_number ns i (Register instance name start) x e = cc
assigned_number ns i (Fixed b) x e = refl
assigned_number ns i (OfOne op a) x e = refl
assigned_number ns i (OfTwo op a b) x e = refl
assigned_number ns i (OfMux c a b) x e = refl

pub record Assigned (i : ℕ) (o : Option Expression) (a : Assignment) : Type 0 where
  pub value : Expression
  pub found : o ≡ Some value
  pub is : a ≡ record { target = Numbered i; value = value }

pub assigned_as : (i : ℕ) (o : Option Expression) (a : Assignment) → option_map (λ e. record { target = Numbered i; value = e }) o ≡ Some a → Assigned i o a
assigned_as i None a e = cc
assigned_as i (Some x) a e = let same : ◌≡◌ {A = Assignment} (record { target = Numbered i; value = x }) a = cc in record { value = x; found = refl; is = sym same }

module _ (net : NetParts) (ports : Ports) (is : IsNet net) (fits : FitsPorts net ports) where
  abbrev ns : List Shape
  ns = net.nodes

  abbrev m : Module
  m = module_of net ports

  abbrev numbers : List ℕ
  numbers = from 0 (length net.nodes)

  tree_at_node : (j : ℕ) → j < length ns → tree_of ns j ≡ node_tree (trees_of ns) (shape_at ns j)
  tree_at_node = tree_is ns is.shared.numbered

  pub whole_at : (j : ℕ) → j < length ns → (s : Shape) → shape_at ns j ≡ s → IsWhole (node_tree (trees_of ns) s)
  whole_at j l s e =
      subst IsWhole (tree_at_node j l ∙ ap (node_tree (trees_of ns)) e) (is.shared.trees.whole j (subst (λ n. j < n) (sym (trees_length ns)) l))

  width_is : (j : ℕ) → j < length ns → (s : Shape) → shape_at ns j ≡ s → width_at ns j ≡ tree_width (node_tree (trees_of ns) s)
  width_is j l s e = ap tree_width (tree_at_node j l ∙ ap (node_tree (trees_of ns)) e)

  pub among : (j : ℕ) → j < length ns → IsIn j numbers
  among j l = from_in 0 (length ns) j (omega arith) (omega arith)

  pub inside : (j : ℕ) → IsIn j numbers → j < length ns
  inside j h = let r = (in_from 0 (length ns) j h).1 in omega arith

  -- each node's name is declared with its width
  as_declared : (j : ℕ) → j < length ns → (s : Shape) → shape_at ns j ≡ s → (d : Declaration) → declaration_of j (width_at ns j) s ≡ Some d → IsIn (name_of (identifier_at ns j), width_at ns j) (names_of m)
  as_declared j l s e d f =
      let named : declared_name d ≡ (name_of (identifier_at ns j), width_at ns j) =
      number_of j (width_at ns j) s d f ∙ ap (λ x. (name_of x, width_at ns j)) (sym (ap (identifier_of j) e ∙ declared_number j (width_at ns j) s d f)) in
      in_right _ (ports.inputs ++ ports.outputs) _
      (subst (λ p. IsIn p (map declared_name (filter_map (declared ns) numbers))) named
      (map_in declared_name _ d (found_in (declared ns) numbers j d (among j l) (ap (declaration_of j (width_at ns j)) e ∙ f))))

  named_as : (j : ℕ) → j < length ns → (s : Shape) → shape_at ns j ≡ s → IsIn (name_of (identifier_at ns j), width_at ns j) (names_of m)
  named_as j l (TopInput name width) e =
      let at : slice_get ns j ≡ Some (TopInput name width) = slice_get-get_or ns j no_shape l ∙ ap Some e in
      let same : ◌≡◌ {A = List ℕ × ℕ} (name, width) (name_of (identifier_at ns j), width_at ns j) = λ i. (name_of (identifier_of j (sym e i)), sym (width_is j l (TopInput name width) e) i) in
      in_left _ (ports.inputs ++ ports.outputs) _ (in_left _ ports.inputs _ (subst (λ p. IsIn p ports.inputs) same (fits.inputs j name width at)))
  named_as j l (Fixed b) e = as_declared j l (Fixed b) e _ refl
  named_as j l (Register instance name start) e = as_declared j l (Register instance name start) e _ refl
  named_as j l (OfOne op a) e = as_declared j l (OfOne op a) e _ refl
  named_as j l (OfTwo op a b) e = as_declared j l (OfTwo op a b) e _ refl
  named_as j l (OfMux c a b) e = as_declared j l (OfMux c a b) e _ refl

  named : (j : ℕ) → j < length ns → IsIn (name_of (identifier_at ns j), width_at ns j) (names_of m)
  named j l = named_as j l (shape_at ns j) refl

  pub output_node : (o : List ℕ × ℕ) → IsIn o net.outputs → o.1 < length ns
  output_node o h = let p = place_of net.outputs o h in is.outputs.nodes p.place o p.at

  output_named : (o : List ℕ × ℕ) → IsIn o net.outputs → IsIn (o.0, width_at ns o.1) (names_of m)
  output_named o h =
      in_left _ (ports.inputs ++ ports.outputs) _ (in_right _ ports.inputs _
      (subst (IsIn (o.0, width_at ns o.1)) fits.outputs (map_in (λ (output : List ℕ × ℕ). (output.0, width_at ns output.1)) net.outputs o h)))

  module _ (E : tree.Origin → Bits) (W : List ℕ → Bits) (gives : GivesWidths E) (given : AreGiven net.nodes E W) where
    abbrev V : ℕ → Bits
    V j = by_number net.nodes W j

    abbrev HaveWidths : Type 0
    HaveWidths = (j : ℕ) → j < length net.nodes → (V j).width ≡ width_at net.nodes j

    -- what is printed for a node means its equation
    node_value : HaveWidths → (j : ℕ) → j < length ns → (s : Shape) → shape_at ns j ≡ s → (x : Expression) → expression_of ns s ≡ Some x → OperandsBelow j s
        → (meaning W x ≡ equation E V s) × ExpressionFits W (width_at ns j) x
    node_value h j l (TopInput name width) e x f b = cc
    node_value h j l (Register instance name start) e x f b = cc
    node_value h j l (Fixed bits) e x f b =
        let same : Literal bits ≡ x = cc in
        (ap (meaning W) (sym same), subst (ExpressionFits W (width_at ns j)) same (sym (width_is j l (Fixed bits) e)))
    node_value h j l (OfOne op a) e x f b =
        let same : one_printed op (width_at ns a) (identifier_at ns a) ≡ x = cc in
        let inside_a : a < length ns = omega arith in
        let fit = (whole_at j l (OfOne op a) e).1 in (
          ap (meaning W) (sym same) ∙ one_value W op (width_at ns a) (identifier_at ns a) (h a inside_a) fit,
          subst (ExpressionFits W (width_at ns j)) same (subst (λ w. ExpressionFits W w (one_printed op (width_at ns a) (identifier_at ns a))) (sym (width_is j l (OfOne op a) e)) (one_fits W op (width_at ns a) (identifier_at ns a) (h a inside_a) fit)),
        )
    node_value h j l (OfTwo op a c) e x f b =
        let same : two_printed op (identifier_at ns a) (identifier_at ns c) ≡ x = cc in
        let inside_a : a < length ns = omega (arith, b.0) in
        let inside_c : c < length ns = omega (arith, b.1) in
        let fit = (whole_at j l (OfTwo op a c) e).2 in (
          ap (meaning W) (sym same) ∙ two_value W op (identifier_at ns a) (identifier_at ns c),
          subst (ExpressionFits W (width_at ns j)) same (subst (λ w. ExpressionFits W w (two_printed op (identifier_at ns a) (identifier_at ns c))) (sym (width_is j l (OfTwo op a c) e)) (two_fits W op (width_at ns a) (width_at ns c) (identifier_at ns a) (identifier_at ns c) (h a inside_a) (h c inside_c) fit)),
        )
    node_value h j l (OfMux c a d) e x f b =
        let same : Choose (identifier_at ns c) (identifier_at ns a) (identifier_at ns d) ≡ x = cc in
        let inside_c : c < length ns = omega (arith, b.0) in
        let inside_a : a < length ns = omega (arith, b.1) in
        let inside_d : d < length ns = omega (arith, b.2) in
        let fit = (whole_at j l (OfMux c a d) e).3 in
        let width = width_is j l (OfMux c a d) e in (
          ap (meaning W) (sym same),
          subst (ExpressionFits W (width_at ns j)) same (h c inside_c ∙ fit.0, h a inside_a ∙ sym width, h d inside_d ∙ sym fit.1 ∙ sym width),
        )

    -- ---- from the module to the net

    module _ (meets : Meets m W) where
      module_widths : HaveWidths
      module_widths j l = each_member (λ (name : List ℕ × ℕ). (W name.0).width ≡ name.1) (names_of m) meets.widths _ (named j l)

      assigned_value : (j : ℕ) → j < length ns → (s : Shape) → shape_at ns j ≡ s → (x : Expression) → expression_of ns s ≡ Some x → V j ≡ equation E V s
      assigned_value j l s e x f =
          let a : Assignment = record { target = Numbered j; value = x } in
          let at : assigned ns j ≡ Some a = ap (option_map (λ v. record { target = Numbered j; value = v })) (ap (expression_of ns) e ∙ f) in
          let holds = each_member (Holds m W) m.assignments meets.assignments a (in_left a _ _ (found_in (assigned ns) numbers j a (among j l) at)) in
          ap (λ y. W (name_of y)) (ap (identifier_of j) e ∙ assigned_number ns j s x f)
          ∙ holds.value
          ∙ (node_value module_widths j l s e x f (subst (OperandsBelow j) e (is.shared.numbered.below j l))).0

      solves_at : (j : ℕ) → j < length ns → (s : Shape) → shape_at ns j ≡ s → V j ≡ equation E V s
      solves_at j l (TopInput name width) e = sym (subst (IsGiven E (V j)) e (given j l))
      solves_at j l (Register instance name start) e = sym (subst (IsGiven E (V j)) e (given j l))
      solves_at j l (Fixed b) e = assigned_value j l (Fixed b) e _ refl
      solves_at j l (OfOne op a) e = assigned_value j l (OfOne op a) e _ refl
      solves_at j l (OfTwo op a b) e = assigned_value j l (OfTwo op a b) e _ refl
      solves_at j l (OfMux c a b) e = assigned_value j l (OfMux c a b) e _ refl

      output_is : (o : List ℕ × ℕ) → IsIn o net.outputs → W o.0 ≡ V o.1
      output_is o h = (each_member (Holds m W) m.assignments meets.assignments (output_assigned ns o) (in_right _ (filter_map (assigned ns) numbers) _ (map_in (output_assigned ns) net.outputs o h))).value

      pub to_net : MeetsNet net ports E W
      to_net = record {
        inputs = each_from _ ports.inputs (λ p h. each_member (λ (name : List ℕ × ℕ). (W name.0).width ≡ name.1) (names_of m) meets.widths p (in_left p (ports.inputs ++ ports.outputs) _ (in_left p ports.inputs _ h)));
        solves = λ j l. solves_at j l (shape_at ns j) refl;
        outputs = each_from _ net.outputs output_is;
      }

    -- ---- from the net to the module

    module _ (meets : MeetsNet net ports E W) where
      net_widths : HaveWidths
      net_widths j l =
          ap (λ (b : Bits). b.width) ((one_solution ns is.shared.numbered E).only V meets.solves j l)
          ∙ (values_fit E gives (tree_of ns j) (is.shared.trees.whole j (subst (λ n. j < n) (sym (trees_length ns)) l))).width

      output_width : (p : List ℕ × ℕ) → IsIn p ports.outputs → (W p.0).width ≡ p.1
      output_width p h =
          let r = in_mapped (λ (output : List ℕ × ℕ). (output.0, width_at ns output.1)) net.outputs p (subst (IsIn p) (sym fits.outputs) h) in
          subst (λ (q : List ℕ × ℕ). (W q.0).width ≡ q.1) (sym r.is)
          (ap (λ (b : Bits). b.width) (each_member (λ (output : List ℕ × ℕ). W output.0 ≡ V output.1) net.outputs meets.outputs r.one r.among)
          ∙ net_widths r.one.1 (output_node r.one r.among))

      declared_width : (p : List ℕ × ℕ) → IsIn p (map declared_name (filter_map (declared ns) numbers)) → (W p.0).width ≡ p.1
      declared_width p h =
          let d = in_mapped declared_name (filter_map (declared ns) numbers) p h in
          let f = in_found (declared ns) numbers d.one d.among in
          let l = inside f.one f.among in
          let named_so : (name_of (identifier_at ns f.one), width_at ns f.one) ≡ p =
          ap (λ x. (name_of x, width_at ns f.one)) (declared_number f.one (width_at ns f.one) (shape_at ns f.one) d.one f.is) ∙ sym (d.is ∙ number_of f.one (width_at ns f.one) (shape_at ns f.one) d.one f.is) in
          subst (λ (q : List ℕ × ℕ). (W q.0).width ≡ q.1) named_so (net_widths f.one l)

      width_of_name : (p : List ℕ × ℕ) → IsIn p (names_of m) → (W p.0).width ≡ p.1
      width_of_name p h =
          ⊎_elim
          (λ i. ⊎_elim (λ a. each_member (λ (port : List ℕ × ℕ). (W port.0).width ≡ port.1) ports.inputs meets.inputs p a) (λ b. output_width p b) (in_cases p ports.inputs ports.outputs i))
          (λ d. declared_width p d)
          (in_cases p (ports.inputs ++ ports.outputs) _ h)

      node_holds : (a : Assignment) → IsIn a (filter_map (assigned ns) numbers) → Holds m W a
      node_holds a h =
          let f = in_found (assigned ns) numbers a h in
          let j = f.one in
          let l = inside f.one f.among in
          let r = assigned_as f.one (expression_of ns (shape_at ns f.one)) a f.is in
          let v = node_value net_widths f.one l (shape_at ns f.one) refl r.value r.found (is.shared.numbered.below f.one l) in
          let name = assigned_number ns f.one (shape_at ns f.one) r.value r.found in
          subst (Holds m W) (sym r.is) (record {
            width = width_at ns f.one;
            declared = subst (λ x. IsIn (name_of x, width_at ns f.one) (names_of m)) name (named f.one l);
            fits = v.1;
            value = ap (λ x. W (name_of x)) (sym name) ∙ meets.solves f.one l ∙ sym v.0;
          })

      output_holds : (a : Assignment) → IsIn a (map (output_assigned ns) net.outputs) → Holds m W a
      output_holds a h =
          let r = in_mapped (output_assigned ns) net.outputs a h in
          subst (Holds m W) (sym r.is) (record {
            width = width_at ns r.one.1;
            declared = output_named r.one r.among;
            fits = net_widths r.one.1 (output_node r.one r.among);
            value = each_member (λ (output : List ℕ × ℕ). W output.0 ≡ V output.1) net.outputs meets.outputs r.one r.among;
          })

      pub to_module : Meets m W
      to_module = record {
        widths = each_from _ (names_of m) width_of_name;
        assignments = each_from _ m.assignments (λ a h. ⊎_elim (node_holds a) (output_holds a) (in_cases a (filter_map (assigned ns) numbers) _ h));
      }
