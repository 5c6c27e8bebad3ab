-- The names of the variables differ.
use Rattle.std.proofs.Common.{◌≡◌, ℕ, zero, suc, ◌+◌, ◌<◌, ◌≤◌, ◌^◌, ◌==◌, true≢false, List, [], ◌∷◌, ◌++◌, length, map, get_or, codes, Option, Some, None, ◌⊎◌, inl, inr, refl, sym, ap, ap₂, ◌∙◌, subst, arith}
use Rattle.std.specs.Prelude.{slice_get}
use Rattle.std.specs.Fmt.{decimal}
use Rattle.std.proofs.lemmas.List.{map-append}
use Rattle.gen_token.specs.declared.Keyword.TheVariants as keyword
use Rattle.gen_token.specs.Spelling.{IsName}
use Rattle.list_core.specs.Lists.{EachOf, IsIn, IsNotIn, AreApart, from}
use Rattle.list_core.proofs.Lists.{each_member, not_in, apart_split}
use Rattle.design_core.specs.declared.Ports.{Ports}
use Rattle.tree_core.specs.Tree as tree
use Rattle.net_core.specs.Nodes.{Shape, Fixed, TopInput, Register, OfOne, OfTwo, OfMux, shape_at, node_tree, trees_of, tree_of, width_at}
use Rattle.net_core.specs.Nets.{NetParts, IsNet}
use Rattle.net_core.proofs.TreeLists.{trees_length}
use Rattle.verilog_out.specs.Syntax.{Numbered}
use Rattle.verilog_out.specs.Meaning.{name_of}
use Rattle.verilog_out.specs.Printed.{FitsPorts}
use Rattle.verilog_out.specs.ReadBack.{HaveNames}
use Rattle.verilog_out.proofs.Members.{in_mapped}
use Rattle.verilog_out.proofs.Once.{one_number, not_numbered}
use Rattle.vcd_text.specs.Dump.{Variable}
use Rattle.vcd_write.specs.Run.{variable_of, node_variable, output_variable, variables_of}
use Rattle.vcd_write.proofs.Fitting.{tree_at_shape}

abbrev pub var_name : Variable → List ℕ
var_name var = var.name

abbrev pub name_at : List Shape → ℕ → List ℕ
name_at ns i = (node_variable ns i).name

abbrev port_name : List ℕ × ℕ → List ℕ
port_name port = port.0

pub shape_there : (ns : List Shape) (i : ℕ) → i < length ns → slice_get ns i ≡ Some (shape_at ns i)
shape_there [] i l = absurd (omega arith)
shape_there (n ∷ ns) zero l = refl
shape_there (n ∷ ns) (suc i) l = shape_there ns i (omega arith)

-- ---- ports

mapped_in : (ports : List (List ℕ × ℕ)) (port : List ℕ × ℕ) → IsIn port ports → IsIn port.0 (map port_name ports)
mapped_in [] port h = absurd h
mapped_in (p ∷ ports) port (inl e) = inl (ap port_name e)
mapped_in (p ∷ ports) port (inr h) = inr (mapped_in ports port h)

one_port : (ports : List (List ℕ × ℕ)) → AreApart (map port_name ports) → (name : List ℕ) (v w : ℕ) → IsIn (name, v) ports → IsIn (name, w) ports → v ≡ w
one_port [] apart name v w h k = absurd h
one_port (p ∷ ports) apart name v w (inl e) (inl f) = ap (λ (q : List ℕ × ℕ). q.1) (e ∙ sym f)
one_port (p ∷ ports) apart name v w (inl e) (inr k) = absurd (not_in name (map port_name ports) (subst (λ n. IsNotIn n (map port_name ports)) (sym (ap port_name e)) apart.0) (mapped_in ports (name, w) k))
one_port (p ∷ ports) apart name v w (inr h) (inl f) = absurd (not_in name (map port_name ports) (subst (λ n. IsNotIn n (map port_name ports)) (sym (ap port_name f)) apart.0) (mapped_in ports (name, v) h))
one_port (p ∷ ports) apart name v w (inr h) (inr k) = one_port ports apart.1 name v w h k

joined_left : {A : Type 0} (x : A) (xs ys : List A) → IsIn x xs → IsIn x (xs ++ ys)
joined_left x [] ys h = absurd h
joined_left x (y ∷ xs) ys (inl e) = inl e
joined_left x (y ∷ xs) ys (inr h) = inr (joined_left x xs ys h)

joined_right : {A : Type 0} (x : A) (xs ys : List A) → IsIn x ys → IsIn x (xs ++ ys)
joined_right x [] ys h = h
joined_right x (y ∷ xs) ys h = inr (joined_right x xs ys h)

-- ---- nodes

pub record NamedInput (ns : List Shape) (ports : Ports) (i : ℕ) : Type 0 where
  pub name : List ℕ
  pub width : ℕ
  pub at : slice_get ns i ≡ Some (TopInput name width)
  pub is : name_at ns i ≡ name
  pub port : IsIn (name, width) ports.inputs

module _ (net : NetParts) (is_net : IsNet net) (ports : Ports) (fits : FitsPorts net ports) (few : length net.nodes < 2 ^ 64) (names : HaveNames ports) where
  kind_by : (i : ℕ) (s : Shape) → slice_get net.nodes i ≡ Some s → shape_at net.nodes i ≡ s → NamedInput net.nodes ports i ⊎ (name_at net.nodes i ≡ name_of (Numbered i))
  kind_by i (TopInput name width) e f = inl (record { name = name; width = width; at = e; is = ap (λ (s : Shape). (variable_of i 0 s).name) f; port = fits.inputs i name width e })
  kind_by i (Fixed b) e f = inr (ap (λ (s : Shape). (variable_of i 0 s).name) f)
  kind_by i (Register instance name start) e f = inr (ap (λ (s : Shape). (variable_of i 0 s).name) f)
  kind_by i (OfOne op a) e f = inr (ap (λ (s : Shape). (variable_of i 0 s).name) f)
  kind_by i (OfTwo op a b) e f = inr (ap (λ (s : Shape). (variable_of i 0 s).name) f)
  kind_by i (OfMux c a b) e f = inr (ap (λ (s : Shape). (variable_of i 0 s).name) f)

  pub kind_of : (i : ℕ) → i < length net.nodes → NamedInput net.nodes ports i ⊎ (name_at net.nodes i ≡ name_of (Numbered i))
  kind_of i l = kind_by i (shape_at net.nodes i) (shape_there net.nodes i l) refl

  ports_split : AreApart (map port_name ports.inputs ++ map port_name ports.outputs)
  ports_split = subst AreApart (map-append port_name ports.inputs ports.outputs) fits.apart

  pub input_name : (port : List ℕ × ℕ) → IsIn port ports.inputs → IsName port.0
  input_name port h = each_member (λ (p : List ℕ × ℕ). IsName p.0) (ports.inputs ++ ports.outputs) names.port_names port (joined_left port ports.inputs ports.outputs h)

  outputs_named : map port_name net.outputs ≡ map port_name ports.outputs
  outputs_named = mapped net.outputs ∙ ap (map port_name) fits.outputs
    where
      mapped : (os : List (List ℕ × ℕ)) → map port_name os ≡ map port_name (map (λ (o : List ℕ × ℕ). (o.0, width_at net.nodes o.1)) os)
      mapped [] = refl
      mapped (o ∷ os) = ap (λ l. o.0 ∷ l) (mapped os)

  pub output_name : (name : List ℕ) → IsIn name (map port_name net.outputs) → IsName name
  output_name name h =
      let m = in_mapped port_name ports.outputs name (subst (IsIn name) outputs_named h) in
      subst IsName (sym m.is) (each_member (λ (p : List ℕ × ℕ). IsName p.0) (ports.inputs ++ ports.outputs) names.port_names m.one (joined_right m.one ports.inputs ports.outputs m.among))

  same_input : (i j : ℕ) (name : List ℕ) (width : ℕ) → i < length net.nodes → j < length net.nodes → slice_get net.nodes i ≡ Some (TopInput name width) → slice_get net.nodes j ≡ Some (TopInput name width) → i ≡ j
  same_input i j name width l m e f =
      is_net.shared.trees.one_id.one i j (subst (λ n. i < n) (sym (trees_length net.nodes)) l) (subst (λ n. j < n) (sym (trees_length net.nodes)) m)
      (tree_at_shape net is_net i (TopInput name width) e ∙ sym (tree_at_shape net is_net j (TopInput name width) f))

  -- nodes of one name are one
  one_node : (i j : ℕ) → i < length net.nodes → j < length net.nodes → name_at net.nodes i ≡ name_at net.nodes j → i ≡ j
  one_node i j l m e = by (kind_of i l) (kind_of j m)
    where
      by : NamedInput net.nodes ports i ⊎ (name_at net.nodes i ≡ name_of (Numbered i)) → NamedInput net.nodes ports j ⊎ (name_at net.nodes j ≡ name_of (Numbered j)) → i ≡ j
      by (inl a) (inl b) =
          let name : a.name ≡ b.name = sym a.is ∙ e ∙ b.is in
          let port : IsIn (a.name, b.width) ports.inputs = subst (λ n. IsIn (n, b.width) ports.inputs) (sym name) b.port in
          let width : b.width ≡ a.width = one_port ports.inputs (apart_split (map port_name ports.inputs) (map port_name ports.outputs) ports_split).left a.name b.width a.width port a.port in
          same_input i j a.name a.width l m a.at (b.at ∙ ap₂ (λ (n : List ℕ) (w : ℕ). Some (TopInput n w)) (sym name) width)
      by (inl a) (inr b) = absurd (not_numbered a.name (decimal j) (input_name (a.name, a.width) a.port) (sym a.is ∙ e ∙ b))
      by (inr a) (inl b) = absurd (not_numbered b.name (decimal i) (input_name (b.name, b.width) b.port) (sym b.is ∙ sym e ∙ a))
      by (inr a) (inr b) = one_number i j (omega arith) (omega arith) (sym a ∙ e ∙ b)

  -- and none has the name of an output
  no_output : (i : ℕ) → i < length net.nodes → IsIn (name_at net.nodes i) (map port_name net.outputs) → ⊥
  no_output i l h = by (kind_of i l)
    where
      by : NamedInput net.nodes ports i ⊎ (name_at net.nodes i ≡ name_of (Numbered i)) → ⊥
      by (inl a) =
          not_in a.name (map port_name ports.outputs)
          ((apart_split (map port_name ports.inputs) (map port_name ports.outputs) ports_split).not_right a.name (mapped_in ports.inputs (a.name, a.width) a.port))
          (subst (IsIn a.name) outputs_named (subst (λ n. IsIn n (map port_name net.outputs)) a.is h))
      by (inr b) = not_numbered (name_at net.nodes i) (decimal i) (output_name (name_at net.nodes i) h) b

  no_clock : (i : ℕ) → i < length net.nodes → name_at net.nodes i ≡ codes "clk" → ⊥
  no_clock i l e = by (kind_of i l)
    where
      by : NamedInput net.nodes ports i ⊎ (name_at net.nodes i ≡ name_of (Numbered i)) → ⊥
      by (inl a) = (input_name (a.name, a.width) a.port).free keyword.Clk (sym a.is ∙ e)
      by (inr b) = true≢false (sym (ap (λ (l : List ℕ). get_or l 0 0 == 95) (sym e ∙ b)))

  -- a name that is no node's of these and no output's
  not_named : (x : List ℕ) (a k : ℕ) (outs : List (List ℕ × ℕ)) → ((j : ℕ) → a ≤ j → j < a + k → name_at net.nodes j ≡ x → ⊥) → (IsIn x (map port_name outs) → ⊥)
      → IsNotIn x (map var_name (map (node_variable net.nodes) (from a k) ++ map (output_variable net.nodes) outs))
  not_named x a zero [] h g = tt
  not_named x a zero (o ∷ outs) h g = ((λ e. g (inl (sym e))), not_named x a zero outs (λ j l m. absurd (omega arith)) (λ i. g (inr i)))
  not_named x a (suc k) outs h g = (h a (omega arith) (omega arith), not_named x (a + 1) k outs (λ j l m. h j (omega arith) (omega arith)) g)

  outputs_apart : (outs : List (List ℕ × ℕ)) → AreApart (map port_name outs) → AreApart (map var_name (map (output_variable net.nodes) outs))
  outputs_apart [] apart = tt
  outputs_apart (o ∷ outs) apart = (others outs apart.0, outputs_apart outs apart.1)
    where
      others : (outs : List (List ℕ × ℕ)) → IsNotIn o.0 (map port_name outs) → IsNotIn o.0 (map var_name (map (output_variable net.nodes) outs))
      others [] h = tt
      others (p ∷ outs) h = (h.0, others outs h.1)

  nodes_apart : (a k : ℕ) → a + k ≤ length net.nodes → AreApart (map var_name (map (node_variable net.nodes) (from a k) ++ map (output_variable net.nodes) net.outputs))
  nodes_apart a zero l =
      outputs_apart net.outputs (subst AreApart (sym outputs_named) (apart_split (map port_name ports.inputs) (map port_name ports.outputs) ports_split).right)
  nodes_apart a (suc k) l = (
    not_named (name_at net.nodes a) (a + 1) k net.outputs (λ j m n e. absurd (let same : j ≡ a = one_node j a (omega arith) (omega arith) e in omega arith)) (no_output a (omega arith)),
    nodes_apart (a + 1) k (omega arith),
  )

  pub names_apart : AreApart (codes "clk" ∷ map var_name (variables_of net))
  names_apart = (
    not_named (codes "clk") 0 (length net.nodes) net.outputs (λ j l m e. no_clock j (omega arith) e) (λ h. (output_name (codes "clk") h).free keyword.Clk refl),
    nodes_apart 0 (length net.nodes) (omega arith),
  )
