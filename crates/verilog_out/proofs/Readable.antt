-- The text of a printed module tells it.
use Rattle.std.proofs.Common.{◌≡◌, ℕ, ◌-◌, ◌^◌, ◌<◌, ◌≤◌, Bool, true, false, nat_lt, if◌then◌else◌, List, ◌++◌, Some, None, length, map, ⊎_elim, refl, sym, ap, ◌∙◌, subst, arith}
use Rattle.std.specs.List.{filter_map, list_all}
use Rattle.std.proofs.lemmas.Option.{slice_get-get_or}
use Rattle.bv_core.specs.declared.operators.Op1.{Op1}
use Rattle.bv_core.specs.declared.operators.Op1.TheVariants.{Not, All, Any, Parity, Slice, Zext}
use Rattle.bv_core.specs.declared.operators.Op2.{Op2}
use Rattle.bv_core.specs.declared.operators.Op2.TheVariants.{Add, Sub, Mul, And, Or, Xor, Eq, Ne, Lt, Le, Shl, Shr, Cat}
use Rattle.bv_core.specs.Operators.{Fits1}
use Rattle.gen_token.specs.Spelling.{IsName}
use Rattle.list_core.specs.Lists.{EachOf, IsIn, from}
use Rattle.list_core.proofs.Lists.{each_member, each_from, in_left, in_right, in_cases}
use Rattle.list_core.proofs.Listing.{map_in}
use Rattle.design_core.specs.Ports.{has_width}
use Rattle.design_core.specs.declared.ports.Ports.{Ports}
use Rattle.net_core.specs.Nodes.{Shape, Fixed, TopInput, Register, OfOne, OfTwo, OfMux, no_shape, shape_at, width_at, OperandsBelow}
use Rattle.net_core.specs.Nets.{NetParts, IsNet, next_node}
use Rattle.verilog_out.specs.Syntax.{Identifier, Numbered, Expression, Declaration, Wire, Reg, Assignment, Step, Literal, Copy, Pad, Choose}
use Rattle.verilog_out.specs.Printed.{identifier_of, identifier_at, one_printed, two_printed, expression_of, declaration_of, declared, assigned, output_assigned, is_register, stepped, module_of, FitsPorts}
use Rattle.verilog_out.specs.Reading.{IsIdentifier, IsExpression, IsDeclaration, IsAssignment, IsStep, IsPort, IsModule}
use Rattle.verilog_out.specs.ReadBack.{HaveNames}
use Rattle.verilog_out.proofs.Widths.{node_some, node_most, port_fits}
use Rattle.verilog_out.proofs.NextValues.{next_within}
use Rattle.verilog_out.proofs.Members.{in_mapped, in_found}
use Rattle.verilog_out.proofs.Equations.{whole_at, inside, output_node, assigned_as}
use Rattle.verilog_out.proofs.Alike.{and_left, and_right}

widened_is : (b : Bool) (w to : ℕ) (a : Identifier) → IsIdentifier a → to ≤ 128 → IsExpression (if b then Pad (to - w) a else Copy a)
widened_is true w to a is l = (is, omega arith)
widened_is false w to a is l = is

one_is : (op : Op1) (w : ℕ) (a : Identifier) → IsIdentifier a → Fits1 op w → w ≤ 128 → IsExpression (one_printed op w a)
one_is Not w a is f l = is
one_is All w a is f l = is
one_is Any w a is f l = is
one_is Parity w a is f l = is
one_is (Slice high low) w a is f l = (is, omega (arith, f.1), omega (arith, f.0, f.1))
one_is (Zext to) w a is f l = widened_is (nat_lt w to) w to a is f.1

two_is : (op : Op2) (a b : Identifier) → IsIdentifier a → IsIdentifier b → IsExpression (two_printed op a b)
two_is Add a b p q = (p, q)
two_is Sub a b p q = (p, q)
two_is Mul a b p q = (p, q)
two_is And a b p q = (p, q)
two_is Or a b p q = (p, q)
two_is Xor a b p q = (p, q)
two_is Eq a b p q = (p, q)
two_is Ne a b p q = (p, q)
two_is Lt a b p q = (p, q)
two_is Le a b p q = (p, q)
two_is Shl a b p q = (p, q)
two_is Shr a b p q = (p, q)
two_is Cat a b p q = (p, q)

step_next : (ns : List Shape) (i next : ℕ) (b : Bool) (step : Step) → i < 2 ^ 64 → IsIdentifier (identifier_at ns next) → (if b then Some (record { register = Numbered i; next = identifier_at ns next }) else None) ≡ Some step → IsStep step
step_next ns i next true step l n e =
    let same : ◌≡◌ {A = Step} (record { register = Numbered i; next = identifier_at ns next }) step = cc in subst IsStep same (record { register = l; next = n })
step_next ns i next false step l n e = cc

module _ (net : NetParts) (ports : Ports) (few : length net.nodes < 2 ^ 64) (is : IsNet net) (fits : FitsPorts net ports) (names : HaveNames ports) where
  number_few : (j : ℕ) → j < length net.nodes → j < 2 ^ 64
  number_few j l = omega arith

  identifier_as : (j : ℕ) → j < length net.nodes → (s : Shape) → shape_at net.nodes j ≡ s → IsIdentifier (identifier_of j s)
  identifier_as j l (TopInput name width) e =
      each_member (λ (port : List ℕ × ℕ). IsName port.0) (ports.inputs ++ ports.outputs) names.port_names (name, width)
      (in_left _ ports.inputs ports.outputs (fits.inputs j name width (slice_get-get_or net.nodes j no_shape l ∙ ap Some e)))
  identifier_as j l (Fixed b) e = number_few j l
  identifier_as j l (Register instance name start) e = number_few j l
  identifier_as j l (OfOne op a) e = number_few j l
  identifier_as j l (OfTwo op a b) e = number_few j l
  identifier_as j l (OfMux c a b) e = number_few j l

  identifier_is : (j : ℕ) → j < length net.nodes → IsIdentifier (identifier_at net.nodes j)
  identifier_is j l = identifier_as j l (shape_at net.nodes j) refl

  expression_is : (j : ℕ) → j < length net.nodes → (s : Shape) → shape_at net.nodes j ≡ s → OperandsBelow j s → (x : Expression) → expression_of net.nodes s ≡ Some x → IsExpression x
  expression_is j l (TopInput name width) e b x f = cc
  expression_is j l (Register instance name start) e b x f = cc
  expression_is j l (Fixed bits) e b x f = let same : Literal bits ≡ x = cc in subst IsExpression same (whole_at net ports is fits j l (Fixed bits) e)
  expression_is j l (OfOne op a) e b x f =
      let same : one_printed op (width_at net.nodes a) (identifier_at net.nodes a) ≡ x = cc in
      let below : a < length net.nodes = omega arith in
      subst IsExpression same (one_is op (width_at net.nodes a) (identifier_at net.nodes a) (identifier_is a below) (whole_at net ports is fits j l (OfOne op a) e).1 (node_most net is a below))
  expression_is j l (OfTwo op a c) e b x f =
      let same : two_printed op (identifier_at net.nodes a) (identifier_at net.nodes c) ≡ x = cc in
      subst IsExpression same (two_is op (identifier_at net.nodes a) (identifier_at net.nodes c) (identifier_is a (omega (arith, b.0))) (identifier_is c (omega (arith, b.1))))
  expression_is j l (OfMux c a d) e b x f =
      let same : Choose (identifier_at net.nodes c) (identifier_at net.nodes a) (identifier_at net.nodes d) ≡ x = cc in
      subst IsExpression same (identifier_is c (omega (arith, b.0)), identifier_is a (omega (arith, b.1)), identifier_is d (omega (arith, b.2)))

  wire : (j : ℕ) → j < length net.nodes → IsDeclaration (Wire (width_at net.nodes j) (Numbered j))
  wire j l = let most = node_most net is j l in (number_few j l, node_some net is j l, omega arith)

  declaration_is : (j : ℕ) → j < length net.nodes → (s : Shape) → shape_at net.nodes j ≡ s → (d : Declaration) → declaration_of j (width_at net.nodes j) s ≡ Some d → IsDeclaration d
  declaration_is j l (TopInput name width) e d f = cc
  declaration_is j l (Register instance name start) e d f =
      let same : Reg (width_at net.nodes j) (Numbered j) start ≡ d = cc in
      let most = node_most net is j l in
      subst IsDeclaration same (number_few j l, node_some net is j l, omega arith, whole_at net ports is fits j l (Register instance name start) e)
  declaration_is j l (Fixed b) e d f = let same : Wire (width_at net.nodes j) (Numbered j) ≡ d = cc in subst IsDeclaration same (wire j l)
  declaration_is j l (OfOne op a) e d f = let same : Wire (width_at net.nodes j) (Numbered j) ≡ d = cc in subst IsDeclaration same (wire j l)
  declaration_is j l (OfTwo op a b) e d f = let same : Wire (width_at net.nodes j) (Numbered j) ≡ d = cc in subst IsDeclaration same (wire j l)
  declaration_is j l (OfMux c a b) e d f = let same : Wire (width_at net.nodes j) (Numbered j) ≡ d = cc in subst IsDeclaration same (wire j l)

  abbrev counted : List ℕ
  counted = from 0 (length net.nodes)

  node_assignment : (a : Assignment) → IsIn a (filter_map (assigned net.nodes) counted) → IsAssignment a
  node_assignment a h =
      let f = in_found (assigned net.nodes) counted a h in
      let l = inside net ports is fits f.one f.among in
      let r = assigned_as f.one (expression_of net.nodes (shape_at net.nodes f.one)) a f.is in
      subst IsAssignment (sym r.is) (record { target = number_few f.one l; value = expression_is f.one l (shape_at net.nodes f.one) refl (is.shared.numbered.below f.one l) r.value r.found })

  output_called : (o : List ℕ × ℕ) → IsIn o net.outputs → IsName o.0
  output_called o h =
      each_member (λ (port : List ℕ × ℕ). IsName port.0) (ports.inputs ++ ports.outputs) names.port_names (o.0, width_at net.nodes o.1)
      (in_right _ ports.inputs ports.outputs (subst (IsIn {A = List ℕ × ℕ} (o.0, width_at net.nodes o.1)) fits.outputs (map_in (λ (output : List ℕ × ℕ). (output.0, width_at net.nodes output.1)) net.outputs o h)))

  output_assignment : (a : Assignment) → IsIn a (map (output_assigned net.nodes) net.outputs) → IsAssignment a
  output_assignment a h =
      let r = in_mapped (output_assigned net.nodes) net.outputs a h in
      subst IsAssignment (sym r.is) (record { target = output_called r.one r.among; value = identifier_is r.one.1 (output_node net ports is fits r.one r.among) })

  port_is : (list : List (List ℕ × ℕ)) → ((p : List ℕ × ℕ) → IsIn p list → IsIn p (ports.inputs ++ ports.outputs)) → list_all has_width list ≡ true → EachOf IsPort list
  port_is list within wide = each_from IsPort list (λ p h.
      let w = port_fits list p wide h in
      let most = w.1 in
      record {
        called = each_member (λ (port : List ℕ × ℕ). IsName port.0) (ports.inputs ++ ports.outputs) names.port_names p (within p h);
        some = w.0;
        few = omega arith;
      })

  pub is_module : IsModule (module_of net ports)
  is_module = record {
    called = names.module_name;
    each_input = port_is ports.inputs (λ p h. in_left p ports.inputs ports.outputs h) (and_left (list_all has_width ports.inputs) (list_all has_width ports.outputs) ports.widths);
    each_output = port_is ports.outputs (λ p h. in_right p ports.inputs ports.outputs h) (and_right (list_all has_width ports.inputs) (list_all has_width ports.outputs) ports.widths);
    each_declaration = each_from IsDeclaration _ (λ d h.
        let f = in_found (declared net.nodes) counted d h in
        declaration_is f.one (inside net ports is fits f.one f.among) (shape_at net.nodes f.one) refl d f.is);
    each_assignment = each_from IsAssignment _ (λ a h. ⊎_elim (node_assignment a) (output_assignment a) (in_cases a (filter_map (assigned net.nodes) counted) _ h));
    each_step = each_from IsStep _ (λ s h.
        let f = in_found (stepped net) counted s h in
        let l = inside net ports is fits f.one f.among in
        step_next net.nodes f.one (next_node net.nexts f.one) (is_register (shape_at net.nodes f.one)) s (number_few f.one l) (identifier_is (next_node net.nexts f.one) (next_within net.nodes net.nexts is.nexts f.one l)) f.is);
  }
