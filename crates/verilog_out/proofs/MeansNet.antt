-- The printed module means the net.
use Rattle.std.proofs.Common.{◌≡◌, ℕ, ◌^◌, ◌<◌, Bool, true, false, true≢false, ◌==◌, List, [], ◌∷◌, Some, None, length, map, slice_get, inl, inr, if◌then◌else◌, refl, sym, ap, ◌∙◌, subst, arith, eqb-true, eq-eqb}
use Rattle.std.specs.List.{filter_map}
use Rattle.std.proofs.lemmas.Option.{slice_get-get_or, get_or_from_slice_get, slice_get_within}
use Rattle.bv_core.specs.Value.{Bits}
use Rattle.tree_core.specs.Tree as tree
use Rattle.tree_core.specs.Width.{tree_width}
use Rattle.list_core.specs.Lists.{IsIn, from}
use Rattle.list_core.proofs.Listing.{map_in}
use Rattle.design_core.specs.declared.ports.Ports.{Ports}
use Rattle.net_core.specs.Nodes.{Shape, Fixed, TopInput, Register, OfOne, OfTwo, OfMux, no_shape, shape_at, node_tree, trees_of, tree_of, width_at}
use Rattle.net_core.specs.Nets as nets
use Rattle.net_core.specs.Nets.{NetParts, IsNet, next_node}
use Rattle.net_core.proofs.TreeLists.{tree_is}
use Rattle.verilog_out.specs.Syntax.{Numbered, Reg, Step}
use Rattle.verilog_out.specs.Printed.{identifier_at, declaration_of, declared, is_register, stepped, module_of, printed, FitsPorts}
use Rattle.verilog_out.specs.ReadBack.{HaveNames, Means, PrintedMeansNet}
use Rattle.verilog_out.proofs.Members.{in_mapped, in_found, found_in, in_from, from_in, at_place, place_of}
use Rattle.verilog_out.proofs.Once.{declared_once}
use Rattle.verilog_out.proofs.Satisfied.{satisfied}
use Rattle.verilog_out.proofs.OneModule.{texts_tell_modules}
use Rattle.verilog_out.proofs.Readable.{is_module}
use Rattle.verilog_out.proofs.Equations.{to_net, to_module}

-- ---- the start values

record Starts (i width : ℕ) (start : Bits) (s : Shape) : Type 0 where
  instance : List ℕ
  name : List ℕ
  is : s ≡ Register instance name start

declared_start : (j w i width : ℕ) (start : Bits) (s : Shape) → declaration_of j w s ≡ Some (Reg width (Numbered i) start) → Starts i width start s × (j ≡ i) × (w ≡ width)
declared_start j w i width start (TopInput name v) e = cc
declared_start j w i width start (Fixed b) e = cc
declared_start j w i width start (Register instance name first) e =
    let same : first ≡ start = cc in
    let number : j ≡ i = cc in
    let wide : w ≡ width = cc in
    (record { instance = instance; name = name; is = ap (Register instance name) same }, number, wide)
declared_start j w i width start (OfOne op a) e = cc
declared_start j w i width start (OfTwo op a b) e = cc
declared_start j w i width start (OfMux c a b) e = cc

-- ---- the steps

record SteppedAs (ns : List Shape) (nexts : List (ℕ × ℕ)) (i : ℕ) (b : Bool) (step : Step) : Type 0 where
  register : b ≡ true
  is : step ≡ record { register = Numbered i; next = identifier_at ns (next_node nexts i) }

stepped_as : (ns : List Shape) (nexts : List (ℕ × ℕ)) (i : ℕ) (b : Bool) (step : Step) → (if b then Some (record { register = Numbered i; next = identifier_at ns (next_node nexts i) }) else None) ≡ Some step → SteppedAs ns nexts i b step
stepped_as ns nexts i true step e = record { register = refl; is = let same : ◌≡◌ {A = Step} (record { register = Numbered i; next = identifier_at ns (next_node nexts i) }) step = cc in sym same }
stepped_as ns nexts i false step e = cc

beside_in : (pair : ℕ × ℕ) (nexts : List (ℕ × ℕ)) (i : ℕ) (b : Bool) → (pair.0 == i) ≡ b → ((b ≡ false) → IsIn (i, next_node nexts i) nexts) → IsIn (i, if b then pair.1 else next_node nexts i) (pair ∷ nexts)
beside_in pair nexts i true e rest = inl (λ k. (sym (eqb-true pair.0 i e) k, pair.1))
beside_in pair nexts i false e rest = inr (rest refl)

-- what stands beside a number stands there in the list
pub next_in : (nexts : List (ℕ × ℕ)) (i n : ℕ) → IsIn (i, n) nexts → IsIn (i, next_node nexts i) nexts
next_in [] i n h = absurd h
next_in (pair ∷ nexts) i n (inl e) =
    beside_in pair nexts i (pair.0 == i) refl (λ f. absurd (true≢false (sym (eq-eqb pair.0 i (ap (λ (p : ℕ × ℕ). p.0) (sym e))) ∙ f)))
next_in (pair ∷ nexts) i n (inr h) = beside_in pair nexts i (pair.0 == i) refl (λ f. next_in nexts i n h)

register_tree : (ts : List tree.Whole) (s : Shape) → is_register s ≡ nets.is_register (node_tree ts s)
register_tree ts (TopInput name w) = refl
register_tree ts (Fixed b) = refl
register_tree ts (Register instance name start) = refl
register_tree ts (OfOne op a) = refl
register_tree ts (OfTwo op a b) = refl
register_tree ts (OfMux c a b) = refl

module _ (net : NetParts) (ports : Ports) (is : IsNet net) (fits : FitsPorts net ports) where
  abbrev all_numbers : List ℕ
  all_numbers = from 0 (length net.nodes)

  same_register : (j : ℕ) → j < length net.nodes → is_register (shape_at net.nodes j) ≡ nets.is_register (tree_of net.nodes j)
  same_register j l = register_tree (trees_of net.nodes) (shape_at net.nodes j) ∙ ap nets.is_register (sym (tree_is net.nodes is.shared.numbered j l))

  below : (j : ℕ) → IsIn j all_numbers → j < length net.nodes
  below j h = let r = (in_from 0 (length net.nodes) j h).1 in omega arith

  start_found : (i width : ℕ) (start : Bits) → IsIn (Reg width (Numbered i) start) (filter_map (declared net.nodes) all_numbers)
      → (instance : List ℕ) × ((name : List ℕ) × ((slice_get net.nodes i ≡ Some (Register instance name start)) × (start.width ≡ width)))
  start_found i width start h =
      let f = in_found (declared net.nodes) all_numbers (Reg width (Numbered i) start) h in
      let l = below f.one f.among in
      let r = declared_start f.one (width_at net.nodes f.one) i width start (shape_at net.nodes f.one) f.is in
      let at : slice_get net.nodes f.one ≡ Some (Register r.0.instance r.0.name start) = slice_get-get_or net.nodes f.one no_shape l ∙ ap Some r.0.is in
      let wide : width_at net.nodes f.one ≡ start.width = ap (λ t. tree_width t) (tree_is net.nodes is.shared.numbered f.one l ∙ ap (node_tree (trees_of net.nodes)) r.0.is) in
      (r.0.instance, (r.0.name, (subst (λ k. slice_get net.nodes k ≡ Some (Register r.0.instance r.0.name start)) r.1 at, sym wide ∙ r.2)))

  start_in : (i width : ℕ) (start : Bits) → ((instance : List ℕ) × ((name : List ℕ) × ((slice_get net.nodes i ≡ Some (Register instance name start)) × (start.width ≡ width))))
      → IsIn (Reg width (Numbered i) start) (filter_map (declared net.nodes) all_numbers)
  start_in i width start h =
      let l = slice_get_within net.nodes i _ h.1.1.0 in
      let at : shape_at net.nodes i ≡ Register h.0 h.1.0 start = get_or_from_slice_get net.nodes i _ no_shape h.1.1.0 in
      let wide : width_at net.nodes i ≡ width = ap (λ t. tree_width t) (tree_is net.nodes is.shared.numbered i l ∙ ap (node_tree (trees_of net.nodes)) at) ∙ h.1.1.1 in
      found_in (declared net.nodes) all_numbers i _ (from_in 0 (length net.nodes) i (omega arith) (omega arith))
      (ap (declaration_of i (width_at net.nodes i)) at ∙ ap (λ w. Some (Reg w (Numbered i) start)) wide)

  abbrev step_for : ℕ × ℕ → Step
  step_for pair = record { register = Numbered pair.0; next = identifier_at net.nodes pair.1 }

  step_found : (step : Step) → IsIn step (filter_map (stepped net) all_numbers) → IsIn step (map step_for net.nexts)
  step_found step h =
      let f = in_found (stepped net) all_numbers step h in
      let l = below f.one f.among in
      let r = stepped_as net.nodes net.nexts f.one (is_register (shape_at net.nodes f.one)) step f.is in
      let pair = is.nexts.each f.one l (sym (same_register f.one l) ∙ r.register) in
      let among = next_in net.nexts f.one pair.1.0 (at_place net.nexts pair.0 (f.one, pair.1.0) pair.1.1) in
      subst (λ s. IsIn s (map step_for net.nexts)) (sym r.is) (map_in step_for net.nexts (f.one, next_node net.nexts f.one) among)

  step_in : (step : Step) → IsIn step (map step_for net.nexts) → IsIn step (filter_map (stepped net) all_numbers)
  step_in step h =
      let r = in_mapped step_for net.nexts step h in
      let p = place_of net.nexts r.one r.among in
      let next = is.nexts.registers p.place r.one p.at in
      let l = next.within in
      let q = place_of net.nexts (r.one.0, next_node net.nexts r.one.0) (next_in net.nexts r.one.0 r.one.1 r.among) in
      let place : q.place ≡ p.place = is.nexts.once q.place p.place r.one.0 (next_node net.nexts r.one.0) r.one.1 q.at p.at in
      let one : Some (r.one.0, next_node net.nexts r.one.0) ≡ Some r.one = sym q.at ∙ ap (slice_get net.nexts) place ∙ p.at in
      let beside : next_node net.nexts r.one.0 ≡ r.one.1 = cc in
      let register : is_register (shape_at net.nodes r.one.0) ≡ true = same_register r.one.0 l ∙ next.register in
      found_in (stepped net) all_numbers r.one.0 step (from_in 0 (length net.nodes) r.one.0 (omega arith) (omega arith))
      (ap (λ b. if b then Some (record { register = Numbered r.one.0; next = identifier_at net.nodes (next_node net.nexts r.one.0) }) else None) register
      ∙ ap (λ n. Some (record { register = Numbered r.one.0; next = identifier_at net.nodes n })) beside
      ∙ ap Some (sym r.is))

module_means : (net : NetParts) (ports : Ports) → length net.nodes < 2 ^ 64 → IsNet net → FitsPorts net ports → HaveNames ports → Means net ports (module_of net ports)
module_means net ports few is fits names = record {
  once = declared_once net ports few fits names;
  equations = λ E W gives given. (to_net net ports is fits E W gives given, to_module net ports is fits E W gives given);
  satisfied = λ E gives. satisfied net ports few is fits names E gives;
  starts = λ i width start. (start_found net ports is fits i width start, start_in net ports is fits i width start);
  steps = λ step. (step_found net ports is fits step, step_in net ports is fits step);
}

pub printed_means_net : PrintedMeansNet
unfolding printed
printed_means_net net ports few is fits names =
    let readable = is_module net ports few is fits names in
    record {
      one = module_of net ports;
      is = readable;
      spelled = refl;
      means = λ m im e. subst (Means net ports) (texts_tell_modules (module_of net ports) m readable im e) (module_means net ports few is fits names);
    }
