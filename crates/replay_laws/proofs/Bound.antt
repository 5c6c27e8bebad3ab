-- What is written of a run is bound to a table of the net's nodes, and tells the run there.
use Rattle.std.proofs.Common.{◌≡◌, ℕ, zero, suc, ◌+◌, ◌<◌, ◌==◌, ◌||◌, Bool, true, false, true≢false, cond, List, [], ◌∷◌, length, map, get_or, codes, Option, Some, None, refl, sym, ap, ap₂, ◌∙◌, arith}
use Rattle.std.specs.Prelude.{slice_get, bytes_eq}
use Rattle.std.specs.Option.{option_map, option_or}
use Rattle.std.proofs.lemmas.Bool.Decides.{nat_tests}
use Rattle.std.proofs.lemmas.Option.{same_Some, slice_get-map, slice_get-get_or, slice_get_within, get_or_from_slice_get}
use Rattle.std.proofs.lemmas.Slice.Eq.{bytes_eq-Decides}
use Rattle.gen_token.specs.declared.Keyword.TheVariants as keyword
use Rattle.gen_token.specs.Spelling.{IsName}
use Rattle.list_core.proofs.Lists.{each_member}
use Rattle.design_core.proofs.PortNames.{are_named}
use Rattle.net_core.specs.Nodes.{Shape, Fixed, TopInput, Register, OfOne, OfTwo, OfMux, shape_at}
use Rattle.net_core.specs.Nets.{NetParts}
use Rattle.verilog_out.specs.Syntax.{Numbered}
use Rattle.verilog_out.specs.Meaning.{name_of}
use Rattle.verilog_out.specs.Printed.{FitsPorts}
use Rattle.bv_core.specs.declared.reference.Sample.TheVariants.{Unknown}
use Rattle.symtab.specs.declared.parts.NodeName.{NodeName}
use Rattle.symtab.specs.declared.parts.TableParts.{TableParts}
use Rattle.symtab.specs.Shape.{IsTable}
use Rattle.stim_text.specs.Stimulus.{Stimulus}
use Rattle.sim_hist.specs.Run.{run_samples}
use Rattle.vcd_read.specs.Head.{Var}
use Rattle.vcd_read.specs.Meaning.{Meaning}
use Rattle.vcd_samples.specs.Samples.{var_named, rises, sample_before}
use Rattle.vcd_text.specs.Dump.{Variable}
use Rattle.vcd_text.specs.Told.{told_var}
use Rattle.vcd_text.specs.Waves.{clock}
use Rattle.vcd_write.specs.Run.{variable_of, node_variable, output_variable, variables_of}
use Rattle.vcd_write.specs.ReadBack.{ReadsBack, WavesReadBack, told_of, node_names}
use Rattle.vcd_trace.specs.declared.fault.BindFault.{BindFault}
use Rattle.vcd_trace.specs.declared.fault.BindFault.TheVariants.{NoScope, SizeDiffers}
use Rattle.vcd_trace.specs.Named.{is_named, node_names as table_names}
use Rattle.vcd_trace.specs.Over.{samples_over}
use Rattle.vcd_trace.specs.Refused.{fault_of, nodes_refused, variables_refused, refusal}
use Rattle.vcd_trace.specs.Alike.{SameNamed}
use Rattle.vcd_trace.proofs.Whole.{named_there}
use Rattle.vcd_trace.proofs.NamedAlike.{same_named_tell_same}
use Rattle.replay_laws.specs.Replay.{AreNodesOf, WavesReplay}
use Rattle.replay_laws.proofs.FirstNamed.{apart_at, first_named, front_at, number_at}

shape_there : (ns : List Shape) (i : ℕ) → i < length ns → slice_get ns i ≡ Some (shape_at ns i)
shape_there [] i l = absurd (omega arith)
shape_there (n ∷ ns) zero l = refl
shape_there (n ∷ ns) (suc i) l = shape_there ns i (omega arith)

some_at : (nodes : List NodeName) (n : ℕ) → n < length nodes → (node : NodeName) × (slice_get nodes n ≡ Some node)
some_at [] n l = absurd (omega arith)
some_at (node ∷ nodes) n l = (get_or (node ∷ nodes) n node, slice_get-get_or (node ∷ nodes) n node l)

differ : (a b : List ℕ) → (a ≡ b → ⊥) → bytes_eq a b ≡ false
differ a b h = by (bytes_eq a b) refl
  where
    by : (c : Bool) → bytes_eq a b ≡ c → c ≡ false
    by true e = absurd (h ((bytes_eq-Decides a b).0 e))
    by false e = refl

no_fault : (scope name : List ℕ) (number : ℕ) (var : Variable) (want : ℕ) (o : Option Var) → o ≡ Some (told_var scope number var) → var.size ≡ want → fault_of o name want ≡ None
no_fault scope name number var want o e is =
    ap (λ (x : Option Var). fault_of x name want) e
    ∙ ap (λ (b : Bool). cond b None (Some (SizeDiffers name var.size want))) (let same : (var.size == want) ≡ true = grind (arith, nat_tests) in same)

module _ (net : NetParts) (s : Stimulus) (parts : TableParts) (fits : FitsPorts net s.ports) (table : IsTable parts) (are : AreNodesOf parts net) where
  abbrev m : Meaning
  m = told_of net s

  abbrev scope : List ℕ
  scope = s.ports.module

  -- no node has the clock's name
  underscored : (i : ℕ) → codes "clk" ≡ name_of (Numbered i) → ⊥
  underscored i e = true≢false (sym (ap (λ (l : List ℕ). get_or l 0 0 == 95) e))

  shape_unlike : (i : ℕ) (sh : Shape) → slice_get net.nodes i ≡ Some sh → codes "clk" ≡ (variable_of i 0 sh).name → ⊥
  shape_unlike i (TopInput name width) at e =
      let named = are_named s.ports.module s.ports.inputs s.ports.outputs s.ports.names in
      let is : IsName name = each_member (λ (p : List ℕ × ℕ). IsName p.0) s.ports.inputs named.ins (name, width) (fits.inputs i name width at) in
      is.free keyword.Clk (sym e)
  shape_unlike i (Fixed b) at e = underscored i e
  shape_unlike i (Register instance name start) at e = underscored i e
  shape_unlike i (OfOne op a) at e = underscored i e
  shape_unlike i (OfTwo op a b) at e = underscored i e
  shape_unlike i (OfMux c a b) at e = underscored i e

  no_clock : (i : ℕ) → i < length net.nodes → bytes_eq (codes "clk") (node_variable net.nodes i).name ≡ false
  no_clock i l = differ (codes "clk") (node_variable net.nodes i).name (shape_unlike i (shape_at net.nodes i) (shape_there net.nodes i l))

  -- the variables of a file, by number
  variable_at : (j : ℕ) → j < length net.nodes → slice_get (variables_of net) j ≡ Some (node_variable net.nodes j)
  variable_at j l =
      front_at (node_variable net.nodes) 0 (length net.nodes) j (map (output_variable net.nodes) net.outputs) l ∙ ap (λ (i : ℕ). Some (node_variable net.nodes i)) (let z : 0 + j ≡ j = omega arith in z)

  name_there : (j : ℕ) → j < length net.nodes → slice_get (map (λ (node : NodeName). node.name) parts.nodes) j ≡ Some (node_variable net.nodes j).name
  name_there j l =
      let node = some_at parts.nodes j (omega (arith, are.count)) in
      slice_get-map (λ (x : NodeName). x.name) parts.nodes j ∙ ap (option_map (λ (x : NodeName). x.name)) node.1 ∙ ap (λ (x : List ℕ). Some x) (are.names j node.0 node.1)

  unlike : (n : ℕ) → n < length net.nodes → (j : ℕ) (v : Variable) → j < suc n → slice_get (clock ∷ variables_of net) j ≡ Some v → bytes_eq v.name (node_variable net.nodes n).name ≡ false
  unlike n l zero v b e = ap (λ (x : Variable). bytes_eq x.name (node_variable net.nodes n).name) (sym (same_Some clock v e)) ∙ no_clock n l
  unlike n l (suc j) v b e =
      let within : j < length net.nodes = omega arith in
      let is : node_variable net.nodes j ≡ v = same_Some _ _ (sym (variable_at j within) ∙ e) in
      ap (λ (x : Variable). bytes_eq x.name (node_variable net.nodes n).name) (sym is)
      ∙ apart_at (map (λ (node : NodeName). node.name) parts.nodes) table.node_names j n _ _ (omega arith) (name_there j within) (name_there n l)

  found : (n : ℕ) → n < length net.nodes → var_named m scope (node_variable net.nodes n).name ≡ Some (told_var scope (0 + suc n) (node_variable net.nodes n))
  found n l = first_named scope 0 (clock ∷ variables_of net) (suc n) (node_variable net.nodes n) (variable_at n l) (unlike n l)

  clock_found : var_named m scope (codes "clk") ≡ Some (told_var scope (0 + 0) clock)
  clock_found = first_named scope 0 (clock ∷ variables_of net) 0 clock refl (λ j v l e. absurd (omega arith))

  -- ---- nothing is refused

  node_accepted : (n : ℕ) (node : NodeName) → slice_get parts.nodes n ≡ Some node → fault_of (var_named m scope node.name) node.name node.width ≡ None
  node_accepted n node e =
      let within : n < length net.nodes = omega (arith, slice_get_within parts.nodes n node e, are.count) in
      no_fault scope node.name (0 + suc n) (node_variable net.nodes n) node.width (var_named m scope node.name) (ap (var_named m scope) (are.names n node e) ∙ found n within) (sym (are.widths n node e))

  nodes_accepted : (n : ℕ) (nodes : List NodeName) → ((k : ℕ) (node : NodeName) → slice_get nodes k ≡ Some node → slice_get parts.nodes (n + k) ≡ Some node) → nodes_refused m parts scope n nodes ≡ None
  nodes_accepted n [] h = refl
  nodes_accepted n (node ∷ nodes) h =
      let here : slice_get parts.nodes n ≡ Some node = ap (slice_get parts.nodes) (let z : n ≡ n + 0 = omega arith in z) ∙ h 0 node refl in
      ap₂ option_or (by (is_named parts n) (node_accepted n node here)) (nodes_accepted (n + 1) nodes (λ k x e. ap (slice_get parts.nodes) (let z : n + 1 + k ≡ n + suc k = omega arith in z) ∙ h (suc k) x e))
    where
      by : {o : Option BindFault} (b : Bool) → o ≡ None → cond b o None ≡ None
      by true e = e
      by false e = refl

  accepted : refusal m parts scope ≡ None
  accepted =
      ap (λ (b : Bool). cond b (variables_refused m parts scope) (Some NoScope)) (there (bytes_eq scope scope) ((bytes_eq-Decides scope scope).1 refl))
      ∙ ap₂ option_or (no_fault scope (codes "clk") (0 + 0) clock 1 (var_named m scope (codes "clk")) clock_found refl)
      (nodes_accepted 0 parts.nodes (λ k x e. ap (slice_get parts.nodes) (let z : 0 + k ≡ k = omega arith in z) ∙ e))
    where
      there : (b : Bool) → b ≡ true → (b || false) ≡ true
      there b e = ap (λ (c : Bool). c || false) e

  -- ---- the samples

  named_sample : (back : ReadsBack net s) (t n : ℕ) → t < length s.rows → is_named parts n ≡ true → (samples_over m parts scope).sample t n ≡ (run_samples net s).sample t n
  named_sample back t n l named =
      let inside : n < length net.nodes = omega (arith, named_there parts table n named, are.count) in
      let time = get_or (rises m scope) t 0 in
      let z : 0 + n ≡ n = omega arith in
      let name : get_or (table_names parts) n [] ≡ get_or (node_names net) n [] =
      get_or_from_slice_get (table_names parts) n (node_variable net.nodes n).name [] (name_there n inside)
      ∙ sym (number_at (λ i. (node_variable net.nodes i).name) 0 (length net.nodes) n [] inside ∙ ap (λ (i : ℕ). (node_variable net.nodes i).name) z) in
      ap (λ (b : Bool). cond b (sample_before m.changes (var_named m scope (get_or (table_names parts) n [])) time) Unknown) named
      ∙ ap (λ (x : List ℕ). sample_before m.changes (var_named m scope x) time) name
      ∙ back.nodes.each t n l inside

  alike : ReadsBack net s → SameNamed parts (samples_over m parts scope) (run_samples net s)
  alike back = record { cycles = back.nodes.cycles; sample = λ t n l named. named_sample back t n l named }

pub waves_replay : WavesReadBack → WavesReplay
waves_replay law net s parts few is kept fits short table are =
    let back = law net s few is kept fits short in
    record {
      means = back.means;
      accepted = accepted net s parts fits table are;
      alike = alike net s parts fits table are back;
      same = same_named_tell_same parts _ _ (alike net s parts fits table are back);
    }
