-- What is found for a table is what is defined, and so is what is refused.
use Rattle.std.proofs.Common.{◌≡◌, ℕ, zero, suc, ◌+◌, ◌<◌, ◌≤◌, ◌==◌, Bool, true, false, cond, List, [], ◌∷◌, length, get_or, Option, Some, None, codes, refl, sym, ap, ap₂, ◌∙◌, subst, arith, eqb-true}
use Rattle.std.specs.Prelude.{bytes_eq}
use Rattle.std.specs.List.{slice_get, list_any}
use Rattle.std.specs.Option.{option_map, option_or}
use Rattle.std.proofs.lemmas.Option.{same_Some}
use Rattle.symtab.specs.declared.parts.NodeName.{NodeName}
use Rattle.symtab.specs.declared.parts.TableParts.{TableParts}
use Rattle.symtab.specs.Shape.{IsTable}
use Rattle.vcd_read.specs.Head.{Var}
use Rattle.vcd_read.specs.Meaning.{Meaning}
use Rattle.vcd_samples.specs.Samples.{var_named}
use Rattle.vcd_trace.specs.declared.fault.BindFault.{BindFault}
use Rattle.vcd_trace.specs.declared.fault.BindFault.TheVariants.{NoScope, MissingSignal, SizeDiffers, NoMemory}
use Rattle.vcd_trace.specs.declared.found.Found.{Found}
use Rattle.vcd_trace.specs.Kept.{found_of}
use Rattle.vcd_trace.specs.Named.{is_named}
use Rattle.vcd_trace.specs.Refused.{fault_of, nodes_refused, variables_refused, refusal, Tells}
use Rattle.vcd_trace.specs.Bound.{Finds, found_fault, signal_of, signal_fault, signals_from, signals_fault, found_named, IsBound}

-- ---- faults

-- of two that may be refused, the first
tells_front : (fault : BindFault) (said rest : Option BindFault) → Tells said fault → Tells (option_or said rest) fault
tells_front NoScope said rest h = ap (λ (o : Option BindFault). option_or o rest) h
tells_front (MissingSignal name) said rest h = ap (λ (o : Option BindFault). option_or o rest) h
tells_front (SizeDiffers name have want) said rest h = ap (λ (o : Option BindFault). option_or o rest) h
tells_front NoMemory said rest h = tt

faults_same : (o : Option Var) (name : List ℕ) (want : ℕ) → found_fault (option_map found_of o) name want ≡ fault_of o name want
faults_same None name want = refl
faults_same (Some var) name want = refl

none_left : (a b : Option BindFault) → option_or a b ≡ None → (a ≡ None) × (b ≡ None)
none_left None b e = (refl, e)
none_left (Some x) b e = cc

node_size : (finds : Finds) (mark : Bool) (node : NodeName) (found : Found) → signal_fault finds mark node ≡ None → signal_of finds mark node ≡ Some found → found.size ≡ node.width
node_size finds false node found none is = cc
node_size finds true node found none is = by (found.size == node.width) refl (sym (ap (λ (o : Option Found). found_fault o node.name node.width) is) ∙ none)
  where
    by : (b : Bool) → (found.size == node.width) ≡ b → cond b None (Some (SizeDiffers node.name found.size node.width)) ≡ None → found.size ≡ node.width
    by true e h = eqb-true _ _ e
    by false e h = cc

module _ (m : Meaning) (parts : TableParts) (scope : List ℕ) (finds : Finds) (marks : List Bool) (known : (x : List ℕ) → finds x ≡ found_named m scope x)
    (marked : (n : ℕ) → n < length parts.nodes → get_or marks n false ≡ is_named parts n) where
  name_fault : (name : List ℕ) (want : ℕ) → found_fault (finds name) name want ≡ fault_of (var_named m scope name) name want
  name_fault name want = ap (λ (o : Option Found). found_fault o name want) (known name) ∙ faults_same (var_named m scope name) name want

  nodes_same : (n : ℕ) (nodes : List NodeName) → n + length nodes ≤ length parts.nodes → signals_fault finds marks n nodes ≡ nodes_refused m parts scope n nodes
  nodes_same n [] l = refl
  nodes_same n (node ∷ nodes) l =
      ap₂ option_or (ap₂ (λ (b : Bool) (o : Option BindFault). cond b o None) (marked n (omega (arith, l))) (name_fault node.name node.width)) (nodes_same (n + 1) nodes (omega (arith, l)))

  all_same : signals_fault finds marks 0 parts.nodes ≡ nodes_refused m parts scope 0 parts.nodes
  all_same = nodes_same 0 parts.nodes (omega arith)

  whole : option_or (found_fault (finds (codes "clk")) (codes "clk") 1) (signals_fault finds marks 0 parts.nodes) ≡ variables_refused m parts scope
  whole = ap₂ option_or (name_fault (codes "clk") 1) all_same

  abbrev IsThere : Type 0
  IsThere = list_any (bytes_eq scope) m.scopes ≡ true

  refused_as : IsThere → refusal m parts scope ≡ option_or (found_fault (finds (codes "clk")) (codes "clk") 1) (signals_fault finds marks 0 parts.nodes)
  refused_as there = ap (λ (b : Bool). cond b (variables_refused m parts scope) (Some NoScope)) there ∙ sym whole

  pub nodes_told : (fault : BindFault) → IsThere → found_fault (finds (codes "clk")) (codes "clk") 1 ≡ None → Tells (signals_fault finds marks 0 parts.nodes) fault → Tells (refusal m parts scope) fault
  nodes_told fault there none told =
      subst (λ (o : Option BindFault). Tells o fault) (sym (refused_as there ∙ ap (λ (o : Option BindFault). option_or o (signals_fault finds marks 0 parts.nodes)) none)) told

  pub none_refused : IsThere → found_fault (finds (codes "clk")) (codes "clk") 1 ≡ None → signals_fault finds marks 0 parts.nodes ≡ None → refusal m parts scope ≡ None
  none_refused there none others = refused_as there ∙ ap₂ option_or none others

  -- ---- what is found

  length-signals : (n : ℕ) (nodes : List NodeName) → length (signals_from finds marks n nodes) ≡ length nodes
  length-signals n [] = refl
  length-signals n (node ∷ nodes) = ap suc (length-signals (n + 1) nodes)

  signal_at : (n : ℕ) (nodes : List NodeName) (k : ℕ) (node : NodeName) → n + length nodes ≤ length parts.nodes → slice_get nodes k ≡ Some node
      → slice_get (signals_from finds marks n nodes) k ≡ Some (signal_of (found_named m scope) (is_named parts (n + k)) node)
  signal_at n [] k node l e = cc
  signal_at n (first ∷ nodes) zero node l e =
      let same : first ≡ node = same_Some first node e in
      let z : n ≡ n + 0 = omega arith in
      ap₂ (λ (b : Bool) (o : Option Found). Some (cond b o None)) (marked n (omega (arith, l)) ∙ ap (is_named parts) z) (known first.name ∙ ap (λ (x : NodeName). found_named m scope x.name) same)
  signal_at n (first ∷ nodes) (suc k) node l e =
      signal_at (n + 1) nodes k node (omega (arith, l)) e
      ∙ ap (λ (i : ℕ). Some (signal_of (found_named m scope) (is_named parts i) node)) (let z : n + 1 + k ≡ n + suc k = omega arith in z)

  size_at : (n : ℕ) (nodes : List NodeName) (k : ℕ) (node : NodeName) (found : Found) → signals_fault finds marks n nodes ≡ None → slice_get nodes k ≡ Some node
      → slice_get (signals_from finds marks n nodes) k ≡ Some (Some found) → found.size ≡ node.width
  size_at n [] k node found none e is = cc
  size_at n (first ∷ nodes) zero node found none e is =
      let same : first ≡ node = same_Some first node e in
      node_size finds (get_or marks n false) first found (none_left _ _ none).0 (same_Some _ _ is) ∙ ap (λ (x : NodeName). x.width) same
  size_at n (first ∷ nodes) (suc k) node found none e is = size_at (n + 1) nodes k node found (none_left _ _ none).1 e is

  pub bound : (clock : Found) (signals : List (Option Found)) → IsTable parts → finds (codes "clk") ≡ Some clock → found_fault (finds (codes "clk")) (codes "clk") 1 ≡ None
      → signals ≡ signals_from finds marks 0 parts.nodes → signals_fault finds marks 0 parts.nodes ≡ None → IsBound m parts scope clock signals
  bound clock signals table is none are others =
      let inside : 0 + length parts.nodes ≤ length parts.nodes = omega arith in
      record {
        table = table;
        clock_is = sym (known (codes "clk")) ∙ is;
        clock_size = one (clock.size == 1) refl (sym (ap (λ (o : Option Found). found_fault o (codes "clk") 1) is) ∙ none);
        count = ap length are ∙ length-signals 0 parts.nodes;
        each = λ n node e. ap (λ (xs : List (Option Found)). slice_get xs n) are ∙ signal_at 0 parts.nodes n node inside e ∙ ap (λ (i : ℕ). Some (signal_of (found_named m scope) (is_named parts i) node)) (let z : 0 + n ≡ n = omega arith in z);
        sizes = λ n node found e at. size_at 0 parts.nodes n node found others e (sym (ap (λ (xs : List (Option Found)). slice_get xs n) are) ∙ at);
      }
    where
      one : (b : Bool) → (clock.size == 1) ≡ b → cond b None (Some (SizeDiffers (codes "clk") clock.size 1)) ≡ None → clock.size ≡ 1
      one true e h = eqb-true _ _ e
      one false e h = cc
