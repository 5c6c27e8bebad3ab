-- A file that is bound to a table is the trace that is defined, and fits the table.
use Rattle.std.proofs.Common.{◌≡◌, ℕ, zero, suc, ◌*◌, ◌<◌, ◌≤◌, ◌||◌, Bool, true, false, true≢false, cond, List, [], ◌∷◌, length, get_or, Option, Some, None, codes, refl, sym, ap, ◌∙◌, subst, arith, eqb-true}
use Rattle.std.specs.List.{slice_get, list_any, find}
use Rattle.std.specs.Option.{option_map}
use Rattle.std.proofs.Math.Nat.{mul-le-mul}
use Rattle.std.proofs.lemmas.List.{length-map}
use Rattle.std.proofs.lemmas.List.Folds.{Any-from_list_any}
use Rattle.std.proofs.lemmas.Option.{none-some, slice_get_within, same_Some, slice_get-get_or, slice_get-map, get_or_from_slice_get, slice_get_past}
use Rattle.bv_core.specs.Value.{Bits}
use Rattle.bv_core.specs.declared.reference.Ref.{Ref}
use Rattle.bv_core.specs.declared.reference.Ref.TheVariants.{Node, Const}
use Rattle.bv_core.specs.declared.reference.Binding.{Binding}
use Rattle.bv_core.specs.declared.reference.Binding.TheVariants.{Value, Unset, Removed}
use Rattle.bv_core.specs.declared.reference.Sample.{Sample}
use Rattle.bv_core.specs.declared.reference.Sample.TheVariants.{Known, Unknown}
use Rattle.symtab.specs.declared.parts.NodeName.{NodeName}
use Rattle.symtab.specs.declared.parts.Row.{Row}
use Rattle.symtab.specs.declared.parts.Slot.{Slot}
use Rattle.symtab.specs.declared.parts.TableParts.{TableParts}
use Rattle.symtab.specs.Shape.{IsFound as IsAt, IsCell, IsRow, IsSlot, IsTable, variants_of}
use Rattle.trace_core.specs.Samples.{Samples, HasWidth}
use Rattle.trace_world.specs.Fitting.{widths_of, FitsTable}
use Rattle.vcd_read.specs.Head.{Var}
use Rattle.vcd_read.specs.Changes.{Change}
use Rattle.vcd_read.specs.Meaning.{Meaning}
use Rattle.vcd_samples.specs.Samples.{sample_of, last_digits, before, rises_of, rises_by, rises, var_named, sample_before}
use Rattle.vcd_trace.specs.declared.found.Found.{Found}
use Rattle.vcd_trace.specs.Kept.{found_of, var_of, value_before, value_at, samples_by, IsFound, IsSampled, AreFirst, IsTrace}
use Rattle.vcd_trace.specs.Named.{is_at, cell_names, row_names, slot_names, is_named, node_names}
use Rattle.vcd_trace.specs.Over.{samples_over}
use Rattle.vcd_trace.specs.Bound.{signal_of, found_named, IsBound}

-- ---- a variable that is found is there

find_there : (test : Var → Bool) (vars : List Var) (var : Var) → find test vars ≡ Some var → (place : ℕ) × (slice_get vars place ≡ Some var)
find_there test [] var e = absurd (none-some var e)
find_there test (first ∷ vars) var e = by (test first) e (find_there test vars var)
  where
    by : (b : Bool) → cond b (Some first) (find test vars) ≡ Some var → (find test vars ≡ Some var → (place : ℕ) × (slice_get vars place ≡ Some var))
        → (place : ℕ) × (slice_get (first ∷ vars) place ≡ Some var)
    by true h more = (0, h)
    by false h more = let found = more h in (suc found.0, found.1)

found_is : (o : Option Var) (found : Found) → option_map found_of o ≡ Some found → (var : Var) × (o ≡ Some var) × (found ≡ found_of var)
found_is None found e = absurd (none-some found e)
found_is (Some var) found e = (var, refl, sym (same_Some (found_of var) found e))

is_found : (m : Meaning) (scope name : List ℕ) (found : Found) → found_named m scope name ≡ Some found → IsFound m found
is_found m scope name found e =
    let var = found_is (var_named m scope name) found e in
    let there = find_there _ m.vars var.0 var.1 in
    record { place = there.0; var = var.0; at = there.1; is = var.2 }

-- ---- a node that is named is there

ref_there : (nodes : List NodeName) (n : ℕ) (at : Ref) → IsAt nodes at → is_at n at ≡ true → n < length nodes
ref_there nodes n (Const bits) found e = absurd (true≢false (sym e))
ref_there nodes n (Node id width) found e = subst (λ (k : ℕ). k < length nodes) (eqb-true _ _ e) (by (slice_get nodes id.0) refl found)
  where
    by : (o : Option NodeName) → slice_get nodes id.0 ≡ o → option_map (λ (node : NodeName). node.width) o ≡ Some width → id.0 < length nodes
    by None e h = absurd (none-some width h)
    by (Some node) e h = slice_get_within nodes id.0 node e

cell_there : (nodes : List NodeName) (n : ℕ) (cell : Binding) → IsCell nodes cell → cell_names n cell ≡ true → n < length nodes
cell_there nodes n (Value at) is e = ref_there nodes n at is e
cell_there nodes n Unset is e = absurd (true≢false (sym e))
cell_there nodes n Removed is e = absurd (true≢false (sym e))

row_there : (nodes : List NodeName) (names : List (List ℕ)) (n : ℕ) (row : Row) → IsRow nodes names row → row_names n row ≡ true → n < length nodes
row_there nodes names n row is e = by (is_at n row.on) refl e
  where
    by : (b : Bool) → is_at n row.on ≡ b → (b || list_any (cell_names n) row.cells) ≡ true → n < length nodes
    by true h k = ref_there nodes n row.on is.on h
    by false h k =
        let some = Any-from_list_any (cell_names n) row.cells k in
        cell_there nodes n some.1 (subst (IsCell nodes) some.3 (is.cells some.0 some.1 some.2)) some.4

slot_there : (nodes : List NodeName) (variants : ℕ) (of_instances : List ℕ) (n : ℕ) (slot : Slot) → IsSlot nodes variants of_instances slot → slot_names n slot ≡ true → n < length nodes
slot_there nodes variants of_instances n slot is e =
    let some = Any-from_list_any (row_names n) slot.rows e in
    row_there nodes slot.names n some.1 (subst (IsRow nodes slot.names) some.3 (is.rows some.0 some.1 some.2)) some.4

pub named_there : (parts : TableParts) → IsTable parts → (n : ℕ) → is_named parts n ≡ true → n < length parts.nodes
named_there parts table n e =
    let some = Any-from_list_any (slot_names n) parts.slots e in
    slot_there parts.nodes (length parts.variants) (variants_of parts.instances) n some.1
    (subst (IsSlot parts.nodes (length parts.variants) (variants_of parts.instances)) some.3 (table.slots some.0 some.1 some.2)) some.4

-- ---- widths

has_size : (size number : ℕ) (known : Bool) → HasWidth size (cond known (Known (record { width = size; value = number })) Unknown)
has_size size number true value e = let same : record { width = size; value = number } ≡ value = known_same _ _ e in ap (λ (v : Bits). v.width) (sym same)
  where
    known_same : (a b : Bits) → Known a ≡ Known b → a ≡ b
    known_same a b h = cc
has_size size number false value e = none_known value e
  where
    none_known : (v : Bits) → Unknown ≡ Known v → v.width ≡ size
    none_known v h = cc

given_size : (size : ℕ) (o : Option (List ℕ)) → HasWidth size (sample_of size o)
given_size size None value e = none_known value e
  where
    none_known : (v : Bits) → Unknown ≡ Known v → v.width ≡ size
    none_known v h = cc
given_size size (Some digits) value e = has_size size _ _ value e

value_size : (changes : List Change) (found : Found) (time w : ℕ) → found.size ≡ w → HasWidth w (value_before changes found time)
value_size changes found time w is value e = given_size found.size (last_digits found.code (before time changes)) value e ∙ is

pub samples_same : (a b : Samples) → a.cycles ≡ b.cycles → a.nodes ≡ b.nodes → ((t n : ℕ) → a.sample t n ≡ b.sample t n) → a ≡ b
samples_same a b c n s = λ i. record { cycles = c i; nodes = n i; sample = λ t k. s t k i }

-- ---- the trace of a table

none_past : (nodes : List NodeName) (n : ℕ) → slice_get nodes n ≡ None → length nodes ≤ n
none_past [] n e = omega arith
none_past (node ∷ nodes) zero e = cc
none_past (node ∷ nodes) (suc n) e = omega (arith, none_past nodes n e)

module _ (m : Meaning) (parts : TableParts) (scope : List ℕ) (clock : Found) (signals : List (Option Found)) (bound : IsBound m parts scope clock signals) where
  pub clock_sampled : IsSampled m clock
  clock_sampled = record {
    is = is_found m scope (codes "clk") clock bound.clock_is;
    some = omega (arith, bound.clock_size);
    most = omega (arith, bound.clock_size);
  }

  node_at : (n : ℕ) → n < length signals → (node : NodeName) × (slice_get parts.nodes n ≡ Some node)
  node_at n l = some_at parts.nodes n (omega (arith, l, bound.count))
    where
      some_at : (nodes : List NodeName) (i : ℕ) → i < length nodes → (node : NodeName) × (slice_get nodes i ≡ Some node)
      some_at [] i b = absurd (omega arith)
      some_at (node ∷ nodes) i b = (get_or (node ∷ nodes) i node, slice_get-get_or (node ∷ nodes) i node b)

  signal_sampled : (n : ℕ) (found : Found) → slice_get signals n ≡ Some (Some found) → IsSampled m found
  signal_sampled n found e =
      let node = node_at n (slice_get_within signals n (Some found) e) in
      let signal : signal_of (found_named m scope) (is_named parts n) node.0 ≡ Some found = same_Some _ _ (sym (bound.each n node.0 node.1) ∙ e) in
      let size : found.size ≡ node.0.width = bound.sizes n node.0 found node.1 e in
      let here : get_or parts.nodes n node.0 ≡ node.0 = get_or_from_slice_get parts.nodes n node.0 node.0 node.1 in
      let width = bound.table.widths n node.0 (slice_get_within parts.nodes n node.0 node.1) in
      let wide : (get_or parts.nodes n node.0).width ≡ node.0.width = ap (λ (x : NodeName). x.width) here in
      record {
        is = is_found m scope node.0.name found (by (is_named parts n) signal);
        some = (let least = width.some in omega (arith, least, wide, size));
        most = (let greatest = width.most in omega (arith, greatest, wide, size));
      }
    where
      by : {o : Option Found} (b : Bool) → cond b o None ≡ Some found → o ≡ Some found
      by true h = h
      by false h = absurd (none-some found h)

  pub is_trace : (rises : List ℕ) → AreFirst m.changes rises → IsTrace m rises signals None
  is_trace rises first = record { first = first; sampled = signal_sampled; within = λ t e. absurd (none-some t e) }

  -- ---- the samples

  clock_rises : rises_of m.changes (var_of clock) ≡ rises m scope
  clock_rises =
      let found = found_is (var_named m scope (codes "clk")) clock bound.clock_is in
      ap (λ (f : Found). rises_of m.changes (var_of f)) found.2 ∙ sym (ap (rises_by m.changes) found.1)

  found_before : (o : Option Var) (time : ℕ) → value_at m.changes (Some (option_map found_of o)) time ≡ sample_before m.changes o time
  found_before None time = refl
  found_before (Some var) time = refl

  named_by : (b : Bool) (o : Option Var) (time : ℕ) → value_at m.changes (Some (cond b (option_map found_of o) None)) time ≡ cond b (sample_before m.changes o time) Unknown
  named_by true o time = found_before o time
  named_by false o time = refl

  abbrev defined : ℕ → ℕ → Sample
  defined n time = cond (is_named parts n) (sample_before m.changes (var_named m scope (get_or (node_names parts) n [])) time) Unknown

  unnamed : (n time : ℕ) → length parts.nodes ≤ n → (b : Bool) → is_named parts n ≡ b → cond b (sample_before m.changes (var_named m scope (get_or (node_names parts) n [])) time) Unknown ≡ Unknown
  unnamed n time l true h = absurd (omega (arith, named_there parts bound.table n h, l))
  unnamed n time l false h = refl

  sample_is : (n time : ℕ) → value_at m.changes (slice_get signals n) time ≡ defined n time
  sample_is n time = by (slice_get parts.nodes n) refl
    where
      by : (o : Option NodeName) → slice_get parts.nodes n ≡ o → value_at m.changes (slice_get signals n) time ≡ defined n time
      by (Some node) e =
          let name : get_or (node_names parts) n [] ≡ node.name =
          get_or_from_slice_get (node_names parts) n node.name [] (slice_get-map (λ (x : NodeName). x.name) parts.nodes n ∙ ap (option_map (λ (x : NodeName). x.name)) e) in
          ap (λ (o : Option (Option Found)). value_at m.changes o time) (bound.each n node e)
          ∙ named_by (is_named parts n) (var_named m scope node.name) time
          ∙ ap (λ (x : List ℕ). cond (is_named parts n) (sample_before m.changes (var_named m scope x) time) Unknown) (sym name)
      by None e =
          ap (λ (o : Option (Option Found)). value_at m.changes o time) (slice_get_past signals n (omega (arith, none_past parts.nodes n e, bound.count)))
          ∙ sym (unnamed n time (none_past parts.nodes n e) (is_named parts n) refl)

  pub samples_are : (times : List ℕ) → times ≡ rises_of m.changes (var_of clock) → samples_by m.changes times signals ≡ samples_over m parts scope
  samples_are times are = samples_same (samples_by m.changes times signals) (samples_over m parts scope)
      (ap length (are ∙ clock_rises))
      (bound.count ∙ sym (length-map parts.nodes (λ (x : NodeName). x.name)))
      (λ t n. sample_is n (get_or times t 0) ∙ ap (λ (ts : List ℕ). defined n (get_or ts t 0)) (are ∙ clock_rises))

  -- ---- it fits

  signal_width : (node time w : ℕ) (o : Option (Option Found)) → slice_get signals node ≡ o → slice_get (widths_of parts) node ≡ Some w → HasWidth w (value_at m.changes o time)
  signal_width node time w None e there value h = none_known value h
    where
      none_known : (v : Bits) → Unknown ≡ Known v → v.width ≡ w
      none_known v h = cc
  signal_width node time w (Some None) e there value h = none_known value h
    where
      none_known : (v : Bits) → Unknown ≡ Known v → v.width ≡ w
      none_known v h = cc
  signal_width node time w (Some (Some found)) e there value h =
      let at = node_at node (slice_get_within signals node (Some found) e) in
      let width : at.0.width ≡ w = same_Some _ _ (sym (slice_get-map (λ (x : NodeName). x.width) parts.nodes node ∙ ap (option_map (λ (x : NodeName). x.width)) at.1) ∙ there) in
      value_size m.changes found time w (bound.sizes node at.0 found at.1 e ∙ width) value h

  pub fits_table : (times : List ℕ) → length times ≤ 67108864 → FitsTable parts (samples_by m.changes times signals)
  fits_table times few = record {
    sampled = (let count = bound.count in let widths = length-map parts.nodes (λ (x : NodeName). x.width) in omega (arith, count, widths));
    width = λ cycle node w inside there. signal_width node (get_or times cycle 0) w (slice_get signals node) refl there;
    positions =
        (let slots : length parts.slots ≤ 4294967295 = (let short = bound.table.short_slots in omega (arith, short)) in
        let most : length times * length parts.slots ≤ 67108864 * 4294967295 = mul-le-mul few slots in
        omega (arith, most));
  }
