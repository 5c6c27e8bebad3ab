-- The names in the table of a compiled design are texts, and its literals are values.
use Rattle.std.proofs.Common.{◌≡◌, ℕ, suc, ◌+◌, ◌<◌, ◌^◌, Bool, true, false, ◌||◌, List, [], ◌∷◌, ◌++◌, length, map, Option, Some, None, is_some, option_map, unwrap_or, codes, decimal, IsUtf8, if◌then◌else◌, inl, inr, refl, sym, ap, ◌∙◌, subst, arith}
use Rattle.std.specs.Prelude.{slice_get}
use Rattle.std.specs.List.{AllByRecursion, enumerate_from}
use Rattle.std.proofs.lemmas.Fmt.{IsAscii-decimal}
use Rattle.std.proofs.lemmas.Option.{slice_get_within}
use Rattle.std.proofs.lemmas.List.{length-map}
use Rattle.std.proofs.lemmas.List.FromFn.{length-enumerate_from}
use Rattle.std.proofs.lemmas.Str.{IsUtf8-append, IsUtf8-from_ascii}
use Rattle.json.proofs.Printed.Utf8.{IsUtf8-are_ascii}
use Rattle.bv_core.specs.Value.{Bits}
use Rattle.bv_core.specs.declared.reference.Binding.TheVariants.{Value, Removed}
use Rattle.tree_core.specs.Tree.{Whole}
use Rattle.tree_core.specs.Width.{IsWhole}
use Rattle.tree_core.specs.Fold.{constant}
use Rattle.exec_core.specs.Block.{Name}
use Rattle.exec_core.specs.Kept.{has_number}
use Rattle.exec_core.specs.Accepted.{Accepted}
use Rattle.list_core.specs.Lists.{EachOf, IsIn}
use Rattle.list_core.proofs.Lists.{each_member, each_from}
use Rattle.list_core.proofs.Listing.{flat_in}
use Rattle.gen_token.specs.Spelling.{IsName}
use Rattle.design_core.specs.declared.design.Instance.{Instance}
use Rattle.design_core.specs.declared.variant.Signal.{Signal}
use Rattle.design_core.specs.declared.variant.Kind.{Kind}
use Rattle.design_core.specs.declared.variant.Kind.TheVariants as kind
use Rattle.design_core.specs.Design.{Gens, Block, Variant, Design}
use Rattle.design_core.specs.Slots.{Head, heads, scope, variant_heads}
use Rattle.design_core.specs.WellFormed.{IfPort, IsVariant}
use Rattle.design_core.specs.Ports.{is_port, ports_in, top_signals}
use Rattle.design_core.specs.Widths.{bits}
use Rattle.design_exec.specs.Processes.{processes_of}
use Rattle.place_core.specs.Orders.{TellsOrder, signal_at}
use Rattle.net_core.specs.Nodes.{Shape, Fixed, TopInput, Register, OfOne, OfTwo, OfMux}
use Rattle.net_core.specs.Nets.{NetParts}
use Rattle.symtab.specs.declared.parts.NodeName.{NodeName}
use Rattle.symtab.specs.declared.parts.GenVariable.{GenVariable}
use Rattle.symtab.specs.declared.parts.VariantParts.{VariantParts}
use Rattle.symtab.specs.declared.parts.InstanceParts.{InstanceParts}
use Rattle.symtab.specs.declared.parts.Slot.{Slot}
use Rattle.symtab.specs.declared.parts.TableParts.{TableParts}
use Rattle.symtab_json.specs.ReadBack.{RefIsValue, CellIsValue, RowIsValue, GensAreTexts as PartsAreTexts, VariantIsText, SlotIsText, AreTexts}
use Rattle.check_exec.specs.Premises.{IsSound}
use Rattle.check_exec.proofs.Facts.{each_at, each_map, each_flat, from_zero}
use Rattle.check_exec.proofs.Orders.{orders_are_accepted}
use Rattle.world_core.specs.declared.mode.Mode.{Mode}
use Rattle.world_core.specs.Sites.{Site, sites_in_block, sites_in, sites_of, sites_in_order, Spot, spots_of, all_spots, head_site}
use Rattle.world_core.specs.Kept.{enable_tree, name_tree, kept_trees}
use Rattle.world_laws.proofs.SitesOf.{ordered}
use Rattle.lower_core.specs.Shape.{gen_part, variant_part, instance_part}
use Rattle.trim_core.specs.Named.{numbered_name, name_of, named}
use Rattle.trim_core.specs.KeptTable.{found_as, found_at, name_cell, enable_cell, kept_cell, kept_row, kept_slot, kept_table}
use Rattle.trim_core.specs.Trimmed.{IsTrimmed}
use Rattle.trim_table.proofs.KeptTables.{compiled_tables_are_kept}
use Rattle.design_net.proofs.Inputs.{inputs_among}
use Rattle.name_laws.specs.Texts.{GensAreTexts, VariantHasTexts, HasTexts}
use Rattle.name_laws.proofs.Spelled.{name_is_text}
use Rattle.table_laws.proofs.Formed.{constant_bits, enable_whole, name_whole}

-- ---- lists

all_of : {A B : Type 0} (P : A → Type 0) (Q : B → Type 0) (f : A → B) → ((a : A) → P a → Q (f a)) → (xs : List A) → EachOf P xs → AllByRecursion Q (map f xs)
all_of P Q f g [] h = tt
all_of P Q f g (x ∷ xs) h = (g x h.0, all_of P Q f g xs h.1)

all_names : (xs : List Name) → EachOf IsUtf8 xs → AllByRecursion IsUtf8 xs
all_names [] h = tt
all_names (x ∷ xs) h = (h.0, all_names xs h.1)

gens_texts : (gens : Gens) → GensAreTexts gens → PartsAreTexts (map gen_part gens)
gens_texts gens h = all_of (λ (g : _). IsUtf8 g.0) (λ (g : GenVariable). IsUtf8 g.name) gen_part (λ g t. t) gens h

variant_text : (v : Variant) → VariantHasTexts v → VariantIsText (variant_part v)
variant_text v h = (h.«module», gens_texts v.params h.params)

-- ---- what stands at a statement

record SiteTexts (s : Site) : Type 0 where
  gens : GensAreTexts s.gens
  names : EachOf IsUtf8 s.names

sites_texts : (d : Design) → HasTexts d → EachOf SiteTexts (sites_of d)
sites_texts d texts =
    each_flat SiteTexts (λ (v : ℕ × Variant). sites_in v.0 v.1) (enumerate_from 0 d.variants) (λ v i.
    let at : slice_get d.variants v.0 ≡ Some v.1 =
    each_member (λ (q : ℕ × Variant). slice_get d.variants q.0 ≡ Some q.1) (enumerate_from 0 d.variants) (from_zero (λ (q : ℕ × Variant). slice_get d.variants q.0 ≡ Some q.1) d.variants (λ n w e. e)) v i in
    let variant : VariantHasTexts v.1 = each_at VariantHasTexts d.variants v.0 v.1 at texts.variants in
    each_flat SiteTexts (sites_in_block v.0 v.1) v.1.blocks (λ b j.
    each_map SiteTexts (head_site v.0 v.1 b) (heads b.body) (λ h k.
    record {
      gens = each_member (λ (g : Head). GensAreTexts g.gens) (variant_heads v.1) variant.gens h (flat_in (λ (c : Block). heads c.body) v.1.blocks b h j k);
      names = each_member (λ (c : Block). EachOf IsUtf8 (scope v.1 c)) v.1.blocks variant.names b j;
    })))

-- ---- literals

found_value : (o : Option Bits) (ts : List Whole) (t : Whole) → constant t ≡ o → IsWhole t → RefIsValue (found_as o ts t)
found_value (Some b) ts t e h = constant_bits t b h e
found_value None ts t e h = tt

one_bit : RefIsValue (enable_cell [] None)
one_bit = record { some = omega arith; most = omega arith; fits = omega arith }

enable_value : (ts : List Whole) (o : Option Whole) → ((T : Whole) → o ≡ Some T → IsWhole T) → RefIsValue (enable_cell ts o)
enable_value ts None h = one_bit
enable_value ts (Some t) h = found_value (constant t) ts t refl (h t refl)

cell_value : (ts : List Whole) (o : Option Whole) → ((T : Whole) → o ≡ Some T → IsWhole T) → CellIsValue (name_cell ts o)
cell_value ts None h = tt
cell_value ts (Some t) h = by_test (is_some (constant t) || has_number t ts)
  where
    by_test : (b : Bool) → CellIsValue (if b then Value (found_at ts t) else Removed)
    by_test true = found_value (constant t) ts t refl (h t refl)
    by_test false = tt

-- ---- nodes

number_text : (i : ℕ) → i < 2 ^ 64 → IsUtf8 (numbered_name i)
number_text i l = IsUtf8-append (codes "_") (decimal i) (IsUtf8-are_ascii (codes "_") refl) (IsUtf8-from_ascii (decimal i) (IsAscii-decimal i l))

node_text : (i : ℕ) (shape : Shape) → i < 2 ^ 64 → ((name : Name) (width : ℕ) → shape ≡ TopInput name width → IsUtf8 name) → IsUtf8 (name_of i shape)
node_text i (Fixed b) l h = number_text i l
node_text i (TopInput name width) l h = h name width refl
node_text i (Register instance name start) l h = number_text i l
node_text i (OfOne op a) l h = number_text i l
node_text i (OfTwo op a b) l h = number_text i l
node_text i (OfMux c a b) l h = number_text i l

nodes_texts : (all : List Shape) (k : ℕ) (ns : List Shape) → ((j : ℕ) (shape : Shape) → slice_get ns j ≡ Some shape → IsUtf8 (name_of (k + j) shape)) → AllByRecursion (λ (node : NodeName). IsUtf8 node.name) (map (named all) (enumerate_from k ns))
nodes_texts all k [] h = tt
nodes_texts all k (n ∷ ns) h = (
  subst (λ (i : ℕ). IsUtf8 (name_of i n)) (let z : k + 0 ≡ k = omega arith in z) (h 0 n refl),
  nodes_texts all (k + 1) ns (λ j shape e. subst (λ (i : ℕ). IsUtf8 (name_of i shape)) (let z : k + suc j ≡ k + 1 + j = omega arith in z) (h (suc j) shape e)),
)

-- ---- inputs of the top have names

port_named : (output : Bool) (signals : List Signal) (port : Name × ℕ) → EachOf (λ (s : Signal). IfPort IsName s s.kind) signals → IsIn port (ports_in output signals) → IsName port.0
port_named output [] port h i = absurd i
port_named output (s ∷ signals) port h i = by_kind (λ j. port_named output signals port h.1 j) output s.kind h.0 i
  where
    one : (IsIn port (ports_in output signals) → IsName port.0) → (b : Bool) → IsName s.name → IsIn port ((if b then (s.name, bits s.width) ∷ [] else []) ++ ports_in output signals) → IsName port.0
    one rest true named (inl e) = subst IsName (sym (ap (λ (p : Name × ℕ). p.0) e)) named
    one rest true named (inr k) = rest k
    one rest false named j = rest j

    by_kind : (IsIn port (ports_in output signals) → IsName port.0) → (b : Bool) (k : Kind) → IfPort IsName s k → IsIn port ((if is_port b k then (s.name, bits s.width) ∷ [] else []) ++ ports_in output signals) → IsName port.0
    by_kind rest b kind.Input named j = one rest (is_port b kind.Input) named j
    by_kind rest b kind.Output named j = one rest (is_port b kind.Output) named j
    by_kind rest true kind.Wire named j = rest j
    by_kind rest false kind.Wire named j = rest j
    by_kind rest true (kind.Reg start) named j = rest j
    by_kind rest false (kind.Reg start) named j = rest j
    by_kind rest true (kind.ChildOut k x) named j = rest j
    by_kind rest false (kind.ChildOut k x) named j = rest j

top_ports : (d : Design) → IsSound d → EachOf (λ (s : Signal). IfPort IsName s s.kind) (top_signals d)
top_ports d sound = by_variant (slice_get d.variants 0) refl
  where
    by_variant : (o : Option Variant) → slice_get d.variants 0 ≡ o → EachOf (λ (s : Signal). IfPort IsName s s.kind) (unwrap_or (option_map (λ (w : Variant). w.signals) o) [])
    by_variant None e = tt
    by_variant (Some v) e = (each_at (IsVariant d.variants) d.variants 0 v e sound.kept.each).ports

-- ---- the table

module _ (d : Design) (pairs : List (ℕ × ℕ)) (mode : Mode) (net : NetParts) (parts : TableParts) (sound : IsSound d) (order : TellsOrder d pairs) (texts : HasTexts d) (trimmed : IsTrimmed d (length pairs) mode net parts)
    (few : length parts.nodes < 2 ^ 64) where
  abbrev ts : List Whole
  ts = kept_trees d (length pairs) mode

  ok : Accepted (processes_of d) order.order
  ok = orders_are_accepted d pairs sound order

  count_same : length pairs ≡ length order.order
  count_same = sym (length-map pairs (signal_at d)) ∙ ap length order.signals ∙ length-map order.order (λ (p : _). Some p)

  row_value : (s : Site) → IsIn s (sites_in_order d) → (p : Spot) → IsIn p (spots_of d s) → RowIsValue (kept_row d (length pairs) ts p)
  row_value s i p j =
      let among : IsIn p (all_spots d) = flat_in (spots_of d) (sites_in_order d) s p i j in
      record {
        on = enable_value ts (enable_tree d (length pairs) p) (λ T e. enable_whole d sound order.order ok p among T (ap (λ n. enable_tree d n p) (sym count_same) ∙ e));
        cells = names_values p among p.0.names (λ x k. k);
      }
    where
      names_values : (p : Spot) → IsIn p (all_spots d) → (names : List Name) → ((x : Name) → IsIn x names → IsIn x p.0.names) → AllByRecursion CellIsValue (map (kept_cell d (length pairs) ts p) names)
      names_values p among [] h = tt
      names_values p among (x ∷ names) h = (
        cell_value ts (name_tree d (length pairs) p x) (λ T e. name_whole d sound order.order ok p among x (h x (inl refl)) T (ap (λ n. name_tree d n p x) (sym count_same) ∙ e)),
        names_values p among names (λ y k. h y (inr k)),
      )

  slot_text : (s : Site) → IsIn s (sites_in_order d) → SlotIsText (kept_slot d (length pairs) ts s)
  slot_text s i =
      let site : SiteTexts s = each_member SiteTexts (sites_of d) (sites_texts d texts) s (ordered d sound.kept s i).among in
      record {
        gens = gens_texts s.gens site.gens;
        names = all_names s.names site.names;
        rows = all_of (λ p. IsIn p (spots_of d s)) RowIsValue (kept_row d (length pairs) ts) (row_value s i) (spots_of d s) (each_from (λ p. IsIn p (spots_of d s)) (spots_of d s) (λ p j. j));
      }

  same_table : parts ≡ kept_table d (length pairs) mode
  same_table = compiled_tables_are_kept d (length pairs) mode net parts trimmed

  node_count : length parts.nodes ≡ length net.nodes
  node_count =
      ap (λ (ns : List NodeName). length ns) trimmed.tells.names ∙ length-map (enumerate_from 0 net.nodes) (named net.nodes) ∙ length-enumerate_from 0 net.nodes

  input_text : (j : ℕ) (name : Name) (width : ℕ) → slice_get net.nodes j ≡ Some (TopInput name width) → IsUtf8 name
  input_text j name width e =
      name_is_text name (port_named false (top_signals d) (name, width) (top_ports d sound) (inputs_among d (length pairs) mode net sound trimmed.is_kept j name width e))

  nodes_named : AllByRecursion (λ (node : NodeName). IsUtf8 node.name) parts.nodes
  nodes_named =
      subst (λ (ns : List NodeName). AllByRecursion (λ (node : NodeName). IsUtf8 node.name) ns) (sym trimmed.tells.names)
      (nodes_texts net.nodes 0 net.nodes (λ j shape e.
      let inside : j < length net.nodes = slice_get_within net.nodes j shape e in
      let small : 0 + j < 2 ^ 64 = omega (arith, inside, node_count, few) in
      node_text (0 + j) shape small (λ name width same. input_text j name width (e ∙ ap (λ (n : Shape). Some n) same))))

  pub are_texts : AreTexts parts
  are_texts = record {
    top = subst IsUtf8 (sym (ap (λ (p : TableParts). p.top) trimmed.tells.shape)) (each_at (λ (r : Instance). IsUtf8 r.path) d.instances 0 (record { path = d.top; variant = 0; parent = None }) sound.kept.top texts.paths);
    few = few;
    nodes = nodes_named;
    variants =
        subst (λ (vs : List VariantParts). AllByRecursion VariantIsText vs) (sym (ap (λ (p : TableParts). p.variants) trimmed.tells.shape))
        (all_of VariantHasTexts VariantIsText variant_part variant_text d.variants texts.variants);
    instances =
        subst (λ (is : List InstanceParts). AllByRecursion (λ (i : InstanceParts). IsUtf8 i.path) is) (sym (ap (λ (p : TableParts). p.instances) trimmed.tells.shape))
        (all_of (λ (r : Instance). IsUtf8 r.path) (λ (i : InstanceParts). IsUtf8 i.path) instance_part (λ r t. t) d.instances texts.paths);
    slots =
        subst (λ (ss : List Slot). AllByRecursion SlotIsText ss) (sym (ap (λ (p : TableParts). p.slots) same_table))
        (all_of (λ s. IsIn s (sites_in_order d)) SlotIsText (kept_slot d (length pairs) ts) slot_text (sites_in_order d) (each_from (λ s. IsIn s (sites_in_order d)) (sites_in_order d) (λ s i. i)));
  }
