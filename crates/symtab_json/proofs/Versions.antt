-- A file of version 2 that differs from one of version 1 in the version and in file 0 of its slots tells the same.
use Rattle.std.proofs.Common.{◌≡◌, ℕ, ◌≤◌, ◌^◌, true, false, cond, List, length, nat_lt, codes, bytes_eq, Option, Some, None, option_and_then, Err, refl, sym, ap, ◌∙◌, arith}
use Rattle.std.specs.Option.{option_map_or}
use Rattle.std.proofs.lemmas.Bool.Decides.{nat_tests}
use Rattle.symtab.specs.declared.parts.NodeName.{NodeName}
use Rattle.serde_json.specs.Data.{Data, null, boolean, number, string, array, object, Items, no_items, item, Members, put}
use Rattle.serde_json.specs.Find.{as_str, get_member}
use Rattle.serde_json.proofs.Views.{get_member-put}
use Rattle.symtab_json.specs.declared.entries.InstanceEntry.{InstanceEntry}
use Rattle.symtab_json.specs.declared.entries.SlotEntry.{SlotEntry}
use Rattle.symtab_json.specs.declared.fault.TableFault.TheVariants as fault
use Rattle.symtab_json.specs.Entries.{is_short, kept_if, made_place, made_slot, told_count, told_first, told_gen, told_instance, told_items, told_list, told_node, told_row, told_short, told_slot, told_variant}
use Rattle.symtab_json.specs.Files.{count_json}
use Rattle.symtab_json.specs.Judged.{are_full, is_first, list_len, names_of_nodes_differ, paths_differ, told_instances, told_nodes, told_slots, told_top, told_variants}
use Rattle.symtab_json.specs.Places.{instance_count}
use Rattle.symtab_json.specs.Told.{by_entries, by_instances, by_json, by_nodes, by_slots, by_top, by_variants, by_version, json_of, told_entries, told_tree}
use Rattle.symtab_json.specs.Versions.{filed_items, filed_slot, filed_slots, second_of, with_filed, VersionsTellOneTable, VersionsTellOneTree}
use Rattle.symtab_json.proofs.Objects.{other}

-- ---- slots

slot_same : (nodes : List NodeName) (d : Data) → told_slot true nodes (filed_slot d) ≡ told_slot false nodes d
slot_same nodes null = refl
slot_same nodes (boolean b) = refl
slot_same nodes (number n) = refl
slot_same nodes (string s) = refl
slot_same nodes (array ds) = refl
slot_same nodes (object ms) =
    let zero' = count_json 0 in
    let here = codes "file" in
    let variant = other (codes "variant") here zero' ms refl in
    let file = get_member-put here zero' ms in
    let line = other (codes "line") here zero' ms refl in
    let gens = other (codes "gens") here zero' ms refl in
    let names = other (codes "names") here zero' ms refl in
    let rows = other (codes "rows") here zero' ms refl in
    λ i. made_slot (option_and_then told_count (variant i)) (made_place (option_and_then told_count (file i)) (option_and_then told_count (line i)))
    (option_and_then (told_short told_gen) (gens i)) (option_and_then (told_short as_str) (names i)) (option_and_then (told_short (told_row nodes)) (rows i))

items_same : (nodes : List NodeName) (ds : Items) → told_items (told_slot true nodes) (filed_items ds) ≡ told_items (told_slot false nodes) ds
items_same nodes no_items = refl
items_same nodes (item d ds) = λ i. told_first (slot_same nodes d i) (items_same nodes ds i)

list_same : (nodes : List NodeName) (d : Data) → told_short (told_slot true nodes) (filed_slots d) ≡ told_short (told_slot false nodes) d
list_same nodes null = refl
list_same nodes (boolean b) = refl
list_same nodes (number n) = refl
list_same nodes (string s) = refl
list_same nodes (array ds) = ap (kept_if is_short) (items_same nodes ds)
list_same nodes (object ms) = refl

found_same : (nodes : List NodeName) (ms : Members) (found : Option Data) → get_member (codes "slots") ms ≡ found →
    option_and_then (told_short (told_slot true nodes)) (get_member (codes "slots") (with_filed found ms)) ≡ option_and_then (told_short (told_slot false nodes)) found
found_same nodes ms None is = ap (option_and_then (told_short (told_slot true nodes))) is
found_same nodes ms (Some d) is = ap (option_and_then (told_short (told_slot true nodes))) (get_member-put (codes "slots") (filed_slots d) ms) ∙ list_same nodes d

-- ---- the other members stay

filed_other : (q : List ℕ) (ms : Members) (found : Option Data) → bytes_eq q (codes "slots") ≡ false → get_member q (with_filed found ms) ≡ get_member q ms
filed_other q ms None apart = refl
filed_other q ms (Some d) apart = other q (codes "slots") (filed_slots d) ms apart

abbrev second_members : Members → Members
second_members ms = put (codes "version") (count_json 2) (with_filed (get_member (codes "slots") ms) ms)

stays : (q : List ℕ) (ms : Members) → bytes_eq q (codes "version") ≡ false → bytes_eq q (codes "slots") ≡ false → get_member q (second_members ms) ≡ get_member q ms
stays q ms version slots = other q (codes "version") (count_json 2) (with_filed (get_member (codes "slots") ms) ms) version ∙ filed_other q ms (get_member (codes "slots") ms) slots

slots_stay : (nodes : List NodeName) (ms : Members) →
    option_and_then (told_short (told_slot true nodes)) (get_member (codes "slots") (second_members ms)) ≡ option_and_then (told_short (told_slot false nodes)) (get_member (codes "slots") ms)
slots_stay nodes ms =
    ap (option_and_then (told_short (told_slot true nodes))) (other (codes "slots") (codes "version") (count_json 2) (with_filed (get_member (codes "slots") ms) ms) refl)
    ∙ found_same nodes ms (get_member (codes "slots") ms) refl

-- ---- each part

record TellOne (d e : Data) : Type 0 where
  pub instances : told_instances e ≡ told_instances d
  pub nodes : told_nodes e ≡ told_nodes d
  pub slots : (instances : List InstanceEntry) (nodes : List NodeName) → told_slots true e instances nodes ≡ told_slots false d instances nodes
  pub top : (instances : List InstanceEntry) → told_top e instances ≡ told_top d instances
  pub variants : told_variants e ≡ told_variants d

tell_one : (ms : Members) → TellOne (object ms) (object (second_members ms))
tell_one ms =
    let variants = stays (codes "variants") ms refl refl in
    record {
      instances = ap (λ (o : Option Data). kept_if paths_differ (option_and_then (told_short told_instance) o)) (stays (codes "instances") ms refl refl);
      nodes = ap (λ (o : Option Data). kept_if names_of_nodes_differ (option_and_then (told_list told_node) o)) (stays (codes "nodes") ms refl refl);
      slots = λ instances nodes i. kept_if (are_full (option_map_or list_len (variants i) 0) (instance_count instances)) (slots_stay nodes ms i);
      top = λ instances. ap (λ (o : Option Data). kept_if (is_first instances) (option_and_then as_str o)) (stays (codes "top") ms refl refl);
      variants = ap (λ (o : Option Data). option_and_then (told_short told_variant) o) variants;
    }

top_same : (d e : Data) → TellOne d e → (instances : List InstanceEntry) (nodes : List NodeName) (slots : List SlotEntry) (top : Option (List ℕ)) →
    by_top e instances nodes slots top ≡ by_top d instances nodes slots top
top_same d e h instances nodes slots None = refl
top_same d e h instances nodes slots (Some top) = ap (by_variants instances nodes slots top) h.variants

slots_same : (d e : Data) → TellOne d e → (instances : List InstanceEntry) (nodes : List NodeName) (slots : Option (List SlotEntry)) →
    by_slots e instances nodes slots ≡ by_slots d instances nodes slots
slots_same d e h instances nodes None = refl
slots_same d e h instances nodes (Some slots) = ap (by_top e instances nodes slots) (h.top instances) ∙ top_same d e h instances nodes slots (told_top d instances)

nodes_same : (d e : Data) → TellOne d e → (instances : List InstanceEntry) (nodes : Option (List NodeName)) →
    by_nodes true e instances nodes ≡ by_nodes false d instances nodes
nodes_same d e h instances None = refl
nodes_same d e h instances (Some nodes) = ap (by_slots e instances nodes) (h.slots instances nodes) ∙ slots_same d e h instances nodes (told_slots false d instances nodes)

instances_same : (d e : Data) → TellOne d e → (instances : Option (List InstanceEntry)) → by_instances true e instances ≡ by_instances false d instances
instances_same d e h None = refl
instances_same d e h (Some instances) = ap (by_nodes true e instances) h.nodes ∙ nodes_same d e h instances (told_nodes d)

-- ---- the whole

pub versions_tell_one_tree : VersionsTellOneTree
versions_tell_one_tree null h = refl
versions_tell_one_tree (boolean b) h = refl
versions_tell_one_tree (number n) h = refl
versions_tell_one_tree (string s) h = refl
versions_tell_one_tree (array ds) h = refl
versions_tell_one_tree (object ms) h =
    let d = object ms in
    let e = object (second_members ms) in
    let same = tell_one ms in
    ap (λ (o : Option Data). by_version e (option_and_then told_count o)) (get_member-put (codes "version") (count_json 2) (with_filed (get_member (codes "slots") ms) ms))
    ∙ ap (by_instances true e) same.instances ∙ instances_same d e same (told_instances d) ∙ sym (ap (by_version d) h)

short_entries : (text : List ℕ) (d : Data) → length text ≤ 2 ^ 26 → json_of text ≡ Some d → told_entries text ≡ told_tree d
short_entries text d short is =
    let within : nat_lt (2 ^ 26) (length text) ≡ false = grind (arith, nat_tests) in
    ap (λ b. cond b (Err fault.TooLong) (by_json (json_of text))) within ∙ ap by_json is

pub versions_tell_one_table : VersionsTellOneTable
versions_tell_one_table first second d short_first short_second version is_first' is_second =
    ap by_entries (short_entries second (second_of d) short_second is_second ∙ versions_tell_one_tree d version ∙ sym (short_entries first d short_first is_first'))
