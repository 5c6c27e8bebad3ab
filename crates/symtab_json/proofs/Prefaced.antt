-- What a file has before its slots, of the members that it has.
use Rattle.std.proofs.Common.{◌≡◌, ℕ, List, [], codes, bytes_eq, true, false, true≢false, Option, Some, None, option_map, option_and_then, refl, sym, ap, ap₂, ◌∙◌}
use Rattle.std.specs.Prelude.{is_some}
use Rattle.std.specs.Option.{option_map_or}
use Rattle.std.proofs.lemmas.Slice.Eq.{bytes_eq-Decides}
use Rattle.symtab.specs.declared.parts.NodeName.{NodeName}
use Rattle.serde_json.specs.Data.{Data, null, boolean, number, string, array, object, Members, put}
use Rattle.serde_json.specs.Find.{as_object, get_member}
use Rattle.serde_json.proofs.Views.{get_member-put, get_member-put_other}
use Rattle.symtab_json.specs.Entries.{told_count, told_instance, told_list, told_node, told_short}
use Rattle.symtab_json.specs.Judged.{list_len}
use Rattle.symtab_json.specs.Members.{preface, IsPreface}
use Rattle.symtab_json.specs.declared.entries.InstanceEntry.{InstanceEntry}
use Rattle.symtab_json.specs.declared.preface.Preface.{Preface}
use Rattle.symtab_json.specs.declared.told.ListLen.{ListLen}
use Rattle.symtab_json.specs.declared.told.LongList.{LongList}
use Rattle.symtab_json.proofs.Objects.{other}

-- ---- a member more

preface_version : (nodes : List NodeName) (k : List ℕ) (d : Data) (ms : Members) → k ≡ codes "version" → preface nodes (put k d ms) ≡ record (preface nodes ms) { version = told_count d }
preface_version nodes k d ms is =
    let here = codes "version" in
    let at_instances = other (codes "instances") here d ms refl in
    let at_nodes = other (codes "nodes") here d ms refl in
    let at_variants = other (codes "variants") here d ms refl in
    ap (λ x. preface nodes (put x d ms)) is ∙ rw (get_member-put here d ms, at_instances, at_nodes, at_variants)

preface_instances : (nodes : List NodeName) (k : List ℕ) (d : Data) (ms : Members) → k ≡ codes "instances" → preface nodes (put k d ms) ≡ record (preface nodes ms) { instances = told_short told_instance d }
preface_instances nodes k d ms is =
    let here = codes "instances" in
    let at_version = other (codes "version") here d ms refl in
    let at_nodes = other (codes "nodes") here d ms refl in
    let at_variants = other (codes "variants") here d ms refl in
    ap (λ x. preface nodes (put x d ms)) is ∙ rw (get_member-put here d ms, at_version, at_nodes, at_variants)

preface_nodes : (nodes : List NodeName) (k : List ℕ) (d : Data) (ms : Members) → k ≡ codes "nodes" → preface nodes (put k d ms) ≡ record (preface nodes ms) { nodes = option_map (λ xs. record { items = xs }) (told_list told_node d) }
preface_nodes nodes k d ms is =
    let here = codes "nodes" in
    let at_version = other (codes "version") here d ms refl in
    let at_instances = other (codes "instances") here d ms refl in
    let at_variants = other (codes "variants") here d ms refl in
    ap (λ x. preface nodes (put x d ms)) is ∙ rw (get_member-put here d ms, at_version, at_instances, at_variants)

preface_variants : (nodes : List NodeName) (k : List ℕ) (d : Data) (ms : Members) → k ≡ codes "variants" → preface nodes (put k d ms) ≡ record (preface nodes ms) { variants = Some (record { 0 = list_len d }) }
preface_variants nodes k d ms is =
    let here = codes "variants" in
    let at_version = other (codes "version") here d ms refl in
    let at_instances = other (codes "instances") here d ms refl in
    let at_nodes = other (codes "nodes") here d ms refl in
    ap (λ x. preface nodes (put x d ms)) is ∙ rw (get_member-put here d ms, at_version, at_instances, at_nodes)

-- what is of another key stays
stays : (q k : List ℕ) (d : Data) (ms : Members) → bytes_eq k q ≡ false → get_member q (put k d ms) ≡ get_member q ms
stays q k d ms apart = get_member-put_other q k d ms (λ e. true≢false (sym ((bytes_eq-Decides k q).1 (sym e)) ∙ apart))

pub preface_other : (nodes : List NodeName) (k : List ℕ) (d : Data) (ms : Members) → bytes_eq k (codes "version") ≡ false → bytes_eq k (codes "instances") ≡ false → bytes_eq k (codes "nodes") ≡ false → bytes_eq k (codes "variants") ≡ false → preface nodes (put k d ms) ≡ preface nodes ms
preface_other nodes k d ms no_version no_instances no_nodes no_variants =
    let at_version = stays (codes "version") k d ms no_version in
    let at_instances = stays (codes "instances") k d ms no_instances in
    let at_nodes = stays (codes "nodes") k d ms no_nodes in
    let at_variants = stays (codes "variants") k d ms no_variants in
    rw (at_version, at_instances, at_nodes, at_variants)

-- ---- what was read, once a member was read into it

pub preface_version_taken : (nodes : List NodeName) (k : List ℕ) (d : Data) (ms : Members) (h : Preface) (x : Option ℕ) → bytes_eq k (codes "version") ≡ true → h ≡ preface nodes ms → x ≡ told_count d
    → record h { version = x } ≡ preface nodes (put k d ms)
preface_version_taken nodes k d ms h x named are is =
    ap₂ (λ (f : Preface) (y : Option ℕ). record f { version = y }) are is ∙ sym (preface_version nodes k d ms ((bytes_eq-Decides k (codes "version")).0 named))

pub preface_instances_taken : (nodes : List NodeName) (k : List ℕ) (d : Data) (ms : Members) (h : Preface) (x : Option (List InstanceEntry)) → bytes_eq k (codes "instances") ≡ true → h ≡ preface nodes ms → x ≡ told_short told_instance d
    → record h { instances = x } ≡ preface nodes (put k d ms)
preface_instances_taken nodes k d ms h x named are is =
    ap₂ (λ (f : Preface) (y : Option (List InstanceEntry)). record f { instances = y }) are is ∙ sym (preface_instances nodes k d ms ((bytes_eq-Decides k (codes "instances")).0 named))

pub preface_nodes_taken : (nodes : List NodeName) (k : List ℕ) (d : Data) (ms : Members) (h : Preface) (x : Option (LongList NodeName)) → bytes_eq k (codes "nodes") ≡ true → h ≡ preface nodes ms → x ≡ option_map (λ xs. record { items = xs }) (told_list told_node d)
    → record h { nodes = x } ≡ preface nodes (put k d ms)
preface_nodes_taken nodes k d ms h x named are is =
    ap₂ (λ (f : Preface) (y : Option (LongList NodeName)). record f { nodes = y }) are is ∙ sym (preface_nodes nodes k d ms ((bytes_eq-Decides k (codes "nodes")).0 named))

pub preface_variants_taken : (nodes : List NodeName) (k : List ℕ) (d : Data) (ms : Members) (h : Preface) (x : Option ListLen) → bytes_eq k (codes "variants") ≡ true → h ≡ preface nodes ms → x ≡ Some (record { 0 = list_len d })
    → record h { variants = x } ≡ preface nodes (put k d ms)
preface_variants_taken nodes k d ms h x named are is =
    ap₂ (λ (f : Preface) (y : Option ListLen). record f { variants = y }) are is ∙ sym (preface_variants nodes k d ms ((bytes_eq-Decides k (codes "variants")).0 named))

-- ---- of a value

items_back : (o : Option (List NodeName)) → option_map (λ (l : LongList NodeName). l.items) (option_map (λ xs. record { items = xs }) o) ≡ o
items_back None = refl
items_back (Some xs) = refl

items_of : (o : Option Data) → option_map (λ (l : LongList NodeName). l.items) (option_and_then (λ d. option_map (λ xs. record { items = xs }) (told_list told_node d)) o) ≡ option_and_then (told_list told_node) o
items_of None = refl
items_of (Some d) = items_back (told_list told_node d)

len_of : (o : Option Data) → option_map_or (λ (n : ListLen). n.0) (option_and_then (λ d. Some (record { 0 = list_len d })) o) 0 ≡ option_map_or list_len o 0
len_of None = refl
len_of (Some d) = refl

of_members : (ms : Members) (h : Preface) → preface [] ms ≡ h → IsPreface (object ms) h
of_members ms h is = record {
  whole = refl;
  version = ap (λ (f : Preface). f.version) (sym is);
  instances = ap (λ (f : Preface). f.instances) (sym is);
  nodes = ap (λ (f : Preface). option_map (λ (l : LongList NodeName). l.items) f.nodes) (sym is) ∙ items_of (get_member (codes "nodes") ms);
  variants = ap (λ (f : Preface). option_map_or (λ (n : ListLen). n.0) f.variants 0) (sym is) ∙ len_of (get_member (codes "variants") ms);
}

pub is_preface : (d : Data) (h : Preface) → option_map (preface []) (as_object d) ≡ Some h → IsPreface d h
is_preface null h e = absurd (cc)
is_preface (boolean b) h e = absurd (cc)
is_preface (number n) h e = absurd (cc)
is_preface (string s) h e = absurd (cc)
is_preface (array ds) h e = absurd (cc)
is_preface (object ms) h e = of_members ms h (cc)

pub no_preface : (d : Data) → option_map (preface []) (as_object d) ≡ None → is_some (as_object d) ≡ false
no_preface null e = refl
no_preface (boolean b) e = refl
no_preface (number n) e = refl
no_preface (string s) e = refl
no_preface (array ds) e = refl
no_preface (object ms) e = absurd (cc)
