-- Entries that are lists of two.
use Rattle.std.proofs.Common.{◌≡◌, ℕ, ℤ, List, Option, Some, None, option_map, option_and_then, refl}
use Rattle.symtab.specs.declared.parts.NodeName.{NodeName}
use Rattle.symtab.specs.declared.parts.GenVariable.{GenVariable}
use Rattle.symtab.specs.declared.parts.VariantParts.{VariantParts}
use Rattle.serde_json.specs.Data.{Data, null, boolean, number, string, array, object, no_items, item}
use Rattle.serde_json.specs.Find.{as_str}
use Rattle.symtab_json.specs.declared.entries.InstanceEntry.{InstanceEntry}
use Rattle.symtab_json.specs.Entries.{two_found, told_two, told_count, told_width, told_gen_number, told_gen, told_short, made_node, made_gen, made_variant, made_instance, told_node, told_variant, told_instance}
use Rattle.symtab_json.specs.Pairs.{told_pair}

made_of : {A B C : Type 0} (first : Data → Option A) (second : Data → Option B) (made : Option A → Option B → Option C) (make : A × B → C) →
    ((a : Option A) (b : Option B) → option_map make (two_found a b) ≡ made a b) →
    (d : Data) → option_map make (told_pair first second d) ≡ option_and_then (λ two. made (first two.0) (second two.1)) (told_two d)
made_of first second made make each null = refl
made_of first second made make each (boolean b) = refl
made_of first second made make each (number n) = refl
made_of first second made make each (string s) = refl
made_of first second made make each (array no_items) = refl
made_of first second made make each (array (item d no_items)) = refl
made_of first second made make each (array (item d (item e no_items))) = each (first d) (second e)
made_of first second made make each (array (item d (item e (item f ds)))) = refl
made_of first second made make each (object ms) = refl

node_of : (name : Option (List ℕ)) (width : Option ℕ) → option_map {U = NodeName} (λ p. record { name = p.0; width = p.1 }) (two_found name width) ≡ made_node name width
node_of None width = refl
node_of (Some name) None = refl
node_of (Some name) (Some width) = refl

pub node_paired : (d : Data) → option_map {U = NodeName} (λ p. record { name = p.0; width = p.1 }) (told_pair as_str told_width d) ≡ told_node d
node_paired d = made_of as_str told_width made_node _ node_of d

gen_of : (name : Option (List ℕ)) (value : Option ℤ) → option_map {U = GenVariable} (λ p. record { name = p.0; value = p.1 }) (two_found name value) ≡ made_gen name value
gen_of None value = refl
gen_of (Some name) None = refl
gen_of (Some name) (Some value) = refl

pub gen_paired : (d : Data) → option_map {U = GenVariable} (λ p. record { name = p.0; value = p.1 }) (told_pair as_str told_gen_number d) ≡ told_gen d
gen_paired d = made_of as_str told_gen_number made_gen _ gen_of d

variant_of : (name : Option (List ℕ)) (gens : Option (List GenVariable)) → option_map {U = VariantParts} (λ p. record { «module» = p.0; gens = p.1 }) (two_found name gens) ≡ made_variant name gens
variant_of None gens = refl
variant_of (Some name) None = refl
variant_of (Some name) (Some gens) = refl

pub variant_paired : (d : Data) → option_map {U = VariantParts} (λ p. record { «module» = p.0; gens = p.1 }) (told_pair as_str (told_short told_gen) d) ≡ told_variant d
variant_paired d = made_of as_str (told_short told_gen) made_variant _ variant_of d

instance_of : (path : Option (List ℕ)) (variant : Option ℕ) → option_map {U = InstanceEntry} (λ p. record { path = p.0; variant = p.1 }) (two_found path variant) ≡ made_instance path variant
instance_of None variant = refl
instance_of (Some path) None = refl
instance_of (Some path) (Some variant) = refl

pub instance_paired : (d : Data) → option_map {U = InstanceEntry} (λ p. record { path = p.0; variant = p.1 }) (told_pair as_str told_count d) ≡ told_instance d
instance_paired d = made_of as_str told_count made_instance _ instance_of d
