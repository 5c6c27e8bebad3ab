-- The parts of a design, one after another.
use Rattle.std.proofs.Common.{◌≡◌, ℕ, ◌+◌, ◌<◌, drop, get_or, List, [], ◌∷◌, ◌++◌, map, length, append_assoc, refl, sym, ap, ap₂, ◌∙◌, arith}
use Rattle.std.specs.List.{enumerate_from}
use Rattle.std.proofs.lemmas.List.{map-append, drop_more, length-drop}
use Rattle.design_core.specs.declared.Block as code_block
use Rattle.design_core.specs.declared.Child as code_child
use Rattle.design_core.specs.Design as design
use Rattle.design_core.specs.View.{block_of, child_of, variant_of}
use Rattle.elab_core.specs.declared.Child as met_child
use Rattle.elab_core.specs.View as met
use Rattle.elab_core.specs.View.{instance_of}
use Rattle.gen_tree.specs.Tree.{Module}
use Rattle.exec_core.specs.Block.{Name}
use Rattle.design_core.specs.declared.Variant as code_variant
use Rattle.elab_core.specs.declared.Instance as code_instance
use Rattle.elab_core.specs.Elaborated.{Child, Instance}
use Rattle.elab_core.specs.Design.{size, blocks_size, block_from, numbered_blocks, first_slot, child_in, name_at, variant_from, numbered_variant}
use Rattle.gen_elab.specs.Keys.{Key, key_of, key_child, key_variant}
use Rattle.gen_elab.specs.Offsets.{all_statements, AreSlots}
use Rattle.gen_elab.proofs.VariantLemmas.{number_as}
use Rattle.elab_laws.proofs.Sums.{slot_within}

abbrev first_or : Instance → List Instance → Instance
first_or d [] = d
first_or d (x ∷ xs) = x

-- one more block has its slots
pub block_turn : (before after left rest : List code_block.Block) (all : List design.Block) (b now : code_block.Block) (k next : ℕ)
    → left ≡ b ∷ rest → after ≡ before ++ now ∷ [] → block_of now ≡ block_from k (block_of b) → next ≡ k + size (block_of b).body
    → map block_of before ++ numbered_blocks k (map block_of left) ≡ all → map block_of after ++ numbered_blocks next (map block_of rest) ≡ all
block_turn before after left rest all b now k next is grown given following so_far =
    ap₂ (λ (l : List code_block.Block) n. map block_of l ++ numbered_blocks n (map block_of rest)) grown following
    ∙ ap (λ (l : List design.Block). l ++ numbered_blocks (k + size (block_of b).body) (map block_of rest)) (map-append block_of before (now ∷ []))
    ∙ append_assoc (map block_of before) (block_of now ∷ []) (numbered_blocks (k + size (block_of b).body) (map block_of rest))
    ∙ ap (λ (c : design.Block). map block_of before ++ c ∷ numbered_blocks (k + size (block_of b).body) (map block_of rest)) given
    ∙ ap (λ (l : List code_block.Block). map block_of before ++ numbered_blocks k (map block_of l)) (sym is)
    ∙ so_far

pub size_turn : (left rest : List code_block.Block) (b : code_block.Block) (k next all : ℕ) → left ≡ b ∷ rest → next ≡ k + size (block_of b).body
    → k + blocks_size (map block_of left) ≡ all → next + blocks_size (map block_of rest) ≡ all
size_turn left rest b k next all is following so_far =
    let split : blocks_size (map block_of left) ≡ size (block_of b).body + blocks_size (map block_of rest) = ap (λ (l : List code_block.Block). blocks_size (map block_of l)) is in
    omega (arith, so_far, following, split)

-- one more child
pub child_turn : (keys : List Key) (before after : List code_child.Child) (left rest : List met_child.Child) (all : List design.Child) (c : met_child.Child) (now : code_child.Child)
    → left ≡ c ∷ rest → after ≡ before ++ now ∷ [] → child_of now ≡ key_child keys (met.child_of c)
    → map child_of before ++ map (key_child keys) (map met.child_of left) ≡ all → map child_of after ++ map (key_child keys) (map met.child_of rest) ≡ all
child_turn keys before after left rest all c now is grown given so_far =
    ap (λ (l : List code_child.Child). map child_of l ++ map (key_child keys) (map met.child_of rest)) grown
    ∙ ap (λ (l : List design.Child). l ++ map (key_child keys) (map met.child_of rest)) (map-append child_of before (now ∷ []))
    ∙ append_assoc (map child_of before) (child_of now ∷ []) (map (key_child keys) (map met.child_of rest))
    ∙ ap (λ (d : design.Child). map child_of before ++ d ∷ map (key_child keys) (map met.child_of rest)) given
    ∙ ap (λ (l : List met_child.Child). map child_of before ++ map (key_child keys) (map met.child_of l)) (sym is)
    ∙ so_far

-- ---- variants

child_as : (variants : List Instance) (children : List Child) → map (key_child (map key_of variants)) children ≡ map (child_in variants) children
child_as variants [] = refl
child_as variants (c ∷ children) =
    ap₂ (λ n (l : List design.Child). record { line = c.line; name = c.name; variant = n; conns = c.conns } ∷ l) (number_as c.place c.params variants) (child_as variants children)

-- a variant by its keys is the variant
variant_as : (modules : List Module) (variants : List Instance) (slot : ℕ) (i : Instance) → key_variant (map key_of variants) (name_at i.place modules) slot i ≡ variant_from modules variants slot i
variant_as modules variants slot i = ap (λ (l : List design.Child). record {
  «module» = name_at i.place modules;
  params = i.params;
  signals = i.content.signals;
  children = l;
  blocks = numbered_blocks slot i.content.blocks;
}) (child_as variants i.content.children)

-- what is met when so many were met
met_here : (variants : List Instance) (k : ℕ) (left rest : List code_instance.Instance) (x : code_instance.Instance) (w : Instance) → drop k variants ≡ map instance_of left → left ≡ x ∷ rest
    → (k < length variants) × ((get_or variants k w ≡ instance_of x) × (drop (k + 1) variants ≡ map instance_of rest))
met_here variants k left rest x w dropped is =
    let front : drop k variants ≡ instance_of x ∷ map instance_of rest = dropped ∙ ap (map instance_of) is in
    let some : length (drop k variants) ≡ length (map instance_of rest) + 1 = ap length front ∙ omega arith in
    let below : k < length variants = omega (arith, some, length-drop k variants) in
    let both : get_or variants k w ∷ drop (k + 1) variants ≡ instance_of x ∷ map instance_of rest = sym (drop_more variants k w below) ∙ front in
    (below, (ap (first_or w) both, ap (drop 1) both))

-- the slot of the variant that is met, and that its statements fit
pub slot_here : (variants : List Instance) (slots : List ℕ) (k count : ℕ) (left rest : List code_instance.Instance) (x : code_instance.Instance) → drop k variants ≡ map instance_of left → left ≡ x ∷ rest
    → count ≡ length variants → AreSlots variants count slots → get_or slots k 0 ≡ first_slot variants (k, instance_of x)
slot_here variants slots k count left rest x dropped is all are =
    let here = met_here variants k left rest x (instance_of x) dropped is in
    are.each k (instance_of x) (omega (arith, here.0, all)) ∙ ap (λ (v : Instance). first_slot variants (k, v)) here.1.0

pub fits_here : (variants : List Instance) (k slot : ℕ) (left rest : List code_instance.Instance) (x : code_instance.Instance) → drop k variants ≡ map instance_of left → left ≡ x ∷ rest
    → slot ≡ first_slot variants (k, instance_of x) → all_statements variants < 4294967296 → slot + blocks_size (instance_of x).content.blocks < 4294967296
fits_here variants k slot left rest x dropped is at few =
    let here = met_here variants k left rest x (instance_of x) dropped is in
    let within = slot_within variants k (instance_of x) here.0 in
    let same : first_slot variants (k, get_or variants k (instance_of x)) + blocks_size (get_or variants k (instance_of x)).content.blocks ≡ first_slot variants (k, instance_of x) + blocks_size (instance_of x).content.blocks =
    ap (λ (v : Instance). first_slot variants (k, v) + blocks_size v.content.blocks) here.1.0 in
    omega (arith, within, same, at, few)

-- one more variant
pub variant_turn : (modules : List Module) (variants : List Instance) (keys : List Key) (before after : List code_variant.Variant) (left rest : List code_instance.Instance) (all : List design.Variant)
    (x : code_instance.Instance) (now : code_variant.Variant) (name : Name) (k slot : ℕ)
    → left ≡ x ∷ rest → after ≡ before ++ now ∷ [] → keys ≡ map key_of variants → name ≡ name_at (instance_of x).place modules → slot ≡ first_slot variants (k, instance_of x)
    → variant_of now ≡ key_variant keys name slot (instance_of x)
    → map variant_of before ++ map (numbered_variant modules variants) (enumerate_from k (map instance_of left)) ≡ all
    → map variant_of after ++ map (numbered_variant modules variants) (enumerate_from (k + 1) (map instance_of rest)) ≡ all
variant_turn modules variants keys before after left rest all x now name k slot is grown keyed named at given so_far =
    let made : variant_of now ≡ numbered_variant modules variants (k, instance_of x) =
    given ∙ (λ i. key_variant (keyed i) (named i) (at i) (instance_of x)) ∙ variant_as modules variants (first_slot variants (k, instance_of x)) (instance_of x) in
    let later = map (numbered_variant modules variants) (enumerate_from (k + 1) (map instance_of rest)) in
    ap (λ (l : List code_variant.Variant). map variant_of l ++ later) grown
    ∙ ap (λ (l : List design.Variant). l ++ later) (map-append variant_of before (now ∷ []))
    ∙ append_assoc (map variant_of before) (variant_of now ∷ []) later
    ∙ ap (λ (v : design.Variant). map variant_of before ++ v ∷ later) made
    ∙ ap (λ (l : List code_instance.Instance). map variant_of before ++ map (numbered_variant modules variants) (enumerate_from k (map instance_of l))) (sym is)
    ∙ so_far

pub ruleset turns = (size_turn)

pub rest_turn : (variants : List Instance) (k : ℕ) (left rest : List code_instance.Instance) (x : code_instance.Instance) → drop k variants ≡ map instance_of left → left ≡ x ∷ rest → drop (k + 1) variants ≡ map instance_of rest
rest_turn variants k left rest x dropped is = (met_here variants k left rest x (instance_of x) dropped is).1.1
