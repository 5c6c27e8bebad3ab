-- Numbers that are inside their lists.
use Rattle.std.proofs.Common.{◌≡◌, ℕ, zero, suc, ◌<◌, Bool, true, false, cond, List, [], ◌∷◌, length, Option, Some, None, option_map, refl, sym, ap, ◌∙◌, arith, nat_le, leb-false}
use Rattle.std.specs.List.{AllByRecursion}
use Rattle.std.specs.Prelude.{slice_get}
use Rattle.std.specs.Option.{option_map_or, option_or}
use Rattle.bv_core.specs.declared.Ref.{Ref}
use Rattle.bv_core.specs.declared.Ref.TheVariants.{Node, Const}
use Rattle.bv_core.specs.declared.Binding.{Binding}
use Rattle.bv_core.specs.declared.Binding.TheVariants.{Value, Unset, Removed}
use Rattle.symtab.specs.Shape.{IsFound, IsCell}
use Rattle.symtab.specs.declared.parts.NodeName.{NodeName}
use Rattle.symtab_json.specs.declared.entries.Outside.{Outside}
use Rattle.symtab_json.specs.Entries.{told_width_at}
use Rattle.symtab_json.specs.Judged.{outside_list, first_outside, ref_outside, cell_outside}
use Rattle.symtab_json.proofs.Rules.{RefRead, CellRead}

pub or_none : {A : Type 0} (a b : Option A) → option_or a b ≡ None → (a ≡ None) × (b ≡ None)
or_none None b e = (refl, e)
or_none (Some x) b e = absurd (cc)

-- no entry has one outside
pub none_outside : {A : Type 0} (outside : A → Option Outside) (xs : List A) → first_outside outside xs ≡ None → AllByRecursion (λ x. outside x ≡ None) xs
none_outside outside [] e = tt
none_outside outside (x ∷ xs) e = let both = or_none (outside x) (first_outside outside xs) e in (both.0, none_outside outside xs both.1)

inside_at : (b : Bool) (size id : ℕ) (o : Outside) → nat_le size id ≡ b → cond b (Some o) None ≡ None → id < size
inside_at true size id o is e = absurd (cc)
inside_at false size id o is e = leb-false size id is

pub inside_list : (size id : ℕ) → outside_list size id ≡ None → id < size
inside_list size id e = inside_at (nat_le size id) size id _ refl e

get_inside : {A : Type 0} (xs : List A) (i : ℕ) → i < length xs → (x : A) × (slice_get xs i ≡ Some x)
get_inside [] i h = absurd (omega arith)
get_inside (x ∷ xs) zero h = (x, refl)
get_inside (x ∷ xs) (suc i) h = get_inside xs i (omega arith)

width_found : (nodes : List NodeName) (id width : ℕ) (node : NodeName) → slice_get nodes id ≡ Some node → width ≡ told_width_at nodes id → option_map (λ (n : NodeName). n.width) (slice_get nodes id) ≡ Some width
width_found nodes id width node found is =
    ap (option_map (λ (n : NodeName). n.width)) found ∙ ap Some (sym (is ∙ ap (λ o. option_map_or (λ (n : NodeName). n.width) o 1) found))

pub ref_found : (nodes : List NodeName) (at : Ref) → RefRead nodes at → ref_outside (length nodes) at ≡ None → IsFound nodes at
ref_found nodes (Node id width) told inside =
    let found = get_inside nodes id.0 (inside_list (length nodes) id.0 inside) in
    width_found nodes id.0 width found.0 found.1 told
ref_found nodes (Const bits) told inside = tt

pub cell_found : (nodes : List NodeName) (cell : Binding) → CellRead nodes cell → cell_outside (length nodes) cell ≡ None → IsCell nodes cell
cell_found nodes (Value at) told inside = ref_found nodes at told inside
cell_found nodes Unset told inside = tt
cell_found nodes Removed told inside = tt
