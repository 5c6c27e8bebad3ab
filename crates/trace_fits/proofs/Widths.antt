-- The nodes of a table, one after another.
use Rattle.std.proofs.Common.{◌≡◌, ℕ, ◌+◌, ◌<◌, ◌≤◌, Bool, true, false, List, length, map, get_or, Some, nat_lt, option_map, refl, sym, ap, ◌∙◌, subst, arith}
use Rattle.std.specs.Prelude.{slice_get}
use Rattle.std.proofs.lemmas.Bool.{ltb-true, ltb-false}
use Rattle.std.proofs.lemmas.List.{length-map}
use Rattle.std.proofs.lemmas.Option.{slice_get-map, slice_get_within, slice_get_read, same_Some}
use Rattle.bv_core.specs.declared.reference.Sample.{Sample}
use Rattle.symtab.specs.declared.parts.NodeName.{NodeName}
use Rattle.trace_core.specs.Samples.{HasWidth}
use Rattle.trace_fits.specs.Cycle.{HasWidths}

abbrev widths : List NodeName → List ℕ
widths nodes = map (λ (n : NodeName). n.width) nodes

-- the first so many nodes have samples of their widths
abbrev pub HaveWidths : List NodeName → (ℕ → Sample) → ℕ → Type 0
HaveWidths nodes samples count = (node w : ℕ) → node < count → slice_get (widths nodes) node ≡ Some w → HasWidth w (samples node)

width_at : (nodes : List NodeName) (n : ℕ) (x : NodeName) → n < length nodes → x ≡ get_or nodes n x → slice_get (widths nodes) n ≡ Some x.width
width_at nodes n x below at = slice_get-map (λ (m : NodeName). m.width) nodes n ∙ ap (option_map (λ (m : NodeName). m.width)) (slice_get_read nodes (length nodes) n x refl below at)

-- one more
pub one_more : (nodes : List NodeName) (samples : ℕ → Sample) (n : ℕ) (x : NodeName) → n < length nodes → x ≡ get_or nodes n x → HasWidth x.width (samples n) → HaveWidths nodes samples n → HaveWidths nodes samples (n + 1)
one_more nodes samples n x below at here before node w under told = by_order (nat_lt node n) refl
  where
    by_order : (b : Bool) → nat_lt node n ≡ b → HasWidth w (samples node)
    by_order true e = before node w (ltb-true node n e) told
    by_order false e =
        let past : n ≤ node = ltb-false node n e in
        let same : n ≡ node = omega (arith, past, under) in
        let width : x.width ≡ w = same_Some x.width w (sym (width_at nodes n x below at) ∙ ap (slice_get (widths nodes)) same ∙ told) in
        subst (λ v. HasWidth v (samples node)) width (subst (λ m. HasWidth x.width (samples m)) same here)

-- all of them
pub all_nodes : (nodes : List NodeName) (samples : ℕ → Sample) (n : ℕ) → length nodes ≤ n → HaveWidths nodes samples n → HasWidths nodes samples
all_nodes nodes samples n past have node w told =
    let within = slice_get_within (widths nodes) node w told in
    have node w (let size = length-map nodes (λ (m : NodeName). m.width) in let r : node < n = omega (arith, past, size, within) in r) told

-- one that has another width
pub one_differs : (nodes : List NodeName) (samples : ℕ → Sample) (n : ℕ) (x : NodeName) → n < length nodes → x ≡ get_or nodes n x → (HasWidth x.width (samples n) → ⊥) → HasWidths nodes samples → ⊥
one_differs nodes samples n x below at other have = other (have n x.width (width_at nodes n x below at))
