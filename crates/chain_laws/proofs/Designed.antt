-- The design that the chain is elaborated to, for each number of cells.
use Rattle.std.proofs.Common.{◌≡◌, ℕ, zero, suc, ◌+◌, ◌*◌, ◌≤◌, true, false, List, [], ◌∷◌, ◌++◌, length, map, Ok, refl, ap, ◌∙◌, arith, append-nil}
use Rattle.std.proofs.lemmas.Bool.Decides.{nat_tests, Decides-int_eq}
use Rattle.std.specs.Prelude.{pos, codes, nat_lt}
use Rattle.std.specs.List.{enumerate_from}
use Rattle.std.specs.Ordering.{int_eq}
use Rattle.design_core.specs.declared.Signal.{Signal}
use Rattle.design_core.specs.declared.Instance as design_instance
use Rattle.design_core.specs.Design as design
use Rattle.design_core.specs.Design.{Design}
use Rattle.elab_core.specs.declared.fault.Count.TheVariants.{Turns, Cells}
use Rattle.elab_core.specs.Walk.{Seen, none_seen, one_more, limit}
use Rattle.elab_core.specs.Elaborated.{Instance}
use Rattle.elab_core.specs.Elab.{top_walk}
use Rattle.elab_core.specs.Design.{firsts, variants_of, cells, unless_large, numbered_variant, instance_in, designed, design_from, elaborated, child_in}
use Rattle.chain_laws.proofs.Tree.{chain_modules}
use Rattle.chain_laws.proofs.Walks.{AreUnderLimits, judged_so}
use Rattle.chain_laws.proofs.Spans.{length_span, map_span}
use Rattle.chain_laws.proofs.Cells.{span, cell_child, cell_output, cell_instance, top_gens, top_instance, chain_instances, design_child, top_variant, cell_variant, design_top, chain_design}
use Rattle.chain_laws.proofs.Elaborated.{cell_seen, turns_seen, items_seen, top_seen, walk_ends}

-- ---- the counts

record Grows (c : ℕ) (seen after : Seen) : Type 0 where
  instances : after.instances ≡ seen.instances + c
  turns : after.turns ≡ seen.turns + c
  statements : after.statements ≡ seen.statements + 4 * c
  signals : after.signals ≡ seen.signals + 4 * c
  parts : after.parts ≡ seen.parts + 8 * c

turns_add : (c : ℕ) (seen : Seen) → Grows c seen (turns_seen c seen)
turns_add zero seen = omega arith
turns_add (suc c) seen = let h = turns_add c (cell_seen (one_more Turns seen)) in omega (arith, h)

counts_under : (k : ℕ) → k ≤ 4000 → AreUnderLimits (items_seen k top_seen)
counts_under k h = let a = turns_add k (cell_seen top_seen) in omega (arith, a)

-- ---- the cells

cells_span : (j n : ℕ) → cells (span cell_instance j n) ≡ 12 * n
cells_span j zero = refl
cells_span j (suc n) = let h = cells_span (suc j) n in omega (arith, h)

names_length : (n : ℕ) → length (map (λ (s : Signal). s.name) (span cell_output 0 n) ++ []) ≡ n
names_length n = rw (append-nil, map_span) (length_span (λ i. (cell_output i).name) 0 n)

few_cells : (k : ℕ) → k ≤ 4000 → nat_lt (limit Cells) (cells (chain_instances k)) ≡ false
few_cells k h =
    let names = names_length (suc k) in
    let rest = cells_span 0 (suc k) in
    let le : cells (chain_instances k) ≤ 4000000 = omega (arith, names, rest) in
    grind (arith, nat_tests)

-- ---- the variants

abbrev first_two : ℕ → List Instance
first_two k = top_instance k ∷ cell_instance 0 ∷ []

no_other : (k j n : ℕ) → firsts (first_two k) (span cell_instance j n) ≡ first_two k
no_other k j zero = refl
no_other k j (suc n) = no_other k (suc j) n

variants_are : (k : ℕ) → variants_of (chain_instances k) ≡ first_two k
variants_are k = no_other k 1 k

-- ---- the design

abbrev designed_as : List Instance → List Instance → Design
designed_as variants instances = record {
  top = codes "Chain";
  variants = map (numbered_variant chain_modules variants) (enumerate_from 0 variants);
  instances = map (instance_in variants) instances;
}

abbrev design_with : ℕ → ℕ → List design.Child → List design_instance.Instance → Design
design_with k v children instances = record {
  top = codes "Chain";
  variants = record (top_variant k) { children = children } ∷ cell_variant ∷ [];
  instances = record design_top { variant = v } ∷ instances;
}

top_is_first : (k : ℕ) → instance_in (first_two k) (top_instance k) ≡ design_top
top_is_first k = let same : int_eq (pos (suc k)) (pos (suc k)) ≡ true = (Decides-int_eq (pos (suc k)) (pos (suc k))).1 refl in rw same refl

pub designed_so : (k : ℕ) → designed chain_modules (codes "Chain") (chain_instances k) ≡ chain_design k
designed_so k =
    ap (λ variants. designed_as variants (chain_instances k)) (variants_are k)
    ∙ ap (λ top. record { top = codes "Chain"; variants = map (numbered_variant chain_modules (first_two k)) (enumerate_from 0 (first_two k)); instances = top ∷ map (instance_in (first_two k)) (span cell_instance 0 (suc k)) }) (top_is_first k)
    ∙ ap (λ children. design_with k 0 children (map (instance_in (first_two k)) (span cell_instance 0 (suc k)))) (map_span (child_in (first_two k)) cell_child 0 (suc k))
    ∙ ap (design_with k 0 (span design_child 0 (suc k))) (map_span (instance_in (first_two k)) cell_instance 0 (suc k))

pub elaborated_so : (k : ℕ) → k ≤ 4000 → elaborated chain_modules (codes "Chain") (top_gens (suc k)) ≡ Ok (chain_design k)
elaborated_so k h =
    ap (λ r. design_from chain_modules (codes "Chain") (unless_large r)) (judged_so none_seen (items_seen k top_seen) (top_walk chain_modules (codes "Chain") (top_gens (suc k))) (chain_instances k) (walk_ends k h) (counts_under k h))
    ∙ rw (few_cells k h) (ap Ok (designed_so k))
