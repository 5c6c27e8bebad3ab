-- What the walk and its end give is the elaborated design.
use Rattle.std.proofs.Common.{◌≡◌, ◌≤◌, true, false, Bool, List, Result, Ok, Err, if◌then◌else◌, nat_lt, refl, sym, ap, ◌∙◌, subst, arith}
use Rattle.gen_tree.specs.Tree.{Module, Source, all_modules}
use Rattle.exec_core.specs.Block.{Name}
use Rattle.design_core.specs.Design.{Gens, AreInRange, Design}
use Rattle.elab_core.specs.declared.Count.TheVariants.{Cells}
use Rattle.elab_core.specs.Walk.{Fault, too_large, Seen, none_seen, judge}
use Rattle.elab_core.specs.Elaborated.{Instance}
use Rattle.elab_core.specs.Elab.{top_walk}
use Rattle.elab_core.specs.Design.{cells, designed, unless_large, design_from, elaborated, elaborated_files}
use Rattle.elab_walk.specs.Walked.{uncounted}
use Rattle.gen_elab.specs.Finished.{finished}
use Rattle.design_core.specs.WellFormed.{IsDesign}
use Rattle.elab_laws.proofs.Preorder.{walked}
use Rattle.std.proofs.Math.Logic.{∥∥₁_elim}
use Rattle.design_core.specs.Single.{design_prop}
use Rattle.elab_laws.specs.Laws.{AreReadFromTexts}
use Rattle.elab_laws.proofs.Spelled.{files_named}
use Rattle.elab_laws.proofs.Kept.{is_design}
use Rattle.elab_laws.proofs.ItemCounts.{Small, walk_small}

-- what was judged, without its counts
abbrev Counted : Type 0
Counted = Result (List Instance × Seen) Fault

abbrev OfCounts : List Instance → Counted → Type 0
OfCounts list r = (seen : Seen) × (r ≡ Ok (list, seen))

ok_equal : (list : List Instance) (r : Counted) → uncounted r ≡ Ok list → OfCounts list r
ok_equal list (Ok p) e = (p.1, ap (λ (o : Result (List Instance) Fault). Ok (or_list o, p.1)) e)
  where
    or_list : Result (List Instance) Fault → List Instance
    or_list (Ok l) = l
    or_list (Err fault) = list
ok_equal list (Err fault) e = absurd (let P : Result (List Instance) Fault → Type 0 = λ o. elim o [ Ok l ↦ ⊥ | Err f ↦ Unit {0} ] in subst P e tt)

-- what the walk gives is small
pub small_walk : (modules : List Module) (top : Name) (given : Gens) (list : List Instance) → uncounted (judge none_seen (top_walk modules top given)) ≡ Ok list → Small modules list
small_walk modules top given list e = let found = ok_equal list (judge none_seen (top_walk modules top given)) e in walk_small modules top given list found.0 found.1

-- and makes a design that is well formed
pub kept_walk : (sources : List Source) (modules : List Module) (top : Name) (given : Gens) (list : List Instance) → modules ≡ all_modules sources → AreReadFromTexts sources → AreInRange given
    → uncounted (judge none_seen (top_walk modules top given)) ≡ Ok list → cells list ≤ 4000000 → IsDesign (designed modules top list)
kept_walk sources modules top given list same read fine e fit =
    let found = ok_equal list (judge none_seen (top_walk modules top given)) e in
    ∥∥₁_elim read.0 (design_prop (designed modules top list)) (λ r.
    is_design modules top list (walked modules top given list found.0 fine found.1) (walk_small modules top given list found.0 found.1) fit
    (rw same (files_named 0 sources (omega (arith, read.1)) r)))

ended : (modules : List Module) (top : Name) (r : Counted) (list : List Instance) → uncounted r ≡ Ok list → design_from modules top (unless_large r) ≡ finished modules top list
unfolding finished
ended modules top r list e =
    let found = ok_equal list r e in
    ap (λ q. design_from modules top (unless_large q)) found.1 ∙ by_test (nat_lt 4000000 (cells list))
  where
    by_test : (b : Bool) → design_from modules top (if b then Err (too_large 0 Cells) else Ok list) ≡ (if b then Err (too_large 0 Cells) else Ok (designed modules top list))
    by_test true = refl
    by_test false = refl

-- the end of the walk is the end of the elaboration
pub at_the_end : (modules : List Module) (top : Name) (given so : Gens) (list : List Instance) → so ≡ given → uncounted (judge none_seen (top_walk modules top so)) ≡ Ok list → elaborated modules top given ≡ finished modules top list
at_the_end modules top given so list same e =
    ap (elaborated modules top) (sym same) ∙ ended modules top (judge none_seen (top_walk modules top so)) list e

-- the end of the walk over modules that are lent is the end of the elaboration of files
pub then_files : (sources : List Source) (modules : List Module) (top : Name) (given so : Gens) (list : List Instance) → modules ≡ all_modules sources → so ≡ given → uncounted (judge none_seen (top_walk modules top so)) ≡ Ok list
    → elaborated_files sources top given ≡ finished modules top list
then_files sources modules top given so list lent same e =
    ap (λ (ms : List Module). elaborated ms top given) (sym lent) ∙ at_the_end modules top given so list same e

pub then_design : (modules : List Module) (top : Name) (given : Gens) (list : List Instance) (result : Result Design Fault) → uncounted (judge none_seen (top_walk modules top given)) ≡ Ok list
    → finished modules top list ≡ result → elaborated modules top given ≡ result
then_design modules top given list result e f = ended modules top (judge none_seen (top_walk modules top given)) list e ∙ f

refused : (modules : List Module) (top : Name) (r : Counted) (fault : Fault) → uncounted r ≡ Err fault → design_from modules top (unless_large r) ≡ Err fault
refused modules top (Ok p) fault e = absurd (let P : Result (List Instance) Fault → Type 0 = λ o. elim o [ Ok l ↦ Unit {0} | Err f ↦ ⊥ ] in subst P e tt)
refused modules top (Err f) fault e = ap (λ (o : Result (List Instance) Fault). as_design o) e
  where
    as_design : Result (List Instance) Fault → Result Design Fault
    as_design (Ok l) = Err f
    as_design (Err g) = Err g

-- a fault of the walk is the fault
pub walk_fault : (modules : List Module) (top : Name) (given : Gens) (fault : Fault) → uncounted (judge none_seen (top_walk modules top given)) ≡ Err fault → elaborated modules top given ≡ Err fault
walk_fault modules top given fault e = refused modules top (judge none_seen (top_walk modules top given)) fault e

-- and a fault of it is the fault
pub files_fault : (sources : List Source) (modules : List Module) (top : Name) (given : Gens) (fault : Fault) → modules ≡ all_modules sources → uncounted (judge none_seen (top_walk modules top given)) ≡ Err fault
    → elaborated_files sources top given ≡ Err fault
files_fault sources modules top given fault lent e = ap (λ (ms : List Module). elaborated ms top given) (sym lent) ∙ walk_fault modules top given fault e

pub ruleset elaborate_steps = (then_design, walk_fault, files_fault)
