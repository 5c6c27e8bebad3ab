use Rattle.std.proofs.Common.{◌≡◌, ℕ, Bool, List, Option, Some, Decides, IsTrue, option_map, sym, ap, ◌∙◌}
use Rattle.std.specs.List.{slice_get}
use Rattle.std.proofs.lemmas.Option.{slice_get-map}
use Rattle.std.proofs.lemmas.Slice.Eq.{slice_eq-Decides}
use Rattle.std.proofs.lemmas.Bool.Decides.{Decides-eqb}
use Rattle.symtab.specs.Shape.{paths_of}
use Rattle.symtab.proofs.shape.is_top.Goals as goal

-- a test of what was found is a test of the find
tested : (found : Option (List ℕ)) (path top : List ℕ) (same : Bool) → found ≡ Some path → Decides same (path ≡ top) → (IsTrue same → found ≡ Some top) × (found ≡ Some top → IsTrue same)
tested found path top same there decides =
    (λ yes. there ∙ ap (λ (text : List ℕ). Some text) (decides.0 yes), λ is. let equal : path ≡ top = cc in decides.1 equal)

pub returns-in-Some : goal.returns-in-Some
returns-in-Some c =
    let first = c.in-Some.first.now in
    let there : slice_get (paths_of c.args.instances.now) 0 ≡ Some first.path =
    slice_get-map (λ instance. instance.path) c.args.instances.now 0 ∙ ap (option_map (λ instance. instance.path)) (sym c.in-Some.ensures.value) in
    tested (slice_get (paths_of c.args.instances.now) 0) first.path c.args.top.now c.eq.result there (slice_eq-Decides Decides-eqb first.path c.args.top.now c.eq.result (cc))
