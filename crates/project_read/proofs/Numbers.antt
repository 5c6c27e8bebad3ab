-- Imports that are numbered in a loop: the first that is refused is what the whole list is refused for.
use Rattle.std.proofs.Common.{◌≡◌, ℕ, ◌+◌, ◌<◌, List, [], ◌∷◌, Result, Err, length, map, drop, get_or, sym, ap, subst, ◌∙◌}
use Rattle.std.proofs.lemmas.List.{drop_more}
use Rattle.gen_tree.specs.View.{import_of}
use Rattle.gen_tree.specs.declared.source.Import as code_import
use Rattle.project_read.specs.Names.{numbered}
use Rattle.project_read.specs.Steps.{TellsNumbers}
use Rattle.project_read.specs.declared.end.ProjectEnd.{ProjectEnd}
use Rattle.project_read.specs.declared.end.ProjectEnd.TheVariants as ends
use Rattle.project_read.proofs.Numbering.{one_refused}

pub number_refused : (A : Type 0) {B : Type 0} (folder : List ℕ) (first names more : List (List ℕ)) (imports : List code_import.Import) (k : ℕ) (i : code_import.Import) (e : ProjectEnd) (r : Result B ProjectEnd) → r ≡ Err e
    → k < length imports → i ≡ get_or imports k i → numbered folder first (map import_of imports) ≡ numbered folder names (map import_of (drop k imports))
    → TellsNumbers {A = A} (numbered folder names (import_of i ∷ [])) (Err e) more → TellsNumbers (numbered folder first (map import_of imports)) r more
number_refused A {B} folder first names more imports k i e r q l at same h = subst (λ (x : Result B ProjectEnd). TellsNumbers (numbered folder first (map import_of imports)) x more) (sym q) (by e h)
  where
    here : map import_of (drop k imports) ≡ import_of i ∷ map import_of (drop (k + 1) imports)
    here = ap (map import_of) (drop_more imports k i l ∙ ap (λ (j : code_import.Import). j ∷ drop (k + 1) imports) (sym at))

    by : (e : ProjectEnd) → TellsNumbers {A = A} (numbered folder names (import_of i ∷ [])) (Err e) more → TellsNumbers {A = B} (numbered folder first (map import_of imports)) (Err e) more
    by (ends.TooManyFiles line name limit) h =
        (same ∙ ap (numbered folder names) here ∙ one_refused folder names (import_of i) (record { line = line; name = name }) (map import_of (drop (k + 1) imports)) h.0, h.1)
    by (ends.Text file fault) h = absurd h
    by ends.ReadFault h = absurd h
    by ends.NoMemory h = tt
