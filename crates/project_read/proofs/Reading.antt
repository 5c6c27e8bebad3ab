-- Files that are read one after the other.
use Rattle.std.proofs.Common.{◌≡◌, ℕ, suc, ◌+◌, ◌≤◌, List, [], ◌∷◌, ◌++◌, Option, Some, None, Ok, length, add-zero, IfSome, refl, sym, ap, ◌∙◌, subst, arith}
use Rattle.gen_tree.specs.Tree.{Source}
use Rattle.gen_text.specs.Source.{Reads}
use Rattle.elab_laws.specs.Laws.{AreReadFrom}
use Rattle.list_core.specs.Lists.{EachOf}
use Rattle.list_core.proofs.Lists.{each_append}
use Rattle.project_read.specs.Names.{folder_of, numbered}
use Rattle.project_read.specs.Projects.{Contents, IsSourceOf, AreReadOn, AreRead}
use Rattle.project_read.specs.Asking.{IsImported, AreNames}
use Rattle.project_read.proofs.Imported.{imports_named}
use Rattle.project_read.proofs.Numbering.{grown}

-- one more file is read behind others
pub read_more : (files : Contents) (folder : List ℕ) (first : List (List ℕ)) (file : ℕ) (sources : List Source) (names : List (List ℕ)) (s : Source) (more : List (List ℕ))
    → AreReadOn files folder first file sources names → IsSourceOf files names (file + length sources) s → numbered folder names s.imports ≡ Ok more
    → AreReadOn files folder first file (sources ++ s ∷ []) more
read_more files folder first file [] names s more r h n =
    (subst (λ (k : ℕ). IsSourceOf files first k s) (add-zero file) (subst (λ (l : List (List ℕ)). IsSourceOf files l (file + 0) s) (sym r) h), more, subst (λ (l : List (List ℕ)). numbered folder l s.imports ≡ Ok more) (sym r) n, refl)
read_more files folder first file (t ∷ sources) names s more r h n =
    (r.0, r.1, r.2, read_more files folder r.1 (file + 1) sources names s more r.3 (subst (λ (k : ℕ). IsSourceOf files names k s) (further file (length sources)) h) n)
  where
    further : (n k : ℕ) → n + suc k ≡ n + 1 + k
    further n k = omega arith

-- one more source was read from a text
pub from_text : (file : ℕ) (sources : List Source) (s : Source) → AreReadFrom file sources → (text : List ℕ) × Reads (file + length sources) text s → AreReadFrom file (sources ++ s ∷ [])
from_text file [] s r h = (subst (λ (k : ℕ). (text : List ℕ) × Reads k text s) (add-zero file) h, tt)
from_text file (t ∷ sources) s r h = (r.0, from_text (file + 1) sources s r.1 (subst (λ (k : ℕ). (text : List ℕ) × Reads k text s) (further file (length sources)) h))
  where
    further : (n k : ℕ) → n + suc k ≡ n + 1 + k
    further n k = omega arith

-- ---- what stands while files are read

-- these are the names that are numbered, and these sources were read from texts; where the files are told, from theirs
pub record Stands (told : Option Contents) (src : List ℕ) (sources : List Source) (names : List (List ℕ)) : Type 0 where
  pub others : List (List ℕ)
  pub split : names ≡ src ∷ others
  pub each : EachOf (IsImported (folder_of src)) others
  pub few : length names ≤ 64
  pub texts : AreReadFrom 0 sources
  pub read : IfSome told (λ files. AreRead files src sources names)

pub stands_first : (told : Option Contents) (src : List ℕ) → Stands told src [] (src ∷ [])
stands_first None src = record { others = []; split = refl; each = tt; few = omega arith; texts = tt; read = tt }
stands_first (Some files) src = record { others = []; split = refl; each = tt; few = omega arith; texts = tt; read = refl }

-- the names are those of the files
pub are_names : (told : Option Contents) (src : List ℕ) (sources : List Source) (names : List (List ℕ)) → Stands told src sources names → AreNames told src names
are_names None src sources names s = record { imported = s.others; split = s.split; each = s.each; few = s.few; numbered = tt }
are_names (Some files) src sources names s = record { imported = s.others; split = s.split; each = s.each; few = s.few; numbered = record { sources = sources; read = s.read } }

at_first : (n : ℕ) → n ≡ 0 + n
at_first n = omega arith

-- one more file
pub stands_more : (told : Option Contents) (src : List ℕ) (sources : List Source) (names : List (List ℕ)) (s : Source) (more : List (List ℕ)) → Stands told src sources names
    → (text : List ℕ) × Reads (length sources) text s → numbered (folder_of src) names s.imports ≡ Ok more → IfSome told (λ files. IsSourceOf files names (length sources) s)
    → Stands told src (sources ++ s ∷ []) more
stands_more told src sources names s more h text n is =
    let g = grown (folder_of src) names s.imports more (imports_named (length sources) text.0 s text.1) n in
    record {
      others = h.others ++ g.others;
      split = g.split ∙ ap (λ (l : List (List ℕ)). l ++ g.others) h.split;
      each = each_append (IsImported (folder_of src)) h.others g.others h.each g.each;
      few = g.few h.few;
      texts = from_text 0 sources s h.texts (subst (λ (k : ℕ). (text : List ℕ) × Reads k text s) (at_first (length sources)) text);
      read = by told h.read is;
    }
  where
    by : (told : Option Contents) → IfSome told (λ files. AreRead files src sources names) → IfSome told (λ files. IsSourceOf files names (length sources) s) → IfSome told (λ files. AreRead files src (sources ++ s ∷ []) more)
    by None r is = tt
    by (Some files) r is = read_more files (folder_of src) (src ∷ []) 0 sources names s more r (subst (λ (k : ℕ). IsSourceOf files names k s) (at_first (length sources)) is) n
