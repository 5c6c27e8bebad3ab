-- The grammar, computed on the sample.
use Rattle.std.proofs.Common.{[], ◌∷◌, ◌++◌, refl}
use Rattle.gen_token.specs.declared.Mark.TheVariants as mark
use Rattle.gen_token.specs.Words.{Sign}
use Rattle.gen_text.specs.Laws.{sample_head, sample_tail, sample_module, is_sample_source, is_sample_fault, is_sample_import, is_late_import, is_lone_import, sample_source, sample_imports}
use Rattle.gen_text.specs.Reading.{modules_by, module_at, import_at, item_at, stmt_at, arms_at, expr_at, int_at, each_by, until_by}
use Rattle.gen_text.proofs.Law.{read_found, read_fault}

pub source : is_sample_source
unfolding modules_by module_at import_at item_at stmt_at arms_at expr_at int_at each_by until_by
source = (read_found 64 (sample_head ++ sample_tail) sample_source refl).0

pub fault : is_sample_fault
unfolding modules_by module_at import_at item_at stmt_at arms_at expr_at int_at each_by until_by
fault = read_fault 64 (sample_head ++ record { line = 2; word = Sign mark.RightParen } ∷ sample_tail) 5 refl

pub imported : is_sample_import
unfolding modules_by module_at import_at item_at stmt_at arms_at expr_at int_at each_by until_by
imported = (read_found 64 (sample_imports ++ sample_head ++ sample_tail) (record { imports = record { line = 1; name = 120 ∷ [] } ∷ []; modules = sample_module ∷ [] }) refl).0

pub late : is_late_import
unfolding modules_by module_at import_at item_at stmt_at arms_at expr_at int_at each_by until_by
late = read_fault 64 ((sample_head ++ sample_tail) ++ sample_imports) 3 refl

pub lone : is_lone_import
unfolding modules_by module_at import_at each_by
lone = read_fault 64 sample_imports 0 refl
