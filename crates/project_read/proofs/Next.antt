-- The next file: what it is, and that its imports are texts.
use Rattle.std.proofs.Common.{◌≡◌, ℕ, zero, suc, ◌<◌, ◌&&◌, Bool, true, false, List, [], ◌∷◌, Option, Some, None, Result, Ok, Err, IfSome, IsUtf8, All, length, map, get_or, String, string_bytes, Global, refl, sym, ap, subst, ◌∙◌, arith}
use Rattle.std.specs.List.{list_all}
use Rattle.std.specs.Str.{IsAscii}
use Rattle.std.proofs.lemmas.Bool.Decides.{nat_tests}
use Rattle.std.proofs.lemmas.List.{get_or-map, length-map}
use Rattle.std.proofs.lemmas.Option.{slice_get-get_or}
use Rattle.std.proofs.lemmas.Str.{IsUtf8-from_ascii}
use Rattle.list_core.specs.Lists.{EachOf}
use Rattle.gen_token.specs.Bytes.{is_name_byte}
use Rattle.gen_token.specs.Spelling.{IsName}
use Rattle.gen_token.proofs.Beginnings.{name_passes}
use Rattle.gen_tree.specs.Tree.{Import}
use Rattle.gen_tree.specs.View.{import_of, source_of}
use Rattle.gen_tree.specs.declared.source.Import as code_import
use Rattle.gen_tree.specs.declared.Source as code_source
use Rattle.gen_text.specs.Source.{Reads}
use Rattle.project_read.specs.Names.{names_in, numbered}
use Rattle.project_read.specs.Projects.{Contents, IsSourceOf}
use Rattle.project_read.specs.Steps.{TellsFile, TellsNext, TellsNumbers, name_at}
use Rattle.project_read.specs.declared.end.ProjectEnd.{ProjectEnd}
use Rattle.project_read.specs.declared.end.ProjectEnd.TheVariants as ends
use Rattle.project_read.proofs.Imported.{imports_named}

-- ---- names are texts

name_byte : (byte : ℕ) → is_name_byte byte ≡ true → byte < 128
name_byte byte e = grind (arith, nat_tests, e)

both : (a b : Bool) → (a && b) ≡ true → (a ≡ true) × (b ≡ true)
both true b e = (refl, e)
both false b e = absurd (cc)

ascii_from : (bytes : List ℕ) → list_all is_name_byte bytes ≡ true → IsAscii bytes
ascii_from [] h i = omega arith
ascii_from (byte ∷ bytes) h zero = name_byte byte (both (is_name_byte byte) (list_all is_name_byte bytes) h).0
ascii_from (byte ∷ bytes) h (suc i) = ascii_from bytes (both (is_name_byte byte) (list_all is_name_byte bytes) h).1 i

name_utf8 : (bytes : List ℕ) → IsName bytes → IsUtf8 bytes
name_utf8 bytes n = IsUtf8-from_ascii bytes (ascii_from bytes (name_passes bytes n.text))

each_utf8 : (imports : List code_import.Import) → EachOf (λ (i : Import). IsName i.name) (map import_of imports) → All (λ (i : code_import.Import). IsUtf8 i.name) imports
each_utf8 [] h k d l = absurd (omega (arith, l))
each_utf8 (i ∷ imports) h zero d l = name_utf8 i.name h.0
each_utf8 (i ∷ imports) h (suc k) d l = each_utf8 imports h.1 k d (omega (arith, l))

pub imports_utf8 : (file : ℕ) (s : code_source.Source) (imports : List code_import.Import) → imports ≡ s.imports.items → (text : List ℕ) × Reads file text (source_of s) → All (λ (i : code_import.Import). IsUtf8 i.name) imports
imports_utf8 file s imports e t = subst (All (λ (i : code_import.Import). IsUtf8 i.name)) (sym e) (each_utf8 s.imports.items (imports_named file t.0 (source_of s) t.1))

-- ---- what the next file is

-- the file of this name was read, and these are its imports
pub record IsRead (told : Option Contents) (names : List (List ℕ)) (file : ℕ) (s : code_source.Source) (imports : List code_import.Import) : Type 0 where
  pub name : List ℕ
  pub within : file < length names
  pub is : name ≡ name_at names file
  pub tells : IfSome told (λ files. TellsFile (files name) file (Ok s))
  pub imported : imports ≡ s.imports.items

-- it is the file at this place among the names of the code
pub is_read : (told : Option Contents) (items : List (String Global)) (file : ℕ) (s : code_source.Source) (imports : List code_import.Import) (at : String Global) (name : List ℕ) → file < length items
    → at ≡ get_or items file at → name ≡ string_bytes at → IfSome told (λ files. TellsFile (files name) file (Ok s)) → imports ≡ s.imports.items → IsRead told (names_in items) file s imports
is_read told items file s imports at name l a n t i =
    record {
      name = name;
      within = subst (λ (k : ℕ). file < k) (sym (length-map items (λ (x : String Global). string_bytes x))) l;
      is = n ∙ ap (λ (x : String Global). string_bytes x) a ∙ sym (get_or-map (λ (x : String Global). string_bytes x) items file at [] l);
      tells = t;
      imported = i;
    }

source_there : (files : Contents) (names : List (List ℕ)) (file : ℕ) (name : List ℕ) (s : code_source.Source) → file < length names → name ≡ name_at names file → TellsFile (files name) file (Ok s)
    → IsSourceOf files names file (source_of s)
source_there files names file name s l e t = record { text = t.0; has = record { name = name; at = slice_get-get_or names file [] l ∙ ap Some (sym e); found = t.1 }; reads = t.2 }

pub next_read : (told : Option Contents) (folder : List ℕ) (names more : List (List ℕ)) (file : ℕ) (s : code_source.Source) (imports : List code_import.Import) → IsRead told names file s imports
    → numbered folder names (map import_of imports) ≡ Ok more → IfSome told (λ files. TellsNext files folder names file (Ok s) more)
next_read told folder names more file s imports r h = by told r.tells
  where
    by : (told : Option Contents) → IfSome told (λ files. TellsFile (files r.name) file (Ok s)) → IfSome told (λ files. TellsNext files folder names file (Ok s) more)
    by None t = tt
    by (Some files) t =
        (source_there files names file r.name s r.within r.is t, subst (λ (l : List code_import.Import). numbered folder names (map import_of l) ≡ Ok more) r.imported h)

pub next_refused : (A : Type 0) (told : Option Contents) (folder : List ℕ) (names more : List (List ℕ)) (file : ℕ) (s : code_source.Source) (imports : List code_import.Import) (e : ProjectEnd) (r : Result code_source.Source ProjectEnd)
    → r ≡ Err e → IsRead told names file s imports → TellsNumbers {A = A} (numbered folder names (map import_of imports)) (Err e) more → IfSome told (λ files. TellsNext files folder names file r more)
next_refused A told folder names more file s imports e r q i h = subst (λ (x : Result code_source.Source ProjectEnd). IfSome told (λ files. TellsNext files folder names file x more)) (sym q) (by told e i.tells h)
  where
    by : (told : Option Contents) (e : ProjectEnd) → IfSome told (λ files. TellsFile (files i.name) file (Ok s)) → TellsNumbers {A = A} (numbered folder names (map import_of imports)) (Err e) more
        → IfSome told (λ files. TellsNext files folder names file (Err e) more)
    by None e t h = tt
    by (Some files) (ends.TooManyFiles line name limit) t h = (
      source_of s,
      source_there files names file i.name s i.within i.is t,
      subst (λ (l : List code_import.Import). numbered folder names (map import_of l) ≡ Err (record { line = line; name = name })) i.imported h.0,
    )
    by (Some files) (ends.Text at fault) t h = absurd h
    by (Some files) ends.ReadFault t h = absurd h
    by (Some files) ends.NoMemory t h = tt
