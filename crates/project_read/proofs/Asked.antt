-- What is told and asked for while files are read one after the other: the next one is read, or refused, behind those before.
use Rattle.std.proofs.Common.{◌≡◌, ℕ, ◌+◌, ◌<◌, ◌≤◌, List, [], ◌∷◌, ◌++◌, Option, Some, None, Result, Ok, Err, IfSome, IsErrOf, Vec, vec_len, String, string_bytes, Global, length, length-append, take, drop, refl, sym, ap, subst, ◌∙◌, arith}
use Rattle.std.proofs.lemmas.List.{drop_more, take_all, length-map, map-append, take-append-drop, take-append-le, take_more}
use Rattle.io_edge.specs.Taken.{Appends, AppendsFront}
use Rattle.io_edge.specs.Unread.{StopsAt}
use Rattle.io_edge.proofs.Growth.{front_after, grown_twice, no_growth}
use Rattle.io_edge.proofs.Stops.{stops_after}
use Rattle.gen_tree.specs.Tree.{Source}
use Rattle.gen_tree.specs.View.{source_of, sources_of}
use Rattle.gen_tree.specs.declared.Source as code_source
use Rattle.gen_text.specs.Source.{Reads}
use Rattle.project_read.specs.Names.{folder_of, names_in, numbered}
use Rattle.project_read.specs.Projects.{Contents, IsSourceOf, AreRead, IsRefusedAt, Text, TooManyFiles, TellsProject}
use Rattle.project_read.specs.Asking.{AreAllNumbered, AsksAll, AsksProject, AsksFront, StopsInside}
use Rattle.project_read.specs.Named.{AreNamesOf}
use Rattle.project_read.specs.Steps.{AsksName, IsNext, TellsNext, name_at}
use Rattle.project_read.specs.declared.end.ProjectEnd.{ProjectEnd}
use Rattle.project_read.specs.declared.end.ProjectEnd.TheVariants as ends
use Rattle.project_read.proofs.Imported.{imports_named}
use Rattle.project_read.proofs.Numbering.{IsGrown, grown}
use Rattle.project_read.proofs.Reading.{Stands, stands_first, stands_more, are_names}

-- ---- at first

pub first_front : (told : Option Contents) (src : List ℕ) (old : Option (List (List ℕ))) → AsksFront told src old old
first_front told src old = (src ∷ [], are_names told src [] (src ∷ []) (stands_first told src), no_growth old old (src ∷ []) refl)

-- ---- the names

among : (items : List (String Global)) (k : ℕ) → k < length items → k < length (names_in items)
among items k l = subst (λ (n : ℕ). k < n) (sym (length-map items (λ (x : String Global). string_bytes x))) l

pub counted : (items : List (String Global)) (k : ℕ) → k ≤ length (names_in items) → k ≤ length items
counted items k l = subst (λ (n : ℕ). k ≤ n) (length-map items (λ (x : String Global). string_bytes x)) l

split_at : (names : List (List ℕ)) (k : ℕ) → k < length names → names ≡ take k names ++ (name_at names k ∷ drop (k + 1) names)
split_at names k l = sym (take-append-drop k names) ∙ ap (λ (xs : List (List ℕ)). take k names ++ xs) (drop_more names k [] l)

-- ---- the next file

-- so many of the names were asked for, of which the file of this number is the next one
pub record IsSoFar (told : Option Contents) (src : List ℕ) (sources : List code_source.Source) (names : List (List ℕ)) (old mid : Option (List (List ℕ))) (file : ℕ) : Type 0 where
  pub at : file ≡ length sources
  pub within : file < length names
  pub stands : Stands told src (sources_of sources) names
  pub asked : Appends old mid (take file names)

pub is_so_far : (told : Option Contents) (src : List ℕ) (sources : Vec code_source.Source Global) (names : Vec (String Global) Global) (old mid : Option (List (List ℕ))) (file : ℕ) (some all : ℕ) → file ≡ vec_len sources → some ≡ vec_len sources
    → all ≡ vec_len names → some < all → Stands told src (sources_of sources.items) (names_in names.items) → Appends old mid (take (length sources.items) (names_in names.items))
    → IsSoFar told src sources.items (names_in names.items) old mid file
is_so_far told src sources names old mid file some all e m n l s a =
    let at : file ≡ length sources.items = e ∙ sources.ok.0 in
    record {
      at = at;
      within = among names.items file (omega (arith, e, m, n, l, names.ok.0));
      stands = s;
      asked = subst (λ (k : ℕ). Appends old mid (take k (names_in names.items))) (sym at) a;
    }

one_more : (names : List (List ℕ)) (old mid new : Option (List (List ℕ))) (file : ℕ) → file < length names → Appends old mid (take file names) → Appends mid new (name_at names file ∷ []) → Appends old new (take (file + 1) names)
one_more names old mid new file l p q = subst (Appends old new) (sym (take_more names file [] l)) (grown_twice old mid new (take file names) (name_at names file ∷ []) p q)

counts : (sources : List code_source.Source) (file : ℕ) → file ≡ length sources → file ≡ length (sources_of sources)
counts sources file e = e ∙ sym (length-map sources source_of)

-- ---- it is refused

pub told_refused : (told now : Option Contents) (src folder : List ℕ) (sources : List code_source.Source) (names more : List (List ℕ)) (old mid : Option (List (List ℕ))) (file : ℕ) (e : ProjectEnd)
    (r : Result (Vec code_source.Source Global) ProjectEnd) → r ≡ Err e → IsSoFar told src sources names old mid file → now ≡ told → folder ≡ folder_of src → IfSome now (λ files. TellsNext files folder names file (Err e) more)
    → IsNext folder names file (Err e) more → IfSome told (λ files. TellsProject files src r)
told_refused told now src folder sources names more old mid file e r q so same f t is =
    subst (λ (x : Result (Vec code_source.Source Global) ProjectEnd). IfSome told (λ files. TellsProject files src x)) (sym q)
    (by told e so.stands.read
    (subst (λ (x : List ℕ). IfSome told (λ files. TellsNext files x names file (Err e) more)) f (subst (λ (o : Option Contents). IfSome o (λ files. TellsNext files folder names file (Err e) more)) same t)) is)
  where
    by : (told : Option Contents) (e : ProjectEnd) → IfSome told (λ files. AreRead files src (sources_of sources) names) → IfSome told (λ files. TellsNext files (folder_of src) names file (Err e) more)
        → IsNext folder names file (Err e) more → IfSome told (λ files. TellsProject files src (Err e))
    by None e r t is = tt
    by (Some files) (ends.Text at fault) r t is =
        record { sources = sources_of sources; names = names; read = r; next = subst (λ (k : ℕ). IsRefusedAt files (folder_of src) names k (Text at fault)) (counts sources file so.at) t }
    by (Some files) (ends.TooManyFiles line name limit) r t is =
        (record { sources = sources_of sources; names = names; read = r; next = subst (λ (k : ℕ). IsRefusedAt files (folder_of src) names k (TooManyFiles line name)) (counts sources file so.at) t }, is)
    by (Some files) ends.ReadFault r t is = tt
    by (Some files) ends.NoMemory r t is = tt

pub asked_refused : (told : Option Contents) (src folder : List ℕ) (sources : List code_source.Source) (names more : List (List ℕ)) (old mid new : Option (List (List ℕ))) (file : ℕ) (e : ProjectEnd)
    (r : Result (Vec code_source.Source Global) ProjectEnd) → r ≡ Err e → IsSoFar told src sources names old mid file → IsNext folder names file (Err e) more → AsksName (name_at names file) mid new (Err e) → AsksProject told src old new r
asked_refused told src folder sources names more old mid new file e r q so is a = subst (AsksProject told src old new) (sym q) (by e is a)
  where
    by : (e : ProjectEnd) → IsNext folder names file (Err e) more → AsksName (name_at names file) mid new (Err e) → AsksProject told src old new (Err e)
    by (ends.Text at fault) is a =
        (names, are_names told src (sources_of sources) names so.stands, subst (λ (k : ℕ). Appends old new (take (k + 1) names)) (sym is.0) (one_more names old mid new file so.within so.asked a))
    by (ends.TooManyFiles line name limit) is a = (file + 1, (names, are_names told src (sources_of sources) names so.stands, one_more names old mid new file so.within so.asked a))
    by ends.ReadFault is a = tt
    by ends.NoMemory is a = tt

-- however it ends
pub front_inside : (told : Option Contents) (src : List ℕ) (sources : List code_source.Source) (names : List (List ℕ)) (old mid new : Option (List (List ℕ))) (file : ℕ) → IsSoFar told src sources names old mid file
    → AppendsFront mid new (name_at names file ∷ []) → AsksFront told src old new
front_inside told src sources names old mid new file so f = (
  names,
  are_names told src (sources_of sources) names so.stands,
  front_after old mid new (take file names) (name_at names file ∷ []) (drop (file + 1) names) names (split_at names file so.within) so.asked f,
)

-- it was not read
pub stops_inside : {S A : Type 0} (asked : S → Option (List (List ℕ))) (fault_count : S → ℕ) (told : Option Contents) (src : List ℕ) (sources : List code_source.Source) (names : List (List ℕ)) (old mid new : S) (file : ℕ) (e : ProjectEnd)
    (r : Result A ProjectEnd) → r ≡ Err e → IsSoFar told src sources names (asked old) (asked mid) file → fault_count old ≤ fault_count mid
    → (IsErrOf {T = code_source.Source} (Err e) ends.ReadFault → StopsAt asked fault_count mid new (name_at names file ∷ [])) → IsErrOf r ends.ReadFault → StopsInside told src asked fault_count old new
stops_inside asked fault_count told src sources names old mid new file e r q so later stops h =
    let fault : e ≡ ends.ReadFault = cc in (
      names,
      are_names told src (sources_of sources) names so.stands,
      stops_after asked fault_count old mid new (take file names) (name_at names file ∷ []) (drop (file + 1) names) names (split_at names file so.within) so.asked later (stops (ap (λ (x : ProjectEnd). Err x) fault)),
    )

-- ---- it is read

-- these files are read, and their names were asked for
pub record AreReadOnes (told : Option Contents) (src : List ℕ) (sources : List code_source.Source) (names : List (List ℕ)) (old new : Option (List (List ℕ))) : Type 0 where
  pub stands : Stands told src (sources_of sources) names
  pub within : length sources ≤ length names
  pub asked : Appends old new (take (length sources) names)

pub one_read : (told now : Option Contents) (src folder : List ℕ) (sources pushed : List code_source.Source) (s : code_source.Source) (names more : List (List ℕ)) (old mid new : Option (List (List ℕ))) (file : ℕ)
    → pushed ≡ sources ++ s ∷ [] → IsSoFar told src sources names old mid file → now ≡ told → folder ≡ folder_of src → IfSome now (λ files. TellsNext files folder names file (Ok s) more)
    → IsNext folder names file (Ok s) more → AsksName (name_at names file) mid new (Ok s) → AreReadOnes told src pushed more old new
one_read told now src folder sources pushed s names more old mid new file e so same f t is a =
    record {
      stands =
          subst (λ (l : List Source). Stands told src l more) (sym (ap sources_of e ∙ map-append source_of sources (s ∷ [])))
          (stands_more told src (sources_of sources) names (source_of s) more so.stands
          (is.0, subst (λ (k : ℕ). Reads k is.0 (source_of s)) (counts sources file so.at) is.1) numbers (by told (subst (λ (o : Option Contents). IfSome o (λ files. TellsNext files folder names file (Ok s) more)) same t)));
      within = omega (arith, count, so.within, ap length g.split, length-append names g.others);
      asked = subst (λ (k : ℕ). Appends old new (take k more)) (sym count) (subst (Appends old new) (sym kept) (one_more names old mid new file so.within so.asked a));
    }
  where
    numbers : numbered (folder_of src) names (source_of s).imports ≡ Ok more
    numbers = subst (λ (x : List ℕ). numbered x names (source_of s).imports ≡ Ok more) f is.2

    g : IsGrown (folder_of src) names more
    g = grown (folder_of src) names (source_of s).imports more (imports_named file is.0 (source_of s) is.1) numbers

    count : length pushed ≡ file + 1
    count = omega (arith, ap length e, length-append sources (s ∷ []), so.at)

    kept : take (file + 1) more ≡ take (file + 1) names
    kept = ap (take (file + 1)) g.split ∙ take-append-le (file + 1) names g.others (omega (arith, so.within))

    by : (told : Option Contents) → IfSome told (λ files. TellsNext files folder names file (Ok s) more) → IfSome told (λ files. IsSourceOf files names (length (sources_of sources)) (source_of s))
    by None t = tt
    by (Some files) t = subst (λ (k : ℕ). IsSourceOf files names k (source_of s)) (counts sources file so.at) t.0

-- ---- all are read

-- so many sources as names
all_read : (sources : Vec code_source.Source Global) (names : Vec (String Global) Global) (some all : ℕ) → some ≡ vec_len sources → all ≡ vec_len names → all ≤ some → length sources.items ≤ length (names_in names.items)
    → length sources.items ≡ length (names_in names.items)
all_read sources names some all e m h within = omega (arith, e, m, h, within, sources.ok.0, names.ok.0, length-map names.items (λ (x : String Global). string_bytes x))

pub all_named : (told : Option Contents) (src : List ℕ) (sources : Vec code_source.Source Global) (names : Vec (String Global) Global) (some all : ℕ) → some ≡ vec_len sources → all ≡ vec_len names → all ≤ some
    → length sources.items ≤ length (names_in names.items) → Stands told src (sources_of sources.items) (names_in names.items) → AreNamesOf told src (sources_of sources.items) (names_in names.items)
all_named told src sources names some all e m h within s = record {
  are = are_names told src (sources_of sources.items) (names_in names.items) s;
  read = s.read;
  all = length-map sources.items source_of ∙ all_read sources names some all e m h within;
}

pub all_asked : (told : Option Contents) (src : List ℕ) (sources : Vec code_source.Source Global) (names : Vec (String Global) Global) (old new : Option (List (List ℕ))) (some all : ℕ) → some ≡ vec_len sources → all ≡ vec_len names → all ≤ some
    → length sources.items ≤ length (names_in names.items) → Stands told src (sources_of sources.items) (names_in names.items) → Appends old new (take (length sources.items) (names_in names.items)) → AsksAll told src old new
all_asked told src sources names old new some all e m h within s a =
    (names_in names.items, are_names told src (sources_of sources.items) (names_in names.items) s, by told s.read, subst (Appends old new) (take_all (length sources.items) (names_in names.items) (omega (arith, same))) a)
  where
    same : length sources.items ≡ length (names_in names.items)
    same = all_read sources names some all e m h within

    by : (told : Option Contents) → IfSome told (λ files. AreRead files src (sources_of sources.items) (names_in names.items)) → IfSome told (λ files. AreAllNumbered files src (names_in names.items))
    by None r = tt
    by (Some files) r = record { sources = sources_of sources.items; read = r; all = length-map sources.items source_of ∙ same }
