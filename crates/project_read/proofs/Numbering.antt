-- Imports are numbered one after another; what that gives, and that it gives each number once.
use Rattle.std.proofs.Common.{◌≡◌, ℕ, ◌≤◌, ◌==◌, ◌||◌, Bool, true, false, List, [], ◌∷◌, ◌++◌, Result, Ok, Err, length, length-append, append_assoc, append-nil, if◌then◌else◌, refl, sym, ap, ◌∙◌, subst, arith, inl, inr}
use Rattle.std.specs.Str.{bytes_eq}
use Rattle.std.proofs.lemmas.Bool.Decides.{nat_tests}
use Rattle.std.proofs.lemmas.Slice.Eq.{bytes_eq-Decides}
use Rattle.list_core.specs.Lists.{EachOf, IsIn, IsNotIn, AreApart}
use Rattle.gen_token.specs.Spelling.{IsName}
use Rattle.gen_tree.specs.Tree.{Import}
use Rattle.project_read.specs.Names.{file_name, has_number, numbered}
use Rattle.project_read.specs.Asking.{IsImported}
use Rattle.project_read.specs.Laws.{AreGivenOnce}

abbrev Numbers : Type 0
Numbers = Result (List (List ℕ)) Import

-- the ways of one import
abbrev one_way : List ℕ → List (List ℕ) → Import → List Import → Bool → Bool → Numbers
one_way folder names i imports has full =
    if has then numbered folder names imports else
    if full then Err i else numbered folder (names ++ file_name folder i.name ∷ []) imports

-- one import, and then the others
pub one_then : (folder : List ℕ) (names more : List (List ℕ)) (i : Import) (imports : List Import) → numbered folder names (i ∷ []) ≡ Ok more → numbered folder names (i ∷ imports) ≡ numbered folder more imports
one_then folder names more i imports = by (has_number names (file_name folder i.name)) (length names == 64)
  where
    same : (a b : List (List ℕ)) → ◌≡◌ {A = Numbers} (Ok a) (Ok b) → numbered folder a imports ≡ numbered folder b imports
    same a b e = let f : a ≡ b = cc in ap (λ (l : List (List ℕ)). numbered folder l imports) f

    by : (has full : Bool) → one_way folder names i [] has full ≡ Ok more → one_way folder names i imports has full ≡ numbered folder more imports
    by true full e = same names more e
    by false true e = absurd (cc)
    by false false e = same (names ++ file_name folder i.name ∷ []) more e

-- one import that is refused, whatever the others are
pub one_refused : (folder : List ℕ) (names : List (List ℕ)) (i r : Import) (imports : List Import) → numbered folder names (i ∷ []) ≡ Err r → numbered folder names (i ∷ imports) ≡ Err r
one_refused folder names i r imports = by (has_number names (file_name folder i.name)) (length names == 64)
  where
    by : (has full : Bool) → one_way folder names i [] has full ≡ Err r → one_way folder names i imports has full ≡ Err r
    by true full e = absurd (cc)
    by false true e = e
    by false false e = absurd (cc)

-- ---- what is given

-- the names behind are files of imports, and there are 64 at most if there were
pub record IsGrown (folder : List ℕ) (names all : List (List ℕ)) : Type 0 where
  pub others : List (List ℕ)
  pub split : all ≡ names ++ others
  pub each : EachOf (IsImported folder) others
  pub few : length names ≤ 64 → length all ≤ 64

not_full : (n : ℕ) → n ≤ 64 → (n == 64) ≡ false → n ≤ 63
not_full n h e = grind (arith, nat_tests, h, e)

pub grown : (folder : List ℕ) (names : List (List ℕ)) (imports : List Import) (all : List (List ℕ)) → EachOf (λ (i : Import). IsName i.name) imports → numbered folder names imports ≡ Ok all → IsGrown folder names all
grown folder names [] all h e = record { others = []; split = (let f : all ≡ names = cc in f) ∙ sym (append-nil names); each = tt; few = λ m. subst (λ (l : List (List ℕ)). length l ≤ 64) (let f : names ≡ all = cc in f) m }
grown folder names (i ∷ imports) all h e =
    by (grown folder names imports all h.1) (grown folder (names ++ file_name folder i.name ∷ []) imports all h.1) (has_number names (file_name folder i.name)) (length names == 64) refl e
  where
    by : (numbered folder names imports ≡ Ok all → IsGrown folder names all)
        → (numbered folder (names ++ file_name folder i.name ∷ []) imports ≡ Ok all → IsGrown folder (names ++ file_name folder i.name ∷ []) all)
        → (has full : Bool) → (length names == 64) ≡ full → one_way folder names i imports has full ≡ Ok all → IsGrown folder names all
    by same next true full f e = same e
    by same next false true f e = absurd (cc)
    by same next false false f e =
        let more = next e in
        record {
          others = file_name folder i.name ∷ more.others;
          split = more.split ∙ append_assoc names (file_name folder i.name ∷ []) more.others;
          each = (record { name = i.name; is_name = h.0; is = refl }, more.each);
          few = λ m. more.few (omega (arith, length-append names (file_name folder i.name ∷ []), not_full (length names) m f));
        }

-- ---- each once

either : (a b : Bool) → (a || b) ≡ false → (a ≡ false) × (b ≡ false)
either true b e = absurd (cc)
either false b e = (refl, e)

is_in : (names : List (List ℕ)) (name : List ℕ) → has_number names name ≡ true → IsIn name names
is_in [] name e = absurd (cc)
is_in (x ∷ names) name e = by (is_in names name) (bytes_eq x name) refl e
  where
    by : (has_number names name ≡ true → IsIn name names) → (b : Bool) → bytes_eq x name ≡ b → (b || has_number names name) ≡ true → IsIn name (x ∷ names)
    by more true f e = inl (sym ((bytes_eq-Decides x name).0 f))
    by more false f e = inr (more e)

not_in : (names : List (List ℕ)) (name : List ℕ) → has_number names name ≡ false → IsNotIn name names
not_in [] name e = tt
not_in (x ∷ names) name e =
    let both = either (bytes_eq x name) (has_number names name) e in
    ((λ f. let g : bytes_eq x name ≡ true = (bytes_eq-Decides x name).1 f in absurd (cc)), not_in names name both.1)

apart_behind : (names : List (List ℕ)) (name : List ℕ) → AreApart names → IsNotIn name names → AreApart (names ++ name ∷ [])
apart_behind [] name a n = (tt, tt)
apart_behind (x ∷ names) name a n = (by names a.0, apart_behind names name a.1 n.1)
  where
    by : (l : List (List ℕ)) → IsNotIn x l → IsNotIn x (l ++ name ∷ [])
    by [] m = ((λ e. n.0 (sym e)), tt)
    by (y ∷ l) m = (m.0, by l m.1)

in_front : {A : Type 0} (x : A) (front back : List A) → IsIn x front → IsIn x (front ++ back)
in_front x [] back i = absurd i
in_front x (y ∷ front) back (inl e) = inl e
in_front x (y ∷ front) back (inr i) = inr (in_front x front back i)

in_last : {A : Type 0} (front : List A) (x : A) → IsIn x (front ++ x ∷ [])
in_last [] x = inl refl
in_last (y ∷ front) x = inr (in_last front x)

pub given_once : (folder : List ℕ) (names : List (List ℕ)) (imports : List Import) (all : List (List ℕ)) → AreApart names → numbered folder names imports ≡ Ok all → AreGivenOnce folder names imports all
given_once folder names [] all a e =
    let f : all ≡ names = cc in
    record { others = []; kept = f ∙ sym (append-nil names); apart = subst AreApart (sym f) a; each = tt }
given_once folder names (i ∷ imports) all a e =
    by (given_once folder names imports all a) (given_once folder (names ++ file_name folder i.name ∷ []) imports all) (has_number names (file_name folder i.name)) (length names == 64) refl e
  where
    by : (numbered folder names imports ≡ Ok all → AreGivenOnce folder names imports all)
        → (AreApart (names ++ file_name folder i.name ∷ []) → numbered folder (names ++ file_name folder i.name ∷ []) imports ≡ Ok all → AreGivenOnce folder (names ++ file_name folder i.name ∷ []) imports all)
        → (has full : Bool) → has_number names (file_name folder i.name) ≡ has → one_way folder names i imports has full ≡ Ok all → AreGivenOnce folder names (i ∷ imports) all
    by same next true full f e =
        let more = same e in
        record {
          others = more.others;
          kept = more.kept;
          apart = more.apart;
          each = (subst (IsIn (file_name folder i.name)) (sym more.kept) (in_front (file_name folder i.name) names more.others (is_in names (file_name folder i.name) f)), more.each);
        }
    by same next false true f e = absurd (cc)
    by same next false false f e =
        let more = next (apart_behind names (file_name folder i.name) a (not_in names (file_name folder i.name) f)) e in
        record {
          others = file_name folder i.name ∷ more.others;
          kept = more.kept ∙ append_assoc names (file_name folder i.name ∷ []) more.others;
          apart = more.apart;
          each = (
            subst (IsIn (file_name folder i.name)) (sym more.kept)
                (in_front (file_name folder i.name) (names ++ file_name folder i.name ∷ []) more.others (in_last names (file_name folder i.name))),
            more.each,
          );
        }
