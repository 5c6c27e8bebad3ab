-- Paths that begin a text.
use Rattle.std.proofs.Common.{◌≡◌, ◌≢◌, ℕ, zero, suc, ◌+◌, ◌<◌, ◌≤◌, List, [], ◌∷◌, ◌++◌, length, take, refl, ap, sym, ◌∙◌, subst, arith, length-append, inl, inr, Bool, true, false, true≢false}
use Rattle.std.specs.Prelude.{IsTrue, Contains, bytes_eq, map, ◌==◌, ◌&&◌}
use Rattle.std.specs.Bool.{OnTrue, OnFalse}
use Rattle.std.proofs.lemmas.List.{take_all, append_cancel_left, length-map, get_or_default, map_more}
use Rattle.std.proofs.lemmas.Slice.Eq.{bytes_eq-Decides}
use Rattle.std.proofs.lemmas.Bool.{false_from_ne_true}
use Rattle.std.proofs.lemmas.Bool.Decides.{nat_tests}
use Rattle.vcd_read.specs.Head.{path_in}
use Rattle.vcd_read.specs.Scopes.{path_at}
use Rattle.vcd_read.specs.Nesting.{Scope, paths_of, Begins, IsLastBegun}
use Rattle.vcd_read.proofs.ScopeLemmas.{IsKept, open-step}

-- a front of a front
begins-front : (front more text : List ℕ) → Begins (front ++ more) text → Begins front text
begins-front [] more text e = refl
begins-front (byte ∷ front) more [] e = cc
begins-front (byte ∷ front) more (first ∷ text) e =
    let same : first ≡ byte = cc in
    let rest : take (length (front ++ more)) text ≡ front ++ more = cc in
    rw same (ap (λ tail. byte ∷ tail) (begins-front front more text rest))

-- where a path begins a text, that of the scope around it does
pub begins-around : (path name text : List ℕ) → Begins (path_in path name) text → Begins path text
begins-around [] name text e = refl
begins-around (byte ∷ path) name text e = begins-front (byte ∷ path) (46 ∷ name) text e

pub begins-length : (path text : List ℕ) → Begins path text → length path ≤ length text
begins-length [] text e = omega arith
begins-length (byte ∷ path) [] e = cc
begins-length (byte ∷ path) (first ∷ text) e =
    let rest : take (length path) text ≡ path = cc in
    omega (arith, begins-length path text rest)

-- a front that is as long as the text is the text
pub begins-whole : (path text : List ℕ) → Begins path text → length path ≡ length text → path ≡ text
begins-whole path text e same = sym e ∙ take_all (length path) text (omega arith)

pub begins-self : (path text : List ℕ) → path ≡ text → Begins path text
begins-self path text e = take_all (length path) text (omega (arith, ap length e)) ∙ sym e

-- a path begins the text: it is the last now
pub last-taken : (scopes : List Scope) (text name : List ℕ) (i parent last : ℕ) → IsKept scopes i parent name → IsLastBegun scopes text i last
    → Begins (path_at (paths_of scopes) (i + 1)) text → IsLastBegun scopes text (i + 1) (i + 1)
last-taken scopes text name i parent last kept is begins =
    let P : ℕ → Type 0 = λ number. Begins (path_at (paths_of scopes) number) text in
    let Q : List ℕ → Type 0 = λ path. Begins path text in
    let next : i + 1 ≡ suc i = omega arith in
    let outer : Begins (path_at (paths_of scopes) parent) text = begins-around (path_at (paths_of scopes) parent) name text (subst Q kept.path_is (subst P next begins)) in
    let before : parent ≤ last = is.others parent kept.around outer in
    record {
      within = omega arith;
      begins = λ number may below. elim (open-step scopes i parent number kept.parent_is may) [
        | inl same ↦ subst P (sym same) begins
        | inr other ↦ is.begins number other.0 (omega (arith, other.1, before))
      ];
      others = λ number may e. may.within;
    }

-- it does not: the last is the same
pub last-kept : (scopes : List Scope) (text name : List ℕ) (i parent last : ℕ) → IsKept scopes i parent name → IsLastBegun scopes text i last
    → (Begins (path_at (paths_of scopes) (i + 1)) text → ⊥) → IsLastBegun scopes text (i + 1) last
last-kept scopes text name i parent last kept is not_so =
    let P : ℕ → Type 0 = λ number. Begins (path_at (paths_of scopes) number) text in
    record {
      within = omega (arith, is.within);
      begins = λ number may below. elim (open-step scopes i parent number kept.parent_is may) [
        | inl same ↦ absurd (omega (arith, is.within))
        | inr other ↦ is.begins number other.0 below
      ];
      others = λ number may e. elim (open-step scopes i parent number kept.parent_is may) [
        | inl same ↦ absurd (not_so (subst P same e))
        | inr other ↦ is.others number other.0 e
      ];
    }

take-past : (front rest : List ℕ) (n m : ℕ) → n ≡ length front + m → take n (front ++ rest) ≡ front ++ take m rest
take-past [] rest n m e = ap (λ k. take k rest) (omega arith)
take-past (byte ∷ front) rest zero m e = absurd (omega arith)
take-past (byte ∷ front) rest (suc n) m e = ap (λ tail. byte ∷ tail) (take-past front rest n m (omega arith))

pub begins-rest : (front more rest text : List ℕ) → text ≡ front ++ rest → Begins (front ++ more) text → Begins more rest
begins-rest front more rest text split e =
    append_cancel_left front (take (length more) rest) more (sym (take-past front rest (length (front ++ more)) (length more) (length-append front more)) ∙ ap (take (length (front ++ more))) (sym split) ∙ e)

pub begins-both : (front more rest text : List ℕ) → text ≡ front ++ rest → Begins more rest → Begins (front ++ more) text
begins-both front more rest text split e =
    ap (take (length (front ++ more))) split ∙ take-past front rest (length (front ++ more)) (length more) (length-append front more) ∙ ap (λ tail. front ++ tail) e

-- the path of a scope in another that has one
pub path_in-some : (path name : List ℕ) → 0 < length path → path_in path name ≡ path ++ 46 ∷ name
path_in-some [] name some = absurd (omega arith)
path_in-some (byte ∷ path) name some = refl

pub length-path_in : (path name : List ℕ) → 0 < length path → length (path_in path name) ≡ length path + 1 + length name
length-path_in path name some = ap length (path_in-some path name some) ∙ omega (arith, length-append path (46 ∷ name))

pub path_in-none : (path name : List ℕ) → length path ≡ 0 → path_in path name ≡ name
path_in-none [] name none = refl
path_in-none (byte ∷ path) name none = absurd (omega arith)

-- the path of the scope around, where it is up to the last
pub begins-outer : (scopes : List Scope) (text name : List ℕ) (i parent last : ℕ) → IsKept scopes i parent name → IsLastBegun scopes text i last
    → parent ≤ last → Begins (path_at (paths_of scopes) parent) text
begins-outer scopes text name i parent last kept is below = is.begins parent kept.around below

-- where it is behind the last, its path does not begin the text
pub begins-none : (scopes : List Scope) (text name : List ℕ) (i parent last : ℕ) → IsKept scopes i parent name → IsLastBegun scopes text i last
    → last < parent → Begins (path_at (paths_of scopes) (i + 1)) text → ⊥
begins-none scopes text name i parent last kept is above e =
    let P : ℕ → Type 0 = λ number. Begins (path_at (paths_of scopes) number) text in
    let Q : List ℕ → Type 0 = λ path. Begins path text in
    let same : i + 1 ≡ suc i = omega arith in
    let outer = begins-around (path_at (paths_of scopes) parent) name text (subst Q kept.path_is (subst P same e)) in
    let before : parent ≤ last = is.others parent kept.around outer in
    omega arith

-- the path of a scope, by the front of the text
pub path-in-text : (scopes : List Scope) (text name : List ℕ) (i parent around : ℕ) → IsKept scopes i parent name
    → Begins (path_at (paths_of scopes) parent) text → around ≡ length (path_at (paths_of scopes) parent)
    → path_in (take around text) name ≡ path_at (paths_of scopes) (i + 1)
path-in-text scopes text name i parent around kept begins is =
    let same : suc i ≡ i + 1 = omega arith in
    ap (λ n. path_in (take n text) name) is ∙ ap (λ path. path_in path name) begins ∙ sym kept.path_is ∙ ap (path_at (paths_of scopes)) same

-- what an answer says of the last, whichever it is
pub last-if-true : (scopes : List Scope) (text name : List ℕ) (i parent last : ℕ) (b : Bool) → IsKept scopes i parent name → IsLastBegun scopes text i last
    → (IsTrue b → Begins (path_at (paths_of scopes) (i + 1)) text) → OnTrue b (IsLastBegun scopes text (i + 1) (i + 1))
last-if-true scopes text name i parent last true kept is says = last-taken scopes text name i parent last kept is (says refl)
last-if-true scopes text name i parent last false kept is says = tt

pub last-if-false : (scopes : List Scope) (text name : List ℕ) (i parent last : ℕ) (b : Bool) → IsKept scopes i parent name → IsLastBegun scopes text i last
    → (Begins (path_at (paths_of scopes) (i + 1)) text → IsTrue b) → OnFalse b (IsLastBegun scopes text (i + 1) last)
last-if-false scopes text name i parent last true kept is says = tt
last-if-false scopes text name i parent last false kept is says = last-kept scopes text name i parent last kept is (λ e. true≢false (sym (says e)))

-- none of the scopes has the text for its path
pub none-contained : (scopes : List Scope) (text : List ℕ) (i : ℕ) → length scopes ≤ i → ((k : ℕ) → k < i → path_at (paths_of scopes) (k + 1) ≢ text)
    → Contains (paths_of scopes) text → ⊥
none-contained scopes text i all none (k, below, is) =
    let within : k < i = omega (arith, below, length-map scopes (λ (scope : Scope). scope.path)) in
    let same : k + 1 ≡ suc k = omega arith in
    none k within (ap (path_at (paths_of scopes)) same ∙ get_or_default (paths_of scopes) k [] text below ∙ is)

-- whether a path is the text, by whether it begins it and is as long
pub whole_is : (path text : List ℕ) (begins : Bool) (len : ℕ) → (IsTrue begins → Begins path text) → (Begins path text → IsTrue begins) → len ≡ length path
    → (begins && len == length text) ≡ bytes_eq path text
whole_is path text false len to back is =
    sym (false_from_ne_true (bytes_eq path text) (λ e. true≢false (sym (back (begins-self path text ((bytes_eq-Decides path text).0 e))))))
whole_is path text true len to back is = by_length (len == length text) refl
  where
    by_length : (b : Bool) → (len == length text) ≡ b → b ≡ bytes_eq path text
    by_length true e = sym ((bytes_eq-Decides path text).1 (begins-whole path text (to refl) (grind (arith, nat_tests))))
    by_length false e = sym (false_from_ne_true (bytes_eq path text) (λ f. let same = ap length ((bytes_eq-Decides path text).0 f) in absurd (grind (arith, nat_tests))))

-- one more mark
pub mark-more : (scopes : List Scope) (text : List ℕ) (i : ℕ) (marks : List Bool) (mark : Bool) → i < length scopes
    → marks ≡ map (λ other. bytes_eq other text) (take (i + 1) ([] ∷ paths_of scopes)) → mark ≡ bytes_eq (path_at (paths_of scopes) (i + 1)) text
    → marks ++ mark ∷ [] ≡ map (λ other. bytes_eq other text) (take (i + 1 + 1) ([] ∷ paths_of scopes))
mark-more scopes text i marks mark below are is =
    let f : List ℕ → Bool = λ other. bytes_eq other text in
    let within : i + 1 < length ([] ∷ paths_of scopes) = omega (arith, length-map scopes (λ (scope : Scope). scope.path)) in
    ap (λ marks. marks ++ mark ∷ []) are ∙ ap (λ mark. map f (take (i + 1) ([] ∷ paths_of scopes)) ++ mark ∷ []) is
    ∙ sym (map_more f ([] ∷ paths_of scopes) (i + 1) [] within)
