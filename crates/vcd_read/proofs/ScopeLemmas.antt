-- Scopes that are kept by their names and the numbers of those around them.
use Rattle.std.proofs.Common.{◌≡◌, ℕ, zero, suc, ◌+◌, ◌<◌, ◌≤◌, List, [], ◌∷◌, ◌++◌, Some, length, map, get_or, refl, ap, sym, ◌∙◌, subst, arith, length-append, inl, inr, ◌⊎◌}
use Rattle.std.specs.Prelude.{slice_get}
use Rattle.std.proofs.lemmas.Bool.{cases_lt}
use Rattle.std.proofs.lemmas.Option.{slice_get_within, get_or_from_slice_get}
use Rattle.std.proofs.lemmas.List.{append_assoc, append-nil, length-map, map-append, get_or_append_left, get_or_at, get_or_push, get_or-map}
use Rattle.vcd_read.specs.declared.scopes.ScopeRow.{ScopeRow}
use Rattle.vcd_read.specs.Head.{path_in}
use Rattle.vcd_read.specs.Scopes.{path_at}
use Rattle.vcd_read.specs.Nesting.{Scope, paths_of, scope_in, scopes_of, IsOpen, AreNested, AreScopes}

-- one more scope
pub scopes-push : (before : List Scope) (names : List (List ℕ)) (rows : List ScopeRow) (name : List ℕ) (row : ScopeRow) → length names ≡ length rows
    → scopes_of before (names ++ name ∷ []) (rows ++ row ∷ []) ≡ scopes_of before names rows ++ scope_in (scopes_of before names rows) row.parent name ∷ []
scopes-push before [] [] name row same = refl
scopes-push before [] (other ∷ rows) name row same = absurd (omega arith)
scopes-push before (first ∷ names) [] name row same = absurd (omega arith)
scopes-push before (first ∷ names) (other ∷ rows) name row same =
    scopes-push (before ++ scope_in before other.parent first ∷ []) names rows name row (omega arith)

-- those before stand in front
record Grows (before after : List Scope) : Type 0 where
  more : List Scope
  whole : after ≡ before ++ more

grows : (before : List Scope) (names : List (List ℕ)) (rows : List ScopeRow) → Grows before (scopes_of before names rows)
grows before [] rows = record { more = []; whole = sym (append-nil before) }
grows before (name ∷ names) [] = record { more = []; whole = sym (append-nil before) }
grows before (name ∷ names) (row ∷ rows) =
    let one : Scope = scope_in before row.parent name in
    let rest = grows (before ++ one ∷ []) names rows in
    record { more = one ∷ rest.more; whole = rest.whole ∙ append_assoc before (one ∷ []) rest.more }

-- a scope by its place, and those before it
record IsScopeAt (scopes : List Scope) (i parent : ℕ) (name : List ℕ) : Type 0 where
  front : List Scope
  more : List Scope
  whole : scopes ≡ front ++ scope_in front parent name ∷ more
  at : length front ≡ i

scope_found : (before : List Scope) (names : List (List ℕ)) (rows : List ScopeRow) (i place : ℕ) (name : List ℕ) (row : ScopeRow) → place ≡ length before + i
    → slice_get names i ≡ Some name → slice_get rows i ≡ Some row → IsScopeAt (scopes_of before names rows) place row.parent name
scope_found before [] rows i place name row is e f = cc
scope_found before (first ∷ names) [] i place name row is e f = cc
scope_found before (first ∷ names) (other ∷ rows) zero place name row is e f =
    let same : first ≡ name = cc in
    let like : other ≡ row = cc in
    let rest = grows (before ++ scope_in before other.parent first ∷ []) names rows in
    let whole = rest.whole ∙ append_assoc before (scope_in before other.parent first ∷ []) rest.more in
    rw (← same, ← like) (record { front = before; more = rest.more; whole = whole; at = omega arith })
scope_found before (first ∷ names) (other ∷ rows) (suc i) place name row is e f =
    let one : Scope = scope_in before other.parent first in
    scope_found (before ++ one ∷ []) names rows i place name row (omega (arith, length-append before (one ∷ []))) e f

-- more scopes change no path
pub path-append : (scopes more : List Scope) (number : ℕ) → number ≤ length scopes → path_at (paths_of (scopes ++ more)) number ≡ path_at (paths_of scopes) number
path-append scopes more zero within = refl
path-append scopes more (suc i) within =
    ap (λ paths. get_or paths i []) (map-append (λ (scope : Scope). scope.path) scopes more)
    ∙ get_or_append_left (paths_of scopes) (paths_of more) [] i (omega (arith, length-map scopes (λ (scope : Scope). scope.path)))

-- what is kept of a scope tells its path and the number of the one around it
pub record IsKept (scopes : List Scope) (i parent : ℕ) (name : List ℕ) : Type 0 where
  pub parent_is : (d : Scope) → (get_or scopes i d).parent ≡ parent
  pub path_is : path_at (paths_of scopes) (suc i) ≡ path_in (path_at (paths_of scopes) parent) name
  pub around : IsOpen scopes parent i

pub scope_kept : (names : List (List ℕ)) (rows : List ScopeRow) (i : ℕ) (name : List ℕ) (row : ScopeRow) → AreScopes names rows
    → slice_get names i ≡ Some name → slice_get rows i ≡ Some row → IsKept (scopes_of [] names rows) i row.parent name
scope_kept names rows i name row are e f =
    let scopes : List Scope = scopes_of [] names rows in
    let found = scope_found [] names rows i i name row (omega arith) e f in
    let one : Scope = scope_in found.front row.parent name in
    let is : (d : Scope) → get_or scopes i d ≡ one = λ d. ap (λ all. get_or all i d) found.whole ∙ get_or_at found.front one found.more d i found.at in
    let parent_is : (d : Scope) → (get_or scopes i d).parent ≡ row.parent = λ d. ap (λ (scope : Scope). scope.parent) (is d) in
    let below : i < length scopes = omega (arith, ap length found.whole, length-append found.front (one ∷ found.more), found.at) in
    let P : ℕ → Type 0 = λ parent. IsOpen scopes parent i in
    let around : IsOpen scopes row.parent i = subst P (parent_is one) (are.nested i one below) in
    let within : row.parent ≤ length found.front = omega (arith, around.within, found.at) in
    let outer : path_at (paths_of scopes) row.parent ≡ path_at (paths_of found.front) row.parent =
    ap (λ all. path_at (paths_of all) row.parent) found.whole ∙ path-append found.front (one ∷ found.more) row.parent within in
    record {
      parent_is = parent_is;
      path_is = get_or-map (λ (scope : Scope). scope.path) scopes i one [] below ∙ ap (λ (scope : Scope). scope.path) (is one) ∙ ap (λ path. path_in path name) (sym outer);
      around = around;
    }

pub length-scopes_of : (names : List (List ℕ)) (rows : List ScopeRow) → AreScopes names rows → length (scopes_of [] names rows) ≡ length rows
length-scopes_of names rows are =
    let scopes : List Scope = scopes_of [] names rows in
    omega (arith, ap length are.lens, length-map rows (λ (row : ScopeRow). row.len), length-map scopes (λ (scope : Scope). length scope.path))

-- a row has the length of its path
pub len_is : (names : List (List ℕ)) (rows : List ScopeRow) (i : ℕ) (row : ScopeRow) → AreScopes names rows → slice_get rows i ≡ Some row
    → row.len ≡ length (path_at (paths_of (scopes_of [] names rows)) (suc i))
len_is names rows i row are e =
    let scopes : List Scope = scopes_of [] names rows in
    let there : i < length rows = slice_get_within rows i row e in
    let below : i < length scopes = omega (arith, length-scopes_of names rows are) in
    let d : Scope = record { parent = 0; path = [] } in
    ap (λ (row : ScopeRow). row.len) (sym (get_or_from_slice_get rows i row row e)) ∙ sym (get_or-map (λ (row : ScopeRow). row.len) rows i row 0 there)
    ∙ ap (λ lens. get_or lens i 0) are.lens ∙ get_or-map (λ (scope : Scope). length scope.path) scopes i d 0 below
    ∙ ap length (sym (get_or-map (λ (scope : Scope). scope.path) scopes i d [] below))

-- more scopes close none
pub open-append : (scopes more : List Scope) (number count : ℕ) → count ≤ length scopes → IsOpen scopes number count → IsOpen (scopes ++ more) number count
open-append scopes more number count within is = record {
  within = is.within;
  inner = λ k d from below. rw (get_or_append_left scopes more d k (omega arith)) (is.inner k d from below);
}

-- one more scope leaves those open in which it is
pub open-more : (scopes : List Scope) (one : Scope) (number : ℕ) → number ≤ one.parent → IsOpen scopes number (length scopes)
    → IsOpen (scopes ++ one ∷ []) number (length (scopes ++ one ∷ []))
open-more scopes one number outer is = record {
  within = omega (arith, is.within, length-append scopes (one ∷ []));
  inner = λ k d from below. elim (cases_lt k (length scopes)) [
    | inl before ↦ rw (get_or_append_left scopes (one ∷ []) d k before) (is.inner k d from before)
    | inr last ↦
        let at : length scopes ≡ k = omega (arith, length-append scopes (one ∷ [])) in
        rw (get_or_push scopes one d k at) outer
  ];
}

-- it is open itself
pub open-last : (scopes : List Scope) (one : Scope) → IsOpen (scopes ++ one ∷ []) (suc (length scopes)) (length (scopes ++ one ∷ []))
open-last scopes one = record {
  within = omega (arith, length-append scopes (one ∷ []));
  inner = λ k d from below. absurd (omega (arith, length-append scopes (one ∷ [])));
}

nested-push : (scopes : List Scope) (one : Scope) → AreNested scopes → IsOpen scopes one.parent (length scopes) → AreNested (scopes ++ one ∷ [])
nested-push scopes one are is k d below = elim (cases_lt k (length scopes)) [
  | inl before ↦
      let P : Scope → Type 0 = λ scope. IsOpen (scopes ++ one ∷ []) scope.parent k in
      subst P (sym (get_or_append_left scopes (one ∷ []) d k before)) (open-append scopes (one ∷ []) (get_or scopes k d).parent k (omega arith) (are k d before))
  | inr last ↦
      let at : length scopes ≡ k = omega (arith, length-append scopes (one ∷ [])) in
      let P : Scope → Type 0 = λ scope. IsOpen (scopes ++ one ∷ []) scope.parent k in
      let Q : ℕ → Type 0 = λ count. IsOpen (scopes ++ one ∷ []) one.parent count in
      subst P (sym (get_or_push scopes one d k at)) (subst Q at (open-append scopes (one ∷ []) one.parent (length scopes) (omega arith) is))
]

-- one more name and row
pub are-push : (names : List (List ℕ)) (rows : List ScopeRow) (name : List ℕ) (row : ScopeRow) → AreScopes names rows
    → IsOpen (scopes_of [] names rows) row.parent (length (scopes_of [] names rows))
    → row.len ≡ length (path_in (path_at (paths_of (scopes_of [] names rows)) row.parent) name) → AreScopes (names ++ name ∷ []) (rows ++ row ∷ [])
are-push names rows name row are is len =
    let scopes : List Scope = scopes_of [] names rows in
    let one : Scope = scope_in scopes row.parent name in
    let whole = scopes-push [] names rows name row are.same in
    let f : Scope → ℕ = λ scope. length scope.path in
    let P : List Scope → Type 0 = λ all. AreNested all in
    record {
      same = omega (arith, are.same, length-append names (name ∷ []), length-append rows (row ∷ []));
      lens = map-append (λ (row : ScopeRow). row.len) rows (row ∷ []) ∙ ap (λ lens. lens ++ row.len ∷ []) are.lens ∙ ap (λ n. map f scopes ++ n ∷ []) len
          ∙ sym (map-append f scopes (one ∷ [])) ∙ ap (map f) (sym whole);
      nested = subst P (sym whole) (nested-push scopes one are.nested is);
    }

-- what may be open once one more is opened
pub open-step : (scopes : List Scope) (i parent number : ℕ) → ((d : Scope) → (get_or scopes i d).parent ≡ parent) → IsOpen scopes number (i + 1)
    → (number ≡ i + 1) ⊎ (IsOpen scopes number i × (number ≤ parent))
open-step scopes i parent number parent_is is = elim (cases_lt i number) [
  | inl last ↦ inl (omega (arith, is.within))
  | inr before ↦
      let d : Scope = record { parent = 0; path = [] } in
      inr (record { within = before; inner = λ k d from below. is.inner k d from (omega arith) }, omega (arith, is.inner i d before (omega arith), parent_is d))
]
