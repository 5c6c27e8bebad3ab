-- What the head has told, by the numbers of scopes.
use Rattle.std.proofs.Common.{◌≡◌, ℕ, suc, ◌+◌, ◌-◌, ◌<◌, ◌≤◌, Bool, List, [], ◌∷◌, ◌++◌, Option, Some, None, length, map, get_or, refl, ap, sym, ◌∙◌, subst, arith, length-append}
use Rattle.std.specs.Prelude.{All, slice_get, unwrap_or}
use Rattle.std.specs.Option.{option_map}
use Rattle.std.proofs.lemmas.List.{length-map, map-append, get_or_at, get_or_default}
use Rattle.std.proofs.lemmas.List.Elements.{All-cons, All-nil, All-head, All-tail, All-append, All-weaker}
use Rattle.std.proofs.lemmas.Option.{unwrap_or-slice_get, slice_get-map}
use Rattle.vcd_read.specs.Head.{Head, Code, Var, scope_of, path_in, name_of, with_scope, with_var}
use Rattle.vcd_read.specs.Scopes.{path_at}
use Rattle.vcd_read.specs.Nesting.{Scope, Numbered, paths_of, scope_in, innermost, placed, ArePlaced, IsOpen, IsHead}
use Rattle.vcd_read.proofs.ScopeLemmas.{path-append, open-more, open-last}
use Rattle.vcd_read.proofs.States.{rising-push}

-- what is told, by what is kept
abbrev pub told : List Scope → List ℕ → List Numbered → List Code → Head
told scopes nest vars codes = record {
  nest = map (path_at (paths_of scopes)) nest;
  scopes = paths_of scopes;
  vars = map (placed (paths_of scopes)) vars;
  codes = codes;
}

none-open : (scopes : List Scope) → IsOpen scopes 0 (length scopes)
none-open scopes = record { within = omega arith; inner = λ k d from below. omega arith }

innermost-is : (nest : List ℕ) → innermost nest ≡ get_or nest (length nest - 1) 0
innermost-is nest = unwrap_or-slice_get nest (length nest - 1) 0

-- the innermost scope is open
pub innermost-open : (scopes : List Scope) (nest : List ℕ) (vars : List Numbered) → IsHead scopes nest vars → IsOpen scopes (innermost nest) (length scopes)
innermost-open scopes [] vars is = none-open scopes
innermost-open scopes (number ∷ nest) vars is =
    let P : ℕ → Type 0 = λ number. IsOpen scopes number (length scopes) in
    subst P (sym (innermost-is (number ∷ nest))) (is.opened (length (number ∷ nest) - 1) 0 (omega arith))

-- one more scope, in the innermost
pub head-scope : (scopes : List Scope) (nest : List ℕ) (vars : List Numbered) (name : List ℕ) → IsHead scopes nest vars
    → IsHead (scopes ++ scope_in scopes (innermost nest) name ∷ []) nest vars
head-scope scopes nest vars name is =
    let one : Scope = scope_in scopes (innermost nest) name in
    let more : length (scopes ++ one ∷ []) ≡ length scopes + 1 = length-append scopes (one ∷ []) in
    let before : (k d : ℕ) → k < length nest → get_or nest k d ≤ innermost nest = λ k d below.
    let last : length nest - 1 < length nest = omega arith in
    let order : k ≤ length nest - 1 = omega arith in
    omega (arith, innermost-is nest, is.rising k (length nest - 1) d order last, is.rising k (length nest - 1) 0 order last, get_or_default nest k d 0 below)
    in
    record {
      opened = λ k d below. open-more scopes one (get_or nest k d) (before k d below) (is.opened k d below);
      rising = is.rising;
      placed = All-weaker (λ (var : Numbered). var.scope ≤ length scopes) (λ (var : Numbered). var.scope ≤ length (scopes ++ one ∷ [])) (λ var within. omega arith) vars is.placed;
    }

-- and it is open
pub head-nest : (scopes : List Scope) (nest : List ℕ) (vars : List Numbered) (one : Scope) (number : ℕ) → IsHead (scopes ++ one ∷ []) nest vars → number ≡ length scopes + 1
    → IsHead (scopes ++ one ∷ []) (nest ++ number ∷ []) vars
head-nest scopes nest vars one number is at =
    let all : List Scope = scopes ++ one ∷ [] in
    let P : ℕ → Type 0 = λ number. IsOpen all number (length all) in
    let same : suc (length scopes) ≡ number = omega arith in
    let past : All (λ other. other ≤ number) nest = λ k d below. omega (arith, (is.opened k d below).within, length-append scopes (one ∷ [])) in
    record {
      opened = All-append P nest (number ∷ []) is.opened (All-cons P number [] (subst P same (open-last scopes one)) (All-nil P));
      rising = rising-push (λ number. number) nest number is.rising past;
      placed = is.placed;
    }

-- more scopes change no path of these
nest-same : (scopes more : List Scope) (nest : List ℕ) → All (λ number. number ≤ length scopes) nest
    → map (path_at (paths_of (scopes ++ more))) nest ≡ map (path_at (paths_of scopes)) nest
nest-same scopes more [] all = refl
nest-same scopes more (number ∷ nest) all =
    let P : ℕ → Type 0 = λ number. number ≤ length scopes in
    ap (λ path. path ∷ map (path_at (paths_of (scopes ++ more))) nest) (path-append scopes more number (All-head P number nest all))
    ∙ ap (λ paths. path_at (paths_of scopes) number ∷ paths) (nest-same scopes more nest (All-tail P number nest all))

vars-same : (scopes more : List Scope) (vars : List Numbered) → ArePlaced (length scopes) vars
    → map (placed (paths_of (scopes ++ more))) vars ≡ map (placed (paths_of scopes)) vars
vars-same scopes more [] all = refl
vars-same scopes more (var ∷ vars) all =
    let P : Numbered → Type 0 = λ var. var.scope ≤ length scopes in
    let at : List ℕ → Var = λ path. record { scope = path; name = var.name; code = var.code; size = var.size; counted = var.counted } in
    ap (λ path. at path ∷ map (placed (paths_of (scopes ++ more))) vars) (path-append scopes more var.scope (All-head P var vars all))
    ∙ ap (λ others. placed (paths_of scopes) var ∷ others) (vars-same scopes more vars (All-tail P var vars all))

path-last : (scopes : List Scope) (one : Scope) (number : ℕ) → number ≡ length scopes + 1 → path_at (paths_of (scopes ++ one ∷ [])) number ≡ one.path
path-last scopes one number at =
    let same : number ≡ suc (length scopes) = omega arith in
    ap (path_at (paths_of (scopes ++ one ∷ []))) same ∙ ap (λ paths. get_or paths (length scopes) []) (map-append (λ (scope : Scope). scope.path) scopes (one ∷ []))
    ∙ get_or_at (paths_of scopes) one.path [] [] (length scopes) (length-map scopes (λ (scope : Scope). scope.path))

-- the path of the innermost scope
pub scope_of-nest : (paths : List (List ℕ)) (nest : List ℕ) → path_at paths (innermost nest) ≡ scope_of (map (path_at paths) nest)
scope_of-nest paths nest =
    by_found (slice_get nest (length nest - 1)) ∙ ap (λ found. unwrap_or found []) (sym (slice_get-map (path_at paths) nest (length nest - 1)))
    ∙ ap (λ n. unwrap_or (slice_get (map (path_at paths) nest) (n - 1)) []) (sym (length-map nest (path_at paths)))
  where
    by_found : (found : Option ℕ) → path_at paths (unwrap_or found 0) ≡ unwrap_or (option_map (path_at paths) found) []
    by_found None = refl
    by_found (Some number) = refl

-- a scope is opened
pub told-scope : (scopes : List Scope) (nest : List ℕ) (vars : List Numbered) (known : List Code) (name : List ℕ) (number : ℕ) → IsHead scopes nest vars → number ≡ length scopes + 1
    → told (scopes ++ scope_in scopes (innermost nest) name ∷ []) (nest ++ number ∷ []) vars known ≡ with_scope (told scopes nest vars known) name
told-scope scopes nest vars known name number is at =
    let one : Scope = scope_in scopes (innermost nest) name in
    let all : List Scope = scopes ++ one ∷ [] in
    let path : one.path ≡ path_in (scope_of (map (path_at (paths_of scopes)) nest)) name = ap (λ path. path_in path name) (scope_of-nest (paths_of scopes) nest) in
    let within : All (λ number. number ≤ length scopes) nest = λ k d below. (is.opened k d below).within in
    let nests : map (path_at (paths_of all)) (nest ++ number ∷ []) ≡ map (path_at (paths_of scopes)) nest ++ path_in (scope_of (map (path_at (paths_of scopes)) nest)) name ∷ [] =
    map-append (path_at (paths_of all)) nest (number ∷ []) ∙ ap (λ front. front ++ path_at (paths_of all) number ∷ []) (nest-same scopes (one ∷ []) nest within)
    ∙ ap (λ path. map (path_at (paths_of scopes)) nest ++ path ∷ []) (path-last scopes one number at ∙ path) in
    let paths : paths_of all ≡ paths_of scopes ++ path_in (scope_of (map (path_at (paths_of scopes)) nest)) name ∷ [] =
    map-append (λ (scope : Scope). scope.path) scopes (one ∷ []) ∙ ap (λ path. paths_of scopes ++ path ∷ []) path in
    let vars_same = vars-same scopes (one ∷ []) vars is.placed in
    λ i. record { nest = nests i; scopes = paths i; vars = vars_same i; codes = known }

-- a variable is declared
pub told-var : (scopes : List Scope) (nest : List ℕ) (vars : List Numbered) (known : List Code) (counted : Bool) (size code : ℕ) (reference : List ℕ)
    → told scopes nest (vars ++ record { scope = innermost nest; name = name_of reference; code = code; size = size; counted = counted } ∷ []) known
    ≡ with_var counted size code reference (told scopes nest vars known)
told-var scopes nest vars known counted size code reference =
    let one : Numbered = record { scope = innermost nest; name = name_of reference; code = code; size = size; counted = counted } in
    let at : List ℕ → Var = λ path. record { scope = path; name = name_of reference; code = code; size = size; counted = counted } in
    let same : map (placed (paths_of scopes)) (vars ++ one ∷ []) ≡ map (placed (paths_of scopes)) vars ++ at (scope_of (map (path_at (paths_of scopes)) nest)) ∷ [] =
    map-append (placed (paths_of scopes)) vars (one ∷ []) ∙ ap (λ path. map (placed (paths_of scopes)) vars ++ at path ∷ []) (scope_of-nest (paths_of scopes) nest) in
    λ i. record { nest = map (path_at (paths_of scopes)) nest; scopes = paths_of scopes; vars = same i; codes = known }
