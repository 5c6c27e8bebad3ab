-- How scopes and variables are kept: a scope by its name and the number of the one around it, a variable by the number
-- of its scope.
use Rattle.std.specs.Prelude.{◌≡◌, ◌≤◌, ◌<◌, ◌-◌, ℕ, Bool, List, [], ◌∷◌, ◌++◌, length, take, map, slice_get, unwrap_or, get_or, All}
use Rattle.std.specs.List.Sorted.{IsNonDecreasingBy}
use Rattle.vcd_read.specs.declared.scopes.ScopeRow.{ScopeRow}
use Rattle.vcd_read.specs.declared.variable.VcdVar.{VcdVar}
use Rattle.vcd_read.specs.declared.vars.VarRow.{VarRow}
use Rattle.vcd_read.specs.Head.{Var, path_in}
use Rattle.vcd_read.specs.Scopes.{path_at}

-- a scope: the number of the one around it, and its path
pub record Scope : Type 0 where
  pub parent : ℕ
  pub path : List ℕ

abbrev pub paths_of : List Scope → List (List ℕ)
paths_of scopes = map (λ scope. scope.path) scopes

-- the scope of this name in the one of this number, behind these scopes
abbrev pub scope_in : List Scope → ℕ → List ℕ → Scope
scope_in scopes parent name = record { parent = parent; path = path_in (path_at (paths_of scopes) parent) name }

-- the scopes of these names and rows, behind these
abbrev pub scopes_of : List Scope → List (List ℕ) → List ScopeRow → List Scope
scopes_of before [] rows = before
scopes_of before (name ∷ names) [] = before
scopes_of before (name ∷ names) (row ∷ rows) = scopes_of (before ++ scope_in before row.parent name ∷ []) names rows

-- a scope may be open once so many were opened: each of those behind it stands in it, or in one behind it
pub record IsOpen (scopes : List Scope) (number count : ℕ) : Type 0 where
  pub within : number ≤ count
  pub inner : (k : ℕ) (d : Scope) → number ≤ k → k < count → number ≤ (get_or scopes k d).parent

-- each scope was opened in one that was open
abbrev pub AreNested : List Scope → Type 0
AreNested scopes = (k : ℕ) (d : Scope) → k < length scopes → IsOpen scopes (get_or scopes k d).parent k

-- names and rows of scopes
pub record AreScopes (names : List (List ℕ)) (rows : List ScopeRow) : Type 0 where
  pub same : length names ≡ length rows
  pub lens : map (λ row. row.len) rows ≡ map (λ scope. length scope.path) (scopes_of [] names rows)
  pub nested : AreNested (scopes_of [] names rows)

-- a path is a front of a text
abbrev pub Begins : List ℕ → List ℕ → Type 0
Begins path text = take (length path) text ≡ path

-- of the scopes that may be open once so many were opened, those up to this number have paths that begin the text, and
-- no others
pub record IsLastBegun (scopes : List Scope) (text : List ℕ) (count last : ℕ) : Type 0 where
  pub within : last ≤ count
  pub begins : (number : ℕ) → IsOpen scopes number count → number ≤ last → Begins (path_at (paths_of scopes) number) text
  pub others : (number : ℕ) → IsOpen scopes number count → Begins (path_at (paths_of scopes) number) text → number ≤ last

-- a variable, by the number of its scope
pub record Numbered : Type 0 where
  pub scope : ℕ
  pub name : List ℕ
  pub code : ℕ
  pub size : ℕ
  pub counted : Bool

abbrev pub numbered : VcdVar → Numbered
numbered var = record { scope = var.scope; name = var.name.now; code = var.code; size = var.size; counted = var.counted }

-- the variables of these names and rows
abbrev pub numbered_of : List (List ℕ) → List VarRow → List Numbered
numbered_of [] rows = []
numbered_of (name ∷ names) [] = []
numbered_of (name ∷ names) (row ∷ rows) =
    record { scope = row.scope; name = name; code = row.code; size = row.size; counted = row.counted } ∷ numbered_of names rows

-- a variable, where the scopes have these paths
abbrev pub placed : List (List ℕ) → Numbered → Var
placed paths var = record { scope = path_at paths var.scope; name = var.name; code = var.code; size = var.size; counted = var.counted }

-- each variable stands in a scope that there is
abbrev pub ArePlaced : ℕ → List Numbered → Type 0
ArePlaced scopes vars = All (λ var. var.scope ≤ scopes) vars

-- the innermost of the scopes that are open; 0 outside every scope
abbrev pub innermost : List ℕ → ℕ
innermost nest = unwrap_or (slice_get nest (length nest - 1)) 0

-- the numbers of the scopes that are open, and variables
pub record IsHead (scopes : List Scope) (nest : List ℕ) (vars : List Numbered) : Type 0 where
  pub opened : All (λ number. IsOpen scopes number (length scopes)) nest
  pub rising : IsNonDecreasingBy (λ number. number) nest
  pub placed : ArePlaced (length scopes) vars
