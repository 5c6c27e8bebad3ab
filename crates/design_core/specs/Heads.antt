-- What a statement is known by, without the statements inside it.
use Rattle.std.specs.Prelude.{List, [], ◌∷◌, Option, Some, None, map}
use Rattle.std.specs.List.{flat_map}
use Rattle.std.specs.Borrow.{Bor}
use Rattle.exec_core.specs.Block.{Name}
use Rattle.design_core.specs.Design.{Expr, Stmt, Assign, Let, If, Case}
use Rattle.design_core.specs.Slots.{Head}

-- its slot, its line, and the generator variables at it
abbrev pub head_of : Stmt → Head
head_of (Assign slot line gens x part e) = record { slot = slot; line = line; gens = gens }
head_of (Let slot line gens x e) = record { slot = slot; line = line; gens = gens }
head_of (If slot line gens c first second) = record { slot = slot; line = line; gens = gens }
head_of (Case slot line gens v arms other) = record { slot = slot; line = line; gens = gens }

-- the name that it assigns by `=` or `<=`
abbrev pub target_name : Stmt → Option Name
target_name (Assign slot line gens x part e) = Some x
target_name (Let slot line gens x e) = None
target_name (If slot line gens c first second) = None
target_name (Case slot line gens v arms other) = None

-- the name that it gives by `let`
abbrev pub let_name : Stmt → Option Name
let_name (Assign slot line gens x part e) = None
let_name (Let slot line gens x e) = Some x
let_name (If slot line gens c first second) = None
let_name (Case slot line gens v arms other) = None

-- its expression: what is assigned, what a `let` names, the condition of an `if`, or the value of a `case`
abbrev pub stmt_value : Stmt → Expr
stmt_value (Assign slot line gens x part e) = e
stmt_value (Let slot line gens x e) = e
stmt_value (If slot line gens c first second) = c
stmt_value (Case slot line gens v arms other) = v

-- a name as a list
abbrev pub listed_name : Option Name → List Name
listed_name None = []
listed_name (Some x) = x ∷ []

-- the names that are given by `let` among statements
abbrev pub let_listed : Stmt → List Name
let_listed s = listed_name (let_name s)

abbrev pub let_names : List Stmt → List Name
let_names stmts = flat_map let_listed stmts

-- what references to names point to
abbrev pub name_at : Option (Bor Name) → Option Name
name_at None = None
name_at (Some r) = Some r.now

abbrev pub names_at : List (Bor Name) → List Name
names_at names = map (λ r. r.now) names
