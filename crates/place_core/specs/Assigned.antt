-- The names that statements assign.
use Rattle.std.specs.Prelude.{Bool, List, [], ◌∷◌, ◌++◌, if◌then◌else◌}
use Rattle.exec_core.specs.Block as blocks
use Rattle.exec_core.specs.Block.{Name, Now}
use Rattle.design_core.specs.Design as design
use Rattle.design_core.specs.Design.{Stmt}
use Rattle.design_core.specs.Heads.{target_name, let_name, listed_name}
use Rattle.design_exec.specs.Processes as processes
-- what references to names point to
pub use Rattle.design_core.specs.Heads.{names_at}

-- whether a name is assigned by `=` or `let`
abbrev pub assigned_by : Bool → design.Stmt → Name → Bool
assigned_by clocked s x = blocks.assigns (processes.stmt_of clocked s) (Now x)

abbrev pub assigned_in : Bool → design.Body → Name → Bool
assigned_in clocked b x = blocks.body_assigns (processes.body_of clocked b) (Now x)

abbrev pub assigned_else : Bool → design.Else → Name → Bool
assigned_else clocked e x = blocks.body_assigns (processes.else_of clocked e) (Now x)

-- the target of a statement behind others, without those inside it; an assignment of a clocked block is none
abbrev pub adds_target : Bool → List Name → Stmt → List Name
adds_target clocked names s = if clocked then names ++ listed_name (let_name s) else (names ++ listed_name (target_name s)) ++ listed_name (let_name s)

abbrev pub adds_targets : Bool → List Name → List Stmt → List Name
adds_targets clocked names [] = names
adds_targets clocked names (s ∷ rest) = adds_targets clocked (adds_target clocked names s) rest
