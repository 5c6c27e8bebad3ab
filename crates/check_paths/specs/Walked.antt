-- What is assigned on every path so far, bit by bit, while a block is walked.
use Rattle.std.specs.Prelude.{ℕ, Bool, not, ◌||◌, ◌&&◌, if◌then◌else◌, List, [], ◌∷◌, Option, Some, None}
use Rattle.exec_core.specs.Exec.{all_below}
use Rattle.design_core.specs.Design.{Stmt, Body, Else, Arms}
use Rattle.check_core.specs.declared.fault.CheckFault.{CheckFault}
use Rattle.check_core.specs.declared.fault.CheckFault.TheVariants.{Latch}
use Rattle.names.specs.Known.{Name, Known}
use Rattle.check_core.specs.Faults.{spot}
use Rattle.design_core.specs.Heads.{let_name, target_name}
use Rattle.check_core.specs.Names.{with_name}
use Rattle.check_core.specs.Drivers.{Drive}
use Rattle.check_core.specs.Paths.{Bits, skips, body_skips, else_skips, arms_skip, no_arms}

-- the bits of watched names that some path has not assigned
abbrev pub missing : Known → Bits → Bits
missing watched assigned = λ y i. watched y && not (assigned y i)

-- what every path has assigned after a statement and after statements
abbrev pub after_stmt : Bits → Stmt → Bits
after_stmt assigned s = λ y i. assigned y i || not (skips s y i)

abbrev pub after_body : Bits → Body → Bits
after_body assigned b = λ y i. assigned y i || not (body_skips b y i)

-- after both branches of an `if`
abbrev pub after_both : Bits → Body → Else → Bits
after_both assigned first second = λ y i. assigned y i || not (body_skips first y i || else_skips second y i)

-- after a `case`
abbrev pub after_case : Bits → Arms → Else → Bits
after_case assigned arms other = λ y i. assigned y i || not (no_arms arms || (arms_skip arms y i || else_skips other y i))

-- what every path through statements assigns; through what an `else` or a default holds; through each of some arms
abbrev pub assigned_in : Body → Bits
assigned_in b = λ y i. not (body_skips b y i)

abbrev pub else_assigned : Else → Bits
else_assigned e = λ y i. not (else_skips e y i)

abbrev pub arms_assigned : Arms → Bits
arms_assigned arms = λ y i. not (arms_skip arms y i)

-- the own names of statements, one after another: targets, unless the block is clocked, and lets
abbrev pub own_after : Bool → Known → Stmt → Known
own_after clocked known s = if clocked then with_name (let_name s) known else with_name (target_name s) (with_name (let_name s) known)

abbrev pub own_among : Bool → Known → List Stmt → Known
own_among clocked known [] = known
own_among clocked known (s ∷ rest) = own_among clocked (own_after clocked known s) rest

-- a target of which some bit is not among those that every path assigns, in a block of this line
abbrev pub left_out : (Name → ℕ) → Bits → ℕ → Drive → Option CheckFault
left_out widths assigned line d = if all_below (widths d.1) (assigned d.1) then None else Some (Latch (spot line d.1))
