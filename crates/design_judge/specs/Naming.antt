-- The names of the files of a design that is accepted.
use Rattle.std.specs.Prelude.{ℕ, List, Option, Result, Ok, Err, IfSome}
use Rattle.project_read.specs.Names.{names_in}
use Rattle.project_read.specs.Projects.{Contents}
use Rattle.project_read.specs.Asking.{AreNames, AreAllNumbered}
use Rattle.design_judge.specs.declared.accepted.Accepted.{Accepted}
use Rattle.design_judge.specs.declared.accepted.Named.{Named}
use Rattle.design_judge.specs.declared.design_fault.DesignFault.{DesignFault}

-- the design alone
abbrev pub accepted_in : Result Named DesignFault → Result Accepted DesignFault
accepted_in (Ok named) = Ok named.accepted
accepted_in (Err fault) = Err fault

-- these are names of the files of a design; where they are told, all of those that the files number
pub record AreAllNames (told : Option Contents) (src : List ℕ) (names : List (List ℕ)) : Type 0 where
  pub are : AreNames told src names
  pub all : IfSome told (λ files. AreAllNumbered files src names)

abbrev pub NamesFiles : Option Contents → List ℕ → Named → Type 0
NamesFiles told src named = AreAllNames told src (names_in named.names.items)

-- so they are, where the design is accepted
abbrev pub NamesAccepted : Option Contents → List ℕ → Result Named DesignFault → Type 0
NamesAccepted told src (Ok named) = NamesFiles told src named
NamesAccepted told src (Err fault) = Unit {0}
