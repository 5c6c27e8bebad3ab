-- The names of files that were read, beside what their design was judged to be.
use Rattle.std.proofs.Common.{◌≡◌, ℕ, List, Option, None, Some, Result, Ok, Err, IfOk, IfSome, Vec, String, Global, sym, ap, subst}
use Rattle.gen_tree.specs.Tree.{Source}
use Rattle.project_read.specs.Names.{names_in}
use Rattle.project_read.specs.Projects.{Contents}
use Rattle.project_read.specs.Asking.{AreAllNumbered}
use Rattle.project_read.specs.Named.{AreNamesOf}
use Rattle.design_judge.specs.Naming.{AreAllNames, NamesAccepted}
use Rattle.design_judge.specs.declared.accepted.Named.{Named}
use Rattle.design_judge.specs.declared.design_fault.DesignFault.{DesignFault}

all_names : (told : Option Contents) (src : List ℕ) (sources : List Source) (names : List (List ℕ)) → AreNamesOf told src sources names → AreAllNames told src names
all_names None src sources names h = record { are = h.are; all = tt }
all_names (Some files) src sources names h = record { are = h.are; all = record { sources = sources; read = h.read; all = h.all } }

pub names_accepted : (told : Option Contents) (src : List ℕ) (sources : List Source) (names : Vec (String Global) Global) (found : Result Named DesignFault) → AreNamesOf told src sources (names_in names.items)
    → IfOk found (λ named. named.names ≡ names) → NamesAccepted told src found
names_accepted told src sources names (Ok named) h e = subst (λ (x : Vec (String Global) Global). AreAllNames told src (names_in x.items)) (sym e) (all_names told src sources (names_in names.items) h)
names_accepted told src sources names (Err fault) h e = tt
