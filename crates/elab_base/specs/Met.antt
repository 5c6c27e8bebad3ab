-- What was met so far, as the counts of a walk.
use Rattle.std.specs.Prelude.{◌≡◌, ◌≤◌, ℕ, ◌+◌, true, false, Result, Ok, Err, nat_le, max}
use Rattle.elab_core.specs.declared.Count.{Count}
use Rattle.elab_core.specs.declared.Count.TheVariants.{Instances, Turns, Statements, Signals, Parts, Cells}
use Rattle.elab_core.specs.declared.ElabFault.{ElabFault}
use Rattle.elab_core.specs.Walk.{Seen, TooLarge, limit}
use Rattle.elab_core.specs.Results.{fault_of}
use Rattle.elab_base.specs.declared.met.Met.{Met}

abbrev pub met_of : Met → Seen
met_of met = record { instances = met.instances; turns = met.turns; statements = met.statements; signals = met.signals; parts = met.parts }

-- a count is not less than it was, and past its limit only where it was so before
abbrev pub CountUp : Count → ℕ → ℕ → Type 0
CountUp what old new = (old ≤ new) × (new ≤ max old (limit what))

-- so it is of each count
unfoldable pub CountsUp : Met → Met → Type 0
CountsUp old new =
    CountUp Instances old.instances new.instances × CountUp Turns old.turns new.turns × CountUp Statements old.statements new.statements
    × CountUp Signals old.signals new.signals × CountUp Parts old.parts new.parts

-- how many instances were met after one more of this
abbrev pub entered : Count → ℕ → ℕ
entered Instances n = n + 1
entered Turns n = n
entered Statements n = n
entered Signals n = n
entered Parts n = n
entered Cells n = n

-- one more, or too many
abbrev pub CountsOne : Result ℕ ElabFault → ℕ → Count → ℕ → ℕ → Type 0
CountsOne (Ok more) counted what limit line = (nat_le limit counted ≡ false) × (more ≡ counted + 1)
CountsOne (Err fault) counted what limit line = (nat_le limit counted ≡ true) × (fault_of fault ≡ TooLarge line what limit)
