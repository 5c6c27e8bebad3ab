-- Two traces that agree on all that a table names tell the same world.
use Rattle.std.specs.Prelude.{◌≡◌, ℕ, ◌<◌, true}
use Rattle.symtab.specs.declared.parts.TableParts.{TableParts}
use Rattle.trace_core.specs.Samples.{Samples}
use Rattle.trace_world.specs.Fitting.{TellSame}
use Rattle.vcd_trace.specs.Named.{is_named}

-- as many cycles, and in each of them the same samples of the nodes that a cell or an enable of the table names
pub record SameNamed (parts : TableParts) (v w : Samples) : Type 0 where
  pub cycles : v.cycles ≡ w.cycles
  pub sample : (t n : ℕ) → t < w.cycles → is_named parts n ≡ true → v.sample t n ≡ w.sample t n

abbrev pub SameNamedTellSame : Type 0
SameNamedTellSame = (parts : TableParts) (v w : Samples) → SameNamed parts v w → TellSame parts v w
