-- The net and the table that stand behind what a command writes.
use Rattle.std.specs.Prelude.{ℕ, length}
use Rattle.design_core.specs.Design.{Design}
use Rattle.net_core.specs.Nets.{NetParts}
use Rattle.symtab.specs.declared.parts.TableParts.{TableParts}
use Rattle.world_core.specs.declared.mode.Mode.{Mode}
use Rattle.trim_core.specs.Trimmed.{IsTrimmed}
use Rattle.dbg_app.specs.Command.{Task, Trail, Verilog, Symbols, Waves, Session, Command}
use Rattle.dbg_app.specs.Answers.{Contents, HoldsDesign}

-- a design of which n signals are driven has a net of the trees that the mode keeps, and a table that tells it by them
abbrev pub HasNet : Design → ℕ → Mode → Type 0
HasNet d n mode = (net : NetParts) × (parts : TableParts) × IsTrimmed d n mode net parts

-- so it is where a symbol file, waves or a session is written
abbrev pub StandsOnNet : Task → Design → ℕ → Mode → Type 0
StandsOnNet Trail d n mode = Unit {0}
StandsOnNet Verilog d n mode = Unit {0}
StandsOnNet Symbols d n mode = HasNet d n mode
StandsOnNet Waves d n mode = HasNet d n mode
StandsOnNet Session d n mode = HasNet d n mode

-- and so it is of the design that the files of a command hold
abbrev pub CompilesCommand : Contents → Command → Type 0
CompilesCommand files command = (d : Design) (holds : HoldsDesign files command d) → StandsOnNet command.task d (length holds.accepted.1.pairs) command.mode
