-- A command of the program, without where its words lie in memory.
use Rattle.std.specs.Prelude.{List, ℕ, Option, Some, None, drop}
use Rattle.std.specs.List.{filter_map}
use Rattle.design_core.specs.Design.{Gens}
use Rattle.dbg_app.specs.declared.command.Command as code_command
use Rattle.dbg_app.specs.declared.command.Task as code_task
use Rattle.dbg_app.specs.declared.command.Task.TheVariants as tasks
use Rattle.dbg_app.specs.declared.command.OfDesign as code_alone
use Rattle.dbg_app.specs.declared.command.OfDesign.TheVariants as alone
use Rattle.dbg_app.specs.declared.command.OverRows as code_over
use Rattle.dbg_app.specs.declared.command.Form as code_form
use Rattle.dbg_app.specs.declared.command.Form.TheVariants as forms
use Rattle.dbg_app.specs.declared.command.OverRows.TheVariants as over
use Rattle.dbg_app.specs.Command.{Task, Trail, Verilog, Symbols, Waves, Session, Form, Over, Alone, ByRequests, Command, argument_of}

-- what the words from this place on give the top
abbrev pub given_in : ℕ → List (List ℕ) → Gens
given_in first words = filter_map argument_of (drop first words)

abbrev pub alone_as : code_alone.OfDesign → Task
alone_as alone.Verilog = Verilog
alone_as alone.Symbols = Symbols

abbrev pub over_as : code_over.OverRows → Task
over_as over.Trail = Trail
over_as over.Waves = Waves

abbrev pub form_as : code_form.Form → Form
form_as (forms.Alone task) = Alone (alone_as task)
form_as (forms.Over task) = Over (over_as task)
form_as forms.ByRequests = ByRequests

abbrev pub task_as : code_task.Task → Task
task_as (tasks.Alone task) = alone_as task
task_as (tasks.Over task stimulus) = over_as task
task_as (tasks.Session stimulus requests) = Session

abbrev pub stimulus_as : code_task.Task → Option (List ℕ)
stimulus_as (tasks.Alone task) = None
stimulus_as (tasks.Over task stimulus) = Some stimulus.now
stimulus_as (tasks.Session stimulus requests) = Some stimulus.now

abbrev pub requests_as : code_task.Task → Option (List ℕ)
requests_as (tasks.Alone task) = None
requests_as (tasks.Over task stimulus) = None
requests_as (tasks.Session stimulus requests) = Some requests.now

abbrev pub command_as : code_command.Command → Command
command_as command = record {
  task = task_as command.task;
  mode = command.mode;
  source = command.source.now;
  stimulus = stimulus_as command.task;
  requests = requests_as command.task;
  top = record { name = command.top.now; given = given_in command.first command.words.now };
}
