-- What a symbol file and a value change dump file are judged to be, and what the calls answer for a file.
use Rattle.std.specs.Prelude.{◌≡◌, ◌≢◌, ℕ, ◌<◌, ◌≤◌, List, Option, Some, None, Result, Ok, Err, Vec, length}
use Rattle.std.specs.declared.alloc.Global.{Global}
use Rattle.symtab.specs.declared.parts.TableParts.{TableParts}
use Rattle.symtab.specs.Shape.{IsTable}
use Rattle.symtab_json.specs.declared.fault.TableFault.{TableFault}
use Rattle.symtab_json.specs.declared.fault.TableFault.TheVariants as table_faults
use Rattle.symtab_json.specs.Told.{told_table}
use Rattle.trace_core.specs.Samples.{Samples}
use Rattle.trace_world.specs.Fitting.{FitsTable}
use Rattle.vcd_read.specs.declared.fault.VcdFault.{VcdFault}
use Rattle.vcd_read.specs.declared.fault.VcdFault.TheVariants as vcd_faults
use Rattle.vcd_read.specs.Meaning.{Meaning, meaning}
use Rattle.vcd_trace.specs.declared.fault.BindFault.{BindFault}
use Rattle.vcd_trace.specs.declared.fault.BindFault.TheVariants as bind_faults
use Rattle.vcd_trace.specs.Kept.{Replayed, samples_of}
use Rattle.vcd_trace.specs.Over.{samples_over}
use Rattle.vcd_trace.specs.Refused.{refusal}
use Rattle.trace_judge.specs.declared.trace_fault.TraceFault.{TraceFault}
use Rattle.trace_judge.specs.declared.trace_fault.TraceFault.TheVariants.{Vcd, Bind}

-- ---- the judgement of a value change dump file, for a table and a scope

abbrev pub bound_by : Option BindFault → Samples → Result Samples TraceFault
bound_by None samples = Ok samples
bound_by (Some fault) samples = Err (Bind fault)

-- what was read is bound to the table, unless that is refused
abbrev pub bound_to : TableParts → List ℕ → Meaning → Result Samples TraceFault
bound_to parts scope m = bound_by (refusal m parts scope) (samples_over m parts scope)

abbrev pub told_by : TableParts → List ℕ → Result Meaning VcdFault → Result Samples TraceFault
told_by parts scope (Ok m) = bound_to parts scope m
told_by parts scope (Err fault) = Err (Vcd fault)

-- the samples that a text tells, or the first reason why it tells none: the text is read, and then bound
abbrev pub told_trace : TableParts → List ℕ → List ℕ → Result Samples TraceFault
told_trace parts scope text = told_by parts scope (meaning text)

-- ---- what the calls answer

-- a text was judged: it tells this table, or is refused for this
abbrev pub JudgesTableText : List ℕ → Result TableParts TableFault → Type 0
JudgesTableText text found = told_table text ≡ found

-- a symbol file was judged, by what it holds
abbrev pub JudgesTable : Option (List ℕ) → Result TableParts TableFault → Type 0
JudgesTable file found = (text : List ℕ) × (file ≡ Some text) × JudgesTableText text found

-- the parts keep the rules of a table, and a refusal is not want of memory
abbrev pub IsFitTable : Result TableParts TableFault → Type 0
IsFitTable (Ok parts) = IsTable parts
IsFitTable (Err fault) = fault ≢ table_faults.NoMemory

-- the samples of a trace that was made, or why none was
abbrev pub shown : Result Replayed TraceFault → Result Samples TraceFault
shown (Ok trace) = Ok (samples_of trace)
shown (Err fault) = Err fault

-- what was read was judged
abbrev pub JudgesBinding : Meaning → TableParts → List ℕ → Result Replayed TraceFault → Type 0
JudgesBinding m parts scope found = bound_to parts scope m ≡ shown found

-- a text was judged
abbrev pub JudgesTraceText : List ℕ → TableParts → List ℕ → Result Replayed TraceFault → Type 0
JudgesTraceText text parts scope found = told_trace parts scope text ≡ shown found

-- a value change dump file was judged, by what it holds
abbrev pub JudgesTrace : Option (List ℕ) → TableParts → List ℕ → Result Replayed TraceFault → Type 0
JudgesTrace file parts scope found = (text : List ℕ) × (file ≡ Some text) × JudgesTraceText text parts scope found

abbrev pub IsRefusal : TraceFault → Type 0
IsRefusal (Vcd fault) = fault ≢ vcd_faults.NoMemory
IsRefusal (Bind fault) = fault ≢ bind_faults.NoMemory

-- the trace fits the table, and a refusal is not want of memory
abbrev pub IsFitTrace : TableParts → Result Replayed TraceFault → Type 0
IsFitTrace parts (Ok trace) = FitsTable parts (samples_of trace)
IsFitTrace parts (Err fault) = IsRefusal fault
