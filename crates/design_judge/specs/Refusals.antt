-- The refusals of a source and of a stimulus: the number, the name and the fields of each, and its line.
use Rattle.std.specs.Prelude.{ℕ, ◌==◌, Bool, true, false, not, List, [], ◌++◌, codes, if◌then◌else◌}
use Rattle.places.specs.Places.{file_of, line_in}
use Rattle.std.specs.List.{flat_map}
use Rattle.std.specs.Fmt.{decimal}
use Rattle.gen_text.specs.declared.TextFault.{TextFault}
use Rattle.gen_text.specs.declared.TextFault.TheVariants as text_faults
use Rattle.elab_core.specs.declared.fault.Count.{Count}
use Rattle.elab_core.specs.declared.fault.Count.TheVariants as counts
use Rattle.elab_core.specs.declared.fault.ElabFault.{ElabFault}
use Rattle.elab_core.specs.declared.fault.ElabFault.TheVariants as elab_faults
use Rattle.elab_core.specs.Results as elab_results
use Rattle.check_core.specs.declared.fault.Spot.{Spot}
use Rattle.check_core.specs.declared.fault.CheckFault.{CheckFault}
use Rattle.check_core.specs.declared.fault.CheckFault.TheVariants as check_faults
use Rattle.check_core.specs.Faults as check_results
use Rattle.exec_core.specs.Block.{Name}
use Rattle.stim_text.specs.declared.StimFault.{StimFault}
use Rattle.stim_text.specs.declared.StimFault.TheVariants as stim_faults
use Rattle.design_judge.specs.declared.design_fault.DesignFault.{DesignFault}
use Rattle.design_judge.specs.declared.design_fault.DesignFault.TheVariants.{Text, TooManyFiles, Elaboration, Check, CombLoop}
use Rattle.design_judge.specs.Loops.{behind_blank}

-- ---- the numbers and the names; want of memory, which refuses nothing, has 0 and no name

abbrev pub text_number : TextFault → ℕ
text_number text_faults.TooLong = 1
text_number (text_faults.NotAscii offset) = 2
text_number (text_faults.BadToken line) = 3
text_number (text_faults.Syntax line) = 4
text_number text_faults.NoMemory = 0

abbrev pub text_name : TextFault → List ℕ
text_name text_faults.TooLong = codes "TooLong"
text_name (text_faults.NotAscii offset) = codes "NotAscii"
text_name (text_faults.BadToken line) = codes "BadToken"
text_name (text_faults.Syntax line) = codes "Syntax"
text_name text_faults.NoMemory = []

abbrev pub elab_number : ElabFault → ℕ
elab_number (elab_faults.UnknownModule line x) = 5
elab_number (elab_faults.UnknownParameter line x) = 6
elab_number (elab_faults.ElabRange line) = 7
elab_number (elab_faults.TooDeep line x) = 8
elab_number (elab_faults.TooLarge line what limit) = 9
elab_number elab_faults.NoMemory = 0

abbrev pub elab_name : ElabFault → List ℕ
elab_name (elab_faults.UnknownModule line x) = codes "UnknownModule"
elab_name (elab_faults.UnknownParameter line x) = codes "UnknownParameter"
elab_name (elab_faults.ElabRange line) = codes "ElabRange"
elab_name (elab_faults.TooDeep line x) = codes "TooDeep"
elab_name (elab_faults.TooLarge line what limit) = codes "TooLarge"
elab_name elab_faults.NoMemory = []

abbrev pub check_number : CheckFault → ℕ
check_number (check_faults.UnknownName at) = 10
check_number (check_faults.DuplicateName at) = 11
check_number (check_faults.BadWidth at) = 12
check_number (check_faults.WidthMismatch at have want) = 13
check_number (check_faults.UnknownPort at) = 14
check_number (check_faults.UnboundInput at) = 15
check_number (check_faults.TwoDrivers at first) = 16
check_number (check_faults.Undriven at) = 17
check_number (check_faults.Latch at) = 18
check_number (check_faults.ReadBeforeWrite at) = 19
check_number check_faults.NoMemory = 0

abbrev pub check_name : CheckFault → List ℕ
check_name (check_faults.UnknownName at) = codes "UnknownName"
check_name (check_faults.DuplicateName at) = codes "DuplicateName"
check_name (check_faults.BadWidth at) = codes "BadWidth"
check_name (check_faults.WidthMismatch at have want) = codes "WidthMismatch"
check_name (check_faults.UnknownPort at) = codes "UnknownPort"
check_name (check_faults.UnboundInput at) = codes "UnboundInput"
check_name (check_faults.TwoDrivers at first) = codes "TwoDrivers"
check_name (check_faults.Undriven at) = codes "Undriven"
check_name (check_faults.Latch at) = codes "Latch"
check_name (check_faults.ReadBeforeWrite at) = codes "ReadBeforeWrite"
check_name check_faults.NoMemory = []

-- those of a source
abbrev pub design_number : DesignFault → ℕ
design_number (Text file fault) = text_number fault
design_number (TooManyFiles line x) = 21
design_number (Elaboration fault) = elab_number fault
design_number (Check fault) = check_number fault
design_number (CombLoop paths) = 20

abbrev pub design_name : DesignFault → List ℕ
design_name (Text file fault) = text_name fault
design_name (TooManyFiles line x) = codes "TooManyFiles"
design_name (Elaboration fault) = elab_name fault
design_name (Check fault) = check_name fault
design_name (CombLoop paths) = codes "CombLoop"

-- and those of a stimulus
abbrev pub stimulus_number : StimFault → ℕ
stimulus_number stim_faults.HeaderMismatch = 1
stimulus_number (stim_faults.BadRow row) = 2
stimulus_number (stim_faults.DoesNotFit row column) = 3
stimulus_number stim_faults.TooLong = 4
stimulus_number stim_faults.NoMemory = 0

abbrev pub stimulus_name : StimFault → List ℕ
stimulus_name stim_faults.HeaderMismatch = codes "HeaderMismatch"
stimulus_name (stim_faults.BadRow row) = codes "BadRow"
stimulus_name (stim_faults.DoesNotFit row column) = codes "DoesNotFit"
stimulus_name stim_faults.TooLong = codes "TooLong"
stimulus_name stim_faults.NoMemory = []

-- a fault of a source that is want of memory
abbrev pub is_no_memory : DesignFault → Bool
is_no_memory (Text file text_faults.TooLong) = false
is_no_memory (Text file (text_faults.NotAscii offset)) = false
is_no_memory (Text file (text_faults.BadToken line)) = false
is_no_memory (Text file (text_faults.Syntax line)) = false
is_no_memory (Text file text_faults.NoMemory) = true
is_no_memory (TooManyFiles line x) = false
is_no_memory (Elaboration fault) = not (elab_results.is_fault fault)
is_no_memory (Check fault) = not (check_results.is_fault fault)
is_no_memory (CombLoop paths) = false

-- ---- the fields, each behind its name

abbrev pub field : List ℕ → List ℕ → List ℕ
field name value = codes " " ++ name ++ codes " " ++ value

-- the number of a file, where it is not 0
abbrev pub file_field : ℕ → List ℕ
file_field file = if file == 0 then [] else field (codes "file") (decimal file)

-- a place: its file, where that is not 0, and its line
abbrev pub place_fields : ℕ → List ℕ
place_fields at = file_field (file_of at) ++ field (codes "line") (decimal (line_in at))

abbrev pub line_and_name : ℕ → Name → List ℕ
line_and_name at x = place_fields at ++ field (codes "name") x

-- of a text, in the file of this number
abbrev pub text_fields : ℕ → TextFault → List ℕ
text_fields file text_faults.TooLong = file_field file
text_fields file (text_faults.NotAscii offset) = file_field file ++ field (codes "offset") (decimal offset)
text_fields file (text_faults.BadToken line) = place_fields line
text_fields file (text_faults.Syntax line) = place_fields line
text_fields file text_faults.NoMemory = []

-- what elaboration counts
abbrev pub count_name : Count → List ℕ
count_name counts.Instances = codes "instances"
count_name counts.Turns = codes "turns"
count_name counts.Statements = codes "statements"
count_name counts.Signals = codes "signals"
count_name counts.Parts = codes "parts"
count_name counts.Cells = codes "cells"

abbrev pub elab_fields : ElabFault → List ℕ
elab_fields (elab_faults.UnknownModule line x) = line_and_name line x
elab_fields (elab_faults.UnknownParameter line x) = line_and_name line x
elab_fields (elab_faults.ElabRange line) = place_fields line
elab_fields (elab_faults.TooDeep line x) = line_and_name line x
elab_fields (elab_faults.TooLarge line what limit) = place_fields line ++ field (codes "what") (count_name what) ++ field (codes "limit") (decimal limit)
elab_fields elab_faults.NoMemory = []

-- a place in a design
abbrev pub spot_fields : Spot → List ℕ
spot_fields at = line_and_name at.line at.name ++ field (codes "instance") at.instance

-- with the width that stands there and the one that is needed, or with the line of the first driver, which stands in the same file
abbrev pub check_fields : CheckFault → List ℕ
check_fields (check_faults.UnknownName at) = spot_fields at
check_fields (check_faults.DuplicateName at) = spot_fields at
check_fields (check_faults.BadWidth at) = spot_fields at
check_fields (check_faults.WidthMismatch at have want) = spot_fields at ++ field (codes "have") (decimal have) ++ field (codes "want") (decimal want)
check_fields (check_faults.UnknownPort at) = spot_fields at
check_fields (check_faults.UnboundInput at) = spot_fields at
check_fields (check_faults.TwoDrivers at first) = spot_fields at ++ field (codes "first") (decimal (line_in first))
check_fields (check_faults.Undriven at) = spot_fields at
check_fields (check_faults.Latch at) = spot_fields at
check_fields (check_faults.ReadBeforeWrite at) = spot_fields at
check_fields check_faults.NoMemory = []

-- of a loop, the paths of its signals, which have no names of fields
abbrev pub design_fields : DesignFault → List ℕ
design_fields (Text file fault) = text_fields file fault
design_fields (TooManyFiles line x) = line_and_name line x ++ field (codes "limit") (decimal 64)
design_fields (Elaboration fault) = elab_fields fault
design_fields (Check fault) = check_fields fault
design_fields (CombLoop paths) = flat_map behind_blank paths

abbrev pub stimulus_fields : StimFault → List ℕ
stimulus_fields stim_faults.HeaderMismatch = []
stimulus_fields (stim_faults.BadRow row) = field (codes "row") (decimal row)
stimulus_fields (stim_faults.DoesNotFit row column) = field (codes "row") (decimal row) ++ field (codes "column") (decimal column)
stimulus_fields stim_faults.TooLong = []
stimulus_fields stim_faults.NoMemory = []

-- ---- the lines: what is refused, the number and the name, the fields

abbrev pub line_head : List ℕ → ℕ → List ℕ → List ℕ
line_head what number name = what ++ codes " fault " ++ decimal number ++ codes " " ++ name

abbrev pub fault_line : List ℕ → ℕ → List ℕ → List ℕ → List ℕ
fault_line what number name fields = line_head what number name ++ fields ++ codes "\n"

abbrev pub design_line : DesignFault → List ℕ
design_line fault = fault_line (codes "design") (design_number fault) (design_name fault) (design_fields fault)

abbrev pub stimulus_line : StimFault → List ℕ
stimulus_line fault = fault_line (codes "stimulus") (stimulus_number fault) (stimulus_name fault) (stimulus_fields fault)
