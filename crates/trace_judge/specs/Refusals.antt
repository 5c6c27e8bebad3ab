-- The refusals of a symbol file and of a value change dump file: the number, the name and the fields of each, and its line.
use Rattle.std.specs.Prelude.{ℕ, List, [], ◌++◌, codes}
use Rattle.std.specs.Fmt.{decimal}
use Rattle.symtab_json.specs.declared.fault.TableFault.{TableFault}
use Rattle.symtab_json.specs.declared.fault.TableFault.TheVariants as table_faults
use Rattle.symtab_json.specs.Paths.{path_of}
use Rattle.vcd_read.specs.declared.fault.VcdFault.{VcdFault}
use Rattle.vcd_read.specs.declared.fault.VcdFault.TheVariants as vcd_faults
use Rattle.vcd_trace.specs.declared.fault.BindFault.{BindFault}
use Rattle.vcd_trace.specs.declared.fault.BindFault.TheVariants as bind_faults
use Rattle.trace_judge.specs.declared.trace_fault.TraceFault.{TraceFault}
use Rattle.trace_judge.specs.declared.trace_fault.TraceFault.TheVariants.{Vcd, Bind}

-- ---- the numbers and the names; want of memory, which refuses nothing, has 0 and no name

abbrev pub table_number : TableFault → ℕ
table_number table_faults.NotJson = 1
table_number (table_faults.BadShape path) = 2
table_number (table_faults.BadReference id size) = 3
table_number (table_faults.Version found) = 4
table_number table_faults.TooLong = 5
table_number table_faults.NoMemory = 0

abbrev pub table_name : TableFault → List ℕ
table_name table_faults.NotJson = codes "NotJson"
table_name (table_faults.BadShape path) = codes "BadShape"
table_name (table_faults.BadReference id size) = codes "BadReference"
table_name (table_faults.Version found) = codes "Version"
table_name table_faults.TooLong = codes "TooLong"
table_name table_faults.NoMemory = []

abbrev pub vcd_number : VcdFault → ℕ
vcd_number vcd_faults.TooLong = 1
vcd_number (vcd_faults.BadWord offset) = 2
vcd_number vcd_faults.CutShort = 3
vcd_number (vcd_faults.UnknownCode offset) = 4
vcd_number (vcd_faults.TooWide offset digits size) = 5
vcd_number (vcd_faults.TimeBack offset old new) = 6
vcd_number vcd_faults.NoEndDefinitions = 7
vcd_number vcd_faults.NoMemory = 0

abbrev pub vcd_name : VcdFault → List ℕ
vcd_name vcd_faults.TooLong = codes "TooLong"
vcd_name (vcd_faults.BadWord offset) = codes "BadWord"
vcd_name vcd_faults.CutShort = codes "CutShort"
vcd_name (vcd_faults.UnknownCode offset) = codes "UnknownCode"
vcd_name (vcd_faults.TooWide offset digits size) = codes "TooWide"
vcd_name (vcd_faults.TimeBack offset old new) = codes "TimeBack"
vcd_name vcd_faults.NoEndDefinitions = codes "NoEndDefinitions"
vcd_name vcd_faults.NoMemory = []

abbrev pub bind_number : BindFault → ℕ
bind_number bind_faults.NoScope = 1
bind_number (bind_faults.MissingSignal x) = 2
bind_number (bind_faults.SizeDiffers x have want) = 3
bind_number bind_faults.NoMemory = 0

abbrev pub bind_name : BindFault → List ℕ
bind_name bind_faults.NoScope = codes "NoScope"
bind_name (bind_faults.MissingSignal x) = codes "MissingSignal"
bind_name (bind_faults.SizeDiffers x have want) = codes "SizeDiffers"
bind_name bind_faults.NoMemory = []

-- what is refused of a value change dump file: it, or its binding
abbrev pub trace_word : TraceFault → List ℕ
trace_word (Vcd fault) = codes "vcd"
trace_word (Bind fault) = codes "bind"

abbrev pub trace_number : TraceFault → ℕ
trace_number (Vcd fault) = vcd_number fault
trace_number (Bind fault) = bind_number fault

abbrev pub trace_name : TraceFault → List ℕ
trace_name (Vcd fault) = vcd_name fault
trace_name (Bind fault) = bind_name fault

-- ---- the fields, each behind its name

abbrev pub field : List ℕ → List ℕ → List ℕ
field name value = codes " " ++ name ++ codes " " ++ value

abbrev pub table_fields : TableFault → List ℕ
table_fields table_faults.NotJson = []
table_fields (table_faults.BadShape path) = field (codes "path") (path_of path)
table_fields (table_faults.BadReference id size) = field (codes "id") (decimal id) ++ field (codes "size") (decimal size)
table_fields (table_faults.Version found) = field (codes "found") (decimal found)
table_fields table_faults.TooLong = []
table_fields table_faults.NoMemory = []

abbrev pub vcd_fields : VcdFault → List ℕ
vcd_fields vcd_faults.TooLong = []
vcd_fields (vcd_faults.BadWord offset) = field (codes "offset") (decimal offset)
vcd_fields vcd_faults.CutShort = []
vcd_fields (vcd_faults.UnknownCode offset) = field (codes "offset") (decimal offset)
vcd_fields (vcd_faults.TooWide offset digits size) = field (codes "offset") (decimal offset) ++ field (codes "digits") (decimal digits) ++ field (codes "size") (decimal size)
vcd_fields (vcd_faults.TimeBack offset old new) = field (codes "offset") (decimal offset) ++ field (codes "old") (decimal old) ++ field (codes "new") (decimal new)
vcd_fields vcd_faults.NoEndDefinitions = []
vcd_fields vcd_faults.NoMemory = []

abbrev pub bind_fields : BindFault → List ℕ
bind_fields bind_faults.NoScope = []
bind_fields (bind_faults.MissingSignal x) = field (codes "name") x
bind_fields (bind_faults.SizeDiffers x have want) = field (codes "name") x ++ field (codes "have") (decimal have) ++ field (codes "want") (decimal want)
bind_fields bind_faults.NoMemory = []

abbrev pub trace_fields : TraceFault → List ℕ
trace_fields (Vcd fault) = vcd_fields fault
trace_fields (Bind fault) = bind_fields fault

-- ---- the lines: what is refused, the number and the name, the fields

abbrev pub line_head : List ℕ → ℕ → List ℕ → List ℕ
line_head what number name = what ++ codes " fault " ++ decimal number ++ codes " " ++ name

abbrev pub fault_line : List ℕ → ℕ → List ℕ → List ℕ → List ℕ
fault_line what number name fields = line_head what number name ++ fields ++ codes "\n"

abbrev pub table_line : TableFault → List ℕ
table_line fault = fault_line (codes "table") (table_number fault) (table_name fault) (table_fields fault)

abbrev pub trace_line : TraceFault → List ℕ
trace_line fault = fault_line (trace_word fault) (trace_number fault) (trace_name fault) (trace_fields fault)
