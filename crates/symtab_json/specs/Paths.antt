-- The names of the parts of a symbol file.
use Rattle.std.specs.Prelude.{ℕ, List, [], codes}
use Rattle.symtab_json.specs.declared.fault.Part.{Part}
use Rattle.symtab_json.specs.declared.fault.Part.TheVariants as part

-- the key of a part; empty for the whole
abbrev pub path_of : Part → List ℕ
path_of part.Whole = []
path_of part.Version = codes "version"
path_of part.Instances = codes "instances"
path_of part.Nodes = codes "nodes"
path_of part.Slots = codes "slots"
path_of part.Top = codes "top"
path_of part.Variants = codes "variants"
