-- The numbers that are read, as the JSON library has them.
use Rattle.serde_json.specs.Data.{Num, unsigned, negative, float}
use Rattle.symtab_json.specs.declared.json_number.Number.{Number}
use Rattle.symtab_json.specs.declared.json_number.Number.TheVariants.{Unsigned, Negative, Float}

-- the number that one is
abbrev pub num_of : Number → Num
num_of (Unsigned n) = unsigned n
num_of (Negative z) = negative z
num_of (Float x) = float x
