-- How much a list of instances holds.
use Rattle.std.specs.Prelude.{ℕ, ◌+◌, Bool, true, ◌&&◌, List, [], ◌∷◌, length, nat_lt}
use Rattle.design_core.specs.Sizes.{conns_parts, blocks_parts}
use Rattle.design_core.specs.WellFormed.{regs}
use Rattle.elab_core.specs.Elaborated.{Child, Instance}
use Rattle.elab_core.specs.Design.{statements_where}

-- the statements of all variants
abbrev pub all_statements : List Instance → ℕ
all_statements variants = statements_where (λ v. true) variants

-- the signals of all instances
abbrev pub all_signals : List Instance → ℕ
all_signals [] = 0
all_signals (i ∷ instances) = length i.content.signals + all_signals instances

-- the parts of the connections of children
abbrev pub children_parts : List Child → ℕ
children_parts [] = 0
children_parts (c ∷ children) = conns_parts c.conns + children_parts children

-- the parts of the expressions of all instances
abbrev pub all_parts : List Instance → ℕ
all_parts [] = 0
all_parts (i ∷ instances) = children_parts i.content.children + blocks_parts i.content.blocks + all_parts instances

-- the registers of all instances
abbrev pub all_registers : List Instance → ℕ
all_registers [] = 0
all_registers (i ∷ instances) = regs i.content.signals + all_registers instances

-- the modules of all stand at places below a number
abbrev pub places_below : ℕ → List Instance → Bool
places_below modules [] = true
places_below modules (v ∷ variants) = nat_lt v.place modules && places_below modules variants
