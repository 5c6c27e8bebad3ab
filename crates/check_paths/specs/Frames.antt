-- Bits of names as the walk keeps them: those of one branch, and those of branches inside each other.
use Rattle.std.specs.Prelude.{ℕ, Bool, true, false, ◌&&◌, ◌||◌, List, [], ◌∷◌, Option, Some, None, bytes_eq}
use Rattle.bit_sets.specs.declared.bit_set.BitSet.{BitSet}
use Rattle.bit_sets.specs.BitSets.{set_of}
use Rattle.names.specs.Known.{Name}
use Rattle.names.specs.Maps.{value_of}
use Rattle.check_core.specs.Paths.{Bits}

abbrev pub held : Option BitSet → ℕ → Bool
held None = λ i. false
held (Some set) = set_of set

abbrev pub bits_of : List (Name × BitSet) → Bits
bits_of entries = λ y i. held (value_of entries y) i

abbrev pub nothing : Bits
nothing = λ y i. false

abbrev pub either : Bits → Bits → Bits
either first second = λ y i. first y i || second y i

abbrev pub both : Bits → Bits → Bits
both first second = λ y i. first y i && second y i

-- bits of a name as well
abbrev pub with_bits : Name → (ℕ → Bool) → Bits → Bits
with_bits x set bits = λ y i. (bytes_eq y x && set i) || bits y i

-- those of one name
abbrev pub bits_at : Bits → Name → ℕ → Bool
bits_at bits x = λ i. bits x i

-- those of frames together
abbrev pub seen : List (List (Name × BitSet)) → Bits
seen [] = λ y i. false
seen (frame ∷ rest) = λ y i. bits_of frame y i || seen rest y i

-- those of the frames around the branch, and of its own
abbrev pub all_bits : List (List (Name × BitSet)) × List (Name × BitSet) → Bits
all_bits frames = either (seen frames.0) (bits_of frames.1)

-- what arms have in common with the rest of a `case`; nothing where there is no arm
abbrev pub with_rest : Option (List (Name × BitSet)) → Bits → Bits
with_rest None rest = nothing
with_rest (Some frame) rest = both (bits_of frame) rest

-- those of the arms so far; before the first arm each bit
abbrev pub kept : Option (List (Name × BitSet)) → Bits
kept None = λ y i. true
kept (Some frame) = bits_of frame
