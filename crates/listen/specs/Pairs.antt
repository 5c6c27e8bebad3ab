-- What a listener of stops means, and what a stop makes of it.
use Rattle.std.specs.Prelude.{ℕ, ◌+◌, ◌-◌, ◌^◌, ◌==◌, List, [], ◌∷◌, ◌++◌, if◌then◌else◌, min, nat_lt, length}
use Rattle.std.specs.List.{list_any}
use Rattle.listen.specs.declared.note.StopNote.{StopNote}

-- what a listener means: a kind, and pairs of a key and a count, in the order in which the keys came
pub record Heard : Type 0 where
  pub kind : ℕ
  pub pairs : List (ℕ × ℕ)

-- so many keys are counted
abbrev pub most_keys : ℕ
most_keys = 1024

-- so high a count goes
abbrev pub most_hits : ℕ
most_hits = 2 ^ 64 - 1

-- one more at the key's pair
abbrev pub one_more : ℕ → List (ℕ × ℕ) → List (ℕ × ℕ)
one_more key [] = []
one_more key (pair ∷ pairs) = if key == pair.0 then (pair.0, min (pair.1 + 1) most_hits) ∷ pairs else pair ∷ one_more key pairs

-- the pairs after a stop with this key: one more at the key's pair; a new key goes last with 1, while there is room
abbrev pub counted : ℕ → List (ℕ × ℕ) → List (ℕ × ℕ)
counted key pairs = if list_any (λ pair. key == pair.0) pairs then one_more key pairs else (if nat_lt (length pairs) most_keys then pairs ++ (key, 1) ∷ [] else pairs)

-- the pairs after a stop that counts where a watch matches alone
abbrev pub counted_toggle : StopNote → List (ℕ × ℕ) → List (ℕ × ℕ)
counted_toggle note pairs = if note.watches == 0 then pairs else counted note.slot pairs

-- the pairs after a stop, by the kind: 1 counts by line, 2 by cycle, 3 by slot where a watch matches, and for any other the pairs stay
abbrev pub counted_by : ℕ → StopNote → List (ℕ × ℕ) → List (ℕ × ℕ)
counted_by kind note pairs =
    if kind == 1 then counted note.line pairs else if kind == 2 then counted note.cycle pairs else if kind == 3 then counted_toggle note pairs else pairs

-- what a stop makes of a listener
abbrev pub after : StopNote → Heard → Heard
after note heard = record { kind = heard.kind; pairs = counted_by heard.kind note heard.pairs }
