-- Stops counted by hand: one in cycle 40 at line 18, then two in cycle 41, at the lines 18 and 39. All are at slot 7, and at the first no
-- watch matches.
use Rattle.std.specs.Prelude.{◌≡◌, ℕ, ◌-◌, ◌^◌, [], ◌∷◌}
use Rattle.listen.specs.declared.note.StopNote.{StopNote}
use Rattle.listen.specs.Pairs.{Heard, after}

abbrev pub stop : ℕ → ℕ → ℕ → StopNote
stop cycle line watches = record { cycle = cycle; slot = 7; line = line; threads = 2; watches = watches }

-- what these stops make of a listener of this kind that has no pairs
abbrev pub heard_by : ℕ → Heard
heard_by kind = after (stop 41 39 2) (after (stop 41 18 1) (after (stop 40 18 0) (record { kind = kind; pairs = [] })))

-- kind 1 has the stops of each line, in the order in which the lines came
abbrev pub counts_lines : Type 0
counts_lines = heard_by 1 ≡ record { kind = 1; pairs = (18, 2) ∷ (39, 1) ∷ [] }

-- kind 2 has the stops of each cycle
abbrev pub counts_cycles : Type 0
counts_cycles = heard_by 2 ≡ record { kind = 2; pairs = (40, 1) ∷ (41, 2) ∷ [] }

-- kind 3 has the stops of each slot where a watch matches
abbrev pub counts_toggles : Type 0
counts_toggles = heard_by 3 ≡ record { kind = 3; pairs = (7, 2) ∷ [] }

-- any other kind has none
abbrev pub counts_nothing : Type 0
counts_nothing = heard_by 4 ≡ record { kind = 4; pairs = [] }

-- the highest count stays
abbrev pub keeps_the_highest : Type 0
keeps_the_highest = after (stop 40 18 0) (record { kind = 1; pairs = (18, 2 ^ 64 - 1) ∷ [] }) ≡ record { kind = 1; pairs = (18, 2 ^ 64 - 1) ∷ [] }
