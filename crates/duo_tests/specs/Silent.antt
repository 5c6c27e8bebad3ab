-- A link that tells nothing of what passes through it, never fails, and never ends.
use Rattle.std.specs.Prelude.{ℕ, Bool, None}
use Rattle.link_edge.specs.Links.{Meaning}

abbrev pub silent : ℕ → Bool → Meaning
silent idles shut = record { polls = None; received = None; sent = None; faults = 0; idles = idles; ends = 0; shut = shut }
