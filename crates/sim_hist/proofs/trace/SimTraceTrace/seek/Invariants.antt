use Rattle.sim_hist.proofs.trace.SimTraceTrace.seek.Given as goal

-- the ledger of a count that nobody reads
abbrev pub ghosts-seek_blank : goal.ghosts-seek_blank
ghosts-seek_blank a = record { name = a.blank.name; parts = a.blank.parts }
