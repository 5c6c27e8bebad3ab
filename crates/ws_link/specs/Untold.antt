-- What a link means that tells nothing of what passed through it.
use Rattle.std.specs.Prelude.{None}
use Rattle.link_edge.specs.Links.{Meaning}
use Rattle.ws_link.specs.declared.counts.Counts.{Counts}

-- its counts, and whether it was shut
abbrev pub untold : Counts → Meaning
untold counts = record {
  polls = None;
  received = None;
  sent = None;
  faults = counts.faults;
  idles = counts.idles;
  ends = counts.ends;
  shut = counts.shut;
}
