-- How the reading of a design's files ends, where one of them was not read.
use Rattle.io_edge.specs.declared.bounded.ReadEnd.{ReadEnd}
use Rattle.io_edge.specs.declared.bounded.ReadEnd.TheVariants as read
use Rattle.project_read.specs.declared.end.ProjectEnd.{ProjectEnd}
use Rattle.project_read.specs.declared.end.ProjectEnd.TheVariants.{ReadFault, NoMemory}

abbrev pub end_of : ReadEnd → ProjectEnd
end_of read.Failed = ReadFault
end_of read.NoMemory = NoMemory
