use Rattle.std.proofs.Common.{◌≡◌, ◌≤◌, ◌-◌, length, take}
use Rattle.io_edge.specs.Taken.{Appends}
use Rattle.gen_tree.specs.View.{sources_of}
use Rattle.project_read.specs.Names.{names_in}
use Rattle.project_read.proofs.Reading.{Stands}
use Rattle.project_read.proofs.project.read_named.Given as goal

-- the files so far are read, and the names that they number are known
abbrev pub invariant-loop-folder : goal.invariant-loop-folder
invariant-loop-folder g l = record {
  same : g.F.Files.told l.files ≡ g.F.Files.told l.initial.files;
  stands : Stands (g.F.Files.told l.initial.files) l.src (sources_of l.sources.items) (names_in l.names.items);
  within : length l.sources.items ≤ length l.names.items;
  asked : Appends (g.F.Files.asked l.initial.files) (g.F.Files.asked l.files) (take (length l.sources.items) (names_in l.names.items));
  later : g.F.Files.fault_count l.initial.files ≤ g.F.Files.fault_count l.files;
}

abbrev pub decreases-loop-folder : goal.decreases-loop-folder
decreases-loop-folder g l = 64 - length l.sources.items
