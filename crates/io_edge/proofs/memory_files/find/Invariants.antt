use Rattle.std.proofs.Common.{◌≡◌, drop}
use Rattle.io_edge.specs.Files.{file_of, contents}
use Rattle.io_edge.proofs.memory_files.find.Given as goal

-- no file before this one has the name
abbrev pub invariant-loop-file : goal.invariant-loop-file
invariant-loop-file l = file_of (contents l.files) l.name ≡ file_of (contents (drop l.file-index l.files)) l.name
