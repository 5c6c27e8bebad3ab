use Rattle.std.proofs.Common.{◌≡◌, drop, map}
use Rattle.gen_tree.specs.View.{import_of}
use Rattle.project_read.specs.Names.{names_in, numbered}
use Rattle.project_read.proofs.names.number_all.Given as goal

-- the imports that are left are numbered behind those before
abbrev pub invariant-loop-import : goal.invariant-loop-import
invariant-loop-import l =
    numbered l.folder (names_in l.initial.names.items) (map import_of l.imports) ≡ numbered l.folder (names_in l.names.items) (map import_of (drop l.import-index l.imports))
