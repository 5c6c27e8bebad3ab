-- The samples of a table's nodes that a value change dump file tells in one of its scopes.
use Rattle.std.specs.Prelude.{ℕ, List, if◌then◌else◌}
use Rattle.bv_core.specs.declared.reference.Sample.TheVariants.{Unknown}
use Rattle.symtab.specs.declared.parts.TableParts.{TableParts}
use Rattle.trace_core.specs.Samples.{Samples}
use Rattle.vcd_read.specs.Meaning.{Meaning}
use Rattle.vcd_samples.specs.Samples.{samples_told}
use Rattle.vcd_trace.specs.Named.{is_named, node_names}

-- those of the nodes that a cell or an enable names; the others are not known
abbrev pub only_named : TableParts → Samples → Samples
only_named parts told = record {
  cycles = told.cycles;
  nodes = told.nodes;
  sample = λ t n. if is_named parts n then told.sample t n else Unknown;
}

-- in each cycle of the scope's clock, of each node that is named, the value of the variable of its name before the clock rises
abbrev pub samples_over : Meaning → TableParts → List ℕ → Samples
samples_over m parts scope = only_named parts (samples_told m scope (node_names parts))
