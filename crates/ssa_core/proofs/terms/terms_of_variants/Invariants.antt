use Rattle.std.proofs.Common.{map, take}
use Rattle.design_core.specs.View.{variant_of}
use Rattle.ssa_core.specs.Processes.{TellVariants, lists_of}
use Rattle.ssa_core.proofs.terms.terms_of_variants.Given as goal

abbrev pub invariant-loop-variant : goal.invariant-loop-variant
invariant-loop-variant l = TellVariants (lists_of l.all.items) (map variant_of (take l.variant-index l.variants))
