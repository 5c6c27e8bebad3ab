use Rattle.std.proofs.Common.{subst, map}
use Rattle.design_core.specs.View.{block_of}
use Rattle.names.specs.Known.{Known, has}
use Rattle.check_core.specs.Faults.{Tells, first_of}
use Rattle.check_core.specs.Names.{duplicate_in_block}
use Rattle.check_names.proofs.duplicate.duplicate_let.Goals as goal

pub returns : goal.returns
returns c = subst (λ (k : Known). Tells c.duplicate_in_blocks.result (first_of (duplicate_in_block k) (map block_of c.args.variant.now.blocks.items))) c.in_ok-taken.ensures
    (subst (λ l. Tells c.duplicate_in_blocks.result (first_of (duplicate_in_block (has c.in_ok-taken.taken)) (map block_of l))) c.deref.ensures.value c.duplicate_in_blocks.ensures)
