use Rattle.std.proofs.Common.{◌≡◌, ◌++◌, map, drop}
use Rattle.std.specs.List.{enumerate_from}
use Rattle.std.specs.Vec.Iter.{into_iter_items}
use Rattle.gen_tree.specs.View.{lent_of}
use Rattle.design_core.specs.View.{variant_of}
use Rattle.elab_core.specs.View.{instance_of}
use Rattle.elab_core.specs.Design.{numbered_variant}
use Rattle.gen_elab.proofs.designed.all_variants.Given as goal

-- those so far and those that are left are all
abbrev pub invariant-loop-first : goal.invariant-loop-first
invariant-loop-first l =
    record {
      rest : drop l.index (map instance_of l.fn.firsts.items) ≡ map instance_of (into_iter_items l.first-iterator);
      made : map variant_of l.made.items ++ map (numbered_variant (lent_of l.modules) (map instance_of l.fn.firsts.items)) (enumerate_from l.index (map instance_of (into_iter_items l.first-iterator)))
          ≡ map (numbered_variant (lent_of l.modules) (map instance_of l.fn.firsts.items)) (enumerate_from 0 (map instance_of l.fn.firsts.items));
    }
