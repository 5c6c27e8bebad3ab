use Rattle.std.proofs.Common.{◌≡◌, drop}
use Rattle.design_core.specs.DesignView.{design_of}
use Rattle.place_core.specs.Numbering.{count_instances, numbers_of}
use Rattle.place_core.proofs.numbering.count_instances.Given as goal

abbrev pub invariant-loop-number : goal.invariant-loop-number
invariant-loop-number l =
    count_instances (design_of l.design) l.number (drop l.number l.design.instances) (numbers_of l.maps.items, l.pairs.items) ≡ count_instances (design_of l.design) 0 l.design.instances (numbers_of l.initial.maps.items, l.initial.pairs.items)
