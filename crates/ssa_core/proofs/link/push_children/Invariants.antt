use Rattle.std.proofs.Common.{◌≡◌, ◌++◌, map, take}
use Rattle.std.specs.List.{enumerate_from, flat_map}
use Rattle.design_core.specs.View.{child_of}
use Rattle.place_core.specs.Linking.{links_of_child}
use Rattle.ssa_core.specs.Links.{link_as}
use Rattle.ssa_core.proofs.link.push_children.Given as goal

abbrev pub invariant-loop-place : goal.invariant-loop-place
invariant-loop-place l = map link_as l.links.items ≡ map link_as l.initial.links.items ++ flat_map (links_of_child l.parent l.below) (enumerate_from 0 (map child_of (take l.place l.children)))
