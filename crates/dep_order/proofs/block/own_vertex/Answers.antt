use Rattle.std.proofs.Common.{◌≡◌, ◌∙◌, ◌++◌, List, length, refl, sym, subst, ap, arith}
use Rattle.tree_core.specs.Tree.{Leaf}
use Rattle.names.specs.Maps.{value_of}
use Rattle.dep_order.specs.Standing.{StandFor, listed}
use Rattle.dep_order.proofs.Blocks.{made_version}
use Rattle.dep_order.proofs.Versions.{listed_stands}
use Rattle.dep_order.proofs.block.own_vertex.Goals as goal

pub returns-clause-version : goal.returns-clause-version
returns-clause-version c =
    let number = value_of c.args.numbers.now in
    let x = c.args.name.now in
    let read : c.deref.result.now ≡ listed (number x) = c.deref.ensures.value ∙ c.in_ok-read_name.ensures ∙ ap (λ vs. vs ++ listed (number x)) c.new-read.ensures.items in
    made_version (length c.args.graph.now) c.args.graph.now c.add.new.self number c.in_ok-vertex.vertex c.deref.result.now (Leaf x) (omega arith) c.in_ok-vertex.ensures.number c.in_ok-vertex.ensures.added
    (λ signals low all. subst (λ vs. StandFor signals c.add.new.self number vs (Leaf x)) (sym read) (listed_stands signals c.add.new.self number x (number x) refl all))
