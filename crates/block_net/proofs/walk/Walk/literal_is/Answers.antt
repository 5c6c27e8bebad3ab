use Rattle.std.proofs.Common.{Some, ap, rules, SFits, w64}
use Rattle.std.proofs.lemmas.Int.{to_z-of_z}
use Rattle.tree_core.specs.Tree.{Const}
use Rattle.design_core.specs.Widths.{bits}
use Rattle.design_exec.specs.Processes.{value_of}
use Rattle.block_net.proofs.TermLists.{stands_as}
use Rattle.block_net.proofs.WalkSteps.{grown_twice}
use Rattle.block_net.proofs.ArmSteps.{literal_stands}
use Rattle.block_net.proofs.walk.Walk.literal_is.Goals as goal

pub returns-clause-grown : goal.returns-clause-grown
returns-clause-grown c = grown_twice _ _ _ c.in_ok-constant.ensures.grown c.in_ok-is.ensures.grown

pub returns-clause-stands : goal.returns-clause-stands
returns-clause-stands c =
    let fits : SFits w64 c.args.literal.now.width = search rules in
    literal_stands _ _ _ c.args.value _ _ (value_of c.args.literal.now) c.in_ok-constant.ensures.grown.terms c.requires.within
    (stands_as _ _ _ _ (ap (λ n. Some (Const (record { width = bits n; value = c.args.literal.now.value }))) (to_z-of_z w64 c.args.literal.now.width fits)) c.in_ok-constant.ensures.stands) c.in_ok-is.ensures.stands
