use Rattle.std.proofs.Common.{◌≡◌, ◌<◌, map, ap, ◌∙◌, ◌++◌, [], length, get_or, arith}
use Rattle.design_core.specs.DesignView.{design_of}
use Rattle.design_exec.specs.Processes.{links_at}
use Rattle.ssa_core.specs.Links.{link_as}
use Rattle.list_core.proofs.Growing.{plain_more}
use Rattle.ssa_core.proofs.link.links_of.Goals as goal

pub loop-number-preserved : goal.loop-number-preserved
loop-number-preserved c =
    let d = design_of c.args.design.now in
    let r = c.instance-item.result in
    let within : c.loop-number.number < length c.args.design.now.instances = omega (arith, ap length c.items-instance-items.ensures, c.loop-number-test.true) in
    let at : r ≡ get_or c.args.design.now.instances c.loop-number.number r = c.instance-item.is ∙ ap (λ l. get_or l c.loop-number.number r) c.items-instance-items.ensures in
    plain_more (links_at d) [] (map link_as c.loop-number.links.items) (map link_as c.push_instance.new.links.items) c.args.design.now.instances c.loop-number.number r within at c.loop-number.invariant
    (c.in_ok-push_instance.ensures ∙ ap (λ n. map link_as c.loop-number.links.items ++ links_at d (n, r)) c.in_ok-in_32_bits.ensures)
