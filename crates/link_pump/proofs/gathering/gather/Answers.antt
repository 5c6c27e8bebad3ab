use Rattle.std.proofs.Common.{◌≡◌, ◌∙◌}
use Rattle.link_pump.specs.Outlets.{opened}
use Rattle.link_pump.proofs.Sending.{opened_same}
use Rattle.link_pump.proofs.gathering.gather.Goals as goal

pub returns-clause-passes : goal.returns-clause-passes
returns-clause-passes g c = λ start asked pushed end pump side.
    let m = g.L.Link.meaning in
    let was : opened (m c.args.back.outlet.link) ≡ m c.args.back.outlet.link = opened_same _ c.requires.usable in
    let now : opened (m c.gather_shut.result.outlet.link) ≡ m c.gather_shut.result.outlet.link = opened_same _ (c.gather_shut.ensures.shut ∙ c.requires.usable) in
    rw now at (c.gather_shut.ensures.passes start asked pushed end (rw was pump) side)

pub returns-clause-told : goal.returns-clause-told
returns-clause-told g c = λ start asked pushed end pump side.
    let m = g.L.Link.meaning in
    let was : opened (m c.args.back.outlet.link) ≡ m c.args.back.outlet.link = opened_same _ c.requires.usable in
    let now : opened (m c.gather_shut.result.outlet.link) ≡ m c.gather_shut.result.outlet.link = opened_same _ (c.gather_shut.ensures.shut ∙ c.requires.usable) in
    rw now at (c.gather_shut.ensures.told start asked pushed end (rw was pump) side)
