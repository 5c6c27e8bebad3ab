use Rattle.std.proofs.Common.{rules, ◌≡◌, false}
use Rattle.link_pump.specs.Outlets.{opened}
use Rattle.link_pump.proofs.Sending.{opened_same}
use Rattle.link_pump.proofs.outlet.Outlet.deliver_last.Goals as goal

pub returns-then-shut-clause-keeps : goal.returns-then-shut-clause-keeps
returns-then-shut-clause-keeps g c = λ start made was. rw c.keep_all.ensures.link (c.keep_all.ensures.any start _ made was)

pub returns-else-shut-clause-keeps : goal.returns-else-shut-clause-keeps
returns-else-shut-clause-keeps g c = λ start made was.
    let m = g.L.Link.meaning in
    let still : (m c.args.self.now.link).shut ≡ false = search rules in
    let old : opened (m c.args.self.now.link) ≡ m c.args.self.now.link = opened_same _ still in
    let new : opened (m c.deliver_all.new.self.link) ≡ m c.deliver_all.new.self.link = opened_same _ c.deliver_all.ensures.shut in
    rw new (c.deliver_all.ensures.keeps start made (rw old at was))
