use Rattle.std.proofs.Common.{rules, ◌≡◌, ◌++◌, false, sym, ◌∙◌}
use Rattle.rtrb.specs.Ring.{sent, received, known_items}
use Rattle.link_pump.proofs.Sending.{opened_same}
use Rattle.link_pump.proofs.Joining.{unread}
use Rattle.hub_run.proofs.Opening.{never_left}
use Rattle.hub_run.proofs.side.unread_link.Goals as goal

pub returns : goal.returns
returns g c = λ start was.
    let m = g.L.Link.meaning in
    let joined : received c.args.back.lines ++ known_items c.slots_beside.new.self ≡ sent c.args.to_link = search rules in
    let still : (m c.args.back.outlet.link).shut ≡ false = c.requires.shut ∙ never_left (received c.args.back.lines) (known_items c.slots_beside.new.self) (joined ∙ c.requires.only) in
    sym (opened_same _ still) ∙ unread start _ c.args.back (known_items c.slots_beside.new.self) _ joined c.requires.only was
