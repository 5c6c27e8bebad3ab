use Rattle.std.proofs.Common.{rules, ◌≡◌, ◌++◌}
use Rattle.rtrb.specs.Ring.{sent, received, known_items}
use Rattle.link_pump.proofs.Joining.{unread}
use Rattle.link_pump.proofs.began.unread.Goals as goal

pub returns : goal.returns
returns g c = λ start was.
    let joined : received c.args.back.lines ++ known_items c.slots_beside.new.self ≡ sent c.args.to_link = search rules in
    unread start _ c.args.back (known_items c.slots_beside.new.self) _ joined c.requires.only was
