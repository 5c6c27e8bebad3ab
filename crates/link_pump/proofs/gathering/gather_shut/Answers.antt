use Rattle.std.proofs.Common.{rules, ◌≡◌, ◌++◌}
use Rattle.rtrb.specs.Ring.{sent, received, known_items}
use Rattle.link_pump.proofs.Joining.{passed, told}
use Rattle.link_pump.proofs.gathering.gather_shut.Goals as goal

pub returns-clause-passes : goal.returns-clause-passes
returns-clause-passes g c = λ start asked pushed end pump side.
    let lines : received c.args.back.lines ++ known_items c.slots_beside.new.self ≡ sent c.args.lines = search rules in
    let messages : received c.args.messages ++ known_items c.slots_beside-left.new.self ≡ sent c.args.back.messages = search rules in
    rw (c.keep-2.ensures.items, c.drain.ensures.items, c.keep.ensures.items, c.only.ensures, c.requires.room.0)
    (passed start _ _ c.args.back c.deliver_last.new.self c.args.messages c.args.lines asked c.args.first.items pushed c.args.kept.items end
    (known_items c.slots_beside-left.new.self) (known_items c.slots_beside.new.self) lines messages c.requires.over c.deliver_last.ensures.over c.deliver_last.ensures.received
    (λ made h. c.deliver_last.ensures.keeps start made h) pump side)

pub returns-clause-told : goal.returns-clause-told
returns-clause-told g c = λ start asked pushed end pump side.
    let lines : received c.args.back.lines ++ known_items c.slots_beside.new.self ≡ sent c.args.lines = search rules in
    let messages : received c.args.messages ++ known_items c.slots_beside-left.new.self ≡ sent c.args.back.messages = search rules in
    told start _ _ c.args.back c.deliver_last.new.self c.args.messages c.args.lines asked c.args.first.items pushed c.args.kept.items end
    (known_items c.slots_beside-left.new.self) (known_items c.slots_beside.new.self) lines messages c.requires.over c.deliver_last.ensures.over c.deliver_last.ensures.received
    (λ made h. c.deliver_last.ensures.keeps start made h) pump side
