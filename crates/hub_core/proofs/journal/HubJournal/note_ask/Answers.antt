use Rattle.std.proofs.Common.{rules, ◌≡◌, true, false}
use Rattle.hub_core.proofs.Noting.{noted_leaving, noted_staying}
use Rattle.hub_core.proofs.journal.HubJournal.note_ask.Goals as goal

pub returns-then-left-clause-deeds : goal.returns-then-left-clause-deeds
returns-then-left-clause-deeds c =
    let is : c.args.left ≡ true = search rules in
    rw is (noted_leaving c.args.self.now.events.items c.add_ask.new.self.events.items c.add_left.new.self.events.items c.args.client c.args.text c.add_ask.ensures.added c.add_left.ensures.added)

pub returns-else-left-clause-deeds : goal.returns-else-left-clause-deeds
returns-else-left-clause-deeds c =
    let is : c.args.left ≡ false = search rules in
    rw is (noted_staying c.args.self.now.events.items c.add_ask.new.self.events.items c.args.client c.args.text c.add_ask.ensures.added)
