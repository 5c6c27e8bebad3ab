use Rattle.std.proofs.Common.{rules, ◌≡◌, [], append_assoc, append-nil}
use Rattle.std.proofs.lemmas.List.{nil_from_length}
use Rattle.rtrb.specs.Ring.{known_items}
use Rattle.link_pump.proofs.Ringing.{heard_first, heard_nothing}
use Rattle.link_pump.proofs.gathering.drain.Goals as goal

pub loop-preserved : goal.loop-preserved
loop-preserved c = record {
  left = search rules;
  items = rw (c.keep_message.ensures.items, append_assoc, ← heard_first c.pop_known.result (known_items c.pop_known.new.self), ← c.pop_known.ensures.received.1) c.loop.invariant.items;
  room = search rules;
  few = search rules;
}

pub returns-clause-items : goal.returns-clause-items
returns-clause-items c =
    let gone : known_items c.loop.messages ≡ [] = nil_from_length _ (search rules) in
    simp (gone, heard_nothing, append-nil) at c.loop.invariant.items
