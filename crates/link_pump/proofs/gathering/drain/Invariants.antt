use Rattle.std.proofs.Common.{◌≡◌, ◌≤◌, ◌+◌, ◌++◌, length, vec_capacity}
use Rattle.rtrb.specs.Ring.{known_items}
use Rattle.link_pump.specs.Rings.{heard_in}
use Rattle.link_pump.proofs.gathering.drain.Given as goal

abbrev pub invariant-loop : goal.invariant-loop
invariant-loop l = record {
  left : length (known_items l.messages) + l.counter ≡ l.fn.left;
  items : l.unapplied.items ++ heard_in (known_items l.messages) ≡ l.initial.unapplied.items ++ heard_in (known_items l.initial.messages);
  room : vec_capacity l.initial.unapplied ≤ vec_capacity l.unapplied;
  few : length l.unapplied.items ≤ length l.initial.unapplied.items + l.counter;
}
