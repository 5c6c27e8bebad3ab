use Rattle.std.proofs.Common.{◌∙◌}
use Rattle.net_trim.proofs.Filling.{filled_next, place_next, enough_filled, all_filled}
use Rattle.net_trim.proofs.slots.fill_slots.Goals as goal

pub loop-k-preserved : goal.loop-k-preserved
loop-k-preserved c = record {
  stands = place_next c.args.net.now.nodes c.args.ids.now c.args.rows.now c.loop-k.at c.loop-k.k c.len-at.result c.in_ok-made.made.items c.loop-k.invariant.stands c.in_ok-made.ensures (c.len-at.ensures ∙ c.in_ok-made.made.ok.0);
  filled =
      filled_next c.args.net.now.nodes c.args.ids.now c.args.rows.now c.args.slots.now c.loop-k.slots c.loop-k.at c.loop-k.k c.index-slots-k.result c.in_ok-made.made.items c.new.result c.loop-k.invariant.stands c.loop-k.invariant.filled
      c.loop-k-test.true c.in_ok-made.ensures c.new.ensures;
}

pub returns : goal.returns
returns c =
    all_filled c.args.net.now.nodes c.args.ids.now c.args.rows.now c.args.slots.now c.loop-k.slots
    (enough_filled c.args.net.now.nodes c.args.ids.now c.args.rows.now c.args.slots.now c.loop-k.slots c.loop-k.k c.loop-k.invariant.filled c.loop-k-test.false)
