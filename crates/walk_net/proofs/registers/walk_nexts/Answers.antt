use Rattle.std.proofs.Common.{◌<◌, ◌≤◌, length, arith, sym}
use Rattle.std.proofs.lemmas.Grind.{common_steps}
use Rattle.net_core.specs.Nodes.{trees_of}
use Rattle.walk_net.specs.Registers.{ended}
use Rattle.walk_net.proofs.Following.{few, long, at_place}
use Rattle.walk_net.proofs.registers.walk_nexts.Goals as goal

pub loop-place-smaller : goal.loop-place-smaller
loop-place-smaller c =
    let here : c.loop-place.place < length c.loop-place.origins.items = grind (arith, common_steps, c.loop-place-test.true) in
    let most : length c.loop-place.origins.items ≤ length c.args.net.now.nodes = few c.args.net.now.nodes c.loop-place.builder c.loop-place.ids c.loop-place.origins.items c.loop-place.invariant.copies in
    omega (arith, here, most)

pub loop-place-preserved : goal.loop-place-preserved
loop-place-preserved c =
    let here : c.loop-place.place < length c.loop-place.origins.items = grind (arith, common_steps, c.loop-place-test.true) in
    record {
      copies = c.in_ok-follow.ensures.copies;
      none = c.in_ok-follow.ensures.none;
      ends = λ us h. c.loop-place.invariant.ends us
          (at_place c.args.net.now c.loop-place.builder c.loop-place.ids c.loop-place.origins.items c.args.nexts.now c.loop-place.invariant.copies c.requires.nexts
          c.loop-place.place c.index.result.now here (sym c.index.ensures) (trees_of c.follow.new.builder) us c.in_ok-follow.ensures.walked h);
    }

pub returns-clause-ends : goal.returns-clause-ends
returns-clause-ends c =
    let past : length c.loop-place.origins.items ≤ c.loop-place.place = grind (arith, common_steps, c.loop-place-test.false) in
    let same = long c.args.net.now.nodes c.loop-place.builder c.loop-place.ids c.loop-place.origins.items c.loop-place.invariant.copies in
    c.loop-place.invariant.ends (trees_of c.loop-place.builder) (ended c.loop-place.place (trees_of c.loop-place.builder) (omega (arith, past, same)))
