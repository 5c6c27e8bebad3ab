use Rattle.place_core.specs.Numbering.{numbers_of}
use Rattle.next_net.proofs.Writing.{marks_more}
use Rattle.next_net.proofs.writer.put_keys.Goals as goal

pub loop-key-preserved : goal.loop-key-preserved
loop-key-preserved c =
    marks_more (numbers_of c.args.maps.now) c.args.process c.args.instance c.args.keys.now c.loop-key.key-index c.key-item.result c.args.list.now c.loop-key.list c.put_key.new.list c.loop-key-test.true c.key-item.is c.loop-key.invariant c.put_key.ensures
