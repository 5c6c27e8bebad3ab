use Rattle.std.proofs.Common.{take}
use Rattle.block_net.specs.Walks.{among}
use Rattle.place_core.specs.Numbering.{numbers_of}
use Rattle.next_net.specs.Writers.{Marks, writes_by}
use Rattle.next_net.proofs.writer.put_keys.Given as goal

abbrev pub invariant-loop-key : goal.invariant-loop-key
invariant-loop-key l = Marks (numbers_of l.maps) l.process (writes_by l.instance (among (take l.key-index l.keys))) l.initial.list l.list
