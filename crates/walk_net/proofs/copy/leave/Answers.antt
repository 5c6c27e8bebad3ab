use Rattle.net_core.specs.Nodes.{shape_of}
use Rattle.walk_net.proofs.Copies.{can_copy, left}
use Rattle.walk_net.proofs.copy.leave.Goals as goal

pub copied-requires-clause-operands : goal.copied-requires-clause-operands
copied-requires-clause-operands c =
    (can_copy _ _ _ _ c.requires.shared c.requires.copies _ c.requires.within (shape_of c.node.result.now) c.node.ensures.node c.requires.operands).operands

pub copied-requires-clause-whole : goal.copied-requires-clause-whole
copied-requires-clause-whole c =
    (can_copy _ _ _ _ c.requires.shared c.requires.copies _ c.requires.within (shape_of c.node.result.now) c.node.ensures.node c.requires.operands).whole

pub returns-clause-copies : goal.returns-clause-copies
returns-clause-copies c =
    let it = can_copy _ _ _ _ c.requires.shared c.requires.copies _ c.requires.within (shape_of c.node.result.now) c.node.ensures.node c.requires.operands in
    (left _ _ _ _ c.requires.shared c.requires.copies c.copied.new.builder c.args.id c.in_ok-copy.copy (shape_of c.node.result.now) c.requires.within it
    c.in_ok-copy.ensures.stands c.in_ok-copy.ensures.adds c.in_ok-copy.ensures.keeps c.in_ok-copy.ensures.shared _ c.count-count.ensures _ c.in_ok-note_copy.ensures.ids _ c.in_ok-note_copy.ensures.origins).copies

pub returns-clause-adds : goal.returns-clause-adds
returns-clause-adds c =
    let it = can_copy _ _ _ _ c.requires.shared c.requires.copies _ c.requires.within (shape_of c.node.result.now) c.node.ensures.node c.requires.operands in
    (left _ _ _ _ c.requires.shared c.requires.copies c.copied.new.builder c.args.id c.in_ok-copy.copy (shape_of c.node.result.now) c.requires.within it
    c.in_ok-copy.ensures.stands c.in_ok-copy.ensures.adds c.in_ok-copy.ensures.keeps c.in_ok-copy.ensures.shared _ c.count-count.ensures _ c.in_ok-note_copy.ensures.ids _ c.in_ok-note_copy.ensures.origins).adds
