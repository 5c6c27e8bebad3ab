use Rattle.walk_net.specs.Next.{trees_by}
use Rattle.walk_net.proofs.Keeping.{none_copied, walked_all}
use Rattle.walk_net.proofs.keep.walk_into.Goals as goal

pub walk_roots-requires-clause-copies : goal.walk_roots-requires-clause-copies
walk_roots-requires-clause-copies c =
    none_copied c.args.net.now.nodes c.args.builder.now c.args.ids.now c.new-origins.result.items c.requires.empty c.requires.shared c.requires.long c.requires.none c.new-origins.ensures.items

pub returns : goal.returns
returns c =
    walked_all c.args.net.now c.requires.net (trees_by c.args.net.now.nodes c.args.roots.now) c.args.builder.now c.walk_roots.new.builder c.walk_nexts.new.builder c.walk_nexts.new.ids c.walk_nexts.new.origins.items
    c.requires.empty c.in_ok-walk_roots.ensures.walked c.in_ok-walk_nexts.ensures.ends c.in_ok-walk_nexts.ensures.copies
