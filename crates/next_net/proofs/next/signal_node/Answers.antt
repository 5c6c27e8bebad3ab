use Rattle.std.proofs.Common.{IsSome, sym, ap, ◌∙◌, subst}
use Rattle.place_core.specs.Numbering.{Numbers}
use Rattle.term_net.specs.Leaves.{leaf_id}
use Rattle.next_net.proofs.next.signal_node.Goals as goal

pub unwrap-requires : goal.unwrap-requires
unwrap-requires c = subst IsSome (sym (c.leaf_node.ensures ∙ ap (λ (f : Numbers). leaf_id f c.args.nodes.now c.args.name.now) c.names_of-names.ensures)) c.requires.has

pub returns : goal.returns
returns c = sym (c.leaf_node.ensures ∙ ap (λ (f : Numbers). leaf_id f c.args.nodes.now c.args.name.now) c.names_of-names.ensures) ∙ c.unwrap.ensures
