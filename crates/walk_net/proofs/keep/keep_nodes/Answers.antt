use Rattle.std.proofs.Common.{sym, ap, ◌∙◌, subst}
use Rattle.list_core.specs.Lists.{EachOf}
use Rattle.exec_core.specs.Kept.{NumberedAreKept}
use Rattle.net_core.specs.Nodes.{trees_of}
use Rattle.net_core.specs.Nets.{NetParts, OutputsFit, NextsFit}
use Rattle.walk_net.specs.Next.{trees_by, next_whole}
use Rattle.walk_net.specs.Answer.{AreIds, AreNumbers, OutputsStand, NextStands}
use Rattle.walk_net.specs.Walked.{kept_outputs, kept_nexts}
use Rattle.walk_net.proofs.Keeping.{trees_numbered, kept, are_ids, outputs_stand, outputs_fit, nexts_stand, nexts_fit}
use Rattle.walk_net.proofs.keep.keep_nodes.Goals as goal

pub finish-requires-clause-outputs : goal.finish-requires-clause-outputs
finish-requires-clause-outputs c =
    let outputs = c.in_ok-outputs.ensures ∙ ap (λ ids. kept_outputs ids c.args.net.now.outputs) c.deref.ensures.value in
    subst (OutputsFit c.walked_ids.new.builder) (sym outputs)
    (outputs_fit c.args.net.now c.walked_ids.ensures.net _ c.walked_ids.new.builder c.in_ok-ids.ids.items c.in_ok-ids.ensures.walked c.requires.outputs)

pub finish-requires-clause-nexts : goal.finish-requires-clause-nexts
finish-requires-clause-nexts c =
    let nexts = c.in_ok-nexts.ensures ∙ ap (λ ids. kept_nexts ids c.args.net.now.nexts) c.deref-2.ensures.value in
    subst (NextsFit c.walked_ids.new.builder) (sym nexts)
    (nexts_fit c.args.net.now c.walked_ids.ensures.net _ c.walked_ids.new.builder c.in_ok-ids.ids.items c.in_ok-ids.ensures.walked)

pub returns-clause-nodes : goal.returns-clause-nodes
returns-clause-nodes c = ap (λ (n : NetParts). trees_of n.nodes) c.finish.ensures.parts ∙ trees_numbered c.args.net.now c.walked_ids.ensures.net (trees_by c.args.net.now.nodes c.args.roots.now) c.walked_ids.new.builder c.in_ok-ids.ids.items c.in_ok-ids.ensures.walked

pub returns-clause-rounds : goal.returns-clause-rounds
returns-clause-rounds c =
    subst (λ (n : NetParts). AreNumbers (trees_by c.args.net.now.nodes c.args.roots.now) (next_whole c.args.net.now) (trees_of n.nodes)) (sym c.finish.ensures.parts) c.in_ok-ids.ensures.walked.trees

pub returns-clause-kept : goal.returns-clause-kept
returns-clause-kept c =
    subst (λ (n : NetParts). NumberedAreKept (trees_by c.args.net.now.nodes c.args.roots.now) (next_whole c.args.net.now) (trees_of n.nodes)) (sym c.finish.ensures.parts)
    (kept c.args.net.now c.walked_ids.ensures.net (trees_by c.args.net.now.nodes c.args.roots.now) c.walked_ids.new.builder c.in_ok-ids.ids.items c.in_ok-ids.ensures.walked)

pub returns-clause-ids : goal.returns-clause-ids
returns-clause-ids c =
    subst (λ (n : NetParts). AreIds (trees_by c.args.net.now.nodes c.args.roots.now) (next_whole c.args.net.now) c.args.net.now.nodes n.nodes c.new-2.result) (sym c.finish.ensures.parts)
    (subst (AreIds (trees_by c.args.net.now.nodes c.args.roots.now) (next_whole c.args.net.now) c.args.net.now.nodes c.walked_ids.new.builder) (sym c.new-2.ensures)
    (are_ids c.args.net.now c.walked_ids.ensures.net (trees_by c.args.net.now.nodes c.args.roots.now) c.walked_ids.new.builder c.in_ok-ids.ids.items c.in_ok-ids.ensures.walked))

pub returns-clause-outputs : goal.returns-clause-outputs
returns-clause-outputs c =
    let outputs = c.in_ok-outputs.ensures ∙ ap (λ ids. kept_outputs ids c.args.net.now.outputs) c.deref.ensures.value in
    subst (λ (n : NetParts). OutputsStand c.args.net.now.nodes n.nodes c.args.net.now.outputs n.outputs) (sym c.finish.ensures.parts)
    (subst (OutputsStand c.args.net.now.nodes c.walked_ids.new.builder c.args.net.now.outputs) (sym outputs)
    (outputs_stand c.args.net.now c.walked_ids.ensures.net _ c.walked_ids.new.builder c.in_ok-ids.ids.items c.in_ok-ids.ensures.walked c.requires.outputs))

pub returns-clause-nexts : goal.returns-clause-nexts
returns-clause-nexts c =
    let nexts = c.in_ok-nexts.ensures ∙ ap (λ ids. kept_nexts ids c.args.net.now.nexts) c.deref-2.ensures.value in
    subst (λ (n : NetParts). EachOf (NextStands (next_whole c.args.net.now) n.nodes) n.nexts) (sym c.finish.ensures.parts)
    (subst (EachOf (NextStands (next_whole c.args.net.now) c.walked_ids.new.builder)) (sym nexts)
    (nexts_stand c.args.net.now c.walked_ids.ensures.net _ c.walked_ids.new.builder c.in_ok-ids.ids.items c.in_ok-ids.ensures.walked))
