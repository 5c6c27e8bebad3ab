use Rattle.std.proofs.Common.{List, Option, Err, length, sym, ap, ◌∙◌, subst}
use Rattle.std.specs.Prelude.{All}
use Rattle.bv_core.specs.declared.reference.NodeId.{NodeId}
use Rattle.symtab.specs.declared.parts.TableParts.{TableParts}
use Rattle.lower_core.specs.declared.row.FullRow.{FullRow}
use Rattle.trim_core.specs.Trimmed.{IsTrimmed}
use Rattle.net_trim.specs.Roots.{root_ids}
use Rattle.net_trim.specs.Made.{CanBeMade}
use Rattle.net_trim.specs.Whole.{ArePartsMade}
use Rattle.net_trim.proofs.Compiled.{IsWalkedFrom, roots_are_nodes, outputs_are_roots, all_can, is_table, is_trimmed, kept_of, few_slots}
use Rattle.net_trim.proofs.whole.trim.Goals as goal

pub keep_nodes-requires-clause-roots : goal.keep_nodes-requires-clause-roots
keep_nodes-requires-clause-roots c =
    roots_are_nodes c.requires.of c.args.lowered c.requires.is c.deref.result.now (c.deref.ensures.value ∙ c.in_ok-roots.ensures ∙ ap (root_ids c.args.lowered.net.outputs c.args.lowered.mode) c.items.ensures)

pub keep_nodes-requires-clause-outputs : goal.keep_nodes-requires-clause-outputs
keep_nodes-requires-clause-outputs c =
    outputs_are_roots c.requires.of c.args.lowered c.requires.is c.deref.result.now (c.deref.ensures.value ∙ c.in_ok-roots.ensures ∙ ap (root_ids c.args.lowered.net.outputs c.args.lowered.mode) c.items.ensures)

pub parts_of-requires-clause-can : goal.parts_of-requires-clause-can
parts_of-requires-clause-can c =
    let roots = c.deref.ensures.value ∙ c.in_ok-roots.ensures ∙ ap (root_ids c.args.lowered.net.outputs c.args.lowered.mode) c.items.ensures in
    let walked : IsWalkedFrom c.args.lowered.net (root_ids c.args.lowered.net.outputs c.args.lowered.mode c.args.lowered.rows) c.in_ok-kept.field-0.net c.in_ok-kept.field-0.ids =
    subst (λ (ids : List NodeId). IsWalkedFrom c.args.lowered.net ids c.in_ok-kept.field-0.net c.in_ok-kept.field-0.ids) roots
    (record { rounds = c.in_ok-kept.ensures.rounds; are_kept = c.in_ok-kept.ensures.kept; are_ids = c.in_ok-kept.ensures.ids; outputs = c.in_ok-kept.ensures.outputs; nexts = c.in_ok-kept.ensures.nexts; is_net = c.in_ok-kept.ensures.net }) in
    let can : All (CanBeMade c.args.lowered.net.nodes c.in_ok-kept.field-0.ids) c.args.lowered.rows = all_can c.requires.of c.args.lowered c.requires.is c.in_ok-kept.field-0.net c.in_ok-kept.field-0.ids walked.are_ids in
    subst (λ (ids : List (Option NodeId)). All (CanBeMade c.args.lowered.net.nodes ids) c.items-3.result.now) (sym c.items-2.ensures)
    (subst (λ (rows : List FullRow). All (CanBeMade c.args.lowered.net.nodes c.in_ok-kept.field-0.ids) rows) (sym c.items-3.ensures) can)

pub parts_of-requires-clause-few : goal.parts_of-requires-clause-few
parts_of-requires-clause-few c = few_slots c.requires.of c.args.lowered c.requires.is

pub returns-in-Ok : goal.returns-in-Ok
returns-in-Ok c =
    let roots = c.deref.ensures.value ∙ c.in_ok-roots.ensures ∙ ap (root_ids c.args.lowered.net.outputs c.args.lowered.mode) c.items.ensures in
    let walked : IsWalkedFrom c.args.lowered.net (root_ids c.args.lowered.net.outputs c.args.lowered.mode c.args.lowered.rows) c.in_ok-kept.field-0.net c.in_ok-kept.field-0.ids =
    subst (λ (ids : List NodeId). IsWalkedFrom c.args.lowered.net ids c.in_ok-kept.field-0.net c.in_ok-kept.field-0.ids) roots
    (record { rounds = c.in_ok-kept.ensures.rounds; are_kept = c.in_ok-kept.ensures.kept; are_ids = c.in_ok-kept.ensures.ids; outputs = c.in_ok-kept.ensures.outputs; nexts = c.in_ok-kept.ensures.nexts; is_net = c.in_ok-kept.ensures.net }) in
    let made : ArePartsMade c.args.lowered.net.nodes c.in_ok-kept.field-0.ids c.args.lowered.rows c.in_ok-kept.field-0.net.nodes c.args.lowered.shape c.in_ok-parts.parts =
    subst (λ (ids : List (Option NodeId)). ArePartsMade c.args.lowered.net.nodes ids c.args.lowered.rows c.in_ok-kept.field-0.net.nodes c.args.lowered.shape c.in_ok-parts.parts) c.items-2.ensures
    (subst (λ (rows : List FullRow). ArePartsMade c.args.lowered.net.nodes c.items-2.result.now rows c.in_ok-kept.field-0.net.nodes c.args.lowered.shape c.in_ok-parts.parts) c.items-3.ensures c.in_ok-parts.ensures.made) in
    let is = kept_of c.args.lowered.net (root_ids c.args.lowered.net.outputs c.args.lowered.mode c.args.lowered.rows) c.in_ok-kept.field-0.net c.in_ok-kept.field-0.ids walked in
    λ of h.
    subst (λ (parts : TableParts). IsTrimmed of.design (length of.pairs) c.args.lowered.mode c.in_ok-kept.field-0.net parts) (sym c.in-Ok.ensures.parts)
    (is_trimmed of c.args.lowered h c.in_ok-kept.field-0.net c.in_ok-kept.field-0.ids walked.are_ids c.in_ok-parts.parts made is c.parts_of.ensures.few)

pub unreachable-requires : goal.unreachable-requires
unreachable-requires c =
    let roots = c.deref.ensures.value ∙ c.in_ok-roots.ensures ∙ ap (root_ids c.args.lowered.net.outputs c.args.lowered.mode) c.items.ensures in
    let walked : IsWalkedFrom c.args.lowered.net (root_ids c.args.lowered.net.outputs c.args.lowered.mode c.args.lowered.rows) c.in_ok-kept.field-0.net c.in_ok-kept.field-0.ids =
    subst (λ (ids : List NodeId). IsWalkedFrom c.args.lowered.net ids c.in_ok-kept.field-0.net c.in_ok-kept.field-0.ids) roots
    (record { rounds = c.in_ok-kept.ensures.rounds; are_kept = c.in_ok-kept.ensures.kept; are_ids = c.in_ok-kept.ensures.ids; outputs = c.in_ok-kept.ensures.outputs; nexts = c.in_ok-kept.ensures.nexts; is_net = c.in_ok-kept.ensures.net }) in
    let made : ArePartsMade c.args.lowered.net.nodes c.in_ok-kept.field-0.ids c.args.lowered.rows c.in_ok-kept.field-0.net.nodes c.args.lowered.shape c.in_ok-parts.parts =
    subst (λ (ids : List (Option NodeId)). ArePartsMade c.args.lowered.net.nodes ids c.args.lowered.rows c.in_ok-kept.field-0.net.nodes c.args.lowered.shape c.in_ok-parts.parts) c.items-2.ensures
    (subst (λ (rows : List FullRow). ArePartsMade c.args.lowered.net.nodes c.items-2.result.now rows c.in_ok-kept.field-0.net.nodes c.args.lowered.shape c.in_ok-parts.parts) c.items-3.ensures c.in_ok-parts.ensures.made) in
    let is = kept_of c.args.lowered.net (root_ids c.args.lowered.net.outputs c.args.lowered.mode c.args.lowered.rows) c.in_ok-kept.field-0.net c.in_ok-kept.field-0.ids walked in
    c.in-Err-BadTable.ensures.refused (ap (λ e. Err e) c.in-Err-BadTable.field-0-is) (is_table c.requires.of c.args.lowered c.requires.is c.in_ok-kept.field-0.net c.in_ok-kept.field-0.ids walked.are_ids c.in_ok-parts.parts made is c.parts_of.ensures.few)
