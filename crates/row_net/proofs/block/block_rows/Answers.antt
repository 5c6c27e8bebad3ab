use Rattle.std.proofs.Common.{◌≡◌, ◌++◌, ◌∙◌, ap, map, sym, subst}
use Rattle.exec_core.specs.Block.{own}
use Rattle.list_core.specs.Lists.{EachOf}
use Rattle.design_core.specs.Slots.{lets_of}
use Rattle.design_core.specs.View.{block_of, body_of}
use Rattle.design_exec.specs.Processes as processes
use Rattle.names.specs.Maps.{value_of}
use Rattle.place_core.specs.Assigned.{assigned_in as the_assigned, names_at}
use Rattle.term_net.specs.Leaves.{leaf_id, leaf_tree}
use Rattle.row_net.specs.Told.{RowReady, RowsHave, name_row, name_rows, names_by, no_own, log_rows}
use Rattle.row_net.proofs.Replaying.{no_own_held, block_told}
use Rattle.row_net.proofs.block.block_rows.Goals as goal

pub replay-requires-clause-held : goal.replay-requires-clause-held
replay-requires-clause-held c =
    no_own_held c.args.terms.now.terms (value_of c.in_ok-held.held) (own (processes.body_of c.args.block.now.clocked (block_of c.args.block.now).body))
    (c.in_ok-held.ensures ∙ ap (λ l. no_own (the_assigned c.args.block.now.clocked (body_of l))) c.deref-2.ensures.value)

pub replay-requires-clause-ready : goal.replay-requires-clause-ready
replay-requires-clause-ready c =
    let places = value_of c.args.places.now in
    let terms = c.args.terms.now in
    let body = processes.body_of c.args.block.now.clocked (block_of c.args.block.now).body in
    let is = c.in_ok-held.ensures ∙ ap (λ l. no_own (the_assigned c.args.block.now.clocked (body_of l))) c.deref-2.ensures.value in
    let lets : names_at c.deref-3.result.now ≡ lets_of (block_of c.args.block.now).body = ap names_at c.deref-3.ensures.value ∙ c.in_ok-lets.ensures ∙ ap (λ l. lets_of (body_of l)) c.deref.ensures.value in
    subst (λ names. EachOf (RowReady (leaf_id places c.args.nodes.now) (leaf_tree c.args.builder.now places c.args.nodes.now) (names_at c.args.signals.now ++ names)) (name_rows terms.terms terms.log (names_by terms.terms (value_of c.in_ok-held.held)))) (sym lets)
    (subst (EachOf (RowReady (leaf_id places c.args.nodes.now) (leaf_tree c.args.builder.now places c.args.nodes.now) (names_at c.args.signals.now ++ lets_of (block_of c.args.block.now).body))) (sym (block_told terms body (value_of c.in_ok-held.held) is)) c.requires.ready)

pub returns-clause-have : goal.returns-clause-have
returns-clause-have c =
    let places = value_of c.args.places.now in
    let terms = c.args.terms.now in
    let body = processes.body_of c.args.block.now.clocked (block_of c.args.block.now).body in
    let is = c.in_ok-held.ensures ∙ ap (λ l. no_own (the_assigned c.args.block.now.clocked (body_of l))) c.deref-2.ensures.value in
    let lets : names_at c.deref-3.result.now ≡ lets_of (block_of c.args.block.now).body = ap names_at c.deref-3.ensures.value ∙ c.in_ok-lets.ensures ∙ ap (λ l. lets_of (body_of l)) c.deref.ensures.value in
    subst (λ names. RowsHave c.replay.new.builder (leaf_tree c.replay.new.builder places c.args.nodes.now) c.args.instance (names_at c.args.signals.now ++ names) (map name_row (log_rows terms body)) c.in_ok-rows.rows.items) lets
    (subst (λ rows. RowsHave c.replay.new.builder (leaf_tree c.replay.new.builder places c.args.nodes.now) c.args.instance (names_at c.args.signals.now ++ names_at c.deref-3.result.now) rows c.in_ok-rows.rows.items) (block_told terms body (value_of c.in_ok-held.held) is) c.in_ok-rows.ensures.have)
