use Rattle.std.proofs.Common.{◌≡◌, ◌+◌, ◌++◌, ◌∙◌, ap, sym, subst, drop}
use Rattle.list_core.specs.Lists.{EachOf}
use Rattle.check_exec.proofs.Facts.{each_left, each_right}
use Rattle.names.specs.Maps.{value_of}
use Rattle.block_net.specs.Logs.{AreWithin}
use Rattle.place_core.specs.Assigned.{names_at}
use Rattle.term_net.specs.Leaves.{leaf_id, leaf_tree}
use Rattle.term_net.proofs.Overs.{grown_twice}
use Rattle.row_net.specs.Told.{Names, RowReady, after_step, name_rows, names_by, rows_of_step}
use Rattle.row_net.proofs.Growing.{ready_kept}
use Rattle.row_net.proofs.Replaying.{within_at, left_rows, replay_step}
use Rattle.row_net.proofs.replay.replay.Goals as goal

pub take_step-requires-clause-within : goal.take_step-requires-clause-within
take_step-requires-clause-within c =
    within_at c.args.block.now.terms c.log-log.result.now c.loop-effect.effect-index c.effect-item.result c.loop-effect-test.true c.effect-item.is
    (subst (AreWithin c.args.block.now.terms) (sym c.log-log.ensures.log) c.log-log.ensures.linked.log)

pub take_step-requires-clause-ready : goal.take_step-requires-clause-ready
take_step-requires-clause-ready c =
    let terms = c.args.block.now.terms in
    let places = value_of c.args.places.now in
    let names = names_at c.args.signals.now ++ names_at c.args.lets.now in
    let now = names_by terms (value_of c.loop-effect.held) in
    let log = c.log-log.result.now in
    let i = c.loop-effect.effect-index in
    let effect = c.effect-item.result in
    let P = RowReady (leaf_id places c.args.nodes.now) (leaf_tree c.loop-effect.builder places c.args.nodes.now) names in
    each_left P (rows_of_step terms effect now) (name_rows terms (drop (i + 1) log) (after_step terms effect now))
    (subst (EachOf P) (left_rows terms log i effect now c.loop-effect-test.true c.effect-item.is) c.loop-effect.invariant.ready)

pub loop-effect-preserved : goal.loop-effect-preserved
loop-effect-preserved c =
    let terms = c.args.block.now.terms in
    let places = value_of c.args.places.now in
    let names = names_at c.args.signals.now ++ names_at c.args.lets.now in
    let now = names_by terms (value_of c.loop-effect.held) in
    let log = c.log-log.result.now in
    let i = c.loop-effect.effect-index in
    let effect = c.effect-item.result in
    let P = RowReady (leaf_id places c.args.nodes.now) (leaf_tree c.loop-effect.builder places c.args.nodes.now) names in
    let later : name_rows terms (drop (i + 1) log) (after_step terms effect now) ≡ name_rows terms (drop (i + 1) log) (names_by terms (value_of c.take_step.new.held)) = ap (λ (f : Names). name_rows terms (drop (i + 1) log) f) (sym c.in_ok-take_step.ensures.after) in
    let ready = each_right P (rows_of_step terms effect now) (name_rows terms (drop (i + 1) log) (after_step terms effect now))
    (subst (EachOf P) (left_rows terms log i effect now c.loop-effect-test.true c.effect-item.is) c.loop-effect.invariant.ready) in
    record {
      fits = c.in_ok-take_step.ensures.fits;
      grown = grown_twice c.args.builder.now c.loop-effect.builder c.take_step.new.builder c.loop-effect.invariant.grown c.in_ok-take_step.ensures.grown;
      held = c.in_ok-take_step.ensures.held;
      ready =
          subst (EachOf (RowReady (leaf_id places c.args.nodes.now) (leaf_tree c.take_step.new.builder places c.args.nodes.now) names)) later
          (ready_kept c.loop-effect.builder c.take_step.new.builder places c.args.nodes.now c.in_ok-take_step.ensures.grown.keeps c.loop-effect.invariant.fits.leaves names (name_rows terms (drop (i + 1) log) (after_step terms effect now)) ready);
      told =
          replay_step c.loop-effect.builder c.take_step.new.builder places c.args.nodes.now c.args.instance names (name_rows terms log (names_by terms (value_of c.args.held.now))) (name_rows terms (drop i log) now) (rows_of_step terms effect now)
          (name_rows terms (drop (i + 1) log) (names_by terms (value_of c.take_step.new.held))) c.loop-effect.rows.items c.take_step.new.rows.items
          (left_rows terms log i effect now c.loop-effect-test.true c.effect-item.is ∙ ap (λ l. rows_of_step terms effect now ++ l) later) c.loop-effect.invariant.told c.in_ok-take_step.ensures.put;
    }
