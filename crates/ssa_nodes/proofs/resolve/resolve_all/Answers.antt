use Rattle.std.proofs.Common.{◌≡◌, ◌<◌, ◌≤◌, length, take, get_or, Some, sym, ap, ◌∙◌, subst}
use Rattle.std.specs.Prelude.{slice_get}
use Rattle.std.proofs.lemmas.List.{take_all}
use Rattle.std.proofs.lemmas.Option.{slice_get-get_or}
use Rattle.place_core.specs.Orders.{Pair}
use Rattle.term_net.proofs.Overs.{grown_none, grown_twice}
use Rattle.list_core.proofs.Listing.{same_get}
use Rattle.ssa_nodes.proofs.Driven.{PairsHave, pair_ready, pairs_more, pair_kept, all_have}
use Rattle.ssa_nodes.proofs.resolve.resolve_all.Goals as goal

pub loop-pair-init : goal.loop-pair-init
loop-pair-init c = record { long = c.requires.long; state = c.requires.state; grown = grown_none c.args.builder.now c.requires.state.shared; given = c.requires.given; pairs = tt }

pub resolve_pair-requires-clause-driver : goal.resolve_pair-requires-clause-driver
resolve_pair-requires-clause-driver c =
    let p = c.args.parts.now in
    let items = c.list-pair-items.result.now in
    let i = c.loop-pair.pair-index in
    let pair : Pair = get_or items i (0, 0) in
    let at : slice_get p.order.now i ≡ Some pair = ap (λ xs. slice_get xs i) (sym c.list-pair-items.ensures) ∙ slice_get-get_or items i (0, 0) c.loop-pair-test.true in
    pair_ready p c.requires.parts c.loop-pair.nodes i pair at c.loop-pair.invariant.given c.loop-pair.invariant.pairs

pub loop-pair-preserved : goal.loop-pair-preserved
loop-pair-preserved c =
    let p = c.args.parts.now in
    let items = c.list-pair-items.result.now in
    let i = c.loop-pair.pair-index in
    let pair : Pair = get_or items i (0, 0) in
    let order : items ≡ p.order.now = c.list-pair-items.ensures in
    let below : i < length p.order.now = subst (λ xs. i < length xs) order c.loop-pair-test.true in
    let same : pair ≡ get_or p.order.now i pair = same_get items i (0, 0) pair c.loop-pair-test.true ∙ ap (λ xs. get_or xs i pair) order in
    let at : slice_get p.order.now i ≡ Some pair = ap (λ xs. slice_get xs i) (sym order) ∙ slice_get-get_or items i (0, 0) c.loop-pair-test.true in
    let old = c.loop-pair.nodes in
    let new = c.resolve_pair.new.nodes in
    let is = pair_ready p c.requires.parts old i pair at c.loop-pair.invariant.given c.loop-pair.invariant.pairs in
    let resolved = c.in_ok-resolve_pair.ensures.resolved in
    record {
      long = (resolved is.signal is.at).long ∙ c.loop-pair.invariant.long;
      state = c.in_ok-resolve_pair.ensures.state;
      grown = grown_twice _ _ _ c.loop-pair.invariant.grown c.in_ok-resolve_pair.ensures.grown;
      given = pair_kept p c.requires.parts old new pair is resolved c.loop-pair.invariant.given;
      pairs = pairs_more p c.requires.parts old new p.order.now i pair below same is resolved c.loop-pair.invariant.pairs;
    }

pub returns-clause-all : goal.returns-clause-all
returns-clause-all c =
    let p = c.args.parts.now in
    let nodes = c.loop-pair.nodes in
    let i = c.loop-pair.pair-index in
    let all : take i p.order.now ≡ p.order.now = take_all _ p.order.now (subst (λ xs. length xs ≤ i) c.list-pair-items.ensures c.loop-pair-test.false) in
    all_have p c.requires.parts nodes c.loop-pair.invariant.given (subst (PairsHave p nodes) all c.loop-pair.invariant.pairs)
