use Rattle.std.proofs.Common.{◌≡◌, ℕ, ◌∙◌, ◌<◌, length, refl, sym, subst, ap}
use Rattle.list_core.specs.Lists.{EachOf}
use Rattle.names.specs.Maps.{value_of}
use Rattle.block_net.specs.Terms.{OperandsBelow}
use Rattle.block_net.proofs.TermLists.{read_below}
use Rattle.dep_order.specs.Blocks.{Grown, term_reads}
use Rattle.dep_order.proofs.Blocks.{term_within, way_next}
use Rattle.dep_order.proofs.Growing.{grown_add, grown_after, grown_graph, within_more}
use Rattle.dep_order.proofs.block.follow_terms.Goals as goal

pub term_reads-requires : goal.term_reads-requires
term_reads-requires c =
    subst (λ (k : ℕ). OperandsBelow k c.term-item.result) (sym (ap length c.deref.ensures.value ∙ c.loop-term.invariant.count))
    (read_below c.args.terms.now c.args.terms.now c.loop-term.term-index c.term-item.result refl c.requires.numbered c.loop-term-test.true c.term-item.is)

pub add-requires : goal.add-requires
add-requires c =
    within_more (length c.loop-term.graph) c.deref-in-loop-term.result.now
    (term_within c.args.graph.now c.loop-term.graph (value_of c.args.numbers.now) c.args.terms.now c.loop-term.term-index c.loop-term.vertices.items c.deref.result.now c.in_ok-read.read.items c.deref-in-loop-term.result.now c.term-item.result
    c.requires.numbers c.requires.numbered c.loop-term-test.true c.term-item.is c.loop-term.invariant c.deref.ensures.value c.in_ok-read.ensures c.deref-in-loop-term.ensures.value)

pub loop-term-preserved : goal.loop-term-preserved
loop-term-preserved c =
    let number = value_of c.args.numbers.now in
    let begun = c.args.graph.now in
    let g = c.loop-term.graph in
    let h = c.add.new.self in
    let i = c.loop-term.term-index in
    let item = c.term-item.result in
    let vs = c.loop-term.vertices.items in
    let read = c.deref-in-loop-term.result.now in
    let step : Grown g h =
    grown_add g h read
    (term_within begun g number c.args.terms.now i vs c.deref.result.now c.in_ok-read.read.items read item c.requires.numbers c.requires.numbered c.loop-term-test.true c.term-item.is c.loop-term.invariant c.deref.ensures.value c.in_ok-read.ensures c.deref-in-loop-term.ensures.value)
    c.in_ok-vertex.ensures.added in
    way_next begun g h number c.args.terms.now i vs c.push.new.self.items read c.in_ok-vertex.vertex item c.requires.numbers c.requires.numbered c.loop-term-test.true c.term-item.is
    (read_below c.args.terms.now c.args.terms.now i item refl c.requires.numbered c.loop-term-test.true c.term-item.is)
    (c.deref-in-loop-term.ensures.value ∙ c.in_ok-read.ensures ∙ ap (λ us. term_reads number us item) c.deref.ensures.value)
    c.in_ok-vertex.ensures.number c.in_ok-vertex.ensures.added (grown_graph g h c.loop-term.invariant.graph step) step (grown_after begun g h c.loop-term.invariant.grown step) c.in_ok-push.ensures.items c.loop-term.invariant
