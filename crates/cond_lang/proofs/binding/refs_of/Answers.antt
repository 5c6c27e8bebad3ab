use Rattle.std.proofs.Common.{ap, sym, subst, ◌∙◌}
use Rattle.std.specs.Str.{IsUtf8}
use Rattle.list_core.proofs.Lists.{each_place}
use Rattle.std.proofs.lemmas.Result.{err_from_is_err_and}
use Rattle.cond_lang.specs.Faults.{Refuses}
use Rattle.cond_lang.specs.Found.{Says}
use Rattle.cond_lang.specs.Places.{AreRefs}
use Rattle.cond_lang.proofs.Forms.{refs_pushed}
use Rattle.cond_lang.proofs.Refill.{next_found, next_refused}
use Rattle.cond_lang.proofs.binding.refs_of.Goals as goal

pub found-found-requires-clause-text : goal.found-found-requires-clause-text
found-found-requires-clause-text g c =
    subst (λ name. IsUtf8 name) (sym (c.bytes.ensures ∙ c.name-item.is))
    (each_place (λ name. IsUtf8 name) c.args.names.now c.loop-name.name-index c.name-item.result c.loop-name-test.true c.requires.texts)

pub loop-name-preserved : goal.loop-name-preserved
loop-name-preserved g c = (
  subst AreRefs (sym c.in_ok-push.ensures.items) (refs_pushed c.loop-name.refs.items c.in_ok-at.at c.loop-name.invariant.0 c.in_ok-at.ensures.good),
  λ places finds.
      let says = subst (Says g.F.Fn c.args.find.now places) (sym (c.bytes.ensures ∙ c.name-item.is))
      (each_place (Says g.F.Fn c.args.find.now places) c.args.names.now c.loop-name.name-index c.name-item.result c.loop-name-test.true finds.each) in
      next_found places c.args.names.now c.loop-name.name-index c.loop-name.refs.items c.push.new.self.items c.name-item.result c.bytes-in-loop-name.result.now c.found-found.result c.in_ok-at.at
      c.loop-name-test.true c.name-item.is c.bytes-in-loop-name.ensures (c.found-found.ensures places says ∙ ap places (c.bytes.ensures ∙ sym c.bytes-in-loop-name.ensures)) c.in_ok-at.ensures.found c.in_ok-push.ensures.items
      ∙ c.loop-name.invariant.1 places finds,
)

pub returns-in_err-at-clause-found : goal.returns-in_err-at-clause-found
returns-in_err-at-clause-found g c = λ places finds.
    let p = err_from_is_err_and c.from_residual.result c.from_residual.ensures.1 in
    let says = subst (Says g.F.Fn c.args.find.now places) (sym (c.bytes.ensures ∙ c.name-item.is))
    (each_place (Says g.F.Fn c.args.find.now places) c.args.names.now c.loop-name.name-index c.name-item.result c.loop-name-test.true finds.each) in
    rw (p.1, p.2) (subst (Refuses c.in_err-at.field-0.0) (c.loop-name.invariant.1 places finds)
    (next_refused places c.args.names.now c.loop-name.name-index c.loop-name.refs.items c.name-item.result c.bytes-in-loop-name.result.now c.found-found.result c.in_err-at.field-0.0
    c.loop-name-test.true c.name-item.is c.bytes-in-loop-name.ensures (c.found-found.ensures places says ∙ ap places (c.bytes.ensures ∙ sym c.bytes-in-loop-name.ensures)) c.in_err-at.ensures.found))
