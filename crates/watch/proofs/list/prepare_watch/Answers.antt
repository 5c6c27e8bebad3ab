use Rattle.std.proofs.Common.{Err, false, List, Option, Some, map, All, sym, ap, ap₂, ◌∙◌, subst}
use Rattle.std.proofs.lemmas.Result.{err_from_is_err_and}
use Rattle.bv_core.specs.declared.Sample.TheVariants.{Unknown}
use Rattle.cond_lang.specs.declared.text.CondText.{CondText}
use Rattle.trace_core.specs.Samples.{Samples}
use Rattle.machine_core.specs.Arming.{sited_on, watch_on}
use Rattle.machine_core.proofs.Readers.{some_reader}
use Rattle.machine_core.proofs.Sited.{watch_sited}
use Rattle.site_core.specs.declared.trap.Trap.{Trap}
use Rattle.site_core.specs.Traps.{trap_place, traps_of, IsTrapOf}
use Rattle.site_core.proofs.Told.{told}
use Rattle.watch.proofs.Prepared.{has_instance, has_text, for_found, for_fault}
use Rattle.watch.proofs.list.prepare_watch.Goals as goal

-- samples of no cycle
abbrev none : Samples
none = record { cycles = 0; nodes = 0; sample = λ t n. Unknown }

pub new-requires-clause-instance : goal.new-requires-clause-instance
new-requires-clause-instance c =
    let w = told c.args.table.now none in
    let read = some_reader.0 in
    has_instance 0 1 (watch_on read w 0 1 c.args.line c.args.path.now c.args.text.now) (sited_on read w false c.args.line (Some c.args.path.now) (Some c.args.text.now)) c.in_ok-found.found
    (watch_sited read w 0 1 c.args.line c.args.path.now c.args.text.now) (c.in_ok-found.ensures.told read none some_reader.1)

pub new-requires-clause-text : goal.new-requires-clause-text
new-requires-clause-text c =
    let w = told c.args.table.now none in
    let read = some_reader.0 in
    has_text 0 1 (watch_on read w 0 1 c.args.line c.args.path.now c.args.text.now) (sited_on read w false c.args.line (Some c.args.path.now) (Some c.args.text.now)) c.in_ok-found.found
    (watch_sited read w 0 1 c.args.line c.args.path.now c.args.text.now) (c.in_ok-found.ensures.told read none some_reader.1)

pub returns-in_err-found-clause-told : goal.returns-in_err-found-clause-told
returns-in_err-found-clause-told c = λ read s armed next reader.
    let w = told c.args.table.now s in
    let p = err_from_is_err_and c.from_residual.result c.from_residual.ensures.1 in
    for_fault armed next (watch_on read w armed next c.args.line c.args.path.now c.args.text.now) (sited_on read w false c.args.line (Some c.args.path.now) (Some c.args.text.now)) c.from_residual.result
    c.in_err-found.field-0.0 (watch_sited read w armed next c.args.line c.args.path.now c.args.text.now) (p.1 ∙ ap (λ x. Err x) p.2) (c.in_err-found.ensures.told read s reader)

pub returns-clause-told : goal.returns-clause-told
returns-clause-told c = λ read s armed next reader.
    let w = told c.args.table.now s in
    for_found armed next (watch_on read w armed next c.args.line c.args.path.now c.args.text.now) (sited_on read w false c.args.line (Some c.args.path.now) (Some c.args.text.now)) c.in_ok-found.found c.new.result
    (watch_sited read w armed next c.args.line c.args.path.now c.args.text.now) (c.in_ok-found.ensures.told read s reader) c.new.ensures.slots c.new.ensures.instance c.new.ensures.text

pub returns-clause-armable : goal.returns-clause-armable
returns-clause-armable c =
    let parts = c.args.table.now in
    record {
      places = ap (map trap_place) c.new.ensures.traps ∙ c.in_ok-found.ensures.placed.places ∙ ap₂ (λ named slots. traps_of parts named slots) (sym c.new.ensures.instance) (sym c.new.ensures.slots);
      each = subst (λ (text : Option CondText). All (IsTrapOf false parts text) c.new.result.traps.items) (sym c.new.ensures.text)
          (subst (λ (traps : List Trap). All (IsTrapOf false parts c.in_ok-found.found.text) traps) (sym c.new.ensures.traps) c.in_ok-found.ensures.placed.each);
    }
