use Rattle.std.proofs.Common.{◌≡◌, None, Some, drop, sym, ◌∙◌, ap}
use Rattle.std.specs.Prelude.{option_and_then, option_map}
use Rattle.dbg_app.specs.Asked.{command_as}
use Rattle.dbg_app.specs.Number.{number_to}
use Rattle.dbg_app.specs.Command.{Trail, command_with}
use Rattle.dbg_app.specs.Offer.{offered_to, most_of}
use Rattle.dbg_app.proofs.Words.{offer_of_words}
use Rattle.dbg_app.proofs.offer.offer_with.Goals as goal

pub returns-clause-offer : goal.returns-clause-offer
returns-clause-offer c =
    let words = c.args.words.now in
    let count : number_to (most_of c.args.manner) c.word.result.now ≡ Some c.in_ok-count.count =
    (λ k. number_to (sym c.most_of.ensures k) (sym c.as_bytes.ensures.value k)) ∙ sym c.number_to.ensures.number ∙ c.in_ok-count.was in
    let command : command_with Trail c.word-2.result.now (Some c.word-stimulus.result.now) None c.word-3.result.now (drop 7 words) c.args.mode ≡ Some (command_as c.in_ok-command.command) =
    sym c.command_with.ensures.command ∙ ap (option_map command_as) c.in_ok-command.was in
    sym (
    offer_of_words c.args.manner c.args.mode words _ _ _ _ _ c.requires c.word-2.ensures c.word-stimulus.ensures c.word-4.ensures c.word.ensures c.word-3.ensures
    ∙ (λ k. option_and_then (offered_to c.args.manner c.word-4.result.now (command k)) (count k))
    )
