use Rattle.std.proofs.Common.{◌∙◌, sym, ap, drop, pos, if◌then◌else◌}
use Rattle.std.specs.Option.{option_map}
use Rattle.dbg_app.specs.Command.{natural_of, negative}
use Rattle.dbg_app.proofs.Given.{minus_told, behind_first}
use Rattle.dbg_app.proofs.arguments.whole_of.Goals as goal

pub returns-then-has_minus-clause-number : goal.returns-then-has_minus-clause-number
returns-then-has_minus-clause-number c =
    minus_told (drop 1 c.args.digits.now) (natural_of (drop 1 c.args.digits.now)) c.in_ok-number.number (ap (λ l. option_map pos (natural_of l)) (sym (behind_first c.args.digits.now)) ∙ sym c.natural_of.ensures.number ∙ c.in_ok-number.was) c.in_ok-number.ensures.range.1
    ∙ sym (ap (λ b. if b then option_map negative (natural_of (drop 1 c.args.digits.now)) else option_map pos (natural_of c.args.digits.now)) (sym c.has_minus.ensures ∙ c.if-has_minus.true))
