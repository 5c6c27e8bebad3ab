use Rattle.std.proofs.Common.{rules, ◌≡◌, ap, sym, ◌∙◌, is_some, false, length}
use Rattle.place_core.proofs.Counted.{one_counted}
use Rattle.place_core.proofs.numbering.count_signal.Goals as goal

pub returns : goal.returns
returns c =
    let none : is_some c.get.result ≡ false = search rules in
    let length_is : c.len.result ≡ length c.args.pairs.now.items = search rules in
    one_counted _ _ _ _ _ _ _ _ (ap is_some (sym c.get.ensures) ∙ none) (c.in_ok-number.ensures ∙ length_is) c.in_ok-put.ensures.ok c.in_ok-push.ensures.items
