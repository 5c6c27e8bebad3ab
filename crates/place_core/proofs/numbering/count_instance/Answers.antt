use Rattle.std.proofs.Common.{ap, ◌∙◌}
use Rattle.place_core.specs.Numbering.{count_signals}
use Rattle.place_core.proofs.numbering.count_instance.Goals as goal

pub returns : goal.returns
returns c = c.in_ok-count_signals.ensures ∙ ap (λ n. count_signals c.args.instance 0 c.args.signals.now (n, c.args.pairs.now.items)) c.new-numbers.ensures
