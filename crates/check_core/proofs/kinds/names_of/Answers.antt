use Rattle.std.proofs.Common.{ap, sym, ◌∙◌}
use Rattle.names.specs.Known.{either}
use Rattle.check_core.specs.Names.{kinds_of, named}
use Rattle.check_core.proofs.Sets.{named_next, named_end}
use Rattle.check_core.proofs.kinds.names_of.Goals as goal

pub loop-signal-init : goal.loop-signal-init
loop-signal-init c = ap (λ known. either known (named (kinds_of c.args.kinds) c.args.signals.now)) c.new-names.ensures.known

pub loop-signal-preserved : goal.loop-signal-preserved
loop-signal-preserved c = named_next _ _ _ _ _ _ c.loop-signal-test.true c.signal-item.is c.in_ok-put_name.ensures ∙ c.loop-signal.invariant

pub returns : goal.returns
returns c = sym (named_end _ _ _ _ c.loop-signal-test.false) ∙ c.loop-signal.invariant
