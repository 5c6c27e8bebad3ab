use Rattle.std.proofs.Common.{◌≡◌, true, map, sym, ap, ◌∙◌, subst}
use Rattle.list_core.specs.Lists.{EachOf}
use Rattle.design_exec.specs.Processes.{is_signal_of}
use Rattle.net_core.specs.Nets.{nexts_of}
use Rattle.ssa_nodes.specs.Parts.{design_in}
use Rattle.next_net.specs.Nexts.{AreNexts}
use Rattle.next_net.specs.Registers.{register_as}
use Rattle.next_net.proofs.Nexts.{registers_signal, all_next, nexts_fit}
use Rattle.next_net.proofs.next.nexts_of.Goals as goal

pub register_nexts-requires-clause-signals : goal.register_nexts-requires-clause-signals
register_nexts-requires-clause-signals c =
    let p = c.args.parts.now in
    subst (EachOf (λ q. is_signal_of (design_in p) q ≡ true)) (sym (ap (map register_as) c.deref-2.ensures.value ∙ c.in_ok-registers.ensures)) (registers_signal p c.requires.parts)

pub returns-clause-told : goal.returns-clause-told
returns-clause-told c =
    let p = c.args.parts.now in
    let ns = c.register_nexts.new.builder in
    let pairs = nexts_of c.in_ok-nexts.nexts.items in
    all_next p c.requires.parts ns pairs (subst (λ qs. AreNexts p ns qs pairs) (ap (map register_as) c.deref-2.ensures.value ∙ c.in_ok-registers.ensures) c.in_ok-nexts.ensures.nexts)

pub returns-clause-fit : goal.returns-clause-fit
returns-clause-fit c =
    let p = c.args.parts.now in
    let ns = c.register_nexts.new.builder in
    let pairs = nexts_of c.in_ok-nexts.nexts.items in
    nexts_fit p c.requires.parts ns pairs (subst (λ qs. AreNexts p ns qs pairs) (ap (map register_as) c.deref-2.ensures.value ∙ c.in_ok-registers.ensures) c.in_ok-nexts.ensures.nexts)
    c.in_ok-nexts.ensures.state.shared c.in_ok-nexts.ensures.state.over
