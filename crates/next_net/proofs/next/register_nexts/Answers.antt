use Rattle.std.proofs.Common.{◌≡◌, true, get_or, map}
use Rattle.std.proofs.lemmas.Option.{slice_get-get_or}
use Rattle.check_exec.proofs.Facts.{each_at}
use Rattle.design_exec.specs.Processes.{is_signal_of}
use Rattle.term_net.proofs.Overs.{grown_twice}
use Rattle.list_core.proofs.Listing.{same_get}
use Rattle.ssa_core.proofs.Places.{get_map}
use Rattle.ssa_nodes.specs.Parts.{design_in}
use Rattle.next_net.specs.Registers.{register_as}
use Rattle.next_net.proofs.Nexts.{nexts_more}
use Rattle.next_net.proofs.next.register_nexts.Goals as goal

pub register_next-requires-clause-signal : goal.register_next-requires-clause-signal
register_next-requires-clause-signal c =
    let p = c.args.parts.now in
    let registers = c.args.registers.now in
    let i = c.loop-register.register-index in
    each_at (λ q. is_signal_of (design_in p) q ≡ true) (map register_as registers) i _ (get_map register_as registers i (get_or registers i _) (slice_get-get_or registers i _ c.loop-register-test.true)) c.requires.signals

pub loop-register-preserved : goal.loop-register-preserved
loop-register-preserved c =
    let p = c.args.parts.now in
    let registers = c.args.registers.now in
    let i = c.loop-register.register-index in
    record {
      state = c.in_ok-next.ensures.state;
      grown = grown_twice _ _ _ c.loop-register.invariant.grown c.in_ok-next.ensures.grown;
      nexts = nexts_more p c.requires.parts c.loop-register.builder c.register_next.new.builder registers i (get_or registers i _) c.loop-register.nexts.items c.push.new.self.items c.in_ok-next.next c.loop-register-test.true
          (same_get registers i _ _ c.loop-register-test.true) c.in_ok-next.ensures.grown.keeps c.loop-register.invariant.nexts c.in_ok-next.ensures.stands c.in_ok-push.ensures.items;
    }
