use Rattle.std.proofs.Common.{◌≡◌, ◌+◌, ◌++◌, ◌<◌, ◌^◌, List, ℕ, length, sym, ap, ap₂, ◌∙◌, subst, arith}
use Rattle.list_core.specs.Lists.{from}
use Rattle.vcd_write.specs.Run.{shown_of}
use Rattle.vcd_write.specs.Written.{AreNodes}
use Rattle.vcd_write.proofs.Pieces.{targets_are, shown_within, length_shown}
use Rattle.vcd_write.proofs.cycle.shown.Goals as goal

pub returns-clause-shown : goal.returns-clause-shown
returns-clause-shown c =
    c.in_ok-push_targets.ensures
    ∙ ap₂ (λ (a b : List ℕ). a ++ b) (c.in_ok-push_numbers.ensures ∙ ap₂ (λ (l : List ℕ) (n : ℕ). l ++ from 0 n) c.new-found.ensures.items c.count.ensures.count) (targets_are c.args.net.now c.outputs.result.now c.outputs.ensures.outputs)

pub returns-clause-nodes : goal.returns-clause-nodes
returns-clause-nodes c = subst (AreNodes (length c.args.net.now.nodes)) (sym (returns-clause-shown c)) (shown_within c.args.net.now c.outputs.ensures.fit)

pub returns-clause-few : goal.returns-clause-few
returns-clause-few c =
    let found = c.push_targets.new.found in
    let long = found.ok.0 in
    let room = found.ok.1 in
    let small = found.small in
    let all : length found.items ≡ length c.args.net.now.nodes + length c.args.net.now.outputs = ap length (returns-clause-shown c) ∙ length_shown c.args.net.now in
    omega (arith, long, room, small, all)
