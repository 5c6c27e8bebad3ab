use Rattle.std.proofs.Common.{rules, ◌≡◌, false, ◌∙◌, ap}
use Rattle.rtrb.specs.Ring.{sent}
use Rattle.link_pump.specs.Rings.{lines_in, finishes, marked_last}
use Rattle.link_pump.proofs.Ringing.{lines_over, finishes_over, last_over}
use Rattle.link_pump.proofs.ends.finish_lines.Goals as goal

pub returns-then-not-parted-clause-lines : goal.returns-then-not-parted-clause-lines
returns-then-not-parted-clause-lines g c = (c.push_waiting.ensures.ring, ap lines_in c.push_waiting.ensures.pushed ∙ lines_over _)

pub returns-then-not-parted-clause-last : goal.returns-then-not-parted-clause-last
returns-then-not-parted-clause-last g c =
    let goes : finishes (sent c.args.lines.now) ≡ false = search rules in
    (ap finishes c.push_waiting.ensures.pushed ∙ finishes_over _, ap marked_last c.push_waiting.ensures.pushed ∙ last_over _ goes)
