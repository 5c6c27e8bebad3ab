use Rattle.std.proofs.Common.{◌+◌, ◌/◌, ◌%◌, ◌<◌, sym, ap, ◌∙◌, arith}
use Rattle.slot_sched.proofs.Spots.{up_within}
use Rattle.slot_sched.proofs.spot.Spot.up.Goals as goal

pub returns-clause-spot : goal.returns-clause-spot
returns-clause-spot c =
    let here = c.requires.spot.slot in
    let within = c.requires.within in
    let inside : c.args.self.position % c.args.slots + c.args.by < c.args.slots = omega (arith, here, within) in
    let both = up_within c.args.self.position c.args.slots c.args.by inside in
    record {
      cycle = c.requires.spot.cycle ∙ both.0 ∙ ap (λ n. (c.args.self.position + n) / c.args.slots) (sym c.from.ensures);
      slot = ap (λ k. k + c.args.by) here ∙ both.1 ∙ ap (λ n. (c.args.self.position + n) % c.args.slots) (sym c.from.ensures);
    }
