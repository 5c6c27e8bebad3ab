use Rattle.std.proofs.Common.{◌-◌, ◌/◌, ◌%◌, ◌≤◌, sym, ap, ◌∙◌, arith}
use Rattle.slot_sched.proofs.Spots.{down_within}
use Rattle.slot_sched.proofs.spot.Spot.down.Goals as goal

pub returns-clause-spot : goal.returns-clause-spot
returns-clause-spot c =
    let here = c.requires.spot.slot in
    let within = c.requires.within in
    let inside : c.args.by ≤ c.args.self.position % c.args.slots = omega (arith, here, within) in
    let both = down_within c.args.self.position c.args.slots c.args.by c.requires.some inside in
    record {
      cycle = c.requires.spot.cycle ∙ both.0 ∙ ap (λ n. (c.args.self.position - n) / c.args.slots) (sym c.from.ensures);
      slot = ap (λ k. k - c.args.by) here ∙ both.1 ∙ ap (λ n. (c.args.self.position - n) % c.args.slots) (sym c.from.ensures);
    }
