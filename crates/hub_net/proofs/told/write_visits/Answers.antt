use Rattle.std.proofs.Common.{rules, arith, ◌<◌, length, refl, le_trans}
use Rattle.serve_net.specs.Visits.{lines_from}
use Rattle.hub_net.specs.Clients.{client}
use Rattle.hub_net.proofs.Writing.{nothing_yet, taken_more, taken_front}
use Rattle.hub_net.proofs.told.write_visits.Goals as goal

pub loop-visit-init : goal.loop-visit-init
unfolding lines_from
loop-visit-init g c = record { taken = nothing_yet _; number = refl; later = search rules }

pub loop-visit-preserved : goal.loop-visit-preserved
loop-visit-preserved g c =
    let within : c.loop-visit.visit-index < length c.args.visits.now = omega arith in
    record {
      taken = taken_more client c.args.visits.now c.loop-visit.visit-index _ within _ _ _ c.loop-visit.invariant.taken (rw c.loop-visit.invariant.number at c.in_ok-write_visit.ensures.ok);
      number = search rules;
      later = le_trans c.loop-visit.invariant.later c.write_visit.ensures.later;
    }

pub returns-in_err-write_visit-clause-front : goal.returns-in_err-write_visit-clause-front
returns-in_err-write_visit-clause-front g c =
    let within : c.loop-visit.visit-index < length c.args.visits.now = omega arith in
    taken_front client c.args.visits.now c.loop-visit.visit-index _ within _ _ _ c.loop-visit.invariant.taken c.from_residual.result (rw c.loop-visit.invariant.number at c.in_err-write_visit.ensures.front)
