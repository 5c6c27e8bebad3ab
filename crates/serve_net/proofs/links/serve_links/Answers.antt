use Rattle.std.proofs.Common.{rules, ◌≡◌, ◌<◌, le_trans}
use Rattle.serve_net.proofs.Walking.{walked_none, walked_more, walked_halted, walked_all, starved_first}
use Rattle.serve_net.proofs.links.serve_links.Goals as goal

pub returns-then-is_err-clause-some : goal.returns-then-is_err-clause-some
returns-then-is_err-clause-some g c = λ late over sh. rw (c.try_reserve.ensures.items, c.new.ensures.items, c.status.ensures) (starved_first _ over _ c.args.count _ _ _)

pub loop-number-init : goal.loop-number-init
loop-number-init g c = record {
  few = c.requires.few;
  walked = λ over sh. rw (c.try_reserve.ensures.items, c.new.ensures.items) (walked_none _ over _ _ _ _);
  later = search rules;
}

pub loop-number-preserved : goal.loop-number-preserved
loop-number-preserved g c = record {
  few = c.visit.ensures.few;
  walked = λ over sh. walked_more _ over _ _ _ _ _ _ _ _ _ _ _ _ _ c.loop-number.number (c.loop-number.invariant.walked over sh) _ (c.in-Ok.ensures.ok over sh);
  later = le_trans c.loop-number.invariant.later c.visit.ensures.later;
}

pub returns-in-Err-clause-some : goal.returns-in-Err-clause-some
returns-in-Err-clause-some g c = λ late over sh.
    let within : c.loop-number.number < c.args.count = search rules in
    rw c.status_of.ensures (walked_halted _ over _ _ _ _ _ _ _ _ _ _ _ _ _ c.loop-number.number (c.loop-number.invariant.walked over sh) c.args.count within c.in-Err.end (c.in-Err.ensures.err over sh))

pub returns-clause-all : goal.returns-clause-all
returns-clause-all g c = λ done over sh.
    let all : c.loop-number.number ≡ c.args.count = search rules in
    walked_all _ over _ _ _ _ _ _ _ _ _ c.loop-number.number c.args.count (c.loop-number.invariant.walked over sh) all
