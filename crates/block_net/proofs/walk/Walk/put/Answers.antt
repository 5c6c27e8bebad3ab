use Rattle.block_net.proofs.WalkSteps.{fit_now, fit_next, has_at_now, has_at_next, put_at_now, put_at_next}
use Rattle.block_net.proofs.walk.Walk.put.Goals as goal

pub returns-in_ok-put-in-Now-clause-fits : goal.returns-in_ok-put-in-Now-clause-fits
returns-in_ok-put-in-Now-clause-fits c = fit_now _ _ _ _ _ _ c.in_ok-put-in-Now.ensures.ok c.requires.pending c.requires.shown c.requires.fits

pub returns-in_ok-put-in-Now-clause-state : goal.returns-in_ok-put-in-Now-clause-state
returns-in_ok-put-in-Now-clause-state c = put_at_now _ _ _ _ _ _ _ _ c.in-Now.is c.bytes.ensures c.in_ok-put-in-Now.ensures.ok

pub returns-in_ok-put-in-Now-clause-env : goal.returns-in_ok-put-in-Now-clause-env
returns-in_ok-put-in-Now-clause-env c = has_at_now _ _ _ _ _ _ _ _ c.in-Now.is c.bytes.ensures c.in_ok-put-in-Now.ensures.ok

pub returns-in_ok-put-in-Next-clause-fits : goal.returns-in_ok-put-in-Next-clause-fits
returns-in_ok-put-in-Next-clause-fits c = fit_next _ _ _ _ _ _ c.in_ok-put-in-Next.ensures.ok c.requires.pending c.requires.shown c.requires.fits

pub returns-in_ok-put-in-Next-clause-state : goal.returns-in_ok-put-in-Next-clause-state
returns-in_ok-put-in-Next-clause-state c = put_at_next _ _ _ _ _ _ _ _ c.in-Next.is c.bytes-in-Next.ensures c.in_ok-put-in-Next.ensures.ok

pub returns-in_ok-put-in-Next-clause-env : goal.returns-in_ok-put-in-Next-clause-env
returns-in_ok-put-in-Next-clause-env c = has_at_next _ _ _ _ _ _ _ _ c.in-Next.is c.bytes-in-Next.ensures c.in_ok-put-in-Next.ensures.ok
