use Rattle.names.specs.Maps.{value_of}
use Rattle.row_net.proofs.Replaying.{now_set, now_held}
use Rattle.row_net.proofs.replay.set_key.Goals as goal

pub returns-in_ok-put-in-Now-clause-after : goal.returns-in_ok-put-in-Now-clause-after
returns-in_ok-put-in-Now-clause-after c =
    now_set c.args.block.now.terms (value_of c.args.held.now) (value_of c.put.new.self) c.args.key.now c.in-Now.name c.bytes.result.now c.args.id c.in-Now.is c.bytes.ensures c.in_ok-put-in-Now.ensures.ok

pub returns-in_ok-put-in-Now-clause-held : goal.returns-in_ok-put-in-Now-clause-held
returns-in_ok-put-in-Now-clause-held c =
    now_held c.args.block.now.terms (value_of c.args.held.now) (value_of c.put.new.self) c.bytes.result.now c.args.id c.in_ok-put-in-Now.ensures.ok c.requires.within c.requires.held
