use Rattle.std.proofs.Common.{rules}
use Rattle.hub_run.proofs.serve.fn.serve_rooms.scope+FnOnce.call_once.Goals as goal

pub scope-requires : goal.scope-requires
scope-requires g c = search rules
