use Rattle.std.proofs.Common.{◌≤◌, None, option_map, map, length, sym, arith}
use Rattle.std.proofs.lemmas.List.{length-map, map-set, set_past}
use Rattle.hub_core.proofs.tell.leave_out_one.Goals as goal

pub returns-else-k-all : goal.returns-else-k-all
returns-else-k-all g c =
    let heard = map (option_map (λ b. (goal.Listener-dyn g (b.vtable, b.value)).heard b.value)) c.args.all.now in
    let past : length heard ≤ c.args.k = rw length-map (omega arith) in
    sym (set_past heard c.args.k None past)

pub returns-then-k-all : goal.returns-then-k-all
returns-then-k-all g c = map-set _ c.args.all.now c.args.k None
