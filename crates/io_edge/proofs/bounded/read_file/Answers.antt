use Rattle.std.proofs.Common.{refl, []}
use Rattle.io_edge.proofs.Growth.{asked_front}
use Rattle.io_edge.proofs.Stops.{stops_first}
use Rattle.io_edge.proofs.bounded.read_file.Goals as goal

pub returns-in-Ok-clause-front : goal.returns-in-Ok-clause-front
returns-in-Ok-clause-front g c = asked_front _ _ _ c.read_all.result [] _ refl c.read_all.ensures.asked

pub returns-in-Err-TooLong-clause-front : goal.returns-in-Err-TooLong-clause-front
returns-in-Err-TooLong-clause-front g c = asked_front _ _ _ c.read_all.result [] _ refl c.read_all.ensures.asked

pub returns-in-Err-Failed-clause-front : goal.returns-in-Err-Failed-clause-front
returns-in-Err-Failed-clause-front g c = asked_front _ _ _ c.read_all.result [] _ refl c.read_all.ensures.asked

pub returns-in-Err-Failed-clause-unread : goal.returns-in-Err-Failed-clause-unread
returns-in-Err-Failed-clause-unread g c e =
    let p = rw (c.in-Err-Failed.is, c.in-Err-Failed.field-0-is) at c.read_all.ensures.asked in
    let f = rw (c.in-Err-Failed.is, c.in-Err-Failed.field-0-is) at c.read_all.ensures.failed in
    stops_first _ _ _ _ c.args.name.now [] _ refl p (f refl)
