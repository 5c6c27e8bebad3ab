use Rattle.gen_text.specs.Pieces.{exprs_of, top}
use Rattle.cond_lang.proofs.FirstPlace.{cause_so, byte_so, reads_so, reads_as}
use Rattle.cond_lang.proofs.read.read_cond.Goals as goal

pub returns-in-Err-clause-refused : goal.returns-in-Err-clause-refused
returns-in-Err-clause-refused c = rw c.or_other.ensures (cause_so c.args.text.now c.in-Err.fault c.first_other_byte-other.result c.first_other_byte-other.ensures c.in-Err.ensures.refused)

pub returns-in-Some-clause-refused : goal.returns-in-Some-clause-refused
returns-in-Some-clause-refused c = byte_so c.args.text.now (top (exprs_of c.in-Ok.pieces.items)) c.in-Ok.offsets.items c.in-Some.offset c.in-Ok.ensures.found c.in-Some.ensures

pub returns-in_ok-cond_text-in-None-clause-found : goal.returns-in_ok-cond_text-in-None-clause-found
returns-in_ok-cond_text-in-None-clause-found c =
    let e = c.in_ok-cond_text-in-None.ensures in
    rw (e.bytes, e.offsets, reads_as c.args.text.now (top (exprs_of c.in-Ok.pieces.items)) c.in-Ok.offsets.items c.in-Ok.ensures.found)
    (reads_so c.args.text.now (top (exprs_of c.in-Ok.pieces.items)) c.in-Ok.offsets.items c.in-Ok.ensures.found c.in-None.ensures)
