use Rattle.std.proofs.Common.{sym, ◌∙◌}
use Rattle.cond_lang.proofs.Names.{place_there, place_behind, noted_new}
use Rattle.cond_lang.proofs.distinct.place.Goals as goal

pub put-requires : goal.put-requires
put-requires c = record { new = (place_behind c.args.name.now c.args.names.now.known c.in-None.ensures.place).1 }

pub returns-in-Some-clause-known : goal.returns-in-Some-clause-known
returns-in-Some-clause-known c = sym (place_there c.args.name.now c.args.names.now.known c.in-Some.place c.in-Some.ensures.place).1

pub returns-in_ok-put-in-None-clause-place : goal.returns-in_ok-put-in-None-clause-place
returns-in_ok-put-in-None-clause-place c = c.count-place.ensures ∙ (place_behind c.args.name.now c.args.names.now.known c.in-None.ensures.place).0

pub returns-in_ok-put-in-None-clause-known : goal.returns-in_ok-put-in-None-clause-known
returns-in_ok-put-in-None-clause-known c =
    c.in_ok-put-in-None.ensures.known ∙ noted_new c.args.names.now.known c.args.name.now (place_behind c.args.name.now c.args.names.now.known c.in-None.ensures.place).1
