use Rattle.std.proofs.Common.{rules, ◌∷◌, []}
use Rattle.link_pump.proofs.Sending.{room_taken, not_sent, broken}
use Rattle.link_pump.proofs.outlet.Outlet.send.Goals as goal

pub returns-then-is_err-clause-keeps : goal.returns-then-is_err-clause-keeps
returns-then-is_err-clause-keeps g c = λ start made was.
    c.lose.ensures.keeps start made (c.args.text ∷ []) (room_taken start _ c.args.self.now c.try_reserve.new.self made (search rules) was)

pub returns-in-Err-Failed-clause-keeps : goal.returns-in-Err-Failed-clause-keeps
returns-in-Err-Failed-clause-keeps g c = λ start made was.
    c.keep.ensures.keeps start made (broken start _ _ c.args.self.now c.send.new.self c.try_reserve.new.self made c.requires.over (search rules) c.in-Err-Failed.ensures.err (search rules) was)

pub returns-in-Err-NoMemory-clause-keeps : goal.returns-in-Err-NoMemory-clause-keeps
returns-in-Err-NoMemory-clause-keeps g c = λ start made was.
    c.lose-in-Err-NoMemory.ensures.keeps start made (c.args.text ∷ []) (not_sent start _ _ c.args.self.now c.send.new.self c.try_reserve.new.self made c.requires.over (search rules) c.in-Err-NoMemory.ensures.err was)
