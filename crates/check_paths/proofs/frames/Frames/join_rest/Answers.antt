use Rattle.check_paths.specs.Frames.{bits_of}
use Rattle.check_paths.proofs.Framing.{none_joined}
use Rattle.check_paths.proofs.frames.Frames.join_rest.Goals as goal

pub returns-in-None-clause-own : goal.returns-in-None-clause-own
returns-in-None-clause-own c = rw c.in-None.is (none_joined (bits_of c.args.self.now.1))
