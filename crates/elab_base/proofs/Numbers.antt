-- Signed numbers that were passed.
use Rattle.std.proofs.lemmas.Int.{to_z-of_z}

pub ruleset signed_steps = (to_z-of_z)
