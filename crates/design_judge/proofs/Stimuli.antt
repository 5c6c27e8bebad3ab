-- What is answered for the text of a stimulus.
use Rattle.std.proofs.Common.{◌≡◌, ◌≢◌, List, Result, Err, refl}
use Rattle.bv_core.specs.Value.{Bits}
use Rattle.stim_text.specs.Rows.{Gives}
use Rattle.stim_text.specs.Stimulus.{Stimulus}
use Rattle.stim_text.specs.declared.StimFault.{StimFault}
use Rattle.stim_text.specs.declared.StimFault.TheVariants.{HeaderMismatch, BadRow, DoesNotFit, TooLong, NoMemory}

-- it is what the definition says, where memory did not run out
pub refused_for : (fault : StimFault) (said : Result (List (List Bits)) StimFault) → fault ≢ NoMemory → Gives {X = Stimulus} (λ stim. stim.rows) (Err fault) said → said ≡ Err fault
refused_for HeaderMismatch said n e = e
refused_for (BadRow row) said n e = e
refused_for (DoesNotFit row column) said n e = e
refused_for TooLong said n e = e
refused_for NoMemory said n e = absurd (n refl)
