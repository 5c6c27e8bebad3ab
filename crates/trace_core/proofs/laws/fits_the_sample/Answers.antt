use Rattle.std.proofs.Common.{refl, arith}
use Rattle.trace_core.proofs.Fitted.{each_width}
use Rattle.trace_core.proofs.laws.fits_the_sample.Goals as goal

pub returns-clause-widths : goal.returns-clause-widths
returns-clause-widths c = record { sampled = omega arith; width = each_width; positions = omega arith }

pub returns-clause-width : goal.returns-clause-width
returns-clause-width c = λ fits. omega (arith, fits.width 0 1 2 (omega arith) refl (record { width = 1; value = 0 }) refl)

pub returns-clause-node : goal.returns-clause-node
returns-clause-node c = λ fits. omega (arith, fits.sampled)

pub returns-clause-positions : goal.returns-clause-positions
returns-clause-positions c = λ fits. omega (arith, fits.positions)
