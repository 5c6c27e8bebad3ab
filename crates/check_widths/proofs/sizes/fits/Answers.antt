use Rattle.std.proofs.lemmas.Nat.{pow_pos}
use Rattle.check_widths.proofs.Fits.{fits_shift}
use Rattle.check_widths.proofs.sizes.fits.Goals as goal

pub returns-else-width-eq128 : goal.returns-else-width-eq128
returns-else-width-eq128 c = fits_shift c.args.value _ (pow_pos _)
