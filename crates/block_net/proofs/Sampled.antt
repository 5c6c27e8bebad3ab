-- The sample, computed.
use Rattle.std.proofs.Common.{refl, arith}
use Rattle.block_net.specs.Terms.{trees_from}
use Rattle.block_net.specs.Sample.{SampleTold}

pub sample_told : SampleTold
unfolding trees_from
sample_told = record {
  numbered = (tt, (tt, (tt, ((omega arith, omega arith), (tt, ((omega arith, omega arith), ((omega arith, omega arith), (omega arith, ((omega arith, omega arith), (tt, ((omega arith, omega arith, omega arith), tt)))))))))));
  slots = refl;
  enables = refl;
  sums = refl;
  choices = refl;
  inputs = refl;
  end = refl;
}
