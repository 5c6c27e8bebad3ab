-- Value change dump files, computed; and those that are too long, whatever they are.
use Rattle.std.proofs.Common.{◌≡◌, ℕ, ◌<◌, Bool, true, false, List, length, refl, arith}
use Rattle.std.specs.Prelude.{Result, Err, nat_le, if◌then◌else◌}
use Rattle.std.proofs.lemmas.Bool.Decides.{nat_tests}
use Rattle.vcd_read.specs.declared.fault.VcdFault.{VcdFault}
use Rattle.vcd_read.specs.declared.fault.VcdFault.TheVariants.{TooLong}
use Rattle.vcd_read.specs.Head.{no_head}
use Rattle.vcd_read.specs.Changes.{no_story}
use Rattle.vcd_read.specs.Words.{words_of}
use Rattle.vcd_read.specs.Meaning.{InHead, told_by, meaning}
use Rattle.hand_samples.specs.Dumps.{DumpIsRead, DumpsAreRefused}

pub dump_is_read : DumpIsRead
dump_is_read = refl

too_long : {X : Type 0} (b : Bool) (x : Result X VcdFault) → b ≡ false → (if b then x else Err TooLong) ≡ Err TooLong
too_long true x e = cc
too_long false x e = refl

above : (n most : ℕ) → most < n → nat_le n most ≡ false
above n most h = grind (arith, nat_tests)

many_bytes : (text : List ℕ) → 67108864 < length text → meaning text ≡ Err TooLong
many_bytes text h =
    too_long (nat_le (length text) 67108864) (told_by InHead (record { head = no_head; story = no_story }) (words_of text)) (above (length text) 67108864 h)

pub dumps_are_refused : DumpsAreRefused
dumps_are_refused = record {
  other_size = refl;
  cut_vector = refl;
  cut_real = refl;
  cut_comment = refl;
  no_digits = refl;
  no_code = refl;
  no_keyword = refl;
  many_bytes = many_bytes;
}
