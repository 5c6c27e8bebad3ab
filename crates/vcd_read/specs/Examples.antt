-- What texts mean, computed from the definition.
use Rattle.std.specs.Prelude.{◌≡◌, ℕ, true, List, [], ◌∷◌, Err, codes}
use Rattle.vcd_read.specs.declared.fault.VcdFault.TheVariants.{BadWord, CutShort, UnknownCode, TooWide, TimeBack, NoEndDefinitions}
use Rattle.vcd_read.specs.Head.{Var}
use Rattle.vcd_read.specs.Changes.{Change}
use Rattle.vcd_read.specs.Meaning.{Meaning, meaning}

-- each fault of a text, where it comes first
pub record HasFaults : Type 0 where
  pub nothing : meaning [] ≡ Err NoEndDefinitions
  pub cut : meaning (codes "$var wire 1 !") ≡ Err CutShort
  pub no_scope : meaning (codes "$upscope $end") ≡ Err (BadWord 0)
  pub back : meaning (codes "$enddefinitions $end #5 #4") ≡ Err (TimeBack 24 5 4)
  pub unknown : meaning (codes "$enddefinitions $end 1!") ≡ Err (UnknownCode 22)
  pub late : meaning (codes "$enddefinitions $end #18446744073709551616") ≡ Err (BadWord 21)
  pub wide : meaning (codes "$var wire 8 $ d $end $enddefinitions $end b000000101 $") ≡ Err (TooWide 42 9 8)

-- a text of one line, as it may be written by hand: nested scopes, indices in the reference and behind it, x
abbrev pub text : List ℕ
text = codes "$date today $end $comment by hand $end $scope module tb $end $scope module dut $end $var wire 1 ! clk $end $var wire 1 \" en $end $var wire 8 $ d[7:0] $end $var reg 8 # _1 [7:0] $end $var wire 8 & _4 [7:0] $end $upscope $end $upscope $end $enddefinitions $end #0 0! x\" bx $ b0 # b1111 & #3 1! 1\" b101 $ #6 0! #9 1! b111 # #12 0!"

abbrev pub var : List ℕ → List ℕ → ℕ → ℕ → Var
var scope name code size = record { scope = scope; name = name; code = code; size = size; counted = true }

abbrev pub at : ℕ → ℕ → List ℕ → Change
at time code digits = record { time = time; code = code; digits = digits }

abbrev pub told : Meaning
told = record {
  scopes = codes "tb" ∷ codes "tb.dut" ∷ [];
  vars = var (codes "tb.dut") (codes "clk") 0 1 ∷ var (codes "tb.dut") (codes "en") 1 1 ∷ var (codes "tb.dut") (codes "d") 2 8 ∷ var (codes "tb.dut") (codes "_1") 3 8 ∷ var (codes "tb.dut") (codes "_4") 4 8 ∷ [];
  changes =
      at 0 0 (codes "0") ∷ at 0 1 (codes "x") ∷ at 0 2 (codes "x") ∷ at 0 3 (codes "0") ∷ at 0 4 (codes "1111") ∷
      at 3 0 (codes "1") ∷ at 3 1 (codes "1") ∷ at 3 2 (codes "101") ∷ at 6 0 (codes "0") ∷ at 9 0 (codes "1") ∷
      at 9 3 (codes "111") ∷ at 12 0 (codes "0") ∷ [];
}
