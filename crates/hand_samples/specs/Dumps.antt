-- Value change dump files that were written by hand: what they tell, or why they are refused.
use Rattle.std.specs.Prelude.{◌≡◌, ℕ, ◌<◌, Bool, true, false, List, [], ◌∷◌, ◌++◌, length, Ok, Err, codes}
use Rattle.vcd_read.specs.declared.fault.VcdFault.TheVariants.{TooLong, BadWord, CutShort}
use Rattle.vcd_read.specs.Head.{Var}
use Rattle.vcd_read.specs.Changes.{Change}
use Rattle.vcd_read.specs.Meaning.{Meaning, meaning}

-- the code # is that of d and of e; real and string variables have codes too; the scope t is opened, and once more behind u
abbrev pub declared : List ℕ
declared =
    codes "$timescale 1ns $end\n"
    ++ codes "$scope module t $end\n$var wire 1 ! clk $end\n$var wire 4 # d [3:0] $end\n$var real 64 % v $end\n$var string 1 ' s $end\n$upscope $end\n"
    ++ codes "$scope module u $end\n$var reg 4 # e $end\n$upscope $end\n"
    ++ codes "$scope module t $end\n$var wire 1 \" q $end\n$upscope $end\n"
    ++ codes "$enddefinitions $end\n"

-- the values of v and s, the dump keywords, and what stands in a comment are passed over
abbrev pub changing : List ℕ
changing =
    codes "$dumpvars\n0!\nb11 #\nr1.5 %\nsIDLE '\nx\"\n$end\n"
    ++ codes "#5\n1!\n$comment b1 # 1! #9 $dumpvars $end\n"
    ++ codes "#7\n$dumpoff\nx!\nBX #\n$end\n$dumpon\n0!\nb0101 #\n$end\nR-2e3 %\n"
    ++ codes "$dumpall 1! Z\" $end\n"

abbrev var : List ℕ → List ℕ → ℕ → ℕ → Bool → Var
var scope name code size counted = record { scope = scope; name = name; code = code; size = size; counted = counted }

abbrev at : ℕ → ℕ → List ℕ → Change
at time code digits = record { time = time; code = code; digits = digits }

-- a code is numbered where it is first declared
abbrev pub told : Meaning
told = record {
  scopes = codes "t" ∷ codes "u" ∷ codes "t" ∷ [];
  vars =
      var (codes "t") (codes "clk") 0 1 true ∷ var (codes "t") (codes "d") 1 4 true ∷ var (codes "t") (codes "v") 2 64 false ∷ var (codes "t") (codes "s") 3 1 false
      ∷ var (codes "u") (codes "e") 1 4 true ∷ var (codes "t") (codes "q") 4 1 true ∷ [];
  changes =
      at 0 0 (codes "0") ∷ at 0 1 (codes "11") ∷ at 0 4 (codes "x") ∷ at 5 0 (codes "1") ∷ at 7 0 (codes "x") ∷ at 7 1 (codes "X") ∷ at 7 0 (codes "0")
      ∷ at 7 1 (codes "0101") ∷ at 7 0 (codes "1") ∷ at 7 4 (codes "Z") ∷ [];
}

abbrev pub DumpIsRead : Type 0
DumpIsRead = meaning (declared ++ changing) ≡ Ok told

-- a head with one variable of four bits, 42 bytes long
abbrev four : List ℕ
four = codes "$var wire 4 # d $end $enddefinitions $end "

pub record DumpsAreRefused : Type 0 where
  -- a code that is declared again, with another size
  pub other_size : meaning (codes "$var wire 1 ! a $end $var wire 2 ! b $end $enddefinitions $end") ≡ Err (BadWord 33)
  -- the text ends before the code of a value, and in a comment
  pub cut_vector : meaning (four ++ codes "b101") ≡ Err CutShort
  pub cut_real : meaning (four ++ codes "r1.5") ≡ Err CutShort
  pub cut_comment : meaning (four ++ codes "$comment b101 #") ≡ Err CutShort
  -- words that begin no change
  pub no_digits : meaning (four ++ codes "b #") ≡ Err (BadWord 42)
  pub no_code : meaning (four ++ codes "b1 # 0") ≡ Err (BadWord 47)
  pub no_keyword : meaning (four ++ codes "$dumpvars $var wire") ≡ Err (BadWord 52)
  -- more than 64 MiB
  pub many_bytes : (text : List ℕ) → 67108864 < length text → meaning text ≡ Err TooLong
