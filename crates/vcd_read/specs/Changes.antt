-- The changes of values.
use Rattle.std.specs.Prelude.{ℕ, ◌-◌, ◌^◌, Bool, List, [], ◌∷◌, ◌++◌, length, Option, Some, None, Result, Ok, Err, codes, nat_le, nat_lt, ◌==◌, ◌&&◌, ◌||◌, if◌then◌else◌}
use Rattle.std.specs.List.{list_all}
use Rattle.text_core.specs.Digits.{is_digit_of, number_of}
use Rattle.vcd_read.specs.declared.fault.VcdFault.{VcdFault}
use Rattle.vcd_read.specs.declared.fault.VcdFault.TheVariants.{BadWord, UnknownCode, TooWide, TimeBack}
use Rattle.vcd_read.specs.Words.{Word, is_keyword, is_end, has_bytes}
use Rattle.vcd_read.specs.Head.{Code, known}

-- a change: its time, its code's number, and the digits of the value, as they stand in the text
pub record Change : Type 0 where
  pub time : ℕ
  pub code : ℕ
  pub digits : List ℕ

-- the time, and the changes so far
pub record Story : Type 0 where
  pub time : ℕ
  pub changes : List Change

abbrev pub no_story : Story
no_story = record { time = 0; changes = [] }

-- a value character: 0 1 x X z Z
abbrev pub is_value : ℕ → Bool
is_value byte = byte == 48 || byte == 49 || byte == 120 || byte == 88 || byte == 122 || byte == 90

-- a word that is passed over among changes: the four dump keywords, and the keyword that ends them
abbrev pub is_dump : Word → Bool
is_dump word =
    is_keyword (codes "$dumpvars") word || is_keyword (codes "$dumpall") word
    || is_keyword (codes "$dumpon") word || is_keyword (codes "$dumpoff") word || is_end word

-- digits that are a time, below 2^64
abbrev pub is_time : List ℕ → Bool
is_time digits = has_bytes digits && list_all (is_digit_of 10) digits && nat_le (number_of 10 digits) (2 ^ 64 - 1)

-- the time is set, unless it would fall
abbrev pub with_time : Story → Word → ℕ → Result Story VcdFault
with_time story word time =
    if nat_lt time story.time then Err (TimeBack word.at story.time time) else Ok (record story { time = time })

-- the word is `#` and these digits
abbrev pub timed : Story → Word → List ℕ → Result Story VcdFault
timed story word digits = if is_time digits then with_time story word (number_of 10 digits) else Err (BadWord word.at)

-- a change of a code, the value's word and the code at these offsets
abbrev pub with_change : Story → ℕ → List ℕ → ℕ → Option (ℕ × ℕ) → Result Story VcdFault
with_change story at digits code_at None = Err (UnknownCode code_at)
with_change story at digits code_at (Some (number, size)) =
    if nat_le (length digits) size
    then Ok (record story { changes = story.changes ++ record { time = story.time; code = number; digits = digits } ∷ [] })
    else Err (TooWide at (length digits) size)

abbrev pub changed : List Code → Story → ℕ → List ℕ → ℕ → List ℕ → Result Story VcdFault
changed codes story at digits code_at code = with_change story at digits code_at (known code codes)

-- the digits of a vector: one or more value characters
abbrev pub are_digits : List ℕ → Bool
are_digits digits = has_bytes digits && list_all is_value digits

-- a letter before the digits of a vector: b B
abbrev pub is_vector : ℕ → Bool
is_vector byte = byte == 98 || byte == 66

-- a letter before a value that is passed over, of a real or string variable: r R s S
abbrev pub is_passed : ℕ → Bool
is_passed byte = byte == 114 || byte == 82 || byte == 115 || byte == 83
