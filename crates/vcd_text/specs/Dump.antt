-- A value change dump file as its writer sees it, and its text: IEEE Std 1364-2005, section 18.2, for values of two states.
use Rattle.std.specs.Prelude.{ℕ, zero, suc, ◌+◌, ◌-◌, ◌/◌, ◌%◌, Bool, List, [], ◌∷◌, ◌++◌, codes, nat_lt, ◌==◌, if◌then◌else◌}
use Rattle.std.specs.List.{flat_map}
use Rattle.std.specs.Fmt.{decimal}
use Rattle.bv_core.specs.Value.{Bits}

-- a variable that is declared: whether its type is `reg` and not `wire`, its size and its name
pub record Variable : Type 0 where
  pub register : Bool
  pub size : ℕ
  pub name : List ℕ

-- what variables are given at a time: each by its number, with its new value
pub record Step : Type 0 where
  pub time : ℕ
  pub values : List (ℕ × Bits)

-- a file: the name of its scope, the variables there, what they are given at time 0, and the steps that follow
pub record Dump : Type 0 where
  pub scope : List ℕ
  pub variables : List Variable
  pub first : List (ℕ × Bits)
  pub steps : List Step

-- ---- words

-- the digits of a number to base 94, the lowest first, of which there are so many at most; each stands for itself behind byte 33
abbrev pub code_digits : ℕ → ℕ → List ℕ
code_digits zero number = []
code_digits (suc most) number = if nat_lt number 94 then (33 + number) ∷ [] else (33 + number % 94) ∷ code_digits most (number / 94)

-- the code of the variable of a number: its digits
unfoldable pub code_text : ℕ → List ℕ
code_text number = code_digits (suc number) number

-- the lowest count binary digits, the highest of them first
unfoldable pub binary_digits : ℕ → ℕ → List ℕ
binary_digits zero value = []
binary_digits (suc count) value = binary_digits count (value / 2) ++ (48 + value % 2) ∷ []

abbrev pub kind_text : Bool → List ℕ
kind_text register = if register then codes "reg" else codes "wire"

-- the places of more than one bit, from the highest down to 0
abbrev pub range_words : ℕ → List (List ℕ)
range_words size = if size == 1 then [] else (codes "[" ++ decimal (size - 1) ++ codes ":0]") ∷ []

-- the declaration of the variable of a number
abbrev pub variable_words : ℕ → Variable → List (List ℕ)
variable_words number var = codes "$var" ∷ kind_text var.register ∷ decimal var.size ∷ code_text number ∷ var.name ∷ (range_words var.size ++ codes "$end" ∷ [])

-- a value: one bit directly before the code; more bits as a vector of all digits
abbrev pub value_words : ℕ × Bits → List (List ℕ)
value_words given =
    if given.1.width == 1
    then (binary_digits given.1.width given.1.value ++ code_text given.0) ∷ []
    else (98 ∷ binary_digits given.1.width given.1.value) ∷ code_text given.0 ∷ []

-- ---- lines

-- words on a line: a blank between two, and byte 10 behind the last
abbrev pub line_text : List (List ℕ) → List ℕ
line_text [] = []
line_text (word ∷ []) = word ++ 10 ∷ []
line_text (word ∷ next ∷ words) = word ++ 32 ∷ line_text (next ∷ words)

abbrev pub values_text : List (ℕ × Bits) → List ℕ
values_text values = flat_map (λ given. line_text (value_words given)) values

-- the declarations of variables, numbered from this number on
abbrev pub variables_text : ℕ → List Variable → List ℕ
variables_text number [] = []
variables_text number (var ∷ vars) = line_text (variable_words number var) ++ variables_text (number + 1) vars

abbrev pub time_text : ℕ → List ℕ
time_text time = line_text ((35 ∷ decimal time) ∷ [])

abbrev pub step_text : Step → List ℕ
step_text step = time_text step.time ++ values_text step.values

-- a nanosecond is the unit of time, and the scope is that of a module
abbrev pub head_text : List ℕ → List ℕ
head_text scope = line_text (codes "$timescale" ∷ codes "1ns" ∷ codes "$end" ∷ []) ++ line_text (codes "$scope" ∷ codes "module" ∷ scope ∷ codes "$end" ∷ [])

-- what stands between the declarations and the first value
abbrev pub middle_text : List ℕ
middle_text =
    line_text (codes "$upscope" ∷ codes "$end" ∷ [])
    ++ (line_text (codes "$enddefinitions" ∷ codes "$end" ∷ []) ++ (time_text 0 ++ line_text (codes "$dumpvars" ∷ [])))

-- what stands before the first value
abbrev pub front_text : List ℕ → List Variable → List ℕ
front_text scope variables = head_text scope ++ (variables_text 0 variables ++ middle_text)

-- the head, the values at time 0, and the steps
unfoldable pub dump_text : Dump → List ℕ
dump_text dump = front_text dump.scope dump.variables ++ (values_text dump.first ++ (line_text (codes "$end" ∷ []) ++ flat_map step_text dump.steps))
