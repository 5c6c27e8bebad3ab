-- The head: scopes and declarations.
use Rattle.std.specs.Prelude.{ℕ, ◌+◌, ◌-◌, ◌^◌, Bool, not, List, [], ◌∷◌, ◌++◌, length, take, slice_get, Option, Some, None, Result, Ok, Err, unwrap_or, codes, bytes_eq, nat_le, ◌==◌, ◌&&◌, if◌then◌else◌}
use Rattle.std.specs.List.{list_all, position_or_len}
use Rattle.text_core.specs.Digits.{is_digit_of, number_of}
use Rattle.vcd_read.specs.declared.fault.VcdFault.{VcdFault}
use Rattle.vcd_read.specs.declared.fault.VcdFault.TheVariants.{BadWord}
use Rattle.vcd_read.specs.Words.{Word}

-- a code as it was first declared: its bytes, and its variables' size. Codes are numbered by their places in a list
abbrev pub Code : Type 0
Code = List ℕ × ℕ

-- a variable: the path of its scope, its name, the number of its code, its size, and whether its values are bits
pub record Var : Type 0 where
  pub scope : List ℕ
  pub name : List ℕ
  pub code : ℕ
  pub size : ℕ
  pub counted : Bool

-- what the head has told so far: the paths of the scopes that are open, the innermost last; those of all scopes that
-- were opened; the variables; and the codes
pub record Head : Type 0 where
  pub nest : List (List ℕ)
  pub scopes : List (List ℕ)
  pub vars : List Var
  pub codes : List Code

abbrev pub no_head : Head
no_head = record { nest = []; scopes = []; vars = []; codes = [] }

-- the path of the innermost scope that is open; empty outside every scope
abbrev pub scope_of : List (List ℕ) → List ℕ
scope_of nest = unwrap_or (slice_get nest (length nest - 1)) []

-- the path of a scope of this name in another: names joined by dots, from the outermost
abbrev pub path_in : List ℕ → List ℕ → List ℕ
path_in [] name = name
path_in (byte ∷ scope) name = (byte ∷ scope) ++ 46 ∷ name

-- a scope of this name is opened
abbrev pub with_scope : Head → List ℕ → Head
with_scope head name = record head {
  nest = head.nest ++ path_in (scope_of head.nest) name ∷ [];
  scopes = head.scopes ++ path_in (scope_of head.nest) name ∷ [];
}

-- the innermost scope is closed
abbrev pub without_scope : Head → Head
without_scope head = record head { nest = take (length head.nest - 1) head.nest }

-- variables of these types have numbers for values, which are passed over
abbrev pub is_counted : List ℕ → Bool
is_counted kind = not (bytes_eq kind (codes "real")) && not (bytes_eq kind (codes "string"))

-- decimal digits, of a number from 1 to 2^32 - 1
abbrev pub is_size : List ℕ → Bool
is_size bytes = list_all (is_digit_of 10) bytes && nat_le 1 (number_of 10 bytes) && nat_le (number_of 10 bytes) (2 ^ 32 - 1)

-- a printable character
abbrev pub is_code_byte : ℕ → Bool
is_code_byte byte = nat_le 33 byte && nat_le byte 126

-- the name that a reference has: what stands before a bracket, without a backslash in front
abbrev pub without_backslash : List ℕ → List ℕ
without_backslash [] = []
without_backslash (byte ∷ bytes) = if byte == 92 then bytes else byte ∷ bytes

abbrev pub name_of : List ℕ → List ℕ
name_of reference = without_backslash (take (position_or_len (λ byte. byte == 91) reference) reference)

-- the number and the size of a code, of those from this number on
abbrev pub known_from : ℕ → List ℕ → List Code → Option (ℕ × ℕ)
known_from number bytes [] = None
known_from number bytes (code ∷ codes) = if bytes_eq bytes code.0 then Some (number, code.1) else known_from (number + 1) bytes codes

-- the number and the size of a code; None where it was not declared
abbrev pub known : List ℕ → List Code → Option (ℕ × ℕ)
known bytes codes = known_from 0 bytes codes

-- a code's number, and all codes, once it is declared with this size: it is new, or it has this size already
abbrev pub numbered : ℕ → Word → List Code → Option (ℕ × ℕ) → Result (ℕ × List Code) VcdFault
numbered size word codes None = Ok (length codes, codes ++ (word.bytes, size) ∷ [])
numbered size word codes (Some (number, have)) = if have == size then Ok (number, codes) else Err (BadWord word.at)

abbrev pub with_code : ℕ → Word → List Code → Result (ℕ × List Code) VcdFault
with_code size word codes =
    if list_all is_code_byte word.bytes then numbered size word codes (known word.bytes codes) else Err (BadWord word.at)

-- a variable is declared in the innermost scope
abbrev pub with_var : Bool → ℕ → ℕ → List ℕ → Head → Head
with_var counted size code reference head = record head {
  vars = head.vars ++ record { scope = scope_of head.nest; name = name_of reference; code = code; size = size; counted = counted } ∷ [];
}
