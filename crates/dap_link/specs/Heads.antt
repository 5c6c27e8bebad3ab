-- What the reader of heads answers, and the steps that it goes.
use Rattle.std.specs.Prelude.{◌≡◌, ◌⊎◌, ◌≤◌, ℕ, zero, suc, Bool, false, not, ◌&&◌, ◌==◌, List, [], ◌∷◌, ◌++◌, length, drop, codes, is_some, nat_le, Option, Some, None, if◌then◌else◌}
use Rattle.std.specs.Str.{str_eq_ignore_ascii_case}
use Rattle.text_core.specs.Digits.{number_of}
use Rattle.httparse.specs.Grammar.{Field}
use Rattle.dap_link.specs.declared.head.Front.{Front}
use Rattle.dap_link.specs.declared.head.Front.TheVariants.{Unfinished, Fault, Body}
use Rattle.dap_link.specs.Frames.{HasHead, IsBadHead, IsBadLength, IsTooLong, TellsLength, are_digits, most_body}

-- a byte that ends no line stands behind so many lines
unfoldable pub begins_beyond : ℕ → List ℕ → Bool
begins_beyond n [] = false
begins_beyond zero (byte ∷ text) = not (byte == 13)
begins_beyond (suc n) (byte ∷ text) = if byte == 10 then begins_beyond n text else begins_beyond (suc n) text

-- a name and a value that tell a length
abbrev pub is_length : List ℕ × List ℕ → Bool
is_length field = str_eq_ignore_ascii_case field.0 (codes "Content-Length") && are_digits field.1

-- the value of the one field that tells a length, where there is one
unfoldable pub told_once : Option (List ℕ) → List (List ℕ × List ℕ) → Option (List ℕ)
told_once told [] = told
told_once told (field ∷ fields) = if is_length field then (if is_some told then None else told_once (Some field.1) fields) else told_once told fields

-- the body behind a head that ends at a place
abbrev pub length_told : ℕ → Option (List ℕ) → Front
length_told at None = Fault 2
length_told at (Some digits) = if nat_le (number_of 10 digits) most_body then Body at (number_of 10 digits) else Fault 3

-- the fault of a head
abbrev pub IsHeadFault : List ℕ → ℕ → Type 0
IsHeadFault text k = ((k ≡ 1) × IsBadHead text) ⊎ (((k ≡ 2) × IsBadLength text) ⊎ ((k ≡ 3) × IsTooLong text))

-- no head is there yet, and one can be
pub record IsHeadless (text : List ℕ) : Type 0 where
  pub none : (fields : List Field) (behind : List ℕ) → HasHead text fields behind → ⊥
  pub more : IsBadHead text → ⊥

pub record IsBodyAt (text : List ℕ) (at len : ℕ) : Type 0 where
  pub within : at ≤ length text
  pub fits : len ≤ most_body
  pub head : TellsLength text len (drop at text)

-- what stands in front of a text
abbrev pub IsFront : List ℕ → Front → Type 0
IsFront text Unfinished = IsHeadless text
IsFront text (Fault k) = IsHeadFault text k
IsFront text (Body at len) = IsBodyAt text at len

-- these are the first 4,096 bytes of a text, or all of it where it has fewer
pub record IsSeen (seen text : List ℕ) : Type 0 where
  pub rest : List ℕ
  pub whole : text ≡ seen ++ rest
  pub few : length seen ≤ 4096
  pub all : (length rest ≡ 0) ⊎ (length seen ≡ 4096)
