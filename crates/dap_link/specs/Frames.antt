-- The messages that a text frames, by the base protocol of the Debug Adapter Protocol: a message is a head, which is a block of header fields
-- as in HTTP (RFC 9112, section 5), and a body of as many bytes as the field `Content-Length` of the head says. And the first fault of a text.
-- All of it is about the whole text: no definition here knows how the text came.
use Rattle.std.specs.Prelude.{◌≡◌, ◌≢◌, ℕ, ◌+◌, ◌<◌, ◌≤◌, ◌^◌, ◌&&◌, ◌⊎◌, List, [], ◌∷◌, ◌++◌, length, map, filter, codes, Bool, true, false, is_some, nat_lt, Option, Some, None, option_and_then}
use Rattle.std.specs.List.{list_all}
use Rattle.std.specs.Option.{option_map_or}
use Rattle.std.specs.Str.{str_eq_ignore_ascii_case}
use Rattle.httparse.specs.Grammar.{LineEnd, Field, field_value, ReadsSection}
use Rattle.serde_json.specs.Data.{Data}
use Rattle.serde_json.specs.Find.{get, as_str}
use Rattle.symtab_json.specs.Entries.{told_count}
use Rattle.symtab_json.specs.Told.{json_of}
use Rattle.text_core.specs.Digits.{is_digit, number_of}

-- ---- heads

-- the text is a block of at most 16 fields, and what is behind it
pub record IsHead (text : List ℕ) (fields : List Field) (behind : List ℕ) : Type 0 where
  pub last : LineEnd
  pub reads : ReadsSection text fields last behind
  pub few : length fields ≤ 16

-- it takes at most 4,096 bytes of the text
abbrev pub IsShort : List ℕ → List ℕ → Type 0
IsShort text behind = length text ≤ 4096 + length behind

pub record HasHead (text : List ℕ) (fields : List Field) (behind : List ℕ) : Type 0 where
  pub head : IsHead text fields behind
  pub short : IsShort text behind

-- ---- the length of a body

-- decimal digits
abbrev pub are_digits : List ℕ → Bool
are_digits value = nat_lt 0 (length value) && list_all is_digit value

-- a field of the name that tells the length, in letters of either case, whose value is decimal digits
abbrev pub tells_length : Field → Bool
tells_length f = str_eq_ignore_ascii_case f.name (codes "Content-Length") && are_digits (field_value f)

-- the digits of the lengths that the fields tell
abbrev pub lengths_in : List Field → List (List ℕ)
lengths_in fields = map field_value (filter tells_length fields)

-- the head tells one length, which is n
pub record TellsLength (text : List ℕ) (n : ℕ) (behind : List ℕ) : Type 0 where
  pub fields : List Field
  pub head : HasHead text fields behind
  pub digits : List ℕ
  pub one : lengths_in fields ≡ digits ∷ []
  pub number : n ≡ number_of 10 digits

-- the largest body: a mebibyte
abbrev pub most_body : ℕ
most_body = 2 ^ 20

-- ---- messages

-- a whole number from 0 to 2^63-1
abbrev pub is_seq : Option ℕ → Bool
is_seq None = false
is_seq (Some n) = nat_lt n (2 ^ 63)

-- a JSON value is a message: it has a `seq` and a text `command`, as only an object can
abbrev pub is_message : Data → Bool
is_message d = is_seq (option_and_then told_count (get (codes "seq") d)) && is_some (option_and_then as_str (get (codes "command") d))

-- the bytes of a body are one
abbrev pub is_message_text : List ℕ → Bool
is_message_text body = option_map_or is_message (json_of body) false

-- a head, a body of the length that it tells, and the rest
pub record IsFrame (text body rest : List ℕ) : Type 0 where
  pub behind : List ℕ
  pub head : TellsLength text (length body) behind
  pub fits : length body ≤ most_body
  pub split : behind ≡ body ++ rest

-- a message in front of a text
pub record IsMessage (text body rest : List ℕ) : Type 0 where
  pub frame : IsFrame text body rest
  pub good : is_message_text body ≡ true

-- ---- faults

-- no bytes of the first 4,096 are a head, and so many are there, or none can follow that make a head of them
pub record IsBadHead (text : List ℕ) : Type 0 where
  pub none : (fields : List Field) (behind : List ℕ) → HasHead text fields behind → ⊥
  pub never : (4096 ≤ length text) ⊎ ((more : List ℕ) (fields : List Field) (behind : List ℕ) → IsHead (text ++ more) fields behind → ⊥)

-- the head tells no length, or several
pub record IsBadLength (text : List ℕ) : Type 0 where
  pub fields : List Field
  pub behind : List ℕ
  pub head : HasHead text fields behind
  pub other : (digits : List ℕ) → lengths_in fields ≢ digits ∷ []

-- the length is beyond the largest
pub record IsTooLong (text : List ℕ) : Type 0 where
  pub size : ℕ
  pub behind : List ℕ
  pub head : TellsLength text size behind
  pub long : most_body < size

-- a whole body is none of a message
pub record IsBadBody (text : List ℕ) : Type 0 where
  pub body : List ℕ
  pub rest : List ℕ
  pub frame : IsFrame text body rest
  pub bad : is_message_text body ≡ false

-- what more bytes can go on with: neither a whole body nor one of the faults of a head is there
pub record IsUnfinished (text : List ℕ) : Type 0 where
  pub frame : (body rest : List ℕ) → IsFrame text body rest → ⊥
  pub head : IsBadHead text → ⊥
  pub number : IsBadLength text → ⊥
  pub long : IsTooLong text → ⊥

-- the input ends within a message
pub record IsCutShort (text : List ℕ) (ended : Bool) : Type 0 where
  pub over : ended ≡ true
  pub some : 0 < length text
  pub unfinished : IsUnfinished text

-- the fault of this number is the first thing of a text
abbrev pub IsFault : List ℕ → Bool → ℕ → Type 0
IsFault text ended k = ((k ≡ 1) × IsBadHead text) ⊎ (((k ≡ 2) × IsBadLength text) ⊎ (((k ≡ 3) × IsTooLong text) ⊎ (((k ≡ 4) × IsCutShort text ended) ⊎ ((k ≡ 5) × IsBadBody text))))

-- neither a whole message nor a fault is there: more bytes are waited for, or the input ended between messages
pub record IsAwaited (text : List ℕ) (ended : Bool) : Type 0 where
  pub unfinished : IsUnfinished text
  pub between : ended ≡ true → text ≡ []

-- ---- the whole of a text

-- these bodies are the messages in front of a text, and what is left of it begins with none
pub data Frames : List ℕ → List (List ℕ) → List ℕ → Type 0 where
  none : {text : List ℕ} → ((body rest : List ℕ) → IsMessage text body rest → ⊥) → Frames text [] text
  some : {text body rest : List ℕ} {bodies : List (List ℕ)} {left : List ℕ} → IsMessage text body rest → Frames rest bodies left → Frames text (body ∷ bodies) left
