-- What a value is found to be at its first token.
use Rattle.std.specs.Prelude.{◌≡◌, List, None, ℕ, Option, option_map}
use Rattle.std.specs.Option.{option_copied}
use Rattle.json.specs.Token.{Token}
use Rattle.serde_json.specs.Data.{Data, Num, array, object, no_members}
use Rattle.serde_json.specs.Find.{as_array, as_number, as_object, as_str}
use Rattle.symtab_json.specs.Standing.{head_value, past_value, head_items, past_items, AreItems, head_members, past_members, AreMembers}
use Rattle.symtab_json.specs.Numerals.{num_of}
use Rattle.symtab_json.specs.declared.tokens.Scalar.{Scalar}
use Rattle.symtab_json.specs.declared.tokens.Begun.{Begun}
use Rattle.symtab_json.specs.declared.tokens.Begun.TheVariants as begun

-- the value is a list, whose bracket was passed
pub record OpensList (old new : List Token) : Type 0 where
  pub items : AreItems new
  pub head : head_value old ≡ array (head_items new)
  pub past : past_value old ≡ past_items new

-- the value is an object, whose brace was passed
pub record OpensObject (old new : List Token) : Type 0 where
  pub members : AreMembers new
  pub head : head_value old ≡ object (head_members no_members new)
  pub past : past_value old ≡ past_members new

-- the value is no list, and was passed
pub record PassesNoList (old new : List Token) : Type 0 where
  pub kind : as_array (head_value old) ≡ None
  pub past : new ≡ past_value old

-- the value is no object, and was passed
pub record PassesNoObject (old new : List Token) : Type 0 where
  pub kind : as_object (head_value old) ≡ None
  pub past : new ≡ past_value old

-- what a value is as a number and as a text
abbrev pub number_in : Scalar → Option Num
number_in s = option_map num_of s.number

abbrev pub text_in : Scalar → Option (List ℕ)
text_in s = option_copied s.text

pub record IsScalar (s : Scalar) (d : Data) : Type 0 where
  pub number : as_number d ≡ number_in s
  pub text : as_str d ≡ text_in s

-- the value is neither a list nor an object, and was passed
pub record PassesScalar (s : Scalar) (old new : List Token) : Type 0 where
  pub scalar : IsScalar s (head_value old)
  pub no_list : as_array (head_value old) ≡ None
  pub no_object : as_object (head_value old) ≡ None
  pub past : new ≡ past_value old

abbrev pub IsBegun : Begun → List Token → List Token → Type 0
IsBegun begun.List old new = OpensList old new
IsBegun begun.Object old new = OpensObject old new
IsBegun (begun.Scalar s) old new = PassesScalar s old new
