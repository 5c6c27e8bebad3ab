-- What a value is, by its first token.
use Rattle.std.proofs.Common.{◌≡◌, ℕ, Bool, List, ◌∷◌, Some, None, refl, sym, ap, ◌∙◌, subst}
use Rattle.json.specs.Token.{Token}
use Rattle.serde_json.specs.Data.{Data, null, boolean, number, string}
use Rattle.serde_json.specs.Find.{as_array, as_number, as_object, as_str}
use Rattle.serde_json.specs.Read.{number_of}
use Rattle.symtab_json.specs.Standing.{head_value, past_value, IsValue}
use Rattle.symtab_json.specs.Begun.{OpensList, OpensObject, PassesScalar, number_in, text_in}
use Rattle.symtab_json.specs.declared.tokens.Scalar.{Scalar}
use Rattle.symtab_json.proofs.Heads.{head_array, head_object, head_string, head_number, head_boolean, head_null, value_begins, Begins}

pub list_opened : (ts r : List Token) → IsValue ts → ts ≡ Token.begin_array ∷ r → OpensList ts r
list_opened ts r of is =
    let found = head_array r (subst IsValue is of) in
    record { items = found.is; head = ap head_value is ∙ found.head_is; past = ap past_value is ∙ found.rest }

pub object_opened : (ts r : List Token) → IsValue ts → ts ≡ Token.begin_object ∷ r → OpensObject ts r
object_opened ts r of is =
    let found = head_object r (subst IsValue is of) in
    record { members = found.is; head = ap head_value is ∙ found.head_is; past = ap past_value is ∙ found.rest }

scalar_passed : (ts r : List Token) (scalar : Scalar) (d : Data) → head_value ts ≡ d → past_value ts ≡ r → as_array d ≡ None → as_object d ≡ None → as_number d ≡ number_in scalar → as_str d ≡ text_in scalar → PassesScalar scalar ts r
scalar_passed ts r scalar d head past list object numbered named = record {
  scalar = record { number = ap as_number head ∙ numbered; text = ap as_str head ∙ named };
  no_list = ap as_array head ∙ list;
  no_object = ap as_object head ∙ object;
  past = sym past;
}

pub string_passed : (ts r : List Token) (scalar : Scalar) (s : List ℕ) → ts ≡ Token.string s ∷ r → None ≡ number_in scalar → Some s ≡ text_in scalar → PassesScalar scalar ts r
string_passed ts r scalar s is numbered named =
    let found = head_string s r in
    scalar_passed ts r scalar (string s) (ap head_value is ∙ found.0) (ap past_value is ∙ found.1) refl refl numbered named

pub number_passed : (ts r : List Token) (scalar : Scalar) (s : List ℕ) → IsValue ts → ts ≡ Token.number s ∷ r → number_of s ≡ number_in scalar → None ≡ text_in scalar → PassesScalar scalar ts r
number_passed ts r scalar s of is same named =
    let found = head_number s r (subst IsValue is of) in
    scalar_passed ts r scalar (number found.0) (ap head_value is ∙ found.2) (ap past_value is ∙ found.3) refl refl (sym found.1 ∙ same) named

pub boolean_passed : (ts r : List Token) (scalar : Scalar) (b : Bool) → ts ≡ Token.boolean b ∷ r → None ≡ number_in scalar → None ≡ text_in scalar → PassesScalar scalar ts r
boolean_passed ts r scalar b is numbered named =
    let found = head_boolean b r in
    scalar_passed ts r scalar (boolean b) (ap head_value is ∙ found.0) (ap past_value is ∙ found.1) refl refl numbered named

pub null_passed : (ts r : List Token) (scalar : Scalar) → ts ≡ Token.null ∷ r → None ≡ number_in scalar → None ≡ text_in scalar → PassesScalar scalar ts r
null_passed ts r scalar is numbered named =
    let found = head_null r in
    scalar_passed ts r scalar null (ap head_value is ∙ found.0) (ap past_value is ∙ found.1) refl refl numbered named

pub begins_of : (ts r : List Token) (t : Token) → IsValue ts → ts ≡ t ∷ r → Begins t
begins_of ts r t of is = value_begins t r (subst IsValue is of)
