-- JSON objects: members that are put in one after another stand in the order of the bytes of their keys.
use Rattle.std.specs.Prelude.{ℕ, List, [], ◌∷◌, ◌++◌, map, Bool, true, false, String, string_bytes}
use Rattle.std.specs.Ordering.{nat_cmp, match_ordering}
use Rattle.std.specs.Cmp.Lexicographic.{slice_cmp}
use Rattle.std.specs.declared.alloc.Global.{Global}
use Rattle.json.specs.Print.{quoted}
use Rattle.serde_json.specs.Data.{Data, Members, member, no_members, put}
use Rattle.serde_json.specs.Written.{comma_if, compact_text}

-- the members with one more, as the JSON library puts it in
unfoldable pub with_member : List ℕ → Data → Members → Members
with_member key value ms = put key value ms

-- those of an object of one member, and of two
abbrev pub one_member : List ℕ → Data → Members
one_member key value = with_member key value no_members

abbrev pub two_members : List ℕ → Data → List ℕ → Data → Members
two_members key value next_key next = with_member next_key next (one_member key value)

-- ---- members as they are kept until they are written: each key with the compact text of its value

abbrev pub MemberTexts : Type 0
MemberTexts = List (List ℕ × List ℕ)

unfoldable pub member_texts : Members → MemberTexts
member_texts no_members = []
member_texts (member key value ms) = (key, compact_text value) ∷ member_texts ms

-- with one more, in the order of the bytes of the keys
unfoldable pub put_text : List ℕ → List ℕ → MemberTexts → MemberTexts
put_text key text [] = (key, text) ∷ []
put_text key text (m ∷ ms) = match_ordering (slice_cmp nat_cmp key m.0) ((key, text) ∷ m ∷ ms) ((m.0, text) ∷ ms) (m ∷ put_text key text ms)

abbrev pub text_in : String Global × List ℕ → List ℕ × List ℕ
text_in m = (string_bytes m.0, m.1)

-- those of a map
abbrev pub texts_in : List (String Global × List ℕ) → MemberTexts
texts_in ms = map text_in ms

-- the text of the members with commas between, and the bracket that closes it
abbrev pub pairs_text : Bool → MemberTexts → List ℕ
pairs_text later [] = 125 ∷ []
pairs_text later (m ∷ ms) = comma_if later ++ (quoted m.0 ++ 58 ∷ (m.1 ++ pairs_text true ms))

abbrev pub object_text : MemberTexts → List ℕ
object_text ms = 123 ∷ pairs_text false ms
