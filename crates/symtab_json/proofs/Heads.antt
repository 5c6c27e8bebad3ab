-- The values that tokens begin with: kind by kind, entry by entry, member by member.
use Rattle.std.proofs.Common.{◌≡◌, ℕ, ◌<◌, Bool, List, [], ◌∷◌, length, Option, Some, None, option_map, refl, sym, ap, ◌∙◌, subst, arith}
use Rattle.std.specs.Option.{option_map_or}
use Rattle.json.specs.Token.{Token}
use Rattle.json.specs.Json.{after_end_array, read_key, value}
use Rattle.json.proofs.Grammar.{value_is, read_key-shorter}
use Rattle.serde_json.specs.Data.{Num, Data, null, boolean, number, string, array, object, Items, no_items, item, Members, no_members, put}
use Rattle.serde_json.specs.Read.{of_json, converted, number_of}
use Rattle.symtab_json.specs.Standing.{value_at, items_at, members_at, head_value, past_value, IsValue, head_items, past_items, AreItems, head_members, past_members, AreMembers}
use Rattle.symtab_json.proofs.Turns.{mapped_some, converted_some, value_at-begin_array, value_at-begin_object, value_at-shorter, item_end, item_more, item_none, member_end, member_more, member_none, member_no_key, members_any, items_deeper, members_deeper}

none_some : {A : Type 0} (x : A) → None ≡ Some x → ⊥
none_some x e = cc

-- ---- what was found is what they begin with

pub record Found {A : Type 0} (head : A) (past : List Token) (d : A) (r : List Token) (P : Type 0) : Type 0 where
  pub head_is : head ≡ d
  pub rest : past ≡ r
  pub is : P

pub value_found : (ts r : List Token) (d : Data) → value_at 127 ts ≡ Some (d, r) → Found (head_value ts) (past_value ts) d r (IsValue ts)
unfolding head_value past_value
value_found ts r d e =
    let data_is = ap (λ o. option_map_or (λ (p : Data × List Token). p.0) o null) e in
    let rest = ap (λ o. option_map_or (λ (p : Data × List Token). p.1) o []) e in
    record { head_is = data_is; rest = rest; is = record { found = e ∙ ap (λ x. Some (x, r)) (sym data_is) ∙ ap (λ x. Some (head_value ts, x)) (sym rest) } }

pub items_found : (ts r : List Token) (ds : Items) → items_at 127 ts ≡ Some (ds, r) → Found (head_items ts) (past_items ts) ds r (AreItems ts)
unfolding head_items past_items
items_found ts r ds e =
    let data_is = ap (λ o. option_map_or (λ (p : Items × List Token). p.0) o no_items) e in
    let rest = ap (λ o. option_map_or (λ (p : Items × List Token). p.1) o []) e in
    record { head_is = data_is; rest = rest; is = record { found = e ∙ ap (λ x. Some (x, r)) (sym data_is) ∙ ap (λ x. Some (head_items ts, x)) (sym rest) } }

pub members_data : (known : Members) (ts r : List Token) (found : Members) → members_at 127 known ts ≡ Some (found, r) → head_members known ts ≡ found
unfolding head_members
members_data known ts r found e = ap (λ o. option_map_or (λ (p : Members × List Token). p.0) o no_members) e

members_rest : (ts r : List Token) (found : Members) → members_at 127 no_members ts ≡ Some (found, r) → past_members ts ≡ r
unfolding past_members
members_rest ts r found e = ap (λ o. option_map_or (λ (p : Members × List Token). p.1) o []) e

pub members_found : (known : Members) (ts r : List Token) (found : Members) → members_at 127 known ts ≡ Some (found, r) → (past_members ts ≡ r) × AreMembers ts
members_found known ts r found e =
    let none = members_any 127 known no_members found ts r e in
    let rest = members_rest ts r none.0 none.1 in (
      rest,
      record {
        found = λ before.
            let all = members_any 127 known before found ts r e in
            all.1 ∙ ap (λ x. Some (x, r)) (sym (members_data before ts r all.0 all.1)) ∙ ap (λ x. Some (head_members before ts, x)) (sym rest);
      },
    )

-- ---- kind by kind

value_kind : (ts r : List Token) (d : Data) → IsValue ts → value_at 127 ts ≡ Some (d, r) → (head_value ts ≡ d) × (past_value ts ≡ r)
value_kind ts r d of e = let found = value_found ts r d e in (found.head_is, found.rest)

pub head_string : (s : List ℕ) (ts : List Token) → (head_value (Token.string s ∷ ts) ≡ string s) × (past_value (Token.string s ∷ ts) ≡ ts)
unfolding value_at
head_string s ts = let found = value_found (Token.string s ∷ ts) ts (string s) (ap (converted of_json) (value_is 127 (Token.string s ∷ ts))) in (found.head_is, found.rest)

pub head_boolean : (b : Bool) (ts : List Token) → (head_value (Token.boolean b ∷ ts) ≡ boolean b) × (past_value (Token.boolean b ∷ ts) ≡ ts)
unfolding value_at
head_boolean b ts = let found = value_found (Token.boolean b ∷ ts) ts (boolean b) (ap (converted of_json) (value_is 127 (Token.boolean b ∷ ts))) in (found.head_is, found.rest)

pub head_null : (ts : List Token) → (head_value (Token.null ∷ ts) ≡ null) × (past_value (Token.null ∷ ts) ≡ ts)
unfolding value_at
head_null ts = let found = value_found (Token.null ∷ ts) ts null (ap (converted of_json) (value_is 127 (Token.null ∷ ts))) in (found.head_is, found.rest)

number_at : (ts : List Token) (o : Option Num) (d : Data) (r : List Token) → option_map {U = Data × List Token} (λ x. (x, ts)) (option_map number o) ≡ Some (d, r) → (n : Num) × (o ≡ Some n) × (number n ≡ d) × (ts ≡ r)
number_at ts None d r e = absurd (cc)
number_at ts (Some n) d r e = let same : (number n, ts) ≡ (d, r) = cc in (n, refl, ap (λ (p : Data × List Token). p.0) same, ap (λ (p : Data × List Token). p.1) same)

pub head_number : (s : List ℕ) (ts : List Token) → IsValue (Token.number s ∷ ts) → (n : Num) × (number_of s ≡ Some n) × (head_value (Token.number s ∷ ts) ≡ number n) × (past_value (Token.number s ∷ ts) ≡ ts)
unfolding value_at
head_number s ts of =
    let at = number_at ts (number_of s) _ _ (sym (ap (converted of_json) (value_is 127 (Token.number s ∷ ts))) ∙ of.found) in
    (at.0, at.1, sym at.2, sym at.3)

pub head_array : (ts : List Token) → IsValue (Token.begin_array ∷ ts) → Found (head_value (Token.begin_array ∷ ts)) (past_value (Token.begin_array ∷ ts)) (array (head_items ts)) (past_items ts) (AreItems ts)
head_array ts of =
    let ds = mapped_some array (items_at 126 ts) _ _ (sym (value_at-begin_array 127 ts (omega arith)) ∙ of.found) in
    let deeper = items_found ts _ ds.0 (items_deeper 126 ts _ ds.0 ds.1) in
    record { head_is = sym ds.2 ∙ ap array (sym deeper.head_is); rest = sym deeper.rest; is = deeper.is }

pub head_object : (ts : List Token) → IsValue (Token.begin_object ∷ ts) → Found (head_value (Token.begin_object ∷ ts)) (past_value (Token.begin_object ∷ ts)) (object (head_members no_members ts)) (past_members ts) (AreMembers ts)
head_object ts of =
    let ms = mapped_some object (members_at 126 no_members ts) _ _ (sym (value_at-begin_object 127 ts (omega arith)) ∙ of.found) in
    let found = members_deeper 126 no_members ts _ ms.0 ms.1 in
    let deeper = members_found no_members ts _ ms.0 found in
    record { head_is = sym ms.2 ∙ ap object (sym (members_data no_members ts _ ms.0 found)); rest = sym deeper.0; is = deeper.1 }

-- no other token begins a value
abbrev pub Begins : Token → Type 0
Begins Token.begin_object = Unit {0}
Begins Token.end_object = ⊥
Begins Token.begin_array = Unit {0}
Begins Token.end_array = ⊥
Begins (Token.key s) = ⊥
Begins (Token.string s) = Unit {0}
Begins (Token.number s) = Unit {0}
Begins (Token.boolean b) = Unit {0}
Begins Token.null = Unit {0}
Begins Token.bad = ⊥

no_value : (ts : List Token) → value 127 ts ≡ None → IsValue ts → ⊥
unfolding value_at
no_value ts e of = none_some _ (sym (ap (converted of_json) e) ∙ of.found)

pub value_begins : (t : Token) (ts : List Token) → IsValue (t ∷ ts) → Begins t
value_begins Token.begin_object ts of = tt
value_begins Token.end_object ts of = no_value (Token.end_object ∷ ts) (value_is 127 (Token.end_object ∷ ts)) of
value_begins Token.begin_array ts of = tt
value_begins Token.end_array ts of = no_value (Token.end_array ∷ ts) (value_is 127 (Token.end_array ∷ ts)) of
value_begins (Token.key s) ts of = no_value (Token.key s ∷ ts) (value_is 127 (Token.key s ∷ ts)) of
value_begins (Token.string s) ts of = tt
value_begins (Token.number s) ts of = tt
value_begins (Token.boolean b) ts of = tt
value_begins Token.null ts of = tt
value_begins Token.bad ts of = no_value (Token.bad ∷ ts) (value_is 127 (Token.bad ∷ ts)) of

pub some_token : IsValue [] → ⊥
some_token of = no_value [] (value_is 127 []) of

-- ---- entry by entry

pub record ItemTurn (ts : List Token) : Type 0 where
  pub value : IsValue ts
  pub more : AreItems (past_value ts)
  pub head_is : head_items ts ≡ item (head_value ts) (head_items (past_value ts))
  pub rest : past_items ts ≡ past_items (past_value ts)
  pub shorter : length (past_value ts) < length ts

item_turn_of : (ts : List Token) (o : Option (Data × List Token)) → after_end_array ts ≡ None → value_at 127 ts ≡ o → AreItems ts → ItemTurn ts
item_turn_of ts None going is of = absurd (none_some _ (sym (item_none 127 ts going is) ∙ of.found))
item_turn_of ts (Some (d, r)) going is of =
    let first = value_found ts r d is in
    let rest = mapped_some (item d) (items_at 127 r) _ _ (sym (item_more 127 ts r d going is) ∙ of.found) in
    let later = items_found r _ rest.0 rest.1 in
    record {
      value = first.is;
      more = subst AreItems (sym first.rest) later.is;
      head_is = sym rest.2 ∙ ap (item d) (sym later.head_is) ∙ ap (λ x. item x (head_items r)) (sym first.head_is) ∙ ap (λ t. item (head_value ts) (head_items t)) (sym first.rest);
      rest = sym later.rest ∙ ap past_items (sym first.rest);
      shorter = subst (λ t. length t < length ts) (sym first.rest) (value_at-shorter 127 ts d r is);
    }

pub item_turn : (ts : List Token) → AreItems ts → after_end_array ts ≡ None → ItemTurn ts
item_turn ts of going = item_turn_of ts (value_at 127 ts) going refl of

pub items_over : (ts r : List Token) → after_end_array ts ≡ Some r → (head_items ts ≡ no_items) × (past_items ts ≡ r)
items_over ts r e = let found = items_found ts r no_items (item_end 127 ts r e) in (found.head_is, found.rest)

-- ---- member by member

pub record MemberTurn (k : List ℕ) (ts s : List Token) : Type 0 where
  pub value : IsValue s
  pub more : AreMembers (past_value s)
  pub head_is : (known : Members) → head_members known ts ≡ head_members (put k (head_value s) known) (past_value s)
  pub rest : past_members ts ≡ past_members (past_value s)
  pub shorter : length (past_value s) < length s

member_turn_of : (k : List ℕ) (ts s : List Token) (o : Option (Data × List Token)) → read_key ts ≡ Some (Some k, s) → value_at 127 s ≡ o → AreMembers ts → MemberTurn k ts s
member_turn_of k ts s None key is of = absurd (none_some _ (sym (member_none 127 no_members k ts s key is) ∙ of.found no_members))
member_turn_of k ts s (Some (d, r)) key is of =
    let first = value_found s r d is in
    let again = λ (known : Members). sym (member_more 127 known k ts s r d key is) ∙ of.found known in
    let later = members_found (put k d no_members) r _ _ (again no_members) in
    record {
      value = first.is;
      more = subst AreMembers (sym first.rest) later.1;
      head_is = λ known. sym (members_data (put k d known) r _ _ (again known)) ∙ ap (λ x. head_members (put k x known) r) (sym first.head_is) ∙ ap (head_members (put k (head_value s) known)) (sym first.rest);
      rest = sym later.0 ∙ ap past_members (sym first.rest);
      shorter = subst (λ t. length t < length s) (sym first.rest) (value_at-shorter 127 s d r is);
    }

pub member_turn : (k : List ℕ) (ts s : List Token) → AreMembers ts → read_key ts ≡ Some (Some k, s) → MemberTurn k ts s
member_turn k ts s of key = member_turn_of k ts s (value_at 127 s) key refl of

pub members_over : (ts r : List Token) → read_key ts ≡ Some (None, r) → (past_members ts ≡ r) × ((known : Members) → head_members known ts ≡ known)
members_over ts r e =
    let found = members_found no_members ts r no_members (member_end 127 no_members ts r e) in
    (found.0, λ known. members_data known ts r known (member_end 127 known ts r e))

pub members_have_keys : (ts : List Token) → AreMembers ts → read_key ts ≡ None → ⊥
members_have_keys ts of e = none_some _ (sym (member_no_key 127 no_members ts e) ∙ of.found no_members)

-- ---- a value that is passed as a whole

pub value_skipped : (ts : List Token) → IsValue ts → option_map (λ p. p.1) (value 127 ts) ≡ Some (past_value ts)
unfolding value_at
value_skipped ts of = let j = converted_some of_json (value 127 ts) _ _ of.found in ap (option_map (λ p. p.1)) j.1

-- ---- each fact for itself

pub item_value : (ts : List Token) → AreItems ts → after_end_array ts ≡ None → IsValue ts
item_value ts of going = (item_turn ts of going).value

pub items_left : (ts : List Token) → AreItems ts → after_end_array ts ≡ None → AreItems (past_value ts)
items_left ts of going = (item_turn ts of going).more

pub items_past : (ts : List Token) → AreItems ts → after_end_array ts ≡ None → past_items (past_value ts) ≡ past_items ts
items_past ts of going = sym (item_turn ts of going).rest

pub items_head : (ts : List Token) → AreItems ts → after_end_array ts ≡ None → head_items ts ≡ item (head_value ts) (head_items (past_value ts))
items_head ts of going = (item_turn ts of going).head_is

pub items_shorter : (ts : List Token) → AreItems ts → after_end_array ts ≡ None → length (past_value ts) < length ts
items_shorter ts of going = (item_turn ts of going).shorter

pub items_end_past : (ts r : List Token) → after_end_array ts ≡ Some r → past_items ts ≡ r
items_end_past ts r e = (items_over ts r e).1

pub items_end_head : (ts r : List Token) → after_end_array ts ≡ Some r → head_items ts ≡ no_items
items_end_head ts r e = (items_over ts r e).0

pub member_value : (k : List ℕ) (ts s : List Token) → AreMembers ts → read_key ts ≡ Some (Some k, s) → IsValue s
member_value k ts s of key = (member_turn k ts s of key).value

pub members_left : (k : List ℕ) (ts s : List Token) → AreMembers ts → read_key ts ≡ Some (Some k, s) → AreMembers (past_value s)
members_left k ts s of key = (member_turn k ts s of key).more

pub members_past : (k : List ℕ) (ts s : List Token) → AreMembers ts → read_key ts ≡ Some (Some k, s) → past_members (past_value s) ≡ past_members ts
members_past k ts s of key = sym (member_turn k ts s of key).rest

pub members_head : (known : Members) (k : List ℕ) (ts s : List Token) → AreMembers ts → read_key ts ≡ Some (Some k, s) → head_members known ts ≡ head_members (put k (head_value s) known) (past_value s)
members_head known k ts s of key = (member_turn k ts s of key).head_is known

pub members_shorter : (k : List ℕ) (ts s : List Token) → AreMembers ts → read_key ts ≡ Some (Some k, s) → length (past_value s) < length ts
members_shorter k ts s of key = omega (arith, (member_turn k ts s of key).shorter, read_key-shorter ts (Some k) s key)

pub members_end_past : (ts r : List Token) → read_key ts ≡ Some (None, r) → past_members ts ≡ r
members_end_past ts r e = (members_over ts r e).0

pub members_end_head : (known : Members) (ts r : List Token) → read_key ts ≡ Some (None, r) → head_members known ts ≡ known
members_end_head known ts r e = (members_over ts r e).1 known
