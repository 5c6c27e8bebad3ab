-- Lists and objects, an entry and a member at a time.
use Rattle.std.proofs.Common.{◌≡◌, ℕ, suc, ◌-◌, ◌<◌, List, ◌∷◌, length, Option, Some, None, option_map, option_and_then, refl, ap, ◌∙◌, arith}
use Rattle.json.specs.Token.{Token}
use Rattle.json.specs.Json as json
use Rattle.json.specs.Json.{Parse, parse_map, after_end_array, read_key, value}
use Rattle.json.proofs.Grammar.{left, value-begin_array, value-begin_object, items_end, items_fail, items_more, members_end, members_no_key, members_fail, members_more, read_key-shorter, skip_value-shorter}
use Rattle.serde_json.specs.Data.{Data, array, object, Items, no_items, item, Members, no_members, put}
use Rattle.serde_json.specs.Read.{of_json, of_items, of_members, converted}
use Rattle.symtab_json.specs.Standing.{value_at, items_at, members_at}
use Rattle.symtab_json.proofs.Deeper.{value_within, value_none, items_within, members_within, enough_items, enough_members}

-- ---- what was read, under a conversion

pub mapped_some : {A B : Type 0} (f : A → B) (o : Option (A × List Token)) (b : B) (r : List Token) → parse_map f o ≡ Some (b, r) → (a : A) × (o ≡ Some (a, r)) × (f a ≡ b)
mapped_some f None b r e = absurd (cc)
mapped_some f (Some (a, s)) b r e = let same : (f a, s) ≡ (b, r) = cc in (a, ap (λ (p : _ × List Token). Some (a, p.1)) same, ap (λ (p : _ × List Token). p.0) same)

found_at : {A B : Type 0} (a : A) (s : List Token) (x : Option B) (b : B) (r : List Token) → option_map {U = B × List Token} (λ y. (y, s)) x ≡ Some (b, r) → (s ≡ r) × (x ≡ Some b)
found_at a s None b r e = absurd (cc)
found_at {A} {B} a s (Some y) b r e = let same : (y, s) ≡ (b, r) = cc in (ap (λ (p : B × List Token). p.1) same, ap (λ (p : B × List Token). Some p.0) same)

pub converted_some : {A B : Type 0} (f : A → Option B) (o : Option (A × List Token)) (b : B) (r : List Token) → converted f o ≡ Some (b, r) → (a : A) × (o ≡ Some (a, r)) × (f a ≡ Some b)
converted_some f None b r e = absurd (cc)
converted_some {A} f (Some (a, s)) b r e = let of = found_at a s (f a) b r e in (a, ap (λ (t : List Token). Some (a, t)) of.0, of.1)

converted_none : {A B : Type 0} (f : A → Option B) (a : A) (s : List Token) → converted f (Some (a, s)) ≡ None → f a ≡ None
converted_none {A} {B} f a s e = none (f a) e
  where
    none : (x : Option B) → option_map {U = B × List Token} (λ y. (y, s)) x ≡ None → x ≡ None
    none None e = refl
    none (Some y) e = absurd (cc)

twice : {A B : Type 0} (g : A → B) (r : List Token) (x : Option A) → option_map {U = B × List Token} (λ b. (b, r)) (option_map g x) ≡ parse_map g (option_map (λ a. (a, r)) x)
twice g r None = refl
twice g r (Some a) = refl

converted-array : (o : Option (json.Items × List Token)) → converted of_json (parse_map json.array o) ≡ parse_map array (converted of_items o)
converted-array None = refl
converted-array (Some p) = twice array p.1 (of_items p.0)

converted-object : (o : Option (json.Members × List Token)) → converted of_json (parse_map json.object o) ≡ parse_map object (converted (λ ms. of_members ms no_members) o)
converted-object None = refl
converted-object (Some p) = twice object p.1 (of_members p.0 no_members)

converted-item : (j : json.Json) (d : Data) → of_json j ≡ Some d → (o : Option (json.Items × List Token)) → converted of_items (parse_map (json.item j) o) ≡ parse_map (item d) (converted of_items o)
converted-item j d e None = refl
converted-item j d e (Some p) = rw e (twice (item d) p.1 (of_items p.0))

converted-no_item : (j : json.Json) → of_json j ≡ None → (o : Option (json.Items × List Token)) → converted of_items (parse_map (json.item j) o) ≡ None
converted-no_item j e None = refl
converted-no_item j e (Some p) = rw e

converted-member : (k : List ℕ) (j : json.Json) (d : Data) (known : Members) → of_json j ≡ Some d → (o : Option (json.Members × List Token))
    → converted (λ ms. of_members ms known) (parse_map (json.member k j) o) ≡ converted (λ ms. of_members ms (put k d known)) o
converted-member k j d known e None = refl
converted-member k j d known e (Some p) = rw e

converted-no_member : (k : List ℕ) (j : json.Json) (known : Members) → of_json j ≡ None → (o : Option (json.Members × List Token)) → converted (λ ms. of_members ms known) (parse_map (json.member k j) o) ≡ None
converted-no_member k j known e None = refl
converted-no_member k j known e (Some p) = rw e

-- ---- values

pub value_at-begin_array : (depth : ℕ) (ts : List Token) → 0 < depth → value_at depth (Token.begin_array ∷ ts) ≡ parse_map array (items_at (depth - 1) ts)
unfolding value_at items_at
value_at-begin_array depth ts h = ap (converted of_json) (value-begin_array depth ts h) ∙ converted-array (json.items (value (depth - 1)) (length ts) ts)

pub value_at-begin_object : (depth : ℕ) (ts : List Token) → 0 < depth → value_at depth (Token.begin_object ∷ ts) ≡ parse_map object (members_at (depth - 1) no_members ts)
unfolding value_at members_at
value_at-begin_object depth ts h = ap (converted of_json) (value-begin_object depth ts h) ∙ converted-object (json.members (value (depth - 1)) (length ts) ts)

pub value_at-shorter : (depth : ℕ) (ts : List Token) (d : Data) (r : List Token) → value_at depth ts ≡ Some (d, r) → length r < length ts
unfolding value_at
value_at-shorter depth ts d r e = let j = converted_some of_json (value depth ts) d r e in skip_value-shorter depth ts r (ap left j.1)

-- ---- entries

pub item_end : (depth : ℕ) (ts r : List Token) → after_end_array ts ≡ Some r → items_at depth ts ≡ Some (no_items, r)
unfolding items_at
item_end depth ts r e = ap (converted of_items) (items_end (value depth) (length ts) ts r (omega arith) e)

pub item_more : (depth : ℕ) (ts r : List Token) (d : Data) → after_end_array ts ≡ None → value_at depth ts ≡ Some (d, r) → items_at depth ts ≡ parse_map (item d) (items_at depth r)
unfolding value_at items_at
item_more depth ts r d going e =
    let j = converted_some of_json (value depth ts) d r e in
    let less : length r < length ts = skip_value-shorter depth ts r (ap left j.1) in
    ap (converted of_items) (items_more (value depth) (length ts) ts r j.0 (omega arith) going j.1 ∙ ap (parse_map (json.item j.0)) (enough_items depth (length ts - 1) r (omega arith)))
    ∙ converted-item j.0 d j.2 _

item_none_of : (depth : ℕ) (ts : List Token) (o : Option (json.Json × List Token)) → after_end_array ts ≡ None → value depth ts ≡ o → converted of_json o ≡ None → items_at depth ts ≡ None
unfolding items_at
item_none_of depth ts None going is e = ap (converted of_items) (items_fail (value depth) (length ts) ts going is)
item_none_of depth ts (Some (j, r)) going is e =
    let less : length r < length ts = skip_value-shorter depth ts r (ap left is) in
    ap (converted of_items) (items_more (value depth) (length ts) ts r j (omega arith) going is) ∙ converted-no_item j (converted_none of_json j r e) _

pub item_none : (depth : ℕ) (ts : List Token) → after_end_array ts ≡ None → value_at depth ts ≡ None → items_at depth ts ≡ None
unfolding value_at
item_none depth ts going e = item_none_of depth ts (value depth ts) going refl e

-- ---- members

pub member_end : (depth : ℕ) (known : Members) (ts r : List Token) → read_key ts ≡ Some (None, r) → members_at depth known ts ≡ Some (known, r)
unfolding members_at
member_end depth known ts r e = ap (converted (λ ms. of_members ms known)) (members_end (value depth) (length ts) ts r (omega arith) e)

pub member_more : (depth : ℕ) (known : Members) (k : List ℕ) (ts s r : List Token) (d : Data) → read_key ts ≡ Some (Some k, s) → value_at depth s ≡ Some (d, r) → members_at depth known ts ≡ members_at depth (put k d known) r
unfolding value_at members_at
member_more depth known k ts s r d key e =
    let j = converted_some of_json (value depth s) d r e in
    let less : length r < length s = skip_value-shorter depth s r (ap left j.1) in
    let fewer = read_key-shorter ts (Some k) s key in
    ap (converted (λ ms. of_members ms known)) (members_more (value depth) (length ts) k ts s r j.0 (omega arith) key j.1 ∙ ap (parse_map (json.member k j.0)) (enough_members depth (length ts - 1) r (omega arith)))
    ∙ converted-member k j.0 d known j.2 _

member_none_of : (depth : ℕ) (known : Members) (k : List ℕ) (ts s : List Token) (o : Option (json.Json × List Token)) → read_key ts ≡ Some (Some k, s) → value depth s ≡ o → converted of_json o ≡ None
    → members_at depth known ts ≡ None
unfolding members_at
member_none_of depth known k ts s None key is e = ap (converted (λ ms. of_members ms known)) (members_fail (value depth) (length ts) k ts s key is)
member_none_of depth known k ts s (Some (j, r)) key is e =
    let fewer = read_key-shorter ts (Some k) s key in
    ap (converted (λ ms. of_members ms known)) (members_more (value depth) (length ts) k ts s r j (omega arith) key is) ∙ converted-no_member k j known (converted_none of_json j r e) _

pub member_none : (depth : ℕ) (known : Members) (k : List ℕ) (ts s : List Token) → read_key ts ≡ Some (Some k, s) → value_at depth s ≡ None → members_at depth known ts ≡ None
unfolding value_at
member_none depth known k ts s key e = member_none_of depth known k ts s (value depth s) key refl e

pub member_no_key : (depth : ℕ) (known : Members) (ts : List Token) → read_key ts ≡ None → members_at depth known ts ≡ None
unfolding members_at
member_no_key depth known ts e = ap (converted (λ ms. of_members ms known)) (members_no_key (value depth) (length ts) ts e)

-- ---- whatever is known before

known_of : (j : json.Json) (ms : json.Members) (k : List ℕ) (before known : Members) (o : Option Data) (d : Members)
    → ((b c : Members) (x : Members) → of_members ms b ≡ Some x → (y : Members) × (of_members ms c ≡ Some y))
    → option_and_then (λ e. of_members ms (put k e before)) o ≡ Some d → (y : Members) × (option_and_then (λ e. of_members ms (put k e known)) o ≡ Some y)
known_of j ms k before known None d again e = absurd (cc)
known_of j ms k before known (Some x) d again e = again (put k x before) (put k x known) d e

-- members that are read are so behind any others
pub any_known : (ms : json.Members) (before known found : Members) → of_members ms before ≡ Some found → (all : Members) × (of_members ms known ≡ Some all)
any_known json.no_members before known found e = (known, refl)
any_known (json.member k j ms) before known found e = known_of j ms k before known (of_json j) found (λ b c x. any_known ms b c x) e

pub members_any : (depth : ℕ) (before known found : Members) (ts r : List Token) → members_at depth before ts ≡ Some (found, r) → (all : Members) × (members_at depth known ts ≡ Some (all, r))
unfolding members_at
members_any depth before known found ts r e =
    let js = converted_some (λ ms. of_members ms before) (json.members (value depth) (length ts) ts) found r e in
    let all = any_known js.0 before known found js.2 in
    (all.0, ap (converted (λ ms. of_members ms known)) js.1 ∙ ap (option_map (λ ms. (ms, r))) all.1)

-- ---- nested deeper

pub value_deeper : (depth : ℕ) (ts r : List Token) (d : Data) → value_at depth ts ≡ Some (d, r) → value_at (suc depth) ts ≡ Some (d, r)
unfolding value_at
value_deeper depth ts r d e =
    let j = converted_some of_json (value depth ts) d r e in
    ap (converted of_json) (value_within depth ts _ j.1) ∙ ap (option_map (λ x. (x, r))) j.2

pub items_deeper : (depth : ℕ) (ts r : List Token) (ds : Items) → items_at depth ts ≡ Some (ds, r) → items_at (suc depth) ts ≡ Some (ds, r)
unfolding items_at
items_deeper depth ts r ds e =
    let js = converted_some of_items (json.items (value depth) (length ts) ts) ds r e in
    ap (converted of_items) (items_within (value depth) (value (suc depth)) (skip_value-shorter depth) (value_none depth) (value_within depth) (length ts) (length ts) ts (omega arith) _ js.1)
    ∙ ap (option_map (λ x. (x, r))) js.2

pub members_deeper : (depth : ℕ) (known : Members) (ts r : List Token) (found : Members) → members_at depth known ts ≡ Some (found, r) → members_at (suc depth) known ts ≡ Some (found, r)
unfolding members_at
members_deeper depth known ts r found e =
    let js = converted_some (λ ms. of_members ms known) (json.members (value depth) (length ts) ts) found r e in
    ap (converted (λ ms. of_members ms known)) (members_within (value depth) (value (suc depth)) (skip_value-shorter depth) (value_none depth) (value_within depth) (length ts) (length ts) ts (omega arith) _ js.1)
    ∙ ap (option_map (λ x. (x, r))) js.2
