-- The JSON of a file is read back as its tree.
use Rattle.std.proofs.Common.{◌≡◌, ℕ, suc, ◌≤◌, ◌<◌, ◌^◌, ℤ, pos, negsuc, ◌∷◌, ◌++◌, [], List, Bool, true, false, Some, option_map, option_and_then, IsUtf8, refl, sym, ap, ◌∙◌, arith, append-nil, map}
use Rattle.std.specs.List.{AllByRecursion}
use Rattle.std.proofs.lemmas.Str.{IsUtf8-append, is_utf8-from_IsUtf8, IsUtf8-from_ascii}
use Rattle.std.proofs.lemmas.Fmt.{IsAscii-decimal, IsAscii-signed}
use lib.Signed.{mag}
use Rattle.json.specs.Lex.{tokens}
use Rattle.json.specs.Json as json
use Rattle.json.specs.Tree as tree
use Rattle.json.proofs.Printed.Tokens.{tokens-print}
use Rattle.json.proofs.Printed.Trees.{value-json_tokens, ArePrintable-json_tokens}
use Rattle.json.proofs.Printed.Utf8.{IsUtf8-quoted, IsUtf8-are_ascii}
use Rattle.json.proofs.Printed.Decimals.{IsNumber-decimal, IsNumber-signed_decimal}
use Rattle.serde_json.specs.Data.{Data, number, string, array, object, Items, item, no_items, Members, member, no_members, put}
use Rattle.serde_json.specs.Find.{of_integer}
use Rattle.serde_json.specs.Read.{read, of_json, of_items, of_members, max_depth}
use Rattle.serde_json.specs.View.{items_of}
use Rattle.serde_json.specs.Written.{outline, items_outline, members_outline, compact_text, items_text, members_text, comma_if}
use Rattle.serde_json.proofs.Texts.{print-outline}
use Rattle.serde_json.proofs.Numbers.{number_of-decimal, number_of-negative}
use Rattle.symtab_json.specs.Files.{count_json, list_json, pair_json}
use Rattle.symtab_json.specs.Told.{json_of}

-- a value whose JSON is read as the value, is UTF-8, and nests so deep at most
pub record Round (n : ℕ) (d : Data) : Type 0 where
  pub back : of_json (outline d) ≡ Some d
  pub numbers : tree.HasNumbers (outline d)
  pub utf8 : IsUtf8 (compact_text d)
  pub deep : tree.depth (outline d) ≤ n

record RoundItems (n : ℕ) (ds : Items) : Type 0 where
  pub back : of_items (items_outline ds) ≡ Some ds
  pub numbers : tree.ItemsHaveNumbers (items_outline ds)
  pub utf8 : (later : Bool) → IsUtf8 (items_text later ds)
  pub deep : tree.items_depth (items_outline ds) ≤ n

-- of members all but how they are read, which goes by their keys
pub record RoundMembers (n : ℕ) (ms : Members) : Type 0 where
  pub numbers : tree.MembersHaveNumbers (members_outline ms)
  pub utf8 : (later : Bool) → IsUtf8 (members_text later ms)
  pub deep : tree.members_depth (members_outline ms) ≤ n

-- ---- texts and numbers

pub round_string : (n : ℕ) (s : List ℕ) → IsUtf8 s → Round n (string s)
round_string n s u = record { back = refl; numbers = tt; utf8 = IsUtf8-quoted s u; deep = omega arith }

pub round_count : (n k : ℕ) → k < 2 ^ 64 → Round n (count_json k)
round_count n k h = record { back = ap (option_map number) (number_of-decimal k h); numbers = IsNumber-decimal k h; utf8 = IsUtf8-from_ascii _ (IsAscii-decimal k h); deep = omega arith }

pub round_integer : (n : ℕ) (z : ℤ) → mag z < 2 ^ 63 → Round n (number (of_integer z))
round_integer n (pos k) h = round_count n k (omega arith)
round_integer n (negsuc k) h = record {
  back = ap (option_map number) (number_of-negative k (omega arith));
  numbers = IsNumber-signed_decimal (negsuc k) h;
  utf8 = IsUtf8-from_ascii _ (IsAscii-signed (negsuc k) h);
  deep = omega arith;
}

-- ---- lists

comma_utf8 : (later : Bool) → IsUtf8 (comma_if later)
comma_utf8 true = IsUtf8-are_ascii _ refl
comma_utf8 false = IsUtf8-are_ascii _ refl

round_none : (n : ℕ) → RoundItems n no_items
round_none n = record { back = refl; numbers = tt; utf8 = λ later. IsUtf8-are_ascii _ refl; deep = omega arith }

round_item : (n : ℕ) (d : Data) (ds : Items) → Round n d → RoundItems n ds → RoundItems n (item d ds)
round_item n d ds first rest = record {
  back = ap (option_and_then (λ e. option_map (item e) (of_items (items_outline ds)))) first.back ∙ ap (option_map (item d)) rest.back;
  numbers = (first.numbers, rest.numbers);
  utf8 = λ later. IsUtf8-append _ _ (comma_utf8 later) (IsUtf8-append _ _ first.utf8 (rest.utf8 true));
  deep = omega (arith, first.deep, rest.deep);
}

round_array : (n : ℕ) (ds : Items) → RoundItems n ds → Round (suc n) (array ds)
round_array n ds of = record {
  back = ap (option_map array) of.back;
  numbers = of.numbers;
  utf8 = IsUtf8-append (91 ∷ []) _ (IsUtf8-are_ascii _ refl) (of.utf8 false);
  deep = omega (arith, of.deep);
}

round_items : {A : Type 0} (n : ℕ) (tree : A → Data) (xs : List A) → AllByRecursion (λ x. Round n (tree x)) xs → RoundItems n (items_of (map tree xs))
round_items n tree [] h = round_none n
round_items n tree (x ∷ xs) h = round_item n (tree x) (items_of (map tree xs)) h.0 (round_items n tree xs h.1)

pub round_list : {A : Type 0} (n : ℕ) (tree : A → Data) (xs : List A) → AllByRecursion (λ x. Round n (tree x)) xs → Round (suc n) (list_json tree xs)
round_list n tree xs h = round_array n (items_of (map tree xs)) (round_items n tree xs h)

pub round_pair : (n : ℕ) (first second : Data) → Round n first → Round n second → Round (suc n) (pair_json first second)
round_pair n first second p q = round_array n (item first (item second no_items)) (round_item n first (item second no_items) p (round_item n second no_items q (round_none n)))

-- ---- objects

pub round_end : (n : ℕ) → RoundMembers n no_members
round_end n = record { numbers = tt; utf8 = λ later. IsUtf8-are_ascii _ refl; deep = omega arith }

pub round_member : (n : ℕ) (key : List ℕ) (d : Data) (ms : Members) → IsUtf8 key → Round n d → RoundMembers n ms → RoundMembers n (member key d ms)
round_member n key d ms named first rest = record {
  numbers = (first.numbers, rest.numbers);
  utf8 = λ later. IsUtf8-append _ _ (comma_utf8 later) (IsUtf8-append _ _ (IsUtf8-quoted key named) (IsUtf8-append (58 ∷ []) _ (IsUtf8-are_ascii _ refl) (IsUtf8-append _ _ first.utf8 (rest.utf8 true))));
  deep = omega (arith, first.deep, rest.deep);
}

pub round_object : (n : ℕ) (ms : Members) → of_members (members_outline ms) no_members ≡ Some ms → RoundMembers n ms → Round (suc n) (object ms)
round_object n ms back of = record {
  back = ap (option_map object) back;
  numbers = of.numbers;
  utf8 = IsUtf8-append (123 ∷ []) _ (IsUtf8-are_ascii _ refl) (of.utf8 false);
  deep = omega (arith, of.deep);
}

-- a member that is read
pub member_back : (n : ℕ) (key : List ℕ) (d : Data) (ms found : Members) → Round n d → of_members (members_outline (member key d ms)) found ≡ of_members (members_outline ms) (put key d found)
member_back n key d ms found of = ap (option_and_then (λ e. of_members (members_outline ms) (put key e found))) of.back

-- ---- whole texts

read_back : (d : Data) → Round 127 d → read (compact_text d) ≡ Some d
read_back d of =
    let j = outline d in
    let same : tokens (compact_text d) ≡ tree.json_tokens j ++ [] = ap tokens (sym (print-outline d)) ∙ tokens-print (tree.json_tokens j) (ArePrintable-json_tokens j of.numbers) ∙ sym (append-nil (tree.json_tokens j)) in
    ap (λ o. option_and_then of_json (option_and_then (λ p. json.if_last p.0 p.1) o)) (ap (json.value max_depth) same ∙ value-json_tokens j max_depth [] of.deep) ∙ of.back

pub json_back : (d : Data) → Round 127 d → json_of (compact_text d) ≡ Some d
json_back d of = rw (is_utf8-from_IsUtf8 (compact_text d) of.utf8) (read_back d of)
