-- The values that tokens begin with, and the tokens behind them.
use Rattle.std.specs.Prelude.{◌≡◌, ℕ, List, [], length, Option, Some, option_map}
use Rattle.std.specs.Option.{option_map_or}
use Rattle.json.specs.Token.{Token}
use Rattle.json.specs.Json as json
use Rattle.serde_json.specs.Data.{Data, null, Items, no_items, Members, no_members}
use Rattle.serde_json.specs.Read.{of_json, of_items, of_members, converted, max_depth}

-- ---- lists and objects nested at most so deep

-- the value that tokens begin with, and those behind it
unfoldable pub value_at : ℕ → List Token → Option (Data × List Token)
value_at depth ts = converted of_json (json.value depth ts)

-- the entries of a list whose bracket was passed, and the tokens behind the list
unfoldable pub items_at : ℕ → List Token → Option (Items × List Token)
items_at depth ts = converted of_items (json.items (json.value depth) (length ts) ts)

-- the members of an object whose brace was passed, behind those that are known, and the tokens behind the object
unfoldable pub members_at : ℕ → Members → List Token → Option (Members × List Token)
members_at depth known ts = converted (λ ms. of_members ms known) (json.members (json.value depth) (length ts) ts)

-- ---- nested as deep as a file may

-- the value that tokens begin with
unfoldable pub head_value : List Token → Data
head_value ts = option_map_or (λ p. p.0) (value_at max_depth ts) null

-- the tokens behind it
unfoldable pub past_value : List Token → List Token
past_value ts = option_map_or (λ p. p.1) (value_at max_depth ts) []

-- tokens begin with a value
pub record IsValue (ts : List Token) : Type 0 where
  pub found : value_at max_depth ts ≡ Some (head_value ts, past_value ts)

-- the entries of a list that are left
unfoldable pub head_items : List Token → Items
head_items ts = option_map_or (λ p. p.0) (items_at max_depth ts) no_items

-- the tokens behind the list
unfoldable pub past_items : List Token → List Token
past_items ts = option_map_or (λ p. p.1) (items_at max_depth ts) []

-- entries are left, or none, and then the list ends
pub record AreItems (ts : List Token) : Type 0 where
  pub found : items_at max_depth ts ≡ Some (head_items ts, past_items ts)

-- the members of an object: those that are known, with those that are left
unfoldable pub head_members : Members → List Token → Members
head_members known ts = option_map_or (λ p. p.0) (members_at max_depth known ts) no_members

-- the tokens behind the object
unfoldable pub past_members : List Token → List Token
past_members ts = option_map_or (λ p. p.1) (members_at max_depth no_members ts) []

-- members are left, or none, and then the object ends
pub record AreMembers (ts : List Token) : Type 0 where
  pub found : (known : Members) → members_at max_depth known ts ≡ Some (head_members known ts, past_members ts)

-- ---- what is left alone

-- the tokens behind the value that they begin with, nested at most so deep
unfoldable pub passed_value : ℕ → List Token → Option (List Token)
passed_value depth ts = option_map (λ p. p.1) (value_at depth ts)

-- the tokens behind a list whose bracket was passed
unfoldable pub passed_items : ℕ → List Token → Option (List Token)
passed_items depth ts = option_map (λ p. p.1) (items_at depth ts)

-- the tokens behind an object whose brace was passed
unfoldable pub passed_members : ℕ → List Token → Option (List Token)
passed_members depth ts = option_map (λ p. p.1) (members_at depth no_members ts)
