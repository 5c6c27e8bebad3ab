-- What a file of version 2 differs in from one of version 1: the number of its version, and file 0 in each of its slots. Both tell one table.
use Rattle.std.specs.Prelude.{◌≡◌, ℕ, ◌≤◌, ◌^◌, List, length, codes, Option, Some, None}
use Rattle.serde_json.specs.Data.{Data, null, boolean, number, string, array, object, Items, no_items, item, Members, put}
use Rattle.serde_json.specs.Find.{get_member}
use Rattle.symtab_json.specs.Entries.{told_count, told_member}
use Rattle.symtab_json.specs.Files.{count_json}
use Rattle.symtab_json.specs.Told.{json_of, told_table, told_tree}

-- a slot with file 0, whatever its `file` was before
abbrev pub filed_slot : Data → Data
filed_slot null = null
filed_slot (boolean b) = boolean b
filed_slot (number n) = number n
filed_slot (string s) = string s
filed_slot (array ds) = array ds
filed_slot (object ms) = object (put (codes "file") (count_json 0) ms)

abbrev pub filed_items : Items → Items
filed_items no_items = no_items
filed_items (item d ds) = item (filed_slot d) (filed_items ds)

-- a list of such slots
abbrev pub filed_slots : Data → Data
filed_slots null = null
filed_slots (boolean b) = boolean b
filed_slots (number n) = number n
filed_slots (string s) = string s
filed_slots (array ds) = array (filed_items ds)
filed_slots (object ms) = object ms

-- the members of a file with such slots
abbrev pub with_filed : Option Data → Members → Members
with_filed None ms = ms
with_filed (Some slots) ms = put (codes "slots") (filed_slots slots) ms

-- the value of version 2 that differs from a value in the version and in file 0 of each slot alone
abbrev pub second_of : Data → Data
second_of null = null
second_of (boolean b) = boolean b
second_of (number n) = number n
second_of (string s) = string s
second_of (array ds) = array ds
second_of (object ms) = object (put (codes "version") (count_json 2) (with_filed (get_member (codes "slots") ms) ms))

-- it tells what a value of version 1 tells
abbrev pub VersionsTellOneTree : Type 0
VersionsTellOneTree = (d : Data) → told_member told_count (codes "version") d ≡ Some 1 → told_tree (second_of d) ≡ told_tree d

-- so texts of at most 64 MiB that are two such values tell one table, or one fault. Of two members of one key the last counts in both
abbrev pub VersionsTellOneTable : Type 0
VersionsTellOneTable =
    (first second : List ℕ) (d : Data) → length first ≤ 2 ^ 26 → length second ≤ 2 ^ 26 → told_member told_count (codes "version") d ≡ Some 1 →
    json_of first ≡ Some d → json_of second ≡ Some (second_of d) → told_table second ≡ told_table first
