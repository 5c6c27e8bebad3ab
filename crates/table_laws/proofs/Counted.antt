-- A symbol file has a byte at least for each node.
use Rattle.std.proofs.Common.{ℕ, ◌≤◌, ◌<◌, Bool, true, false, List, [], ◌∷◌, ◌++◌, length, length-append, map, codes, arith}
use Rattle.serde_json.specs.Data.{Data, string, Members, member, no_members}
use Rattle.serde_json.specs.View.{items_of}
use Rattle.serde_json.specs.Written.{comma_if, compact_text, items_text, members_text}
use Rattle.json.specs.Print.{quoted}
use Rattle.symtab.specs.declared.parts.NodeName.{NodeName}
use Rattle.symtab.specs.declared.parts.TableParts.{TableParts}
use Rattle.symtab_json.specs.Files.{count_json, list_json, node_json, instance_json, slot_json, variant_json, symbols_text}

items_long : (later : Bool) (nodes : List NodeName) → length nodes ≤ length (items_text later (items_of (map node_json nodes)))
items_long later [] = omega arith
items_long later (node ∷ nodes) =
    let rest = items_text true (items_of (map node_json nodes)) in
    let text = compact_text (node_json node) in
    let some : 0 < length text = omega arith in
    omega (arith, items_long true nodes, some, length-append (comma_if later) (text ++ rest), length-append text rest)

member_length : (later : Bool) (key : List ℕ) (d : Data) (ms : Members) → (length (compact_text d) ≤ length (members_text later (member key d ms))) × (length (members_text true ms) ≤ length (members_text later (member key d ms)))
member_length later key d ms =
    let text = compact_text d in
    let rest = members_text true ms in
    let all = length-append (comma_if later) (quoted key ++ 58 ∷ (text ++ rest)) in
    let named = length-append (quoted key) (58 ∷ (text ++ rest)) in
    let both = length-append text rest in
    (omega (arith, all, named, both), omega (arith, all, named, both))

nodes_within : (d : Data) (nodes : List NodeName) (ms : Members) → length nodes ≤ length (members_text false (member (codes "instances") d (member (codes "nodes") (list_json node_json nodes) ms)))
nodes_within d nodes ms =
    let list : length nodes ≤ length (compact_text (list_json node_json nodes)) = omega (arith, items_long false nodes) in
    let inner = (member_length true (codes "nodes") (list_json node_json nodes) ms).0 in
    let outer = (member_length false (codes "instances") d (member (codes "nodes") (list_json node_json nodes) ms)).1 in
    omega (arith, list, inner, outer)

-- what stands behind the nodes
abbrev behind : TableParts → Members
behind parts =
    member (codes "slots") (list_json slot_json parts.slots) (
    member (codes "top") (string parts.top) (
    member (codes "variants") (list_json variant_json parts.variants) (
    member (codes "version") (count_json 2) no_members)))

pub nodes_few : (parts : TableParts) → length parts.nodes ≤ length (symbols_text parts)
nodes_few parts = omega (arith, nodes_within (list_json instance_json parts.instances) parts.nodes (behind parts))
