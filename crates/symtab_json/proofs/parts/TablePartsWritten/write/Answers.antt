use Rattle.std.proofs.Common.{◌∷◌, ◌++◌, [], List, ℕ, true, false, codes, ap, ◌∙◌, append_assoc}
use Rattle.serde_json.specs.Data.{string, member, no_members}
use Rattle.serde_json.specs.Written.{members_text}
use Rattle.symtab_json.specs.Files.{count_json, list_json, node_json, variant_json, instance_json, slot_json, table_members}
use Rattle.symtab_json.proofs.Members.{member_more}
use Rattle.symtab_json.proofs.parts.TablePartsWritten.write.Goals as goal

pub returns : goal.returns
returns c =
    let parts = c.args.self.now in
    let version = member (codes "version") (count_json 2) no_members in
    let variants = member (codes "variants") (list_json variant_json parts.variants) version in
    let top = member (codes "top") (string parts.top) variants in
    let slots = member (codes "slots") (list_json slot_json parts.slots) top in
    let nodes = member (codes "nodes") (list_json node_json parts.nodes) slots in
    let first = member_more _ _ false (codes "instances") (list_json instance_json parts.instances) nodes c.in_ok-push_member.ensures in
    let second = member_more _ _ true (codes "nodes") (list_json node_json parts.nodes) slots c.in_ok-push_member-2.ensures in
    let third = member_more _ _ true (codes "slots") (list_json slot_json parts.slots) top c.in_ok-push_member-3.ensures in
    let fourth = member_more _ _ true (codes "top") (string parts.top) variants c.in_ok-push_member-4.ensures in
    let fifth = member_more _ _ true (codes "variants") (list_json variant_json parts.variants) version c.in_ok-push_member-5.ensures in
    let sixth = member_more _ _ true (codes "version") (count_json 2) no_members c.in_ok-push_member-6.ensures in
    c.in_ok-push-2.ensures.items ∙ sixth ∙ fifth ∙ fourth ∙ third ∙ second ∙ first
    ∙ ap (λ (t : List ℕ). t ++ members_text false (table_members parts)) c.in_ok-push.ensures.items
    ∙ append_assoc c.args.text.now.items (123 ∷ []) (members_text false (table_members parts))
