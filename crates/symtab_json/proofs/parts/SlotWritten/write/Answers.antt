use Rattle.std.proofs.Common.{◌∷◌, ◌++◌, [], List, ℕ, true, false, codes, ap, ap₂, ◌∙◌, append_assoc}
use Rattle.serde_json.specs.Data.{string, member, no_members}
use Rattle.serde_json.specs.Written.{members_text}
use Rattle.symtab_json.specs.Files.{count_json, list_json, gen_json, row_json}
use Rattle.symtab_json.proofs.Members.{member_more}
use Rattle.symtab_json.proofs.parts.SlotWritten.write.Goals as goal

pub returns : goal.returns
returns c =
    let slot = c.args.self.now in
    let at_file = c.file_of.result in
    let at_line = c.line_in.result in
    let variant = member (codes "variant") (count_json slot.variant) no_members in
    let rows = member (codes "rows") (list_json row_json slot.rows) variant in
    let names = member (codes "names") (list_json string slot.names) rows in
    let line = member (codes "line") (count_json at_line) names in
    let gens = member (codes "gens") (list_json gen_json slot.gens) line in
    let all = member (codes "file") (count_json at_file) gens in
    let first = member_more _ _ false (codes "file") (count_json at_file) gens c.in_ok-push_member.ensures in
    let second = member_more _ _ true (codes "gens") (list_json gen_json slot.gens) line c.in_ok-push_member-2.ensures in
    let third = member_more _ _ true (codes "line") (count_json at_line) names c.in_ok-push_member-3.ensures in
    let fourth = member_more _ _ true (codes "names") (list_json string slot.names) rows c.in_ok-push_member-4.ensures in
    let fifth = member_more _ _ true (codes "rows") (list_json row_json slot.rows) variant c.in_ok-push_member-5.ensures in
    let sixth = member_more _ _ true (codes "variant") (count_json slot.variant) no_members c.in_ok-push_member-6.ensures in
    c.in_ok-push-2.ensures.items ∙ sixth ∙ fifth ∙ fourth ∙ third ∙ second ∙ first
    ∙ ap (λ (t : List ℕ). t ++ members_text false all) c.in_ok-push.ensures.items
    ∙ append_assoc c.args.text.now.items (123 ∷ []) (members_text false all)
    ∙ ap₂ (λ (f l : ℕ). c.args.text.now.items ++ 123 ∷ members_text false
    (member (codes "file") (count_json f) (member (codes "gens") (list_json gen_json slot.gens) (member (codes "line") (count_json l) names)))) c.file_of.ensures c.line_in.ensures.line
