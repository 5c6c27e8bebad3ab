use Rattle.std.proofs.Common.{◌≡◌, ◌≤◌, length, sym, ap, ◌∙◌, subst, rules, true, Ok, arith}
use Rattle.std.specs.Prelude.{nat_le}
use Rattle.std.proofs.lemmas.Bool.Decides.{nat_tests}
use Rattle.vcd_read.specs.Head.{Head, no_head}
use Rattle.vcd_read.specs.Changes.{no_story}
use Rattle.vcd_read.specs.Meaning.{Meaning, InHead, told_by}
use Rattle.vcd_read.specs.Kept.{IsVcd}
use Rattle.vcd_read.proofs.Keeping.{text_kept}
use Rattle.vcd_read.proofs.read.read_vcd.Goals as goal

pub new-requires-clause-placed : goal.new-requires-clause-placed
new-requires-clause-placed c = c.head.invariant.placed

pub new-requires-clause-kept : goal.new-requires-clause-kept
new-requires-clause-kept c =
    let text = c.args.text.now in
    let few : length text ≤ 67108864 = search rules in
    let P : Head → Type 0 = λ head. IsVcd (record { scopes = head.scopes; vars = head.vars; changes = c.in_ok-changes.changes.changes }) in
    subst P (sym c.head.view_is) (text_kept text _ few
    (ap (told_by InHead (record { head = no_head; story = no_story })) (sym c.of-words.ensures) ∙ c.in_ok-head.ensures ∙ c.in_ok-changes.ensures))

pub returns-clause-meaning : goal.returns-clause-meaning
returns-clause-meaning c =
    let text = c.args.text.now in
    let few : length text ≤ 67108864 = search rules in
    let test : nat_le (length text) 67108864 ≡ true = grind (arith, nat_tests) in
    let read : Head → Meaning = λ head. record { scopes = head.scopes; vars = head.vars; changes = c.in_ok-changes.changes.changes } in
    rw test (
    ap (told_by InHead (record { head = no_head; story = no_story })) (sym c.of-words.ensures) ∙ c.in_ok-head.ensures ∙ c.in_ok-changes.ensures
    ∙ ap (λ meaning. Ok meaning) (sym (c.new.ensures ∙ ap read c.head.view_is))
    )
