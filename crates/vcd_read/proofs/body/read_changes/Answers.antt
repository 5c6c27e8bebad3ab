use Rattle.std.proofs.Common.{◌≡◌, List, Result, Ok, sym, ap, ◌∙◌}
use Rattle.vcd_read.specs.declared.fault.VcdFault.{VcdFault}
use Rattle.vcd_read.specs.Results.{◌>>=◌}
use Rattle.vcd_read.specs.Words.{Word}
use Rattle.vcd_read.specs.Seen.{word_of}
use Rattle.vcd_read.specs.Head.{Head}
use Rattle.vcd_read.specs.Changes.{Story}
use Rattle.vcd_read.specs.Meaning.{Meaning, InChanges, told_by}
use Rattle.vcd_read.specs.Commands.{change_at}
use Rattle.std.proofs.lemmas.Result.{err_from_is_err_and}
use Rattle.vcd_read.proofs.Leading.{fault_leads}
use Rattle.vcd_read.proofs.Wholes.{change_law}
use Rattle.vcd_read.proofs.body.read_changes.Goals as goal

abbrev on : Head → Story × List Word → Result Meaning VcdFault
on head found = told_by InChanges (record { head = head; story = found.0 }) found.1

pub loop-word-preserved : goal.loop-word-preserved
loop-word-preserved c =
    let head = c.args.head.now in
    let word = word_of c.in-Some.word in
    let known : c.head.inside.codes ≡ head.codes = ap (λ (h : Head). h.codes) c.head.view_is in
    let read : change_at head.codes c.loop-word.changes word word.bytes c.next_word.new.self ≡ Ok (c.change.new.changes, c.change.new.words) =
    ap (λ codes. change_at codes c.loop-word.changes word word.bytes c.next_word.new.self) (sym known) ∙ c.in_ok-change.ensures.change in
    sym (ap (λ found. found >>= on head) read) ∙ sym (change_law (record { head = head; story = c.loop-word.changes }) word c.next_word.new.self)
    ∙ sym (ap (told_by InChanges (record { head = head; story = c.loop-word.changes })) c.in-Some.ensures.word) ∙ c.loop-word.invariant

pub returns-in_err-change : goal.returns-in_err-change
returns-in_err-change c =
    let head = c.args.head.now in
    let word = word_of c.in-Some.word in
    let known : c.head.inside.codes ≡ head.codes = ap (λ (h : Head). h.codes) c.head.view_is in
    let whole = sym c.loop-word.invariant ∙ ap (told_by InChanges (record { head = head; story = c.loop-word.changes })) c.in-Some.ensures.word
    ∙ change_law (record { head = head; story = c.loop-word.changes }) word c.next_word.new.self in
    let p = err_from_is_err_and c.from_residual-in_err-change.result c.from_residual-in_err-change.ensures.1 in
    rw (p.1, p.2) (fault_leads c.in_err-change.field-0.0 (on head) (change_at c.head.inside.codes c.loop-word.changes word word.bytes c.next_word.new.self) _ c.in_err-change.ensures.change
    (whole ∙ ap (λ codes. change_at codes c.loop-word.changes word word.bytes c.next_word.new.self >>= on head) (sym known)))
