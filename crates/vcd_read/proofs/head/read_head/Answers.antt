use Rattle.std.proofs.Common.{◌≡◌, true, false, Result, sym, ap, ◌∙◌}
use Rattle.std.specs.Prelude.{List, codes}
use Rattle.std.proofs.lemmas.Result.{err_from_is_err_and}
use Rattle.vcd_read.specs.declared.fault.VcdFault.{VcdFault}
use Rattle.vcd_read.specs.Results.{◌>>=◌}
use Rattle.vcd_read.specs.Words.{Word, is_keyword}
use Rattle.vcd_read.specs.Seen.{word_of}
use Rattle.vcd_read.specs.Head.{Head}
use Rattle.vcd_read.specs.Changes.{no_story}
use Rattle.vcd_read.specs.Meaning.{Meaning, State, InHead, InChanges, told_by}
use Rattle.vcd_read.specs.Commands.{end_at, command_at}
use Rattle.vcd_read.proofs.Leading.{fault_leads}
use Rattle.vcd_read.proofs.Wholes.{command_law, head_end_law}
use Rattle.vcd_read.proofs.head.read_head.Goals as goal

abbrev state_of : Head → State
state_of head = record { head = head; story = no_story }

pub returns-in_err-end : goal.returns-in_err-end
returns-in_err-end c =
    let state = state_of c.loop-word.head in
    let last : is_keyword (codes "$enddefinitions") (word_of c.in-Some.word) ≡ true = cc in
    let p = err_from_is_err_and c.from_residual-in_err-end.result c.from_residual-in_err-end.ensures.1 in
    rw (p.1, p.2) (fault_leads c.in_err-end.field-0.0 (told_by InChanges state) (end_at c.next_word.new.self) _ c.in_err-end.ensures.rest
    (sym c.loop-word.invariant ∙ ap (told_by InHead state) c.in-Some.ensures.word ∙ head_end_law state (word_of c.in-Some.word) c.next_word.new.self last))

pub returns-then-is : goal.returns-then-is
returns-then-is c =
    let state = state_of c.loop-word.head in
    let last : is_keyword (codes "$enddefinitions") (word_of c.in-Some.word) ≡ true = cc in
    sym c.loop-word.invariant ∙ ap (told_by InHead state) c.in-Some.ensures.word ∙ head_end_law state (word_of c.in-Some.word) c.next_word.new.self last
    ∙ ap (λ rest. rest >>= told_by InChanges state) c.in_ok-end.ensures.rest

abbrev on : Head × List Word → Result Meaning VcdFault
on found = told_by InHead (state_of found.0) found.1

pub loop-word-preserved : goal.loop-word-preserved
loop-word-preserved c =
    let state = state_of c.loop-word.head in
    let other : is_keyword (codes "$enddefinitions") (word_of c.in-Some.word) ≡ false = cc in
    sym (ap (λ found. found >>= on) c.in_ok-command.ensures.head)
    ∙ sym (command_law state (word_of c.in-Some.word) c.next_word.new.self other) ∙ sym (ap (told_by InHead state) c.in-Some.ensures.word) ∙ c.loop-word.invariant

pub returns-in_err-command : goal.returns-in_err-command
returns-in_err-command c =
    let state = state_of c.loop-word.head in
    let other : is_keyword (codes "$enddefinitions") (word_of c.in-Some.word) ≡ false = cc in
    let p = err_from_is_err_and c.from_residual-in_err-command.result c.from_residual-in_err-command.ensures.1 in
    rw (p.1, p.2) (fault_leads c.in_err-command.field-0.0 on (command_at c.loop-word.head (word_of c.in-Some.word) c.next_word.new.self) _ c.in_err-command.ensures.head
    (sym c.loop-word.invariant ∙ ap (told_by InHead state) c.in-Some.ensures.word ∙ command_law state (word_of c.in-Some.word) c.next_word.new.self other))
