use Rattle.std.proofs.Common.{rules, ◌≡◌, ◌∷◌, [], append-nil, List}
use Rattle.machine_core.specs.Journal.{Line, Noticed}
use Rattle.req_json.specs.Texts.{line_text, texts_of}
use Rattle.duo_run.proofs.notes.note.Goals as goal

pub returns-in-Ok-Some-clause-keeps : goal.returns-in-Ok-Some-clause-keeps
unfolding line_text
returns-in-Ok-Some-clause-keeps g c = λ start made lines is was.
    let e : Noticed c.in-Ok-Some.notice ∷ [] ≡ lines = search rules in
    rw (← e) (c.tell.ensures.keeps start made (line_text (Noticed c.in-Ok-Some.notice)) c.notice_text.ensures was)

pub returns-in-Ok-None-clause-keeps : goal.returns-in-Ok-None-clause-keeps
returns-in-Ok-None-clause-keeps g c = λ start made lines is was.
    let e : (let none : List Line = [] in none) ≡ lines = search rules in
    rw (← e, append-nil) was

pub returns-in-Err-clause-keeps : goal.returns-in-Err-clause-keeps
returns-in-Err-clause-keeps g c = λ start made lines is was. c.lose.ensures.keeps start made (texts_of lines) was
