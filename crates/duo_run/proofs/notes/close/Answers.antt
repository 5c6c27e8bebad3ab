use Rattle.std.proofs.Common.{rules, ◌≡◌, map}
use Rattle.machine_core.specs.Journal.{Noticed}
use Rattle.req_json.specs.Texts.{texts_of}
use Rattle.duo_run.proofs.notes.close.Goals as goal

pub returns-in-Ok-clause-keeps : goal.returns-in-Ok-clause-keeps
returns-in-Ok-clause-keeps g c = λ start made lines is was.
    let e : map (λ n. Noticed n) c.in-Ok.notices.items ≡ lines = search rules in
    rw (← e, ← c.deref.ensures.value) (c.note_all.ensures.keeps start made was)

pub returns-in-Err-clause-keeps : goal.returns-in-Err-clause-keeps
returns-in-Err-clause-keeps g c = λ start made lines is was. c.lose.ensures.keeps start made (texts_of lines) was
