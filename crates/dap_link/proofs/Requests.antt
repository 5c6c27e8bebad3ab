-- A request with no listeners, and turns with none, are those of a conversation.
use Rattle.std.proofs.Common.{◌≡◌, List, [], map, Option, Some, sym, ap, ◌∙◌}
use Rattle.listen.specs.Pairs.{Heard}
use Rattle.world_core.specs.World.{World}
use Rattle.machine_core.specs.declared.request.Asked.{Asked}
use Rattle.machine_core.specs.declared.turn.Turned.{Turned}
use Rattle.machine_core.specs.Reading.{Reader}
use Rattle.machine_core.specs.Machine.{Machine, Answer, answer_of}
use Rattle.machine_core.specs.Journal.{Ran, notices_of, until_idle}
use Rattle.dap_link.specs.Conversation.{told_by}

-- of no boxes nobody is told
pub none_heard : {A : Type 0} (f : A → Heard) (boxes : List A) → boxes ≡ [] → map (λ h. Some h) (map f boxes) ≡ []
none_heard f boxes e = ap (λ b. map (λ h. Some h) (map f b)) e

-- a machine whose listeners mean this
abbrev heard_so : Machine → List (Option Heard) → Machine
heard_so m heard = record m { heard = heard }

pub asked_alone : (read : Reader) (w : World) (m : Machine) (asked : Asked) (heard : List (Option Heard)) (answer : Answer) → heard ≡ [] →
    answer ≡ answer_of read w (heard_so m heard) asked → told_by answer ≡ told_by (answer_of read w (heard_so m []) asked)
asked_alone read w m asked heard answer none e = ap told_by (e ∙ ap (λ h. answer_of read w (heard_so m h) asked) none)

-- turns until it is idle
pub ran_alone : (w : World) (m : Machine) (heard : List (Option Heard)) (ran : Ran) → heard ≡ [] → ran ≡ until_idle w (heard_so m heard) → ran ≡ until_idle w (heard_so m [])
ran_alone w m heard ran none e = e ∙ ap (λ h. until_idle w (heard_so m h)) none

pub lines_alone : (w : World) (turned : Turned) (m : Machine) (last : Ran) → (let ran : Ran = record { after = m; lines = notices_of w m turned } in ran) ≡ last →
    last.lines ≡ notices_of w last.after turned
lines_alone w turned m last e = sym (ap (λ ran. ran.lines) e) ∙ ap (λ ran. notices_of w ran.after turned) e
