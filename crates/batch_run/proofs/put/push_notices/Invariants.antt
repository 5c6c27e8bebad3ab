use Rattle.std.proofs.Common.{◌≡◌, ◌++◌, map, drop}
use Rattle.machine_core.specs.Journal.{Noticed}
use Rattle.batch_run.specs.Texts.{session_text}
use Rattle.batch_run.proofs.put.push_notices.Given as goal

-- the lines so far, and those that are left
abbrev pub invariant-loop-notice : goal.invariant-loop-notice
invariant-loop-notice l =
    l.text.items ++ session_text (map (λ n. Noticed n) (drop l.notice-index l.notices)) ≡ l.initial.text.items ++ session_text (map (λ n. Noticed n) l.notices)
