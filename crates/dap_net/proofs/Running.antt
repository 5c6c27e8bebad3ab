-- A conversation over a world, from its beginning, is one over each run that is that world.
use Rattle.std.proofs.Common.{◌≡◌, ℕ, List, Option, subst}
use Rattle.world_core.specs.World.{World}
use Rattle.machine_core.specs.Reading.{Reader}
use Rattle.dap_link.specs.Conversation.{Conversation}
use Rattle.dap_run.specs.Talks.{TalksTo}
use Rattle.dap_run.specs.declared.ends.TalkEnd.{TalkEnd}

pub talks_so : (end : TalkEnd) (read : Reader) (w now_w : World) (names now_names : List (List ℕ)) (first now_first : Conversation) (left0 left old new : Option (List ℕ)) → now_w ≡ w → now_names ≡ names → now_first ≡ first
    → TalksTo end read now_w now_names now_first left0 left old new → TalksTo end read w names first left0 left old new
talks_so end read w now_w names now_names first now_first left0 left old new p q r t =
    subst (λ (x : World). TalksTo end read x names first left0 left old new) p
    (subst (λ (x : List (List ℕ)). TalksTo end read now_w x first left0 left old new) q
    (subst (λ (x : Conversation). TalksTo end read now_w now_names x left0 left old new) r t))
