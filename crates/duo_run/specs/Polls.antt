-- What the polls of a link come to, where a session is served in lock step with them: a poll is a message, or nothing.
use Rattle.std.specs.Prelude.{◌≡◌, ℕ, List, [], ◌∷◌, ◌++◌, Option, None, Some, ◌⊎◌, if◌then◌else◌}
use Rattle.world_core.specs.World.{World}
use Rattle.machine_core.specs.Reading.{Reader}
use Rattle.link_edge.specs.declared.answers.End.{End}
use Rattle.link_edge.specs.declared.answers.End.TheVariants.{Failed, NoMemory}
use Rattle.duo_run.specs.Deeds.{Deed, Asks, Goes, Stage, after_ask, after_go, is_turn_due}

abbrev pub Poll : Type 0
Poll = Option (List ℕ)

-- a poll gives its request, where it was a message
abbrev pub asked_by : Poll → List Deed
asked_by None = []
asked_by (Some text) = Asks text ∷ []

abbrev pub after_poll : Reader → World → Stage → Poll → Stage
after_poll read w s None = s
after_poll read w s (Some text) = after_ask read w s text

-- and then one turn, exactly where it is due
abbrev pub turn_given : Stage → List Deed
turn_given s = if is_turn_due s then Goes ∷ [] else []

abbrev pub after_turn : World → Stage → Stage
after_turn w s = if is_turn_due s then after_go w s else s

-- what polls give, in order
unfoldable pub given : Reader → World → Stage → List Poll → List Deed
given read w s [] = []
given read w s (q ∷ qs) = (asked_by q ++ turn_given (after_poll read w s q)) ++ given read w (after_turn w (after_poll read w s q)) qs

unfoldable pub after_polls : Reader → World → Stage → List Poll → Stage
after_polls read w s [] = s
after_polls read w s (q ∷ qs) = after_polls read w (after_turn w (after_poll read w s q)) qs

-- ---- the last round

-- what may be done of the last round, by the end: its turn may be missing where the link failed or memory ran out, and its request
-- too where memory ran out
abbrev pub IsPart : End → Poll → List Deed → Type 0
IsPart end q done = ((done ≡ asked_by q) × ((end ≡ Failed) ⊎ (end ≡ NoMemory))) ⊎ ((done ≡ []) × (end ≡ NoMemory))

-- what polls give, but for the last round, of which a part was done
pub record CutShort (read : Reader) (w : World) (s : Stage) (end : End) (polls : List Poll) (deeds : List Deed) : Type 0 where
  pub before : List Poll
  pub last : Poll
  pub done : List Deed
  pub polled : polls ≡ before ++ last ∷ []
  pub part : IsPart end last done
  pub deeds_are : deeds ≡ given read w s before ++ done

abbrev pub MeetsPolls : Reader → World → Stage → End → List Poll → List Deed → Type 0
MeetsPolls read w s end polls deeds = (deeds ≡ given read w s polls) ⊎ CutShort read w s end polls deeds
