-- What polls give, when a poll is put last; and what is never given.
use Rattle.std.proofs.Common.{◌≡◌, Bool, true, false, ◌&&◌, List, [], ◌∷◌, ◌++◌, None, Some, refl, sym, ◌∙◌, ap, append_assoc, append-nil, if◌then◌else◌}
use Rattle.world_core.specs.World.{World}
use Rattle.machine_core.specs.Reading.{Reader}
use Rattle.duo_run.specs.Deeds.{Deed, Goes, Stage, after_ask, after_go, after_deeds, is_turn_due, no_request_next, is_paced}
use Rattle.duo_run.specs.Polls.{Poll, asked_by, after_poll, turn_given, after_turn, given, after_polls}
use Rattle.duo_run.proofs.Doing.{after_append}

module _ (read : Reader) (w : World) where
  pub given_snoc : (s : Stage) (ps : List Poll) (q : Poll) → given read w s (ps ++ q ∷ []) ≡ given read w s ps ++ (asked_by q ++ turn_given (after_poll read w (after_polls read w s ps) q))
  unfolding given after_polls
  given_snoc s [] q = append-nil (asked_by q ++ turn_given (after_poll read w s q))
  given_snoc s (p ∷ ps) q =
      ap (λ l. (asked_by p ++ turn_given (after_poll read w s p)) ++ l) (given_snoc (after_turn w (after_poll read w s p)) ps q)
      ∙ sym (append_assoc (asked_by p ++ turn_given (after_poll read w s p)) (given read w (after_turn w (after_poll read w s p)) ps) _)

  -- the deeds of polls leave what the polls leave
  after_turns : (s : Stage) (b : Bool) → after_deeds read w s (if b then Goes ∷ [] else []) ≡ (if b then after_go w s else s)
  unfolding after_deeds
  after_turns s true = refl
  after_turns s false = refl

  pub after_asked : (s : Stage) (q : Poll) → after_deeds read w s (asked_by q) ≡ after_poll read w s q
  unfolding after_deeds
  after_asked s None = refl
  after_asked s (Some text) = refl

  after_round : (s : Stage) (q : Poll) → after_deeds read w s (asked_by q ++ turn_given (after_poll read w s q)) ≡ after_turn w (after_poll read w s q)
  after_round s q =
      after_append read w s (asked_by q) (turn_given (after_poll read w s q))
      ∙ ap (λ t. after_deeds read w t (turn_given (after_poll read w s q))) (after_asked s q)
      ∙ after_turns (after_poll read w s q) (is_turn_due (after_poll read w s q))

  pub after_given : (s : Stage) (ps : List Poll) → after_deeds read w s (given read w s ps) ≡ after_polls read w s ps
  unfolding given after_polls after_deeds
  after_given s [] = refl
  after_given s (q ∷ ps) =
      after_append read w s (asked_by q ++ turn_given (after_poll read w s q)) (given read w (after_turn w (after_poll read w s q)) ps)
      ∙ ap (λ t. after_deeds read w t (given read w (after_turn w (after_poll read w s q)) ps)) (after_round s q)
      ∙ after_given (after_turn w (after_poll read w s q)) ps

  -- ---- requests are followed by turns

  round_paced : (s : Stage) (q : Poll) (tail : List Deed) → is_paced read w (after_turn w (after_poll read w s q)) tail ≡ true
      → is_paced read w s ((asked_by q ++ turn_given (after_poll read w s q)) ++ tail) ≡ true
  unfolding is_paced
  round_paced s None tail e = by (is_turn_due s) e
    where
      by : (b : Bool) → is_paced read w (if b then after_go w s else s) tail ≡ true → is_paced read w s ((if b then Goes ∷ [] else []) ++ tail) ≡ true
      by true e = e
      by false e = e
  round_paced s (Some text) tail e = by (is_turn_due (after_ask read w s text)) e
    where
      by : (b : Bool) → is_paced read w (if b then after_go w (after_ask read w s text) else after_ask read w s text) tail ≡ true
          → (if b then no_request_next ((if b then Goes ∷ [] else []) ++ tail) else true) && is_paced read w (after_ask read w s text) ((if b then Goes ∷ [] else []) ++ tail) ≡ true
      by true e = e
      by false e = e

  pub given_paced : (s : Stage) (ps : List Poll) (tail : List Deed) → is_paced read w (after_polls read w s ps) tail ≡ true → is_paced read w s (given read w s ps ++ tail) ≡ true
  unfolding given after_polls
  given_paced s [] tail e = e
  given_paced s (q ∷ ps) tail e =
      rw (append_assoc (asked_by q ++ turn_given (after_poll read w s q)) (given read w (after_turn w (after_poll read w s q)) ps) tail)
      (round_paced s q (given read w (after_turn w (after_poll read w s q)) ps ++ tail) (given_paced (after_turn w (after_poll read w s q)) ps tail e))

  -- a last request without its turn
  pub asked_paced : (s : Stage) (q : Poll) → is_paced read w s (asked_by q) ≡ true
  unfolding is_paced
  asked_paced s None = refl
  asked_paced s (Some text) = by (is_turn_due (after_ask read w s text))
    where
      by : (b : Bool) → (if b then true else true) && true ≡ true
      by true = refl
      by false = refl

  pub nothing_paced : (s : Stage) → is_paced read w s [] ≡ true
  unfolding is_paced
  nothing_paced s = refl
