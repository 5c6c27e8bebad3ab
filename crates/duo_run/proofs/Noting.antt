-- A journal, when an event is put last, and the run of one.
use Rattle.std.proofs.Common.{◌≡◌, ◌+◌, ℕ, zero, suc, List, [], ◌∷◌, ◌++◌, inl, inr, refl, sym, ◌∙◌, ap, ap₂, append_assoc, append-nil, add-one}
use Rattle.world_core.specs.World.{World}
use Rattle.machine_core.specs.Reading.{Reader}
use Rattle.machine_core.specs.Journal.{Line, Ran, behind, turns_from, journal_from}
use Rattle.duo_run.specs.declared.event.Event.{Event}
use Rattle.duo_run.specs.declared.event.Event.TheVariants.{Request, Turns}
use Rattle.duo_run.specs.Deeds.{Deed, Asks, Goes, Stage, answer_to, after_ask, after_go, after_deeds, told_of, lines_of, requests_in}
use Rattle.duo_run.specs.Journals.{entries, requests_of, turns, deeds_of, TurnAdded}
use Rattle.duo_run.proofs.Doing.{requests_append, after_append, lines_append}

pub deeds_request : (js : List Event) (t : List ℕ) → deeds_of (js ++ Request t ∷ []) ≡ deeds_of js ++ Asks t ∷ []
unfolding deeds_of
deeds_request [] t = refl
deeds_request (Request u ∷ js) t = ap (λ l. Asks u ∷ l) (deeds_request js t)
deeds_request (Turns n ∷ js) t = ap (λ l. turns n ++ l) (deeds_request js t) ∙ sym (append_assoc (turns n) (deeds_of js) (Asks t ∷ []))

deeds_turns : (js : List Event) (n : ℕ) → deeds_of (js ++ Turns n ∷ []) ≡ deeds_of js ++ turns n
unfolding deeds_of
deeds_turns [] n = append-nil (turns n)
deeds_turns (Request u ∷ js) n = ap (λ l. Asks u ∷ l) (deeds_turns js n)
deeds_turns (Turns k ∷ js) n = ap (λ l. turns k ++ l) (deeds_turns js n) ∙ sym (append_assoc (turns k) (deeds_of js) (turns n))

turns_more : (n : ℕ) → turns (suc n) ≡ turns n ++ Goes ∷ []
turns_more zero = refl
turns_more (suc n) = ap (λ l. Goes ∷ l) (turns_more n)

pub deeds_turn_added : (old new : List Event) → TurnAdded old new → deeds_of new ≡ deeds_of old ++ Goes ∷ []
deeds_turn_added old new (inl (before, n, was, is)) = rw (was, is, deeds_turns before n, deeds_turns before (n + 1), add-one, turns_more, append_assoc) refl
deeds_turn_added old new (inr is) = rw (is, deeds_turns) refl

-- ---- its requests

no_requests : (n : ℕ) → requests_in (turns n) ≡ []
unfolding requests_in
no_requests zero = refl
no_requests (suc n) = no_requests n

pub requests_are : (js : List Event) → requests_of js ≡ requests_in (deeds_of js)
unfolding requests_of deeds_of requests_in
requests_are [] = refl
requests_are (Request t ∷ js) = ap (λ l. t ∷ l) (requests_are js)
requests_are (Turns n ∷ js) = requests_are js ∙ sym (requests_append (turns n) (deeds_of js) ∙ rw (no_requests n) refl)

-- ---- its run

module _ (read : Reader) (w : World) where
  ran : (s : Stage) (ds : List Deed) → Ran
  ran s ds = record { after = (after_deeds read w s ds).machine; lines = lines_of read w s ds }

  turns_run : (s : Stage) (n : ℕ) → turns_from w n s.machine ≡ ran s (turns n)
  unfolding ran after_deeds lines_of after_go
  turns_run s zero = refl
  turns_run s (suc n) = ap (behind (told_of read w s Goes)) (turns_run (after_go w s) n)

  ran_append : (s : Stage) (ds es : List Deed) → ran s (ds ++ es) ≡ behind (lines_of read w s ds) (ran (after_deeds read w s ds) es)
  unfolding ran
  ran_append s ds es =
      ap₂ (λ (t : Stage) (l : List Line). (let r : Ran = record { after = t.machine; lines = l } in r)) (after_append read w s ds es) (lines_append read w s ds es)

  pub journal_run : (s : Stage) (js : List Event) → journal_from read w s.machine (entries js) ≡ (let r : Ran = record { after = (after_deeds read w s (deeds_of js)).machine; lines = lines_of read w s (deeds_of js) } in r)
  unfolding entries deeds_of after_deeds lines_of ran answer_to after_ask
  journal_run s [] = refl
  journal_run s (Request t ∷ js) = ap (behind (told_of read w s (Asks t))) (journal_run (after_ask read w s t) js)
  journal_run s (Turns n ∷ js) =
      ap (λ (r : Ran). behind r.lines (journal_from read w r.after (entries js))) (turns_run s n)
      ∙ ap (behind (lines_of read w s (turns n))) (journal_run (after_deeds read w s (turns n)) js)
      ∙ sym (ran_append s (turns n) (deeds_of js))
