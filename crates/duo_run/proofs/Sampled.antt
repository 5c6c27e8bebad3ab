-- The sample connection, step by step.
use Rattle.std.proofs.Common.{◌≡◌, ℕ, true, ◌||◌, List, [], ◌∷◌, ◌++◌, None, Some, sym, ◌∙◌, ap, append-nil}
use Rattle.machine_core.specs.declared.request.Asked.{Asked}
use Rattle.machine_core.specs.declared.request.Cmd.TheVariants as cmd
use Rattle.machine_core.specs.Machine.{Answer, answer_of, turn_of}
use Rattle.machine_core.specs.Journal.{Replied, is_bye}
use Rattle.machine_core.specs.SampleBatch.{read_a}
use Rattle.req_json.specs.Asked.{asked}
use Rattle.duo_run.specs.Deeds.{Asks, Goes, Stage, answer_to, after_ask, after_go, after_deeds, told_of, lines_of, is_paced, ends_with_leave}
use Rattle.duo_run.specs.Polls.{turn_given, after_turn, given}
use Rattle.duo_run.specs.Sample.{asks, world, start, polls, deeds, lines, LockStepIsServed}
use Rattle.duo_run.proofs.Giving.{given_paced, nothing_paced}

answered : (s : Stage) (text : List ℕ) (x : Asked) → asked text ≡ x → answer_to read_a world s.machine text ≡ answer_of read_a world s.machine x
unfolding answer_to
answered s text x e = ap (answer_of read_a world s.machine) e

abbrev stage_of : Stage → Answer → Stage
stage_of s a = record { machine = a.after; left = s.left || is_bye a.reply.body }

asked_so : (s : Stage) (text : List ℕ) (x : Asked) → asked text ≡ x → after_ask read_a world s text ≡ stage_of s (answer_of read_a world s.machine x)
unfolding after_ask
asked_so s text x e = ap (stage_of s) (answered s text x e)

abbrev s1 : Stage
s1 = stage_of start (answer_of read_a world start.machine (asks (cmd.Break 10 None None)))

abbrev s2 : Stage
s2 = stage_of s1 (answer_of read_a world s1.machine (asks cmd.Continue))

abbrev s3 : Stage
s3 = after_go world s2

abbrev s4 : Stage
s4 = stage_of s3 (answer_of read_a world s3.machine (asks cmd.Bye))

module _ (b c y : List ℕ) (eb : asked b ≡ asks (cmd.Break 10 None None)) (ec : asked c ≡ asks cmd.Continue) (ey : asked y ≡ asks cmd.Bye) where
  gives : given read_a world start (polls b c y) ≡ deeds b c y
  unfolding given answer_of turn_of after_go
  gives =
      ap (λ s. (Asks b ∷ turn_given s) ++ given read_a world (after_turn world s) (Some c ∷ None ∷ Some y ∷ [])) (asked_so start b _ eb)
      ∙ ap (λ s. Asks b ∷ ((Asks c ∷ turn_given s) ++ given read_a world (after_turn world s) (None ∷ Some y ∷ []))) (asked_so s1 c _ ec)
      ∙ ap (λ s. Asks b ∷ Asks c ∷ Goes ∷ ((Asks y ∷ turn_given s) ++ [])) (asked_so s3 y _ ey)

  ended : after_deeds read_a world start (deeds b c y) ≡ s4
  unfolding after_deeds
  ended =
      ap (λ s. after_deeds read_a world s (Asks c ∷ Goes ∷ Asks y ∷ [])) (asked_so start b _ eb)
      ∙ ap (λ s. after_deeds read_a world s (Goes ∷ Asks y ∷ [])) (asked_so s1 c _ ec)
      ∙ ap (λ s. after_deeds read_a world s []) (asked_so s3 y _ ey)

  tells : lines_of read_a world start (deeds b c y) ≡ lines
  unfolding lines_of answer_of turn_of after_go
  tells =
      ap (λ (a : Answer). Replied a.reply ∷ lines_of read_a world (after_ask read_a world start b) (Asks c ∷ Goes ∷ Asks y ∷ [])) (answered start b _ eb)
      ∙ ap (λ s. Replied (answer_of read_a world start.machine (asks (cmd.Break 10 None None))).reply ∷ lines_of read_a world s (Asks c ∷ Goes ∷ Asks y ∷ [])) (asked_so start b _ eb)
      ∙ ap (λ (a : Answer). Replied (answer_of read_a world start.machine (asks (cmd.Break 10 None None))).reply ∷ Replied a.reply ∷ lines_of read_a world (after_ask read_a world s1 c) (Goes ∷ Asks y ∷ [])) (answered s1 c _ ec)
      ∙ ap (λ s. Replied (answer_of read_a world start.machine (asks (cmd.Break 10 None None))).reply ∷ Replied (answer_of read_a world s1.machine (asks cmd.Continue)).reply ∷ lines_of read_a world s (Goes ∷ Asks y ∷ [])) (asked_so s1 c _ ec)
      ∙ ap (λ (a : Answer). Replied (answer_of read_a world start.machine (asks (cmd.Break 10 None None))).reply ∷ Replied (answer_of read_a world s1.machine (asks cmd.Continue)).reply ∷ (told_of read_a world s2 Goes ++ (Replied a.reply ∷ []))) (answered s3 y _ ey)

  leaves : (after_deeds read_a world start (deeds b c y)).left ≡ true
  unfolding answer_of turn_of after_go
  leaves = ap (λ (s : Stage). s.left) ended

  lasting : ends_with_leave read_a world start (deeds b c y) ≡ true
  unfolding ends_with_leave answer_of turn_of after_go
  lasting =
      ap (λ s. ends_with_leave read_a world s (Asks c ∷ Goes ∷ Asks y ∷ [])) (asked_so start b _ eb)
      ∙ ap (λ s. ends_with_leave read_a world s (Goes ∷ Asks y ∷ [])) (asked_so s1 c _ ec)

  paced : is_paced read_a world start (deeds b c y) ≡ true
  unfolding given
  paced =
      let e : deeds b c y ≡ given read_a world start (polls b c y) ++ [] = sym (append-nil (given read_a world start (polls b c y)) ∙ gives) in
      rw e (given_paced read_a world start (polls b c y) [] (nothing_paced read_a world _))

pub lock_step_is_served : LockStepIsServed
lock_step_is_served b c y eb ec ey = record { gives = gives b c y eb ec ey; tells = tells b c y eb ec ey; leaves = leaves b c y eb ec ey; paced = paced b c y eb ec ey; last = lasting b c y eb ec ey }
