-- What is done, when a deed is put last.
use Rattle.std.proofs.Common.{◌≡◌, Bool, true, false, not, ◌&&◌, List, [], ◌∷◌, ◌++◌, refl, sym, ◌∙◌, ap, append_assoc, append-nil}
use Rattle.world_core.specs.World.{World}
use Rattle.machine_core.specs.Reading.{Reader}
use Rattle.duo_run.specs.Deeds.{Deed, Stage, after_deed, after_deeds, told_of, lines_of, request_in, requests_in, ends_with_leave}

pub requests_append : (ds es : List Deed) → requests_in (ds ++ es) ≡ requests_in ds ++ requests_in es
unfolding requests_in
requests_append [] es = refl
requests_append (d ∷ ds) es = ap (λ l. request_in d ++ l) (requests_append ds es) ∙ sym (append_assoc (request_in d) (requests_in ds) (requests_in es))

module _ (read : Reader) (w : World) where
  pub after_append : (s : Stage) (ds es : List Deed) → after_deeds read w s (ds ++ es) ≡ after_deeds read w (after_deeds read w s ds) es
  unfolding after_deeds
  after_append s [] es = refl
  after_append s (d ∷ ds) es = after_append (after_deed read w s d) ds es

  pub after_snoc : (s : Stage) (ds : List Deed) (d : Deed) → after_deeds read w s (ds ++ d ∷ []) ≡ after_deed read w (after_deeds read w s ds) d
  unfolding after_deeds
  after_snoc s ds d = after_append s ds (d ∷ [])

  pub lines_append : (s : Stage) (ds es : List Deed) → lines_of read w s (ds ++ es) ≡ lines_of read w s ds ++ lines_of read w (after_deeds read w s ds) es
  unfolding lines_of after_deeds
  lines_append s [] es = refl
  lines_append s (d ∷ ds) es =
      ap (λ l. told_of read w s d ++ l) (lines_append (after_deed read w s d) ds es)
      ∙ sym (append_assoc (told_of read w s d) (lines_of read w (after_deed read w s d) ds) (lines_of read w (after_deeds read w (after_deed read w s d) ds) es))

  pub lines_snoc : (s : Stage) (ds : List Deed) (d : Deed) → lines_of read w s (ds ++ d ∷ []) ≡ lines_of read w s ds ++ told_of read w (after_deeds read w s ds) d
  unfolding lines_of
  lines_snoc s ds d = lines_append s ds (d ∷ []) ∙ ap (λ l. lines_of read w s ds ++ l) (append-nil (told_of read w (after_deeds read w s ds) d))

  -- one deed more is done before the leave
  pub leave_snoc : (s : Stage) (ds : List Deed) (d : Deed) → ends_with_leave read w s ds ≡ true → (after_deeds read w s ds).left ≡ false → ends_with_leave read w s (ds ++ d ∷ []) ≡ true
  unfolding ends_with_leave after_deeds
  leave_snoc s [] d e f = rw f refl
  leave_snoc s (c ∷ ds) d e f = by s.left (ends_with_leave read w (after_deed read w s c) ds) (ends_with_leave read w (after_deed read w s c) (ds ++ d ∷ [])) e (λ h. leave_snoc (after_deed read w s c) ds d h f)
    where
      by : (a b c : Bool) → not a && b ≡ true → (b ≡ true → c ≡ true) → not a && c ≡ true
      by true b c e f = e
      by false b c e f = f e
