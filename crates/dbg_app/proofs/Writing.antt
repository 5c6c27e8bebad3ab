-- What was written is the text that goes with what was judged.
use Rattle.std.proofs.Common.{◌≡◌, List, ℕ, Option, Result, Ok, Err, Vec, OnErr, length, refl, sym, subst}
use Rattle.std.specs.declared.alloc.Global.{Global}
use Rattle.io_edge.specs.Taken.{Appends, AppendsFront}
use Rattle.io_edge.proofs.Growth.{no_growth}
use Rattle.design_core.specs.DesignView.{design_of}
use Rattle.stim_text.specs.Stimulus.{Stimulus}
use Rattle.world_core.specs.declared.mode.Mode.{Mode}
use Rattle.design_judge.specs.declared.Accepted.{Accepted}
use Rattle.dbg_app.specs.declared.command.OfDesign.{OfDesign}
use Rattle.dbg_app.specs.declared.command.OverRows.{OverRows}
use Rattle.dbg_app.specs.declared.command.OverRows.TheVariants as over_tasks
use Rattle.trail_net.specs.Taken.{TakesTrail}
use Rattle.listen.specs.Pairs.{Heard}
use Rattle.debug_net.specs.Taken.{TakesSession, TakesSessionFront}
use Rattle.batch_run.specs.Texts.{requests_fault}
use Rattle.dbg_app.specs.Answers.{usage_fault}
use Rattle.dbg_app.specs.Judged.{TakesText, TakesTextFront, TakesWork, TakesWorkFront, alone, over}
use Rattle.dbg_app.specs.declared.judge.Judged.{Judged}
use Rattle.dbg_app.specs.declared.judge.Judged.TheVariants as judged

pub on_err_always : {A E : Type 0} (r : Result A E) (P : Type 0) → P → OnErr r P
on_err_always (Ok a) P p = tt
on_err_always (Err e) P p = p

-- nothing was written
pub nothing_written : (heard : List Heard) (j : Judged) (old : Option (List ℕ)) → TakesTextFront heard j old old
nothing_written heard j old = record { taken = λ text is. no_growth old old text refl }

pub usage_written : (heard : List Heard) (j : Judged) (old new : Option (List ℕ)) → j ≡ judged.NoCommand → Appends old new usage_fault → TakesText heard j old new
usage_written heard j old new e t = subst (λ (k : Judged). TakesText heard k old new) (sym e) (record { taken = λ text is. subst (λ (l : List ℕ). Appends old new l) (sym is) t })

pub requests_written : (heard : List Heard) (j : Judged) (old new : Option (List ℕ)) → j ≡ judged.NoRequests → Appends old new requests_fault → TakesText heard j old new
requests_written heard j old new e t = subst (λ (k : Judged). TakesText heard k old new) (sym e) (record { taken = λ text is. subst (λ (l : List ℕ). Appends old new l) (sym is) t })

-- what was accepted was written
pub alone_taken : (heard : List Heard) (j : Judged) (task : OfDesign) (mode : Mode) (a : Accepted) (old new : Option (List ℕ)) → j ≡ judged.Alone task mode a → TakesWork (alone task mode a) old new → TakesText heard j old new
alone_taken heard j task mode a old new e t = subst (λ (k : Judged). TakesText heard k old new) (sym e) (record { taken = t.taken heard })

pub alone_front : (heard : List Heard) (j : Judged) (task : OfDesign) (mode : Mode) (a : Accepted) (old new : Option (List ℕ)) → j ≡ judged.Alone task mode a → TakesWorkFront (alone task mode a) old new → TakesTextFront heard j old new
alone_front heard j task mode a old new e t = subst (λ (k : Judged). TakesTextFront heard k old new) (sym e) (record { taken = t.taken heard })

pub over_taken : (heard : List Heard) (j : Judged) (task : OverRows) (mode : Mode) (a : Accepted) (stim : Stimulus) (old new : Option (List ℕ)) → j ≡ judged.Over task mode a stim → TakesWork (over task mode a stim) old new → TakesText heard j old new
over_taken heard j task mode a stim old new e t = subst (λ (k : Judged). TakesText heard k old new) (sym e) (record { taken = t.taken heard })

pub over_front : (heard : List Heard) (j : Judged) (task : OverRows) (mode : Mode) (a : Accepted) (stim : Stimulus) (old new : Option (List ℕ)) → j ≡ judged.Over task mode a stim → TakesWorkFront (over task mode a stim) old new
    → TakesTextFront heard j old new
over_front heard j task mode a stim old new e t = subst (λ (k : Judged). TakesTextFront heard k old new) (sym e) (record { taken = t.taken heard })

pub session_taken : (heard : List Heard) (j : Judged) (mode : Mode) (a : Accepted) (stim : Stimulus) (requests : Vec ℕ Global) (lines : List ℕ) (old new : Option (List ℕ)) → j ≡ judged.Session mode a stim requests
    → lines ≡ requests.items → TakesSession (design_of a.design) (length a.order) mode stim.rows heard lines old new → TakesText heard j old new
session_taken heard j mode a stim requests lines old new e l t =
    subst (λ (k : Judged). TakesText heard k old new) (sym e) (record { taken = λ text is. subst (λ (l : List ℕ). Appends old new l) (sym is.4) ((rw l at t).taken is.0 is.1 is.2 is.3) })

pub session_front : (heard : List Heard) (j : Judged) (mode : Mode) (a : Accepted) (stim : Stimulus) (requests : Vec ℕ Global) (lines : List ℕ) (old new : Option (List ℕ)) → j ≡ judged.Session mode a stim requests
    → lines ≡ requests.items → TakesSessionFront (design_of a.design) (length a.order) mode stim.rows heard lines old new → TakesTextFront heard j old new
session_front heard j mode a stim requests lines old new e l t =
    subst (λ (k : Judged). TakesTextFront heard k old new) (sym e) (record { taken = λ text is. subst (λ (l : List ℕ). AppendsFront old new l) (sym is.4) ((rw l at t).taken is.0 is.1 is.2 is.3) })

-- ---- what is asked over the rows of a stimulus

pub trail_written : (task : OverRows) (mode : Mode) (a : Accepted) (stim : Stimulus) (old new : Option (List ℕ)) → task ≡ over_tasks.Trail → TakesTrail (design_of a.design) (length a.order) mode stim.rows old new → TakesWork (over task mode a stim) old new
trail_written task mode a stim old new e t =
    subst (λ (x : OverRows). TakesWork (over x mode a stim) old new) (sym e) (record { taken = λ heard text is. subst (λ (l : List ℕ). Appends old new l) (sym is.4) (t.taken is.0 is.1) })
