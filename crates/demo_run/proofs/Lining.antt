-- The line that is written is the one that is defined of the stops.
use Rattle.std.proofs.Common.{◌≡◌, ℕ, List, ◌++◌, length, sym, ◌∙◌, subst}
use Rattle.std.specs.Prelude.{codes}
use Rattle.listen.specs.Pairs.{Heard}
use Rattle.design_core.specs.DesignView.{design_of}
use Rattle.world_core.specs.World.{World}
use Rattle.demo_run.specs.Stops.{Reached}
use Rattle.demo_run.specs.Line.{said, world_part, stops_part, demo_line}
use Rattle.demo_run.specs.Summing.{Tells, summary_line}
use Rattle.demo_run.specs.Session.{TellsSession}
use Rattle.demo_run.specs.Judged.{IsTheLine, IsTheText}
use Rattle.demo_run.specs.declared.line.Summary.{Summary}
use Rattle.demo_run.specs.declared.walk.Walk.{Walk}
use Rattle.demo_run.specs.declared.judge.Judged.{Judged}
use Rattle.demo_run.specs.declared.judge.Judged.TheVariants as judged

one_line : (number : ℕ) (w : World) (stops : List Reached) (summary : Summary) → Tells w stops summary → demo_line number w stops ≡ summary_line number summary
one_line number w stops summary t =
    λ i. said (codes "demo ") number ++ world_part (sym t.instances i) (sym t.slots i) ++ stops_part (sym t.counts.forward i) (sym t.counts.backward i) (sym t.counts.threads i) ++ codes "\n"

-- of every run, and of the one way to read conditions
pub the_line : (heard : List Heard) (walk : Walk) (summary : Summary) (requests line : List ℕ) → requests ≡ walk.requests.items
    → TellsSession (design_of walk.accepted.design) (length walk.accepted.order) walk.mode walk.stim.rows heard requests summary → line ≡ summary_line walk.number summary → IsTheLine heard walk line
the_line heard walk summary requests line e t l =
    let told = subst (λ (r : List ℕ). TellsSession (design_of walk.accepted.design) (length walk.accepted.order) walk.mode walk.stim.rows heard r summary) e t in
    record { is = λ text is. is.4 ∙ one_line walk.number _ _ summary (told.tells is.0 is.1 is.2 is.3) ∙ sym l }

pub walked_text : (heard : List Heard) (found : Judged) (walk : Walk) (line : List ℕ) → found ≡ judged.Walked walk → IsTheLine heard walk line → IsTheText heard found line
walked_text heard found walk line e h = subst (λ (k : Judged). IsTheText heard k line) (sym e) (record { is = h.is })
