-- One time that the door is asked, from what its steps say.
use Rattle.std.proofs.Common.{◌≡◌, inl, inr, ℕ, List, Option, Result, Ok, Err, IfOk, IfErr, OnOk, OnErr}
use Rattle.io_edge.specs.Taken.{Appends, AppendsFront}
use Rattle.listen.specs.Pairs.{Heard}
use Rattle.link_edge.specs.Links.{Meaning}
use Rattle.text_core.specs.declared.memory.NoMemory.{NoMemory}
use Rattle.io_edge.specs.declared.sink_end.SinkEnd.{SinkEnd}
use Rattle.duo_run.specs.declared.served.Served.{Served}
use Rattle.serve_net.specs.declared.visit.Visit.{Visit}
use Rattle.serve_net.specs.Visits.{visit_line}
use Rattle.show_net.specs.Over.{Over}
use Rattle.serve_net.specs.Members.{IsMember, next_of, behind_next}
use Rattle.serve_net.specs.Attending.{Keeps, TakesLink, Attends, linked, Breaks, lost, ended, Visited, Halted, unwritten}

module _ {L : Type 0} (meant : L → Meaning) (shows : Over → Type 0) (sets sets_new : List (List Heard)) (old new : List (Served L)) (l0 l1 : Option ℕ) (f0 f1 : ℕ) where
  -- a connection that was kept is a visit, unless memory ran out
  pub attended : (s : Served L) (result : Result Visit NoMemory) → sets_new ≡ behind_next sets → ((over : Over) → shows over → IsMember meant over (next_of sets) s) → TakesLink l0 l1 f0 f1 → Keeps old new s result
      → IfOk result (λ visit. (over : Over) → shows over → Attends meant over sets sets_new old new l0 l1 f0 f1 visit)
  attended s (Ok visit) left is takes kept = λ over sh. linked s kept.1 left kept.2 (record { member = is over sh; kept = kept.0 }) takes
  attended s (Err e) left is takes kept = tt

  pub broken : (s : Served L) (result : Result Visit NoMemory) → ((over : Over) → shows over → IsMember meant over (next_of sets) s) → TakesLink l0 l1 f0 f1 → Keeps old new s result
      → OnErr result ((over : Over) → shows over → Breaks meant over sets old new l0 l1 f0 f1)
  broken s (Ok visit) is takes kept = tt
  broken s (Err e) is takes (inl same) = λ over sh. lost same takes
  broken s (Err e) is takes (inr (added, out)) = λ over sh. ended s out (record { member = is over sh; kept = added }) takes

  -- with its line
  module _ (number : ℕ) (before now : Option (List ℕ)) (visit : Visit) (attends : (over : Over) → shows over → Attends meant over sets sets_new old new l0 l1 f0 f1 visit) where
    pub visited : (result : Result (Unit {0}) SinkEnd) → OnOk result (Appends before now (visit_line number visit))
        → OnOk result ((over : Over) → shows over → Visited meant over sets sets_new old new l0 l1 f0 f1 number before now)
    visited (Ok done) taken = λ over sh. record { visit = visit; attends = attends over sh; taken = taken }
    visited (Err e) taken = tt

    pub halted : (result : Result (Unit {0}) SinkEnd) → OnErr result (AppendsFront before now (visit_line number visit))
        → IfErr result (λ end. (over : Over) → shows over → Halted meant over sets old new l0 l1 f0 f1 number before now end)
    halted (Ok done) front = tt
    halted (Err e) front = λ over sh. unwritten sets_new visit (attends over sh) front
