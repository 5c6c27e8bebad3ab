use Rattle.std.proofs.Common.{rules, ◌∙◌, ap, List, length, inl, inr, refl}
use Rattle.duo_run.specs.declared.event.Event.{Event}
use Rattle.duo_run.specs.Journals.{requests_of}
use Rattle.serve_net.specs.declared.visit.Visit.TheVariants.{Linked}
use Rattle.serve_net.proofs.hall.Hall.keep.Goals as goal

pub returns-then-is_err-clause-kept : goal.returns-then-is_err-clause-kept
returns-then-is_err-clause-kept g c = inl (search rules)

pub returns-in-NoMemory-clause-kept : goal.returns-in-NoMemory-clause-kept
returns-in-NoMemory-clause-kept g c = inr (search rules, search rules)

pub returns-in-Bye : goal.returns-in-Bye
returns-in-Bye g c = record {
  sets = refl;
  kept = (search rules, ap (λ n. Linked c.args.served.end n) (c.request_count-requests.ensures ∙ ap (λ (events : List Event). length (requests_of events)) c.deref.ensures.value), search rules);
}
