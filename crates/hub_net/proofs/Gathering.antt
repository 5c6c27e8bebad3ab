-- A door, when it is asked once more.
use Rattle.std.proofs.Common.{arith, ◌≡◌, ◌+◌, ◌≤◌, ℕ, Bool, true, false, List, [], ◌∷◌, ◌++◌, Option, Result, Ok, Err, OnErr, add-zero, length, refl, sym, ◌∙◌, ap, length-append}
use Rattle.std.proofs.lemmas.List.Elements.{All-nil, All-push}
use Rattle.io_edge.specs.Faults.{Rose}
use Rattle.link_edge.specs.Links.{Meaning, IsFresh}
use Rattle.serve_net.specs.Attending.{TakesLink}
use Rattle.serve_net.proofs.Walking.{answers_none, answers_link, answers_later, answers_failure}
use Rattle.hub_net.specs.Came.{Gathers, AsksSome, comings, failings}
use Rattle.hub_net.proofs.Counting.{comings_more, failings_more, counted}

pub gathers_none : (links : List Meaning) (came : List Bool) (left : Option ℕ) (faults : ℕ) → links ≡ [] → came ≡ [] → Gathers 0 links came left left faults faults
unfolding comings failings
gathers_none links came left faults none never = rw (none, never) (record { counted = refl; links_are = refl; fresh = All-nil IsFresh; answers = answers_none left faults })

module _ (k : ℕ) (links : List Meaning) (came : List Bool) (l0 l1 l2 : Option ℕ) (f0 f1 f2 : ℕ) (was : Gathers k links came l0 l1 f0 f1) where
  one_more : (linked : Bool) → length (came ++ linked ∷ []) ≡ k + 1
  one_more linked = length-append came (linked ∷ []) ∙ ap (λ n. n + 1) was.counted

  pub gathers_link : (links' : List Meaning) (came' : List Bool) (a : Meaning) → links' ≡ links ++ a ∷ [] → came' ≡ came ++ true ∷ [] → IsFresh a → TakesLink l1 l2 f1 f2 → Gathers (k + 1) links' came' l0 l2 f0 f2
  unfolding comings failings
  gathers_link links' came' a grown longer fresh takes = rw (grown, longer) (record {
    counted = one_more true;
    links_are = length-append links (a ∷ []) ∙ ap (λ n. n + 1) was.links_are ∙ sym (comings_more came true);
    fresh = All-push IsFresh links a was.fresh fresh;
    answers = rw (comings_more came true, failings_more came true, add-zero (failings came)) (answers_link (comings came) (failings came) l0 l1 l2 f0 f1 f2 was.answers takes);
  })

  pub gathers_failure : (links' : List Meaning) (came' : List Bool) → links' ≡ links → came' ≡ came ++ false ∷ [] → l2 ≡ l1 → Rose f1 f2 → Gathers (k + 1) links' came' l0 l2 f0 f2
  unfolding comings failings
  gathers_failure links' came' same longer left rose = rw (same, longer) (record {
    counted = one_more false;
    links_are = was.links_are ∙ sym (comings_more came false ∙ add-zero (comings came));
    fresh = was.fresh;
    answers = rw (comings_more came false, failings_more came false, add-zero (comings came)) (answers_failure (comings came) (failings came) l0 l1 l2 f0 f1 f2 was.answers left rose);
  })

  pub asked_some : (count : ℕ) → k ≤ count → l2 ≡ l1 → f1 ≤ f2 → AsksSome count l0 l2 f0 f2
  asked_some count within left later = record {
    came = comings came;
    failing = failings came;
    within = omega (arith, counted came, was.counted, within);
    answers = answers_later (comings came) (failings came) l0 l1 l2 f0 f1 f2 was.answers left later;
  }

-- it was not asked
pub asked_none : {A E : Type 0} (result : Result A E) (count : ℕ) (left : Option ℕ) (faults : ℕ) → OnErr result (AsksSome count left left faults faults)
asked_none (Ok done) count left faults = tt
asked_none (Err e) count left faults = record { came = 0; failing = 0; within = omega arith; answers = answers_none left faults }
