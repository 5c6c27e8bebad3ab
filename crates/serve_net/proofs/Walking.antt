-- A service on its way: what came of the times that the door was asked so far, and what the next time adds.
use Rattle.std.proofs.Common.{arith, ◌≡◌, ◌+◌, ◌≤◌, ◌<◌, inl, inr, ℕ, List, [], ◌∷◌, ◌++◌, All, length, map, add-zero, Option, None, Some, refl, sym, ◌∙◌, ap, subst, append_assoc, append-nil}
use Rattle.std.specs.Option.{option_map}
use Rattle.std.proofs.lemmas.List.{length-append, map-append}
use Rattle.std.proofs.lemmas.List.Elements.{All-nil, All-push}
use Rattle.io_edge.specs.Faults.{Rose}
use Rattle.io_edge.specs.Taken.{Appends}
use Rattle.io_edge.proofs.Growth.{grown_twice, front_after, no_growth, front_from_whole}
use Rattle.listen.specs.Pairs.{Heard}
use Rattle.link_edge.specs.Links.{Meaning}
use Rattle.io_edge.specs.declared.sink_end.SinkEnd.{SinkEnd}
use Rattle.io_edge.specs.declared.sink_end.SinkEnd.TheVariants as sink_ends
use Rattle.duo_run.specs.declared.served.Served.{Served}
use Rattle.serve_net.specs.declared.visit.Visit.{Visit}
use Rattle.serve_net.specs.declared.visit.Visit.TheVariants.{NoLink, Linked}
use Rattle.serve_net.specs.Visits.{Told, HasLine, connection, visit_line, visits_text, lines_from, links_in, failures_in}
use Rattle.show_net.specs.Over.{Over}
use Rattle.serve_net.specs.Members.{told_of, IsMember, next_of, behind_next, AreMembers}
use Rattle.serve_net.specs.Service.{Answers, ServesAll, ServesSome, end_status}
use Rattle.serve_net.specs.Attending.{TakesLink, Attends, failed, linked, Breaks, at_door, lost, ended, Visited, Halted, starved, unwritten}
use Rattle.serve_net.proofs.Lines.{lines_more, links_more, failures_more}

-- ---- the door

pub answers_none : (left : Option ℕ) (faults : ℕ) → Answers 0 0 left left faults faults
answers_none None faults = record { links = refl; failures = omega arith }
answers_none (Some n) faults = record { links = ap Some (omega arith); failures = omega arith }

more_left : (links : ℕ) (l0 l1 l2 : Option ℕ) → l0 ≡ option_map (λ left. left + links) l1 → l1 ≡ option_map (λ left. left + 1) l2 → l0 ≡ option_map (λ left. left + (links + 1)) l2
more_left links l0 l1 None p q = rw q at p
more_left links l0 l1 (Some n) p q = (rw q at p) ∙ ap Some (omega arith)

pub answers_link : (links failures : ℕ) (l0 l1 l2 : Option ℕ) (f0 f1 f2 : ℕ) → Answers links failures l0 l1 f0 f1 → TakesLink l1 l2 f1 f2 → Answers (links + 1) failures l0 l2 f0 f2
answers_link links failures l0 l1 l2 f0 f1 f2 a t = record {
  links = more_left links l0 l1 l2 a.links t.left;
  failures = omega (arith, a.failures, t.later);
}

pub answers_later : (links failures : ℕ) (l0 l1 l2 : Option ℕ) (f0 f1 f2 : ℕ) → Answers links failures l0 l1 f0 f1 → l2 ≡ l1 → f1 ≤ f2 → Answers links failures l0 l2 f0 f2
answers_later links failures l0 l1 l2 f0 f1 f2 a same later = record {
  links = rw same a.links;
  failures = omega (arith, a.failures, later);
}

pub answers_failure : (links failures : ℕ) (l0 l1 l2 : Option ℕ) (f0 f1 f2 : ℕ) → Answers links failures l0 l1 f0 f1 → l2 ≡ l1 → Rose f1 f2 → Answers links (failures + 1) l0 l2 f0 f2
answers_failure links failures l0 l1 l2 f0 f1 f2 a same rose = record {
  links = rw same a.links;
  failures = omega (arith, a.failures, rose);
}

-- ---- so far

pub record Walked {L : Type 0} (meant : L → Meaning) (over : Over) (sets0 sets : List (List Heard)) (left0 left : Option ℕ) (faults0 faults : ℕ) (served : List (Served L)) (old now : Option (List ℕ)) (number : ℕ) : Type 0 where
  pub visits : List Visit
  pub counted : length visits ≡ number
  pub answers : Answers (length served) (failures_in visits) left0 left faults0 faults
  pub lines : All HasLine visits
  pub told : map told_of served ≡ links_in visits
  -- with those that are still to come they are those from all sets
  pub members : (more : List (Served L)) → AreMembers meant over sets more → AreMembers meant over sets0 (served ++ more)
  pub taken : Appends old now (visits_text visits)

module _ {L : Type 0} (meant : L → Meaning) (over : Over) where
  pub grown_none : (old : Option (List ℕ)) → Appends old old []
  grown_none None = refl
  grown_none (Some taken) = ap Some (sym (append-nil taken))

  pub walked_none : (sets : List (List Heard)) (left : Option ℕ) (faults : ℕ) (old : Option (List ℕ)) → Walked meant over sets sets left left faults faults [] old old 0
  unfolding failures_in links_in lines_from
  walked_none sets left faults old = record {
    visits = [];
    counted = refl;
    answers = answers_none left faults;
    lines = All-nil HasLine;
    told = refl;
    members = λ more ms. ms;
    taken = grown_none old;
  }

  -- one member more, from the next set
  member_more : (sets0 sets : List (List Heard)) (served : List (Served L)) (s : Served L)
      → ((more : List (Served L)) → AreMembers meant over sets more → AreMembers meant over sets0 (served ++ more)) → IsMember meant over (next_of sets) s
      → (more : List (Served L)) → AreMembers meant over (behind_next sets) more → AreMembers meant over sets0 ((served ++ s ∷ []) ++ more)
  unfolding AreMembers
  member_more sets0 sets served s before is more ms =
      subst (λ xs. AreMembers meant over sets0 xs) (sym (append_assoc served (s ∷ []) more)) (before (s ∷ more) (is, ms))

  all_members : (sets0 sets : List (List Heard)) (served : List (Served L))
      → ((more : List (Served L)) → AreMembers meant over sets more → AreMembers meant over sets0 (served ++ more)) → AreMembers meant over sets0 served
  unfolding AreMembers
  all_members sets0 sets served before = subst (λ xs. AreMembers meant over sets0 xs) (append-nil served) (before [] tt)

  told_more : (served : List (Served L)) (s : Served L) (links : List Told) → map told_of served ≡ links → map told_of (served ++ s ∷ []) ≡ links ++ told_of s ∷ []
  told_more served s links p = map-append told_of served (s ∷ []) ∙ ap (λ l. l ++ told_of s ∷ []) p

  -- ---- one time more

  -- what is known of so many visits, but for what was written
  record Stands (sets0 sets : List (List Heard)) (left0 left : Option ℕ) (faults0 faults : ℕ) (served : List (Served L)) (visits : List Visit) : Type 0 where
    answers : Answers (length served) (failures_in visits) left0 left faults0 faults
    lines : All HasLine visits
    told : map told_of served ≡ links_in visits
    members : (more : List (Served L)) → AreMembers meant over sets more → AreMembers meant over sets0 (served ++ more)

  module _ (sets0 sets sets_new : List (List Heard)) (left0 left left_new : Option ℕ) (faults0 faults faults_new : ℕ) (served served_new : List (Served L)) (visits : List Visit) (visit : Visit) where
    stands_more : Stands sets0 sets left0 left faults0 faults served visits → Attends meant over sets sets_new served served_new left left_new faults faults_new visit → Stands sets0 sets_new left0 left_new faults0 faults_new served_new (visits ++ visit ∷ [])
    stands_more was (failed is same kept same_left rose) = record {
      lines = rw is (All-push HasLine visits NoLink was.lines tt);
      answers = rw (is, failures_more visits NoLink, kept) (answers_failure (length served) (failures_in visits) left0 left left_new faults0 faults faults_new was.answers same_left rose);
      told = rw (is, links_more visits NoLink, kept, append-nil (links_in visits)) was.told;
      members = rw (same, kept) was.members;
    }
    stands_more was (linked s is behind lasts adds takes) = record {
      lines = rw is (All-push HasLine visits (Linked (told_of s).0 (told_of s).1) was.lines lasts);
      answers = rw (is, failures_more visits (Linked (told_of s).0 (told_of s).1), adds.kept, length-append served (s ∷ []), add-zero (failures_in visits)) (answers_link (length served) (failures_in visits) left0 left left_new faults0 faults faults_new was.answers takes);
      told = rw (is, links_more visits (Linked (told_of s).0 (told_of s).1), adds.kept) (told_more served s (links_in visits) was.told);
      members = rw (behind, adds.kept) (member_more sets0 sets served s was.members adds.member);
    }

  module _ (sets0 sets : List (List Heard)) (left0 left left_new : Option ℕ) (faults0 faults faults_new : ℕ) (served served_new : List (Served L)) (old now new : Option (List ℕ)) (number : ℕ) (was : Walked meant over sets0 sets left0 left faults0 faults served old now number) where
    stands : Stands sets0 sets left0 left faults0 faults served was.visits
    stands = record { answers = was.answers; lines = was.lines; told = was.told; members = was.members }

    line_is : (visit : Visit) → visits_text (was.visits ++ visit ∷ []) ≡ visits_text was.visits ++ visit_line number visit
    line_is visit = lines_more connection 0 was.visits visit ∙ ap (λ n. visits_text was.visits ++ visit_line n visit) (omega (arith, was.counted))

    count_is : (visit : Visit) → length (was.visits ++ visit ∷ []) ≡ number + 1
    count_is visit = length-append was.visits (visit ∷ []) ∙ ap (λ n. n + 1) was.counted

    -- the next time came to its end
    pub walked_more : (sets_new : List (List Heard)) → Visited meant over sets sets_new served served_new left left_new faults faults_new number now new → Walked meant over sets0 sets_new left0 left_new faults0 faults_new served_new old new (number + 1)
    walked_more sets_new v =
        let s = stands_more sets0 sets sets_new left0 left left_new faults0 faults faults_new served served_new was.visits v.visit stands v.attends in
        record {
          visits = was.visits ++ v.visit ∷ [];
          counted = count_is v.visit;
          answers = s.answers;
          lines = s.lines;
          told = s.told;
          members = s.members;
          taken = rw (line_is v.visit) (grown_twice old now new (visits_text was.visits) (visit_line number v.visit) was.taken v.taken);
        }

    -- or it did not
    broken_off : (count : ℕ) → number < count → (end : SinkEnd) → end ≡ sink_ends.NoMemory → Breaks meant over sets served served_new left left_new faults faults_new → new ≡ now → ServesSome meant over sets0 count left0 left_new faults0 faults_new served_new old new (end_status end)
    broken_off count within end out (at_door kept same later) same_text = rw (out, kept, same_text) (record {
      visits = was.visits;
      untold = [];
      unserved = 0;
      within = omega (arith, within, was.counted);
      came = record {
        answers = rw (add-zero (length served)) (answers_later (length served) (failures_in was.visits) left0 left left_new faults0 faults faults_new was.answers same later);
        lines = was.lines;
        told = rw (append-nil (links_in was.visits)) was.told;
        members = all_members sets0 sets served was.members;
      };
      taken = front_from_whole old now (visits_text was.visits) [] (visits_text was.visits) (sym (append-nil (visits_text was.visits))) was.taken;
      few = omega arith;
      untold_is = inl refl;
      whole = λ not9. (refl, refl);
    })
    broken_off count within end out (lost kept takes) same_text = rw (out, kept, same_text) (record {
      visits = was.visits;
      untold = [];
      unserved = 1;
      within = omega (arith, within, was.counted);
      came = record {
        answers = answers_link (length served) (failures_in was.visits) left0 left left_new faults0 faults faults_new was.answers takes;
        lines = was.lines;
        told = rw (append-nil (links_in was.visits)) was.told;
        members = all_members sets0 sets served was.members;
      };
      taken = front_from_whole old now (visits_text was.visits) [] (visits_text was.visits) (sym (append-nil (visits_text was.visits))) was.taken;
      few = omega arith;
      untold_is = inl refl;
      whole = λ not9. absurd (not9 refl);
    })
    broken_off count within end out (ended s starving adds takes) same_text = rw (out, adds.kept, same_text) (record {
      visits = was.visits;
      untold = told_of s ∷ [];
      unserved = 0;
      within = omega (arith, within, was.counted);
      came = record {
        answers = rw (length-append served (s ∷ []), add-zero (length served + 1)) (answers_link (length served) (failures_in was.visits) left0 left left_new faults0 faults faults_new was.answers takes);
        lines = was.lines;
        told = told_more served s (links_in was.visits) was.told;
        members = all_members sets0 (behind_next sets) (served ++ s ∷ []) (member_more sets0 sets served s was.members adds.member);
      };
      taken = front_from_whole old now (visits_text was.visits) [] (visits_text was.visits) (sym (append-nil (visits_text was.visits))) was.taken;
      few = omega arith;
      untold_is = inr ((told_of s).1, ap (λ e. (e, (told_of s).1) ∷ []) starving);
      whole = λ not9. absurd (not9 refl);
    })

    pub walked_halted : (count : ℕ) → number < count → (end : SinkEnd) → Halted meant over sets served served_new left left_new faults faults_new number now new end → ServesSome meant over sets0 count left0 left_new faults0 faults_new served_new old new (end_status end)
    walked_halted count within end (starved out breaks same) = broken_off count within end out breaks same
    walked_halted count within end (unwritten sets_new visit attends front) =
        let s = stands_more sets0 sets sets_new left0 left left_new faults0 faults faults_new served served_new was.visits visit stands attends in
        record {
          visits = was.visits ++ visit ∷ [];
          untold = [];
          unserved = 0;
          within = rw (count_is visit) (omega (arith, within));
          came = record {
            answers = rw (add-zero (length served_new)) s.answers;
            lines = s.lines;
            told = rw (append-nil (links_in (was.visits ++ visit ∷ []))) s.told;
            members = all_members sets0 sets_new served_new s.members;
          };
          taken = front_after old now new (visits_text was.visits) (visit_line number visit) [] (visits_text (was.visits ++ visit ∷ [])) (line_is visit ∙ ap (λ l. visits_text was.visits ++ l) (sym (append-nil (visit_line number visit)))) was.taken front;
          few = omega arith;
          untold_is = inl refl;
          whole = λ not9. (refl, refl);
        }

  pub walked_all : (sets0 sets : List (List Heard)) (left0 left : Option ℕ) (faults0 faults : ℕ) (served : List (Served L)) (old now : Option (List ℕ)) (number count : ℕ) → Walked meant over sets0 sets left0 left faults0 faults served old now number → number ≡ count → ServesAll meant over sets0 count left0 left faults0 faults served old now
  walked_all sets0 sets left0 left faults0 faults served old now number count was all = record {
    visits = was.visits;
    counted = was.counted ∙ all;
    came = record {
      answers = rw (add-zero (length served)) was.answers;
      lines = was.lines;
      told = rw (append-nil (links_in was.visits)) was.told;
      members = all_members sets0 sets served was.members;
    };
    taken = was.taken;
  }

  -- there was no room at all
  pub starved_first : (sets : List (List Heard)) (count : ℕ) (left : Option ℕ) (faults : ℕ) (old : Option (List ℕ)) → ServesSome meant over sets count left left faults faults [] old old 9
  unfolding failures_in links_in lines_from AreMembers
  starved_first sets count left faults old = record {
    visits = [];
    untold = [];
    unserved = 0;
    within = omega arith;
    came = record { answers = answers_none left faults; lines = All-nil HasLine; told = refl; members = tt };
    taken = no_growth old old [] refl;
    few = omega arith;
    untold_is = inl refl;
    whole = λ not9. (refl, refl);
  }
