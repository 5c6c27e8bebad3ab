-- What holds of a hub while its clients are served, step by step.
use Rattle.std.proofs.Common.{◌≡◌, ◌<◌, ◌≤◌, ◌+◌, ◌||◌, ◌&&◌, ℕ, zero, suc, Bool, true, false, not, List, [], ◌∷◌, ◌++◌, refl, sym, ◌∙◌, ap, ap₂, arith, nat_eq, length, set, get_or, replicate}
use Rattle.world_core.specs.World.{World}
use Rattle.machine_core.specs.Reading.{Reader}
use Rattle.machine_core.specs.Machine.{is_running}
use Rattle.link_edge.specs.Links.{Meaning}
use Rattle.hub_core.specs.declared.client.Client.{Client}
use Rattle.hub_core.specs.declared.event.HubEvent.{HubEvent}
use Rattle.hub_core.specs.declared.line.Line.{Line}
use Rattle.hub_core.specs.declared.event.HubEvent.TheVariants.{Left}
use Rattle.hub_core.specs.Hubs.{HubState, HubRan, ran_to, is_here, gone, after_ask_in, takes_leave, asked_by, turned}
use Rattle.hub_core.specs.HubJournals.{HubDeed, Asks, Leaves, Goes, hub_deeds, at_client, after_hub_deeds, took_leave}
use Rattle.hub_core.specs.Clients.{AllFit, lines_to, nothing}
use Rattle.hub_core.specs.Rounds.{HubAt, asked_deeds, byes_after, TurnAdded}
use Rattle.hub_core.proofs.Noting.{held_ask, held_turn, held_left, held_same, deeds_turn, deeds_left, here_tells, here_within, asked_nothing, lost_none_more}
use Rattle.hub_core.proofs.Sharing.{held_start, suc_eq, zero_eq, eq_zero}
use Rattle.hub_core.proofs.Pacing.{paced_weaker, paced_start, paced_ask, paced_left, paced_turn, paced_idle}

-- ---- who took its leave

or_true : (b : Bool) → (b || true) ≡ true
or_true true = refl
or_true false = refl

or_false : (b : Bool) → (b || false) ≡ b
or_false true = refl
or_false false = refl

or_assoc : (a b c : Bool) → (a || (b || c)) ≡ ((a || b) || c)
or_assoc true b c = refl
or_assoc false b c = refl

and_true : (b : Bool) → (b && true) ≡ b
and_true true = refl
and_true false = refl

and_false : (b : Bool) → (b && false) ≡ false
and_false true = refl
and_false false = refl

bye_set : (byes : List Bool) (c k : ℕ) → c < length byes → get_or (set byes c true) k false ≡ (get_or byes k false || nat_eq c k)
bye_set [] c k within = absurd (omega (arith, within))
bye_set (b ∷ byes) zero zero within = sym (or_true b)
bye_set (b ∷ byes) zero (suc k) within = sym (ap (λ e. get_or byes k false || e) (zero_eq k) ∙ or_false (get_or byes k false))
bye_set (b ∷ byes) (suc c) zero within = sym (ap (λ e. b || e) (eq_zero c) ∙ or_false b)
bye_set (b ∷ byes) (suc c) (suc k) within = bye_set byes c k (omega (arith, within)) ∙ ap (λ e. get_or byes k false || e) (sym (suc_eq c k))

none_took : (n k : ℕ) → get_or (replicate n false) k false ≡ false
none_took zero k = refl
none_took (suc n) zero = refl
none_took (suc n) (suc k) = none_took n k

module _ (read : Reader) (w : World) where
  took_append : (k : ℕ) (s : HubState) (xs ys : List HubDeed) → took_leave read w k s.machine (xs ++ ys) ≡ (took_leave read w k s.machine xs || took_leave read w k (after_hub_deeds read w s xs).machine ys)
  unfolding took_leave after_hub_deeds
  took_append k s [] ys = refl
  took_append k s (Asks c t ∷ xs) ys =
      ap (λ b. (nat_eq c k && takes_leave read w s t) || b) (took_append k (after_ask_in read w s t) xs ys)
      ∙ or_assoc (nat_eq c k && takes_leave read w s t) (took_leave read w k (after_ask_in read w s t).machine xs) (took_leave read w k (after_hub_deeds read w (after_ask_in read w s t) xs).machine ys)
  took_append k s (Leaves c ∷ xs) ys = took_append k (gone c s) xs ys
  took_append k s (Goes ∷ xs) ys = took_append k (turned w s).after xs ys

  took_asked : (b : Bool) (k c : ℕ) (s : HubState) (t : List ℕ) → takes_leave read w s t ≡ b → took_leave read w k s.machine (asked_deeds b c t) ≡ (nat_eq c k && b)
  unfolding took_leave
  took_asked true k c s t e = or_false (nat_eq c k && takes_leave read w s t) ∙ ap (λ b. nat_eq c k && b) e
  took_asked false k c s t e = or_false (nat_eq c k && takes_leave read w s t) ∙ ap (λ b. nat_eq c k && b) e

  byes_asked : (b : Bool) (byes : List Bool) (c k : ℕ) → c < length byes → get_or (byes_after b c byes) k false ≡ (get_or byes k false || (nat_eq c k && b))
  byes_asked true byes c k within = bye_set byes c k within ∙ ap (λ e. get_or byes k false || e) (sym (and_true (nat_eq c k)))
  byes_asked false byes c k within = sym (ap (λ e. get_or byes k false || e) (and_false (nat_eq c k)) ∙ or_false (get_or byes k false))

  -- ---- steps

  module _ {L : Type 0} (m : L → Meaning) (first : HubState) (starts : List Meaning) where
    pub at_weaker : (stage : HubState) (cs : List (Client L)) (es : List HubEvent) (byes : List Bool) (taken : ℕ → List (List ℕ)) (k l : ℕ) → k ≤ l → HubAt m read w first starts stage cs es byes taken k
        → HubAt m read w first starts stage cs es byes taken l
    at_weaker stage cs es byes taken k l low was = record { held = was.held; paced = paced_weaker read w first es k l low was.paced; left = was.left }

    pub at_start : (cs : List (Client L)) (es : List HubEvent) (byes : List Bool) (n : ℕ) → es ≡ [] → byes ≡ replicate n false → AllFit m 0 nothing nothing starts cs → HubAt m read w first starts first cs es byes nothing 0
    unfolding hub_deeds took_leave
    at_start cs es byes n e f all = record {
      held = held_start m read w first starts cs es e all;
      paced = paced_start read w first es e;
      left = λ k. rw (e, f) (none_took n k);
    }

    -- all clients changed, but for what was read and made
    pub at_same : (stage : HubState) (cs ds : List (Client L)) (es : List HubEvent) (byes : List Bool) (taken rest : ℕ → List (List ℕ)) (k : ℕ) → HubAt m read w first starts stage cs es byes taken k
        → ((asked made : ℕ → List (List ℕ)) → AllFit m 0 (λ j. asked j ++ taken j) made starts cs → AllFit m 0 (λ j. asked j ++ rest j) made starts ds) → HubAt m read w first starts stage ds es byes rest k
    at_same stage cs ds es byes taken rest k was fit = record { held = held_same read w m first stage starts cs ds es taken rest was.held fit; paced = was.paced; left = was.left }

    -- a client asked, and was told the reply, or what is told was lost
    pub at_ask : (stage next : HubState) (cs ds : List (Client L)) (old new : List HubEvent) (byes grown : List Bool) (k : ℕ) (t : List ℕ) (left : Bool) → HubAt m read w first starts stage cs old byes (λ j. at_client k j (t ∷ [])) k
        → is_here stage k ≡ true → k < length byes → left ≡ takes_leave read w stage t → hub_deeds new ≡ hub_deeds old ++ asked_deeds left k t → grown ≡ byes_after left k byes → next ≡ (asked_by read w stage k t).after
        → ((asked made : ℕ → List (List ℕ)) → AllFit m 0 asked made starts cs → AllFit m 0 asked (λ j. made j ++ lines_to j (asked_by read w stage k t).lines) starts ds)
        → HubAt m read w first starts next ds new grown nothing (k + 1)
    at_ask stage next cs ds old new byes grown k t left was here within is e f at fit = record {
      held = held_ask read w m first stage next starts cs ds old new k t was.held here (rw is at e) at fit;
      paced = paced_ask read w first old new left k t e was.paced;
      left = λ j.
          ap (λ l. get_or l j false) f ∙ byes_asked left byes k j within
          ∙ ap₂ (λ x y. x || y) (was.left j) (sym (took_asked left j k stage t (sym is)) ∙ ap (λ s. took_leave read w j s.machine (asked_deeds left k t)) was.held.state_is)
          ∙ sym (took_append j first (hub_deeds old) (asked_deeds left k t)) ∙ ap (took_leave read w j first.machine) (sym e);
    }

    -- a client left
    pub at_left : (stage next : HubState) (cs : List (Client L)) (old new : List HubEvent) (byes : List Bool) (k l : ℕ) → HubAt m read w first starts stage cs old byes nothing l → is_here stage k ≡ true
        → new ≡ old ++ Left k ∷ [] → next ≡ gone k stage → HubAt m read w first starts next cs new byes nothing l
    unfolding took_leave
    at_left stage next cs old new byes k l was here e at =
        let d = deeds_left old new k e in
        record {
          held = held_left read w m first stage next starts cs old new k was.held here e at;
          paced = paced_left read w first old new k l d was.paced;
          left = λ j. was.left j ∙ sym (or_false (took_leave read w j first.machine (hub_deeds old))) ∙ sym (took_append j first (hub_deeds old) (Leaves k ∷ [])) ∙ ap (took_leave read w j first.machine) (sym d);
        }

    -- a turn was made, and told, or what is told was lost
    pub at_turn : (stage next : HubState) (cs ds : List (Client L)) (old new : List HubEvent) (byes : List Bool) (l : ℕ) → HubAt m read w first starts stage cs old byes nothing l → TurnAdded old new → next ≡ (turned w stage).after
        → ((asked made : ℕ → List (List ℕ)) → AllFit m 0 asked made starts cs → AllFit m 0 asked (λ j. made j ++ lines_to j (turned w stage).lines) starts ds) → HubAt m read w first starts next ds new byes nothing 0
    unfolding took_leave
    at_turn stage next cs ds old new byes l was e at fit =
        let d = deeds_turn old new e in
        record {
          held = held_turn read w m first stage next starts cs ds old new was.held e at fit;
          paced = paced_turn read w first old new l e was.paced;
          left = λ j. was.left j ∙ sym (or_false (took_leave read w j first.machine (hub_deeds old))) ∙ sym (took_append j first (hub_deeds old) (Goes ∷ [])) ∙ ap (took_leave read w j first.machine) (sym d);
        }

    -- none was made, as the session does not run
    pub at_idle : (stage : HubState) (cs : List (Client L)) (es : List HubEvent) (byes : List Bool) (taken : ℕ → List (List ℕ)) (l : ℕ) → is_running stage.machine.motion ≡ false → HubAt m read w first starts stage cs es byes taken l
        → HubAt m read w first starts stage cs es byes taken 0
    at_idle stage cs es byes taken l idle was = record { held = was.held; paced = paced_idle read w m first stage starts cs es taken l was.held idle was.paced; left = was.left }

    pub at_stage : (stage next : HubState) (cs : List (Client L)) (es : List HubEvent) (byes : List Bool) (taken : ℕ → List (List ℕ)) (k : ℕ) → next ≡ stage → HubAt m read w first starts stage cs es byes taken k
        → HubAt m read w first starts next cs es byes taken k
    at_stage stage next cs es byes taken k e was = rw e was

    -- a client asked by a text, was told the lines that came of it, and it was noted whether it is still here
    pub at_answer : (stage next : HubState) (cs ds : List (Client L)) (old new : List HubEvent) (byes grown : List Bool) (k : ℕ) (t u : List ℕ) (lines : List Line) (there : Bool) → u ≡ t
        → HubAt m read w first starts stage cs old byes (λ j. at_client k j (t ∷ [])) k → is_here stage k ≡ true → k < length byes → ran_to next lines ≡ asked_by read w stage k u → there ≡ is_here next k
        → hub_deeds new ≡ hub_deeds old ++ asked_deeds (not there) k t → grown ≡ byes_after (not there) k byes
        → ((asked made : ℕ → List (List ℕ)) → AllFit m 0 asked made starts cs → AllFit m 0 asked (λ j. made j ++ lines_to j lines) starts ds) → HubAt m read w first starts next ds new grown nothing (k + 1)
    at_answer stage next cs ds old new byes grown k t u lines there e was here within ran is d g fit =
        let at = ap (λ (r : HubRan). r.after) ran ∙ ap (λ x. (asked_by read w stage k x).after) e in
        let told = ap (λ (r : HubRan). r.lines) ran ∙ ap (λ x. (asked_by read w stage k x).lines) e in
        at_ask stage next cs ds old new byes grown k t (not there) was here within (ap not is ∙ here_tells read w (takes_leave read w stage t) stage k t next here (here_within stage.here k here) refl at) d g at
        (λ asked made all. rw (← told) (fit asked made all))

    -- the same, where what it was told is lost
    pub at_lost : (stage next : HubState) (cs ds : List (Client L)) (old new : List HubEvent) (byes grown : List Bool) (k : ℕ) (t u : List ℕ) (there : Bool) → u ≡ t
        → HubAt m read w first starts stage cs old byes (λ j. at_client k j (t ∷ [])) k → is_here stage k ≡ true → k < length byes → next ≡ (asked_by read w stage k u).after → there ≡ is_here next k
        → hub_deeds new ≡ hub_deeds old ++ asked_deeds (not there) k t → grown ≡ byes_after (not there) k byes
        → ((asked made more : ℕ → List (List ℕ)) → AllFit m 0 asked made starts cs → AllFit m 0 asked (λ j. made j ++ more j) starts ds) → HubAt m read w first starts next ds new grown nothing (k + 1)
    at_lost stage next cs ds old new byes grown k t u there e was here within ran is d g fit =
        let at = ran ∙ ap (λ x. (asked_by read w stage k x).after) e in
        at_ask stage next cs ds old new byes grown k t (not there) was here within (ap not is ∙ here_tells read w (takes_leave read w stage t) stage k t next here (here_within stage.here k here) refl at) d g at
        (λ asked made all. fit asked made (λ j. lines_to j (asked_by read w stage k t).lines) all)

    -- what a client asked was not applied
    pub at_starved : (stage next : HubState) (cs ds es : List (Client L)) (events : List HubEvent) (byes : List Bool) (k : ℕ) (t : List ℕ) → HubAt m read w first starts stage cs events byes (λ j. at_client k j (t ∷ [])) k → next ≡ stage
        → ((asked made : ℕ → List (List ℕ)) → AllFit m 0 (λ j. asked j ++ at_client k j (t ∷ [])) made starts cs → AllFit m 0 asked made starts ds)
        → ((asked made more : ℕ → List (List ℕ)) → AllFit m 0 asked made starts ds → AllFit m 0 asked (λ j. made j ++ more j) starts es) → HubAt m read w first starts next es events byes nothing (k + 1)
    at_starved stage next cs ds es events byes k t was e starves loses =
        at_stage stage next es events byes nothing (k + 1) e
        (at_weaker stage es events byes nothing k (k + 1) (omega arith)
        (at_same stage cs es events byes (λ j. at_client k j (t ∷ [])) nothing k was
        (λ asked made all. asked_nothing m asked made starts es (lost_none_more m asked made starts es (loses asked made nothing (starves asked made all))))))
