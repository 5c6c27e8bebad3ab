-- The journal of a hub, when an event is put last.
use Rattle.std.proofs.Common.{◌≡◌, ◌+◌, ℕ, zero, suc, Bool, true, false, not, ◌&&◌, List, [], ◌∷◌, ◌++◌, inl, inr, refl, sym, ◌∙◌, ap, append_assoc, append-nil, add-one, if◌then◌else◌, nat_eq, set, get_or, ◌<◌, length, arith}
use Rattle.std.proofs.lemmas.Bool.Decides.{eqb_tells}
use Rattle.std.proofs.lemmas.List.{get_or-set_same}
use Rattle.world_core.specs.World.{World}
use Rattle.machine_core.specs.Reading.{Reader}
use Rattle.link_edge.specs.Links.{Meaning}
use Rattle.hub_core.specs.declared.client.Client.{Client}
use Rattle.hub_core.specs.declared.event.HubEvent.{HubEvent}
use Rattle.hub_core.specs.declared.event.HubEvent.TheVariants.{Ask, Left, Turns}
use Rattle.hub_core.specs.Hubs.{HubState, is_here, gone, after_ask_in, takes_leave, asked_by, turned}
use Rattle.hub_core.specs.HubJournals.{HubDeed, Asks, Leaves, Goes, goings, hub_deeds, at_client, asked_in, asks_of, after_hub_deed, after_hub_deeds, leaves_next, is_proper}
use Rattle.hub_core.specs.Clients.{AllFit, lines_to, nothing}
use Rattle.hub_core.specs.Rounds.{told_in, hub_lines, HubHeld, asked_deeds, TurnAdded}
use Rattle.hub_core.proofs.Crowding.{lines_append, fit_same}

pub deeds_append : (es fs : List HubEvent) → hub_deeds (es ++ fs) ≡ hub_deeds es ++ hub_deeds fs
unfolding hub_deeds
deeds_append [] fs = refl
deeds_append (Ask c t ∷ es) fs = ap (λ l. Asks c t ∷ l) (deeds_append es fs)
deeds_append (Left c ∷ es) fs = ap (λ l. Leaves c ∷ l) (deeds_append es fs)
deeds_append (Turns n ∷ es) fs = ap (λ l. goings n ++ l) (deeds_append es fs) ∙ sym (append_assoc (goings n) (hub_deeds es) (hub_deeds fs))

pub deeds_ask : (old new : List HubEvent) (c : ℕ) (t : List ℕ) → new ≡ old ++ Ask c t ∷ [] → hub_deeds new ≡ hub_deeds old ++ Asks c t ∷ []
unfolding hub_deeds
deeds_ask old new c t e = ap hub_deeds e ∙ deeds_append old (Ask c t ∷ [])

pub deeds_left : (old new : List HubEvent) (c : ℕ) → new ≡ old ++ Left c ∷ [] → hub_deeds new ≡ hub_deeds old ++ Leaves c ∷ []
unfolding hub_deeds
deeds_left old new c e = ap hub_deeds e ∙ deeds_append old (Left c ∷ [])

turns_more : (n : ℕ) → goings (suc n) ≡ goings n ++ Goes ∷ []
turns_more zero = refl
turns_more (suc n) = ap (λ l. Goes ∷ l) (turns_more n)

deeds_turns : (es : List HubEvent) (n : ℕ) → hub_deeds (es ++ Turns n ∷ []) ≡ hub_deeds es ++ goings n
unfolding hub_deeds
deeds_turns es n = deeds_append es (Turns n ∷ []) ∙ ap (λ l. hub_deeds es ++ l) (append-nil (goings n))

pub deeds_turn : (old new : List HubEvent) → TurnAdded old new → hub_deeds new ≡ hub_deeds old ++ Goes ∷ []
deeds_turn old new (inl (before, n, was, is)) = rw (was, is, deeds_turns before n, deeds_turns before (n + 1), add-one, turns_more, append_assoc) refl
deeds_turn old new (inr is) = rw (is, deeds_turns) refl

pub asks_append : (k : ℕ) (xs ys : List HubDeed) → asks_of k (xs ++ ys) ≡ asks_of k xs ++ asks_of k ys
unfolding asks_of
asks_append k [] ys = refl
asks_append k (x ∷ xs) ys = ap (λ l. asked_in k x ++ l) (asks_append k xs ys) ∙ sym (append_assoc (asked_in k x) (asks_of k xs) (asks_of k ys))

pub both : (a b : Bool) → (a && b) ≡ true → (a ≡ true) × (b ≡ true)
both true b e = (refl, e)
both false b e = absurd (let bad : false ≡ true = e in cc)

pub both_hold : (a b : Bool) → a ≡ true → b ≡ true → (a && b) ≡ true
both_hold a b e f = rw e f

-- who leaves next is said by what is there
leaves_on : (c : ℕ) (xs ys : List HubDeed) → leaves_next c xs ≡ true → leaves_next c (xs ++ ys) ≡ true
leaves_on c [] ys e = absurd (let bad : false ≡ true = e in cc)
leaves_on c (Leaves d ∷ xs) ys e = e
leaves_on c (Asks d t ∷ xs) ys e = absurd (let bad : false ≡ true = e in cc)
leaves_on c (Goes ∷ xs) ys e = absurd (let bad : false ≡ true = e in cc)

bye_on : (b : Bool) (c : ℕ) (xs ys : List HubDeed) → (if b then leaves_next c xs else true) ≡ true → (if b then leaves_next c (xs ++ ys) else true) ≡ true
bye_on true c xs ys e = leaves_on c xs ys e
bye_on false c xs ys e = refl

module _ (read : Reader) (w : World) where
  pub after_append : (s : HubState) (xs ys : List HubDeed) → after_hub_deeds read w s (xs ++ ys) ≡ after_hub_deeds read w (after_hub_deeds read w s xs) ys
  unfolding after_hub_deeds
  after_append s [] ys = refl
  after_append s (x ∷ xs) ys = after_append (after_hub_deed read w s x) xs ys

  pub lines_on : (s : HubState) (xs ys : List HubDeed) → hub_lines read w s (xs ++ ys) ≡ hub_lines read w s xs ++ hub_lines read w (after_hub_deeds read w s xs) ys
  unfolding hub_lines after_hub_deeds
  lines_on s [] ys = refl
  lines_on s (x ∷ xs) ys = ap (λ l. told_in read w s x ++ l) (lines_on (after_hub_deed read w s x) xs ys) ∙ sym (append_assoc (told_in read w s x) (hub_lines read w (after_hub_deed read w s x) xs) (hub_lines read w (after_hub_deeds read w (after_hub_deed read w s x) xs) ys))

  pub proper_on : (s : HubState) (xs ys : List HubDeed) → is_proper read w s xs ≡ true → is_proper read w (after_hub_deeds read w s xs) ys ≡ true → is_proper read w s (xs ++ ys) ≡ true
  unfolding is_proper after_hub_deeds
  proper_on s [] ys p q = q
  proper_on s (Asks c t ∷ xs) ys p q =
      let here = both (is_here s c) _ p in
      let rest = both (if takes_leave read w s t then leaves_next c xs else true) _ here.1 in
      both_hold _ _ here.0 (both_hold _ _ (bye_on (takes_leave read w s t) c xs ys rest.0) (proper_on (after_ask_in read w s t) xs ys rest.1 q))
  proper_on s (Leaves c ∷ xs) ys p q = let here = both (is_here s c) _ p in both_hold _ _ here.0 (proper_on (gone c s) xs ys here.1 q)
  proper_on s (Goes ∷ xs) ys p q = proper_on (turned w s).after xs ys p q

  -- these deeds were done
  pub held_on : {L : Type 0} (m : L → Meaning) (first stage next : HubState) (starts : List Meaning) (cs ds : List (Client L)) (old new : List HubEvent) (more : List HubDeed) (taken rest : ℕ → List (List ℕ))
      → HubHeld m read w first starts stage cs old taken → hub_deeds new ≡ hub_deeds old ++ more → next ≡ after_hub_deeds read w stage more → is_proper read w stage more ≡ true
      → ((j : ℕ) → taken j ≡ asks_of j more ++ rest j)
      → ((asked made : ℕ → List (List ℕ)) → AllFit m 0 asked made starts cs → AllFit m 0 asked (λ j. made j ++ lines_to j (hub_lines read w stage more)) starts ds)
      → HubHeld m read w first starts next ds new rest
  held_on m first stage next starts cs ds old new more taken rest was e is proper took fit =
      let at = was.state_is in
      record {
        state_is = is ∙ ap (λ s. after_hub_deeds read w s more) at ∙ sym (ap (after_hub_deeds read w first) e ∙ after_append first (hub_deeds old) more);
        proper = ap (is_proper read w first) e ∙ proper_on first (hub_deeds old) more was.proper (rw at at proper);
        fit = fit_same m 0 _ _ (λ j. asks_of j (hub_deeds new) ++ rest j) (λ j. lines_to j (hub_lines read w first (hub_deeds new))) starts ds
            (fit (λ j. asks_of j (hub_deeds old) ++ taken j) (λ j. lines_to j (hub_lines read w first (hub_deeds old))) was.fit)
            (λ j low high. (
              ap (λ d. asks_of j d ++ rest j) e ∙ ap (λ l. l ++ rest j) (asks_append j (hub_deeds old) more) ∙ append_assoc (asks_of j (hub_deeds old)) (asks_of j more) (rest j) ∙ ap (λ l. asks_of j (hub_deeds old) ++ l) (sym (took j)),
              ap (λ d. lines_to j (hub_lines read w first d)) e ∙ ap (lines_to j) (lines_on first (hub_deeds old) more ∙ ap (λ s. hub_lines read w first (hub_deeds old) ++ hub_lines read w s more) (sym at)) ∙ lines_append j (hub_lines read w first (hub_deeds old)) (hub_lines read w stage more),
            ));
      }

  -- ---- an asking client, a turn

  one_on : (s : HubState) (d : HubDeed) (ds : List HubDeed) → after_hub_deeds read w s (d ∷ ds) ≡ after_hub_deeds read w (after_hub_deed read w s d) ds
  unfolding after_hub_deeds
  one_on s d ds = refl

  none_on : (s : HubState) → after_hub_deeds read w s [] ≡ s
  unfolding after_hub_deeds
  none_on s = refl

  after_asked : (b : Bool) (s : HubState) (k : ℕ) (t : List ℕ) → after_hub_deeds read w s (asked_deeds b k t) ≡ (if b then gone k (after_ask_in read w s t) else after_ask_in read w s t)
  unfolding after_hub_deeds
  after_asked true s k t = refl
  after_asked false s k t = refl

  lines_asked : (b : Bool) (s : HubState) (k : ℕ) (t : List ℕ) → hub_lines read w s (asked_deeds b k t) ≡ (asked_by read w s k t).lines
  unfolding hub_lines
  lines_asked true s k t = refl
  lines_asked false s k t = refl

  proper_asked : (b : Bool) (s : HubState) (k : ℕ) (t : List ℕ) → takes_leave read w s t ≡ b → is_here s k ≡ true → is_proper read w s (asked_deeds b k t) ≡ true
  unfolding is_proper
  proper_asked true s k t e here =
      let self : nat_eq k k ≡ true = elim (eqb_tells k k) [
        | inl p ↦ p.0
        | inr p ↦ absurd (p.1 refl)
      ] in
      rw (here, e, self) refl
  proper_asked false s k t e here = rw (here, e) refl

  pub asks_asked : (b : Bool) (j k : ℕ) (t : List ℕ) → asks_of j (asked_deeds b k t) ≡ at_client k j (t ∷ [])
  unfolding asks_of
  asks_asked true j k t = append-nil (at_client k j (t ∷ []))
  asks_asked false j k t = append-nil (at_client k j (t ∷ []))

  -- a client asked, and was told the reply, or what is told was lost
  pub held_ask : {L : Type 0} (m : L → Meaning) (first stage next : HubState) (starts : List Meaning) (cs ds : List (Client L)) (old new : List HubEvent) (k : ℕ) (t : List ℕ)
      → HubHeld m read w first starts stage cs old (λ j. at_client k j (t ∷ [])) → is_here stage k ≡ true → hub_deeds new ≡ hub_deeds old ++ asked_deeds (takes_leave read w stage t) k t
      → next ≡ (asked_by read w stage k t).after
      → ((asked made : ℕ → List (List ℕ)) → AllFit m 0 asked made starts cs → AllFit m 0 asked (λ j. made j ++ lines_to j (asked_by read w stage k t).lines) starts ds)
      → HubHeld m read w first starts next ds new nothing
  held_ask m first stage next starts cs ds old new k t was here e at fit =
      held_on m first stage next starts cs ds old new (asked_deeds (takes_leave read w stage t) k t) (λ j. at_client k j (t ∷ [])) nothing was e
      (at ∙ sym (after_asked (takes_leave read w stage t) stage k t)) (proper_asked (takes_leave read w stage t) stage k t refl here)
      (λ j. sym (append-nil (asks_of j (asked_deeds (takes_leave read w stage t) k t)) ∙ asks_asked (takes_leave read w stage t) j k t))
      (rw (lines_asked (takes_leave read w stage t) stage k t) fit)

  -- whether a client is here behind what it asked
  pub here_tells : (b : Bool) (s : HubState) (k : ℕ) (t : List ℕ) (next : HubState) → is_here s k ≡ true → k < length s.here → takes_leave read w s t ≡ b → next ≡ (asked_by read w s k t).after → not (is_here next k) ≡ takes_leave read w s t
  here_tells true s k t next here within e at =
      let there : get_or (set s.here k false) k false ≡ false = get_or-set_same s.here k false false within in
      rw (at, e) (ap not there)
  here_tells false s k t next here within e at = rw (at, e) (ap not here)

  -- a turn was made, and told
  pub held_turn : {L : Type 0} (m : L → Meaning) (first stage next : HubState) (starts : List Meaning) (cs ds : List (Client L)) (old new : List HubEvent)
      → HubHeld m read w first starts stage cs old nothing → TurnAdded old new → next ≡ (turned w stage).after
      → ((asked made : ℕ → List (List ℕ)) → AllFit m 0 asked made starts cs → AllFit m 0 asked (λ j. made j ++ lines_to j (turned w stage).lines) starts ds)
      → HubHeld m read w first starts next ds new nothing
  unfolding after_hub_deeds is_proper asks_of hub_lines
  held_turn m first stage next starts cs ds old new was e at fit =
      held_on m first stage next starts cs ds old new (Goes ∷ []) nothing nothing was (deeds_turn old new e) at refl (λ j. refl) (rw (append-nil (turned w stage).lines) fit)

  -- a client left
  pub held_left : {L : Type 0} (m : L → Meaning) (first stage next : HubState) (starts : List Meaning) (cs : List (Client L)) (old new : List HubEvent) (k : ℕ)
      → HubHeld m read w first starts stage cs old nothing → is_here stage k ≡ true → new ≡ old ++ Left k ∷ [] → next ≡ gone k stage → HubHeld m read w first starts next cs new nothing
  unfolding after_hub_deeds is_proper asks_of hub_lines lines_to
  held_left m first stage next starts cs old new k was here e at =
      held_on m first stage next starts cs cs old new (Leaves k ∷ []) nothing nothing was (deeds_left old new k e) at (rw here refl) (λ j. refl)
      (λ asked made all. fit_same m 0 asked made asked (λ j. made j ++ []) starts cs all (λ j low high. (refl, append-nil (made j))))

  -- all clients changed, but for what was read and made
  pub held_same : {L : Type 0} (m : L → Meaning) (first stage : HubState) (starts : List Meaning) (cs ds : List (Client L)) (es : List HubEvent) (taken rest : ℕ → List (List ℕ))
      → HubHeld m read w first starts stage cs es taken
      → ((asked made : ℕ → List (List ℕ)) → AllFit m 0 (λ j. asked j ++ taken j) made starts cs → AllFit m 0 (λ j. asked j ++ rest j) made starts ds) → HubHeld m read w first starts stage ds es rest
  held_same m first stage starts cs ds es taken rest was fit = record {
    state_is = was.state_is;
    proper = was.proper;
    fit = fit (λ j. asks_of j (hub_deeds es)) (λ j. lines_to j (hub_lines read w first (hub_deeds es))) was.fit;
  }

-- memory ran out, and no more was made
pub lost_none_more : {L : Type 0} (m : L → Meaning) (asked made : ℕ → List (List ℕ)) (starts : List Meaning) (cs : List (Client L)) → AllFit m 0 asked (λ j. made j ++ []) starts cs → AllFit m 0 asked made starts cs
lost_none_more m asked made starts cs all = fit_same m 0 asked (λ j. made j ++ []) asked made starts cs all (λ j low high. (refl, sym (append-nil (made j))))

pub asked_none : {L : Type 0} (m : L → Meaning) (asked made : ℕ → List (List ℕ)) (starts : List Meaning) (cs : List (Client L)) → AllFit m 0 (λ j. asked j ++ []) made starts cs → AllFit m 0 asked made starts cs
asked_none m asked made starts cs all = fit_same m 0 (λ j. asked j ++ []) made asked made starts cs all (λ j low high. (sym (append-nil (asked j)), refl))

pub asked_nothing : {L : Type 0} (m : L → Meaning) (asked made : ℕ → List (List ℕ)) (starts : List Meaning) (cs : List (Client L)) → AllFit m 0 asked made starts cs → AllFit m 0 (λ j. asked j ++ []) made starts cs
asked_nothing m asked made starts cs all = fit_same m 0 asked made (λ j. asked j ++ []) made starts cs all (λ j low high. (append-nil (asked j), refl))

-- ---- the events of one that asks

pub noted_leaving : (old mid new : List HubEvent) (c : ℕ) (t : List ℕ) → mid ≡ old ++ Ask c t ∷ [] → new ≡ mid ++ Left c ∷ [] → hub_deeds new ≡ hub_deeds old ++ asked_deeds true c t
noted_leaving old mid new c t e f = deeds_left mid new c f ∙ ap (λ l. l ++ Leaves c ∷ []) (deeds_ask old mid c t e) ∙ append_assoc (hub_deeds old) (Asks c t ∷ []) (Leaves c ∷ [])

pub noted_staying : (old new : List HubEvent) (c : ℕ) (t : List ℕ) → new ≡ old ++ Ask c t ∷ [] → hub_deeds new ≡ hub_deeds old ++ asked_deeds false c t
noted_staying old new c t e = deeds_ask old new c t e

pub held_at : {L : Type 0} (m : L → Meaning) (read : Reader) (w : World) (first stage next : HubState) (starts : List Meaning) (cs : List (Client L)) (es : List HubEvent) (taken : ℕ → List (List ℕ)) → next ≡ stage
    → HubHeld m read w first starts stage cs es taken → HubHeld m read w first starts next cs es taken
held_at m read w first stage next starts cs es taken e was = rw e was

abbrev no_texts : List (List ℕ)
no_texts = []

none_at : (i j : ℕ) → at_client i j no_texts ≡ no_texts
none_at i j = by (nat_eq i j) refl
  where
    by : (b : Bool) → nat_eq i j ≡ b → at_client i j no_texts ≡ no_texts
    by true e = rw e refl
    by false e = rw e refl

pub polled_none : {L : Type 0} (m : L → Meaning) (asked made : ℕ → List (List ℕ)) (starts : List Meaning) (cs : List (Client L)) (i : ℕ) → AllFit m 0 (λ j. asked j ++ at_client i j []) made starts cs → AllFit m 0 (λ j. asked j ++ []) made starts cs
polled_none m asked made starts cs i all = fit_same m 0 (λ j. asked j ++ at_client i j []) made (λ j. asked j ++ []) made starts cs all (λ j low high. (ap (λ l. asked j ++ l) (sym (none_at i j)), refl))

pub here_within : (here : List Bool) (k : ℕ) → get_or here k false ≡ true → k < length here
here_within [] k e = absurd (let bad : false ≡ true = e in cc)
here_within (b ∷ here) zero e = omega arith
here_within (b ∷ here) (suc k) e = let within = here_within here k e in omega (arith, within)
