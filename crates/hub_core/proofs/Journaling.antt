-- A hub's journal is one of the machine, where clients are left out.
use Rattle.std.proofs.Common.{◌≡◌, ℕ, zero, suc, Bool, true, false, ◌&&◌, List, [], ◌∷◌, ◌++◌, refl, sym, ◌∙◌, ap, ap₂, append_assoc, if◌then◌else◌, nat_eq}
use Rattle.world_core.specs.World.{World}
use Rattle.machine_core.specs.Reading.{Reader}
use Rattle.machine_core.specs.Machine.{Machine, turn_of}
use Rattle.machine_core.specs.Journal.{Replied, turns_from, journal_from}
use Rattle.hub_core.specs.declared.event.HubEvent.{HubEvent}
use Rattle.hub_core.specs.declared.event.HubEvent.TheVariants.{Ask, Left, Turns}
use Rattle.hub_core.specs.Hubs.{HubState, gone, answer_in, told_of_turn, turned}
use Rattle.hub_core.specs.HubJournals.{HubDeed, goings, hub_deeds, client_lines, after_hub_deeds, hub_entries, are_of, IsJournal}

both : (a b : Bool) → (a && b) ≡ true → (a ≡ true) × (b ≡ true)
both true b e = (refl, e)
both false b e = absurd (let bad : false ≡ true = e in cc)

module _ (read : Reader) (w : World) where
  -- turns, one by one
  goes_on : (n : ℕ) (s : HubState) (ds : List HubDeed) → after_hub_deeds read w s (goings n ++ ds) ≡ after_hub_deeds read w (record s { machine = (turns_from w n s.machine).after }) ds
  unfolding after_hub_deeds
  goes_on zero s ds = refl
  goes_on (suc n) s ds = goes_on n (turned w s).after ds

  lines_on : (n k : ℕ) (m : Machine) (ds : List HubDeed) → client_lines read w k true m (goings n ++ ds) ≡ (turns_from w n m).lines ++ client_lines read w k true (turns_from w n m).after ds
  unfolding client_lines told_of_turn
  lines_on zero k m ds = refl
  lines_on (suc n) k m ds =
      ap (λ l. told_of_turn w m ++ l) (lines_on n k (turn_of w m).after ds)
      ∙ sym (append_assoc (told_of_turn w m) (turns_from w n (turn_of w m).after).lines (client_lines read w k true (turns_from w n (turn_of w m).after).after ds))

  state_is : (es : List HubEvent) (m : Machine) (here : List Bool) → (after_hub_deeds read w (record { machine = m; here = here }) (hub_deeds es)).machine ≡ (journal_from read w m (hub_entries es)).after
  unfolding after_hub_deeds hub_deeds hub_entries answer_in
  state_is [] m here = refl
  state_is (Ask client text ∷ es) m here = state_is es (answer_in read w m text).after here
  state_is (Left client ∷ es) m here = state_is es m (gone client (record { machine = m; here = here })).here
  state_is (Turns n ∷ es) m here = ap (λ (s : HubState). s.machine) (goes_on n (record { machine = m; here = here }) (hub_deeds es)) ∙ state_is es (turns_from w n m).after here

  alone : (es : List HubEvent) (k : ℕ) (m : Machine) → are_of k es ≡ true → client_lines read w k true m (hub_deeds es) ≡ (journal_from read w m (hub_entries es)).lines
  unfolding client_lines hub_deeds hub_entries answer_in are_of
  alone [] k m e = refl
  alone (Ask client text ∷ es) k m e =
      let here = both (nat_eq client k) (are_of k es) e in
      ap₂ (λ b l. (if b then Replied (answer_in read w m text).reply ∷ [] else []) ++ l) here.0 (alone es k (answer_in read w m text).after here.1)
  alone (Left client ∷ es) k m e =
      let here = both (if nat_eq client k then false else true) (are_of k es) e in
      ap (λ b. client_lines read w k b m (hub_deeds es)) here.0 ∙ alone es k m here.1
  alone (Turns n ∷ es) k m e =
      let here = both true (are_of k es) e in
      lines_on n k m (hub_deeds es) ∙ ap (λ l. (turns_from w n m).lines ++ l) (alone es k (turns_from w n m).after here.1)

pub are_journals : (read : Reader) (w : World) (m : Machine) (es : List HubEvent) → IsJournal read w m es
are_journals read w m es = record { state = λ here. state_is read w es m here; lines = λ k e. alone read w es k m e }
