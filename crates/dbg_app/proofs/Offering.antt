-- What was judged of the files of a service is what they hold.
use Rattle.std.proofs.Common.{◌≡◌, ◌<◌, ◌≤◌, ◌⊎◌, inl, inr, ◌||◌, ◌==◌, ℕ, List, [], ◌++◌, Option, Some, None, Ok, length, refl, sym, ◌∙◌, ap, subst, IfSome, IsTrue, arith}
use Rattle.io_edge.specs.Taken.{Grows}
use Rattle.io_edge.proofs.Stops.{nothing_more, grows_whole, grows_front}
use Rattle.bv_core.specs.Value.{Bits}
use Rattle.design_core.specs.DesignView.{design_of}
use Rattle.trim_laws.proofs.Orders.{one_length}
use Rattle.stim_text.specs.Rows.{rows_of}
use Rattle.design_judge.specs.Accepting.{IsKept, accepting_of}
use Rattle.show_net.specs.declared.service.Service.{Service}
use Rattle.show_net.specs.Over.{Over, Shows}
use Rattle.std.specs.Prelude.{option_map}
use Rattle.std.proofs.lemmas.List.{append-nil}
use Rattle.dbg_app.specs.Command.{Command, file_names, rest_names}
use Rattle.dbg_app.specs.Names.{AsksFrontOf, StopsInsideOf, AsksBehind}
use Rattle.dbg_app.specs.Answers.{Contents, HoldsDesign}
use Rattle.dbg_app.specs.Offer.{Offer, offer_of, offer_files, IfOffered}
use Rattle.listen.specs.Pairs.{Heard}
use Rattle.link_edge.specs.Links.{Meaning}
use Rattle.duo_run.specs.declared.served.Served.{Served}
use Rattle.hub_core.specs.declared.served.HubServed.{HubServed}
use Rattle.serve_net.specs.Service.{is_end_status}
use Rattle.dbg_app.specs.declared.offer.Manner.{Manner}
use Rattle.dbg_app.specs.declared.offer.Manner.TheVariants.{InTurn, AtOnce}
use Rattle.dbg_app.specs.Answers.{IfAsked}
use Rattle.dbg_app.specs.Judged.{AsksOwn, Judges, HasText, TakesText, TakesTextFront, judged_status}
use Rattle.dbg_app.specs.Outcome.{is_status, EndsAsAsked, TakesSome, Completes}
use Rattle.dbg_app.specs.declared.judge.Judged.{Judged}
use Rattle.dbg_app.specs.declared.shown.Shown.TheVariants as shown
use Rattle.dbg_app.specs.Serving.{AsksByStatus, AsksNone, AsksOffer, HoldsOver, ServesWhole, ServesFrontOf, ServesOffer, ServesFront, CompletesOffer, JudgesOffer}
use Rattle.dbg_app.proofs.Asking.{offer_status}
use Rattle.dbg_app.proofs.Statuses.{source_asked, stimulus_asked, all_asked, early_is}
use Rattle.dbg_app.proofs.Ending.{either, same_number, done_taken, front_taken, written_completes}

-- a service whose stimulus was accepted shows its rows
pub shown_over : (service : Service) → IsKept (accepting_of service.accepted) → (rows : List (List Bits)) × (rows_of service.accepted.ports service.stimulus.items ≡ Ok rows) → (over : Over) × Shows service over
shown_over service kept rows =
    (record { design = design_of service.accepted.design; driven = length service.accepted.order; mode = service.mode; rows = rows.0 }, record { kept = kept; rows = rows.1; design = refl; driven = refl; mode = refl })

-- it is what the files hold, where they hold its design
held : (files : Contents) (command : Command) (name : List ℕ) (service : Service) → service.mode ≡ command.mode → command.stimulus ≡ Some name → files name ≡ Some service.stimulus.items → HoldsDesign files command (design_of service.accepted.design)
    → (over : Over) → Shows service over → HoldsOver files command over
held files command name service mode named found design over shows =
    let same : record { design = design_of service.accepted.design; driven = length service.accepted.order; mode = service.mode; rows = over.rows } ≡ over = λ k. record { design = sym shows.design k; driven = sym shows.driven k; mode = sym shows.mode k; rows = over.rows } in
    subst (HoldsOver files command) same (record {
      design = design;
      driven = one_length (design_of service.accepted.design) service.accepted.order design.accepted.1.pairs shows.kept.order design.accepted.1.order;
      ports = service.accepted.ports;
      are = shows.kept.ports;
      rows = rw named (service.stimulus.items, found, shows.rows);
      mode = mode;
    })

pub held_over : (told : Option Contents) (command : Command) (name : List ℕ) (service : Service) → service.mode ≡ command.mode → command.stimulus ≡ Some name → IfSome told (λ files. files name ≡ Some service.stimulus.items)
    → IfSome told (λ files. HoldsDesign files command (design_of service.accepted.design) → (over : Over) → Shows service over → HoldsOver files command over)
held_over None command name service mode named found = tt
held_over (Some files) command name service mode named found = λ design over shows. held files command name service mode named found design over shows

-- a fact of the files and of what the words offer
if_offered : (told : Option Contents) (offer : Offer) (P : Contents → Offer → Type 0) → IfSome told (λ files. P files offer) → IfOffered told (Some offer) P
if_offered None offer P h = tt
if_offered (Some files) offer P h = h

pub offered_is : (told : Option Contents) (words : List (List ℕ)) (offer : Offer) (P : Contents → Offer → Type 0) → Some offer ≡ offer_of words → IfSome told (λ files. P files offer) → IfOffered told (offer_of words) P
offered_is told words offer P e h = subst (λ (o : Option Offer). IfOffered told o P) e (if_offered told offer P h)

-- ---- what was served

module _ {L : Type 0} (meant : L → Meaning) (told : Option Contents) (offer : Offer) (sets : List (List Heard)) (l0 l1 : Option ℕ) (f0 f1 : ℕ) (served : List (Served L)) (hub : Option (HubServed L)) (old new : Option (List ℕ)) (service : Service)
    (shows : (over : Over) × Shows service over) (judged : IfSome told (λ files. JudgesOffer files offer.files (shown.Accepted service))) where
  all_of : (told : Option Contents) → IfSome told (λ files. JudgesOffer files offer.files (shown.Accepted service)) → ((over : Over) → Shows service over → ServesWhole meant over sets offer.manner offer.count l0 l1 f0 f1 served hub old new)
      → IfSome told (λ files. ServesOffer meant files offer sets l0 l1 f0 f1 served hub old new)
  all_of None j all = tt
  all_of (Some files) j all = record { over = shows.0; holds = j shows.0 shows.1; all = all shows.0 shows.1 }

  pub serves_offer : ((over : Over) → Shows service over → ServesWhole meant over sets offer.manner offer.count l0 l1 f0 f1 served hub old new) → IfSome told (λ files. ServesOffer meant files offer sets l0 l1 f0 f1 served hub old new)
  serves_offer all = all_of told judged all

  some_of : (told : Option Contents) (status : ℕ) → IfSome told (λ files. JudgesOffer files offer.files (shown.Accepted service)) → ((over : Over) → Shows service over → ServesFrontOf meant over sets offer.manner offer.count l0 l1 f0 f1 served hub old new status)
      → IfSome told (λ files. ServesFront meant files offer sets l0 l1 f0 f1 served hub old new status)
  some_of None status j some = tt
  some_of (Some files) status j some = inr (record { over = shows.0; holds = j shows.0 shows.1; some = some shows.0 shows.1 })

  pub serves_part : (status : ℕ) → ((over : Over) → Shows service over → ServesFrontOf meant over sets offer.manner offer.count l0 l1 f0 f1 served hub old new status) → IfSome told (λ files. ServesFront meant files offer sets l0 l1 f0 f1 served hub old new status)
  serves_part status some = some_of told status judged some

end_status_is : (status : ℕ) → IsTrue (is_end_status status) → (status ≡ 0) ⊎ ((status ≡ 8) ⊎ (status ≡ 9))
end_status_is status known = elim (either (status == 0 || status == 8) (status == 9) known) [
  | inl first ↦ elim (either (status == 0) (status == 8) first) [
    | inl is ↦ inl (same_number status 0 is)
    | inr is ↦ inr (inl (same_number status 8 is))
  ]
  | inr is ↦ inr (inr (same_number status 9 is))
]

module _ (offer : Offer) (status : ℕ) (old new : Option (List ℕ)) (read_rose write_rose : Type 0) where
  -- what was accepted was served
  pub served_completes : (told : Option Contents) (service : Service) → offer.files.requests ≡ None → ((over : Over) × Shows service over) → IfSome told (λ files. JudgesOffer files offer.files (shown.Accepted service)) → IsTrue (is_end_status status) → (status ≡ 8 → write_rose)
      → IfSome told (λ files. CompletesOffer files offer status old new read_rose write_rose)
  served_completes None service bare shows j known write = tt
  served_completes (Some files) service bare shows j known write = λ answer asks no_read no_write.
      elim (end_status_is status known) [
        | inl is ↦ inl (is ∙ sym (offer_status files offer.files shows.0 bare (j shows.0 shows.1) answer asks), λ other. absurd (other is))
        | inr (inl is) ↦ absurd (no_write (write is))
        | inr (inr is) ↦ inr is
      ]

  -- or the line of a refusal was written
  completes : (told : Option Contents) → IfAsked told (Some offer.files) (λ files command. Completes [] files command status old new read_rose write_rose) → IfSome told (λ files. CompletesOffer files offer status old new read_rose write_rose)
  completes None h = tt
  completes (Some files) h = λ answer asks no_read no_write. elim (h answer asks no_read no_write) [
    | inl found ↦ inl (found.0, λ other. found.1)
    | inr starved ↦ inr starved
  ]

  module _ (told : Option Contents) (judged : Judged) (j : IfSome told (λ files. Judges files offer.files judged)) where
    as_asked : (told : Option Contents) → IfSome told (λ files. Judges files offer.files judged) → IfAsked told (Some offer.files) (λ files command. Judges files command judged)
    as_asked None h = tt
    as_asked (Some files) h = h

    pub refused_completes : IsTrue (is_status status) → (status < 7 → status ≡ judged_status judged) → (status < 7 → TakesText [] judged old new) → (status ≡ 7 → ⊥) → (status ≡ 8 → write_rose) → IfSome told (λ files. CompletesOffer files offer status old new read_rose write_rose)
    refused_completes known is early seven write = completes told (written_completes [] told (Some offer.files) judged status old new read_rose write_rose known (as_asked told j) is early seven write)

    ends : (told : Option Contents) → IfAsked told (Some offer.files) (λ files command. EndsAsAsked [] files command status old new) → IfSome told (λ files. EndsAsAsked [] files offer.files status old new)
    ends None h = tt
    ends (Some files) h = h

    pub refused_ends : HasText judged → status ≡ judged_status judged → TakesText [] judged old new → IfSome told (λ files. EndsAsAsked [] files offer.files status old new)
    refused_ends text is taken = ends told (done_taken [] told (Some offer.files) judged status old new (as_asked told j) text is taken)

    module _ {L : Type 0} (meant : L → Meaning) (sets : List (List Heard)) (l0 l1 : Option ℕ) (f0 f1 : ℕ) (served : List (Served L)) (hub : Option (HubServed L)) (none : AsksNone l0 l1 f0 f1 served hub) where
      fronts : (told : Option Contents) → IfAsked told (Some offer.files) (λ files command. TakesSome [] files command old new) → IfSome told (λ files. ServesFront meant files offer sets l0 l1 f0 f1 served hub old new status)
      fronts None h = tt
      fronts (Some files) h = inl (record { none = none; taken = h })

      pub refused_front : HasText judged → TakesTextFront [] judged old new → IfSome told (λ files. ServesFront meant files offer sets l0 l1 f0 f1 served hub old new status)
      refused_front text taken = fronts told (front_taken [] told (Some offer.files) judged old new (as_asked told j) text taken)

-- ---- the files that were asked for

pub no_files : (told : Option Contents) (words : List (List ℕ)) (status : ℕ) (asked : Option (List (List ℕ))) → None ≡ offer_of words → AsksByStatus told (offer_of words) status asked asked
no_files told words status asked e = subst (λ (o : Option Offer). AsksByStatus told o status asked asked) e (nothing_more asked)

-- none is asked for where the words are no service
pub no_front : (told : Option Contents) (words : List (List ℕ)) (asked : Option (List (List ℕ))) → None ≡ offer_of words → AsksFrontOf told (option_map offer_files (offer_of words)) asked asked
no_front told words asked e = subst (λ (o : Option Offer). AsksFrontOf told (option_map offer_files o) asked asked) e refl

module _ (told : Option Contents) (words : List (List ℕ)) (offer : Offer) (is_offer : Some offer ≡ offer_of words) (bare : offer.files.requests ≡ None) where
  with_stimulus : file_names offer.files.stimulus ≡ rest_names offer.files
  with_stimulus = sym (append-nil (file_names offer.files.stimulus)) ∙ ap (λ (n : Option (List ℕ)). file_names offer.files.stimulus ++ file_names n) (sym bare)

  of_offer : (status : ℕ) (old new : Option (List (List ℕ))) → AsksOffer told offer status old new → AsksByStatus told (offer_of words) status old new
  of_offer status old new h = subst (λ (o : Option Offer). AsksByStatus told o status old new) is_offer h

  pub front_offer : (old new : Option (List (List ℕ))) → AsksFrontOf told (Some offer.files) old new → AsksFrontOf told (option_map offer_files (offer_of words)) old new
  front_offer old new h = subst (λ (o : Option Offer). AsksFrontOf told (option_map offer_files o) old new) is_offer h

  pub unread_offer : {S : Type 0} (asked : S → Option (List (List ℕ))) (faults : S → ℕ) (old new : S) → StopsInsideOf told (Some offer.files) asked faults old new → StopsInsideOf told (option_map offer_files (offer_of words)) asked faults old new
  unread_offer asked faults old new h = subst (λ (o : Option Offer). StopsInsideOf told (option_map offer_files o) asked faults old new) is_offer h

  -- all were asked for before what they hold was served
  pub shown_files : (status : ℕ) (old new : Option (List (List ℕ))) → AsksBehind told offer.files.source (rest_names offer.files) old new → IsTrue (is_end_status status) → AsksByStatus told (offer_of words) status old new
  shown_files status old new p known = of_offer status old new (record {
    source = λ three. absurd (elim (end_status_is status known) [ inl e ↦ omega (arith, three, e) | inr (inl e) ↦ omega (arith, three, e) | inr (inr e) ↦ omega (arith, three, e) ]);
    all = λ late. p;
  })

  -- a refusal was asked for as it is
  pub refused_files : (j : Judged) (status : ℕ) (old new : Option (List (List ℕ))) → AsksOwn told offer.files old new j → (status < 7 → status ≡ judged_status j) → AsksByStatus told (offer_of words) status old new
  refused_files j status old new own is =
      of_offer status old new (record {
        source = λ three. source_asked told offer.files old new j (sym three ∙ is (early_is status 3 (omega arith) three)) own;
        all = λ late. elim late [
          | inl zero ↦ all_asked told offer.files old new j status (inl zero) (is (early_is status 0 (omega arith) zero)) own
          | inr four ↦ subst (λ (more : List (List ℕ)). AsksBehind told offer.files.source more old new) with_stimulus (stimulus_asked told offer.files old new j (sym four ∙ is (early_is status 4 (omega arith) four)) own)
        ];
      })

  -- where a service ends late nothing is said of them
  pub late_files : (status : ℕ) (old new : Option (List (List ℕ))) → 7 ≤ status → AsksByStatus told (offer_of words) status old new
  late_files status old new late = of_offer status old new (record {
    source = λ three. absurd (omega (arith, late, three));
    all = λ early. absurd (elim early [ inl zero ↦ omega (arith, late, zero) | inr four ↦ omega (arith, late, four) ]);
  })

-- ---- what stays in front

module _ {L : Type 0} (meant : L → Meaning) (sets : List (List Heard)) (count : ℕ) (l0 l1 : Option ℕ) (f0 f1 : ℕ) (served : List (Served L)) (hub : Option (HubServed L)) (old new : Option (List ℕ)) where
  whole_grown : (over : Over) (manner : Manner) → ServesWhole meant over sets manner count l0 l1 f0 f1 served hub old new → Grows old new
  whole_grown over InTurn all = grows_whole old new _ all.0.taken
  whole_grown over AtOnce all = grows_whole old new _ all.0.taken

  front_grown : (over : Over) (manner : Manner) (status : ℕ) → ServesFrontOf meant over sets manner count l0 l1 f0 f1 served hub old new status → Grows old new
  front_grown over InTurn status some = grows_front old new _ some.0.taken
  front_grown over AtOnce status some = grows_front old new _ some.0.taken

  pub served_grown : (manner : Manner) (service : Service) (status : ℕ) → ((over : Over) × Shows service over) → IsTrue (is_end_status status)
      → (status ≡ 0 → (over : Over) → Shows service over → ServesWhole meant over sets manner count l0 l1 f0 f1 served hub old new)
      → (7 < status → (over : Over) → Shows service over → ServesFrontOf meant over sets manner count l0 l1 f0 f1 served hub old new status) → Grows old new
  served_grown manner service status shows known all some = elim (end_status_is status known) [
    | inl e ↦ whole_grown shows.0 manner (all e shows.0 shows.1)
    | inr (inl e) ↦ front_grown shows.0 manner status (some (omega (arith, e)) shows.0 shows.1)
    | inr (inr e) ↦ front_grown shows.0 manner status (some (omega (arith, e)) shows.0 shows.1)
  ]

-- a service that began ends with none of the statuses of a refusal
pub ends_late : (status : ℕ) → IsTrue (is_end_status status) → (status ≡ 0 → ⊥) → status < 8 → ⊥
ends_late status known other early = elim (end_status_is status known) [
  | inl e ↦ other e
  | inr (inl e) ↦ omega (arith, e, early)
  | inr (inr e) ↦ omega (arith, e, early)
]
