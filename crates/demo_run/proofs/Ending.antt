-- How a demo ends, from what was judged and written.
use Rattle.std.proofs.Common.{◌≡◌, ◌<◌, ℕ, Bool, true, false, ◌||◌, ◌==◌, ◌≤◌, List, [], ◌∷◌, length, Option, Some, None, Result, Ok, Err, refl, sym, ap, ◌∙◌, subst, IsTrue, ◌⊎◌, inl, inr, arith}
use Rattle.std.specs.Prelude.{IfSome}
use Rattle.std.proofs.lemmas.Bool.Decides.{nat_tests}
use Rattle.io_edge.specs.Taken.{Appends, AppendsFront}
use Rattle.io_edge.proofs.Growth.{no_growth}
use Rattle.bv_core.specs.Value.{Bits}
use Rattle.exec_core.specs.Whole.{Place}
use Rattle.listen.specs.Pairs.{Heard}
use Rattle.design_core.specs.declared.Ports.{Ports}
use Rattle.design_core.specs.Design.{Design}
use Rattle.design_core.specs.DesignView.{design_of}
use Rattle.place_core.specs.Orders.{TellsOrder}
use Rattle.stim_text.specs.Rows.{rows_of}
use Rattle.stim_text.specs.declared.StimFault.{StimFault}
use Rattle.world_core.specs.Source.{source_world}
use Rattle.trim_laws.specs.Runs.{HasInputs, RunsOver}
use Rattle.trim_laws.proofs.Orders.{one_length}
use Rattle.trim_laws.proofs.Running.{designs_run}
use Rattle.design_judge.specs.declared.DesignFault.{DesignFault}
use Rattle.design_judge.specs.declared.DesignFault.TheVariants.{CombLoop}
use Rattle.design_judge.specs.Refusals.{design_line, stimulus_line}
use Rattle.design_judge.specs.Judgement.{AreOfText, IsRefused, ArePortsOf}
use Rattle.design_judge.proofs.OneJudgement.{one_design, one_judgement, not_both}
use Rattle.design_judge.proofs.OneReading.{one_text as one_reading}
use Rattle.design_judge.proofs.OnePorts.{one_ports}
use Rattle.machine_core.proofs.Readers.{some_reader}
use Rattle.batch_run.specs.Texts.{requests_fault}
use Rattle.demo_run.specs.Chain.{chain_source, chain_stimulus, chain_top, row_count}
use Rattle.demo_run.specs.Asked.{Given, Contents, IsChain, HasRows, HoldsRequests, RefusesDesign, RefusesStimulus, RefusesRequests, AsksByStatus, Held, Holds, line_over, line_of, AsksDemo, NoDesign, NoStimulus, NoRequests, Accepted, is_status, TakesDesignLine, TakesStimulusLine, EndsAsAsked, TakesSome, TakesText, Completes}
use Rattle.demo_run.specs.Judged.{HoldsWalk, Judges, IsWalk, HasText, asked_for, judged_status, IsTextOf, IsWalkLine, IsTheText, TakesJudged, TakesJudgedFront}
use Rattle.demo_run.specs.declared.walk.Walk.{Walk}
use Rattle.demo_run.specs.declared.judge.Judged.{Judged}
use Rattle.demo_run.specs.declared.judge.Judged.TheVariants as judged

-- ---- statuses

either : (a b : Bool) → (a || b) ≡ true → (a ≡ true) ⊎ (b ≡ true)
either true b e = inl refl
either false b e = inr e

same_number : (a b : ℕ) → (a == b) ≡ true → a ≡ b
same_number a b e = grind (arith, nat_tests, e)

low : (status n : ℕ) → (status == n) ≡ true → n < 7 → status < 7
low status n e l = let same : status ≡ n = same_number status n e in omega arith

-- a status is below 7, or 7, 8 or 9
late_status : (status : ℕ) → is_status status ≡ true → (status < 7) ⊎ ((status ≡ 7) ⊎ ((status ≡ 8) ⊎ (status ≡ 9)))
late_status status e = elim (either _ (status == 9) e) [
  | inr is ↦ inr (inr (inr (same_number status 9 is)))
  | inl more ↦ elim (either _ (status == 8) more) [
    | inr is ↦ inr (inr (inl (same_number status 8 is)))
    | inl some ↦ elim (either _ (status == 7) some) [
      | inr is ↦ inr (inl (same_number status 7 is))
      | inl few ↦ elim (either _ (status == 6) few) [
        | inr is ↦ inl (low status 6 is (omega arith))
        | inl three ↦ elim (either _ (status == 4) three) [
          | inr is ↦ inl (low status 4 is (omega arith))
          | inl two ↦ elim (either (status == 0) (status == 3) two) [ inl is ↦ inl (low status 0 is (omega arith)) | inr is ↦ inl (low status 3 is (omega arith)) ]
        ]
      ]
    ]
  ]
]

-- ---- what is there is there once

abbrev Rows : Type 0
Rows = Result (List (List Bits)) StimFault

one_text : (o : Option (List ℕ)) (a b : List ℕ) → o ≡ Some a → o ≡ Some b → a ≡ b
one_text o a b e f = cc

ok_err : (rows : List (List Bits)) (fault : StimFault) → ◌≡◌ {A = Rows} (Ok rows) (Err fault) → ⊥
ok_err rows fault e = cc

module _ (given : Given) where
  same_design : (d e : Design) → IsChain given d → IsChain given e → d ≡ e
  same_design d e a b = one_design (chain_top given.number) (AreOfText chain_source) (one_reading chain_source) d e a.0 b.0

  no_design : (fault : DesignFault) (d : Design) → IsChain given d → (status : ℕ) (text : List ℕ) → RefusesDesign given status text → ⊥
  no_design fault d a status text r = not_both (chain_top given.number) (AreOfText chain_source) (one_reading chain_source) d r.fault a r.refused

  same_ports : (d e : Design) (p q : Ports) → IsChain given d → IsChain given e → ArePortsOf d p → ArePortsOf e q → p ≡ q
  same_ports d e p q a b x y = one_ports e p q (subst (λ (t : Design). ArePortsOf t p) (same_design d e a b) x) y

  -- the stimulus is one thing
  same_rows : (d e : Design) (p q : Ports) (x y : Rows) → IsChain given d → IsChain given e → ArePortsOf d p → ArePortsOf e q → HasRows p x → HasRows q y → x ≡ y
  same_rows d e p q x y a b f g h k = sym h ∙ ap (λ (ports : Ports). rows_of ports (chain_stimulus row_count)) (same_ports d e p q a b f g) ∙ k

same_requests : (files : Contents) (given : Given) (a b : List ℕ) → HoldsRequests files given (Some a) → HoldsRequests files given (Some b) → a ≡ b
same_requests files given a b x y = one_text (files given.requests) a b x.0 y.0

few_or_many : (files : Contents) (given : Given) (a : List ℕ) → HoldsRequests files given (Some a) → HoldsRequests files given None → ⊥
few_or_many files given a x y = let same : length a ≡ length y.0 = ap length (one_text (files given.requests) a y.0 x.0 y.1) in omega (arith, x.1, y.2)

-- ---- what is walked

walk_run : (walk : Walk) → IsWalk walk → (run : List (Place → Bits)) × RunsOver (design_of walk.accepted.design) walk.stim.rows run
walk_run walk k =
    let has : HasInputs (design_of walk.accepted.design) walk.stim.ports = ap (λ (p : Ports). p.inputs) k.ports ∙ k.kept.ports.inputs in
    designs_run (design_of walk.accepted.design) walk.accepted.order walk.stim k.kept.sound k.kept.order k.stimulus has

-- with some run, and some way to read conditions
abbrev held_by : (walk : Walk) → IsWalk walk → Held
held_by walk k = record {
  design = design_of walk.accepted.design;
  driven = length walk.accepted.order;
  ports = walk.accepted.ports;
  rows = walk.stim.rows;
  run = (walk_run walk k).0;
  requests = walk.requests.items;
  reader = some_reader.0;
}

walk_held : (files : Contents) (given : Given) (walk : Walk) (k : IsWalk walk) → HoldsWalk files given walk → Holds files given (held_by walk k)
walk_held files given walk k h = record {
  accepted = h.accepted;
  driven = one_length (design_of walk.accepted.design) walk.accepted.order h.accepted.1.pairs k.kept.order h.accepted.1.order;
  ports = k.kept.ports;
  rows = h.rows;
  runs = (walk_run walk k).1;
  requests = h.requests;
  reads = some_reader.1;
}

-- what is held is what is walked, but for the run and the way to read conditions
module _ (heard : List Heard) (files : Contents) (given : Given) (walk : Walk) (k : IsWalk walk) (w : HoldsWalk files given walk) (held : Held) (h : Holds files given held) where
  the_design : held.design ≡ design_of walk.accepted.design
  the_design = same_design given held.design (design_of walk.accepted.design) h.accepted w.accepted

  the_rows : held.rows ≡ walk.stim.rows
  the_rows =
      let both : ◌≡◌ {A = Rows} (Ok held.rows) (Ok walk.stim.rows) =
      same_rows given held.design (design_of walk.accepted.design) held.ports walk.accepted.ports (Ok held.rows) (Ok walk.stim.rows) h.accepted w.accepted h.ports k.kept.ports h.rows w.rows in
      cc

  the_driven : held.driven ≡ length walk.accepted.order
  the_driven =
      h.driven
      ∙ one_length (design_of walk.accepted.design) h.accepted.1.pairs walk.accepted.order (subst (λ (d : Design). TellsOrder d h.accepted.1.pairs) the_design h.accepted.1.order) k.kept.order

  the_requests : held.requests ≡ walk.requests.items
  the_requests = same_requests files given held.requests walk.requests.items h.requests w.requests

  runs_over : RunsOver (design_of walk.accepted.design) walk.stim.rows held.run
  runs_over = subst (λ (l : List (List Bits)). RunsOver (design_of walk.accepted.design) l held.run) the_rows (subst (λ (d : Design). RunsOver d held.rows held.run) the_design h.runs)

  pub walk_line : IsWalkLine heard walk (line_of heard given held)
  walk_line = (
    held.run,
    runs_over,
    held.reader,
    h.reads,
    λ i. line_over heard (sym w.number i) (source_world (the_design i) (the_driven i) (sym w.mode i) held.run) held.reader (the_requests i),
  )

-- ---- the text that goes with what was judged is that of every answer that is asked for

refusal_taken : (given : Given) (line text : List ℕ) (status : ℕ) (old new : Option (List ℕ)) → (j : RefusesDesign given 3 line) → (r : RefusesDesign given status text) → Appends old new line → TakesText given text old new
refusal_taken given line text status old new j r t =
    elim (one_judgement (chain_top given.number) (AreOfText chain_source) (one_reading chain_source) (Err j.fault) (Err r.fault) j.refused r.refused) [
      | inl both ↦ inl (subst (λ (l : List ℕ). Appends old new l) (j.text_is ∙ ap design_line (one_err j.fault r.fault both) ∙ sym r.text_is) t)
      | inr loops ↦ inr (record {
        design = loops.design;
        asked = record { paths = loops.others; loop = loops.other; text_is = r.text_is ∙ ap design_line (one_err r.fault (CombLoop loops.others) loops.second) };
        other = line;
        also_asked = record { paths = loops.paths; loop = loops.one; text_is = j.text_is ∙ ap design_line (one_err j.fault (CombLoop loops.paths) loops.first) };
        taken = t;
      })
    ]
  where
    one_err : (a b : DesignFault) → ◌≡◌ {A = Result Design DesignFault} (Err a) (Err b) → a ≡ b
    one_err a b e = cc

module _ (heard : List Heard) (files : Contents) (given : Given) (old new : Option (List ℕ)) where
  abbrev Answers : ℕ → ℕ → List ℕ → Type 0
  Answers found status text = (found ≡ status) × TakesText given text old new

  design_taken : (fault : DesignFault) → RefusesDesign given 3 (design_line fault) → Appends old new (design_line fault) → (status : ℕ) (text : List ℕ) → AsksDemo heard files given status text → Answers 3 status text
  design_taken fault j t status text (NoDesign r) = (sym r.status_is, refusal_taken given (design_line fault) text status old new j r t)
  design_taken fault j t status text (NoStimulus r) = absurd (no_design given fault r.design r.accepted _ _ j)
  design_taken fault j t status text (NoRequests r) = absurd (no_design given fault r.design r.accepted _ _ j)
  design_taken fault j t status text (Accepted r) = absurd (no_design given fault r.held.design r.holds.accepted _ _ j)

  stimulus_taken : (fault : StimFault) → RefusesStimulus given 4 (stimulus_line fault) → Appends old new (stimulus_line fault) → (status : ℕ) (text : List ℕ) → AsksDemo heard files given status text → Answers 4 status text
  stimulus_taken fault j t status text (NoDesign r) = absurd (no_design given r.fault j.design j.accepted _ _ r)
  stimulus_taken fault j t status text (NoStimulus r) =
      let both : ◌≡◌ {A = Rows} (Err j.fault) (Err r.fault) = same_rows given j.design r.design j.ports r.ports _ _ j.accepted r.accepted j.are r.are j.refused r.refused in
      let same : j.fault ≡ r.fault = cc in
      (sym r.status_is, inl (subst (λ (l : List ℕ). Appends old new l) (j.text_is ∙ ap stimulus_line same ∙ sym r.text_is) t))
  stimulus_taken fault j t status text (NoRequests r) = absurd (ok_err r.rows j.fault (same_rows given r.design j.design r.ports j.ports _ _ r.accepted j.accepted r.are j.are r.stimulus j.refused))
  stimulus_taken fault j t status text (Accepted r) =
      absurd (ok_err r.held.rows j.fault (same_rows given r.held.design j.design r.held.ports j.ports _ _ r.holds.accepted j.accepted r.holds.ports j.are r.holds.rows j.refused))

  requests_taken : RefusesRequests files given 6 requests_fault → Appends old new requests_fault → (status : ℕ) (text : List ℕ) → AsksDemo heard files given status text → Answers 6 status text
  requests_taken j t status text (NoDesign r) = absurd (no_design given r.fault j.design j.accepted _ _ r)
  requests_taken j t status text (NoStimulus r) = absurd (ok_err j.rows r.fault (same_rows given j.design r.design j.ports r.ports _ _ j.accepted r.accepted j.are r.are j.stimulus r.refused))
  requests_taken j t status text (NoRequests r) = (sym r.status_is, inl (subst (λ (l : List ℕ). Appends old new l) (sym r.text_is) t))
  requests_taken j t status text (Accepted r) = absurd (few_or_many files given r.held.requests r.holds.requests j.refused)

  walk_taken : (walk : Walk) → HoldsWalk files given walk → IsWalk walk → ((text : List ℕ) → IsWalkLine heard walk text → Appends old new text) → (status : ℕ) (text : List ℕ) → AsksDemo heard files given status text → Answers 0 status text
  walk_taken walk j k t status text (NoDesign r) = absurd (no_design given r.fault (design_of walk.accepted.design) j.accepted _ _ r)
  walk_taken walk j k t status text (NoStimulus r) =
      absurd (ok_err walk.stim.rows r.fault (same_rows given (design_of walk.accepted.design) r.design walk.accepted.ports r.ports _ _ j.accepted r.accepted k.kept.ports r.are j.rows r.refused))
  walk_taken walk j k t status text (NoRequests r) = absurd (few_or_many files given walk.requests.items j.requests r.refused)
  walk_taken walk j k t status text (Accepted r) =
      (sym r.status_is, inl (subst (λ (l : List ℕ). Appends old new l) (sym r.text_is) (t (line_of heard given r.held) (walk_line heard files given walk k j r.held r.holds))))

  answer_taken : (judged : Judged) → Judges files given judged → HasText judged → TakesJudged heard judged old new → (status : ℕ) (text : List ℕ) → AsksDemo heard files given status text → Answers (judged_status judged) status text
  answer_taken (judged.NoDesign fault) j h t status text asks = design_taken fault j (t.taken (design_line fault) refl) status text asks
  answer_taken (judged.NoStimulus fault) j h t status text asks = stimulus_taken fault j (t.taken (stimulus_line fault) refl) status text asks
  answer_taken judged.NoRequests j h t status text asks = requests_taken j (t.taken requests_fault refl) status text asks
  answer_taken (judged.Walked walk) j h t status text asks = walk_taken walk j h t.taken status text asks

-- a text of what was judged, which is asked for
text_asked : (heard : List Heard) (files : Contents) (given : Given) (judged : Judged) → Judges files given judged → HasText judged → (text : List ℕ) × IsTextOf heard judged text × AsksDemo heard files given (judged_status judged) text
text_asked heard files given (judged.NoDesign fault) j h = (design_line fault, refl, NoDesign j)
text_asked heard files given (judged.NoStimulus fault) j h = (stimulus_line fault, refl, NoStimulus j)
text_asked heard files given judged.NoRequests j h = (requests_fault, refl, NoRequests j)
text_asked heard files given (judged.Walked walk) j h =
    let held = walk_held files given walk h j in
    (line_of heard given (held_by walk h), walk_line heard files given walk h j (held_by walk h) held, Accepted (record { held = held_by walk h; holds = held; status_is = refl; text_is = refl }))

-- ---- the lines of refusals

pub design_line_taken : (heard : List Heard) (status : ℕ) (judged : Judged) (old new : Option (List ℕ)) → status ≡ 3 → status ≡ judged_status judged → HasText judged → TakesJudged heard judged old new → TakesDesignLine old new
design_line_taken heard status (judged.NoDesign fault) old new three is h t = record { fault = fault; refuses = h; taken = t.taken (design_line fault) refl }
design_line_taken heard status (judged.NoStimulus fault) old new three is h t = absurd (let same : 3 ≡ 4 = sym three ∙ is in cc)
design_line_taken heard status judged.NoRequests old new three is h t = absurd (let same : 3 ≡ 6 = sym three ∙ is in cc)
design_line_taken heard status (judged.Walked walk) old new three is h t = absurd (let same : 3 ≡ 0 = sym three ∙ is in cc)

pub stimulus_line_taken : (heard : List Heard) (status : ℕ) (judged : Judged) (old new : Option (List ℕ)) → status ≡ 4 → status ≡ judged_status judged → HasText judged → TakesJudged heard judged old new → TakesStimulusLine old new
stimulus_line_taken heard status (judged.NoDesign fault) old new four is h t = absurd (let same : 4 ≡ 3 = sym four ∙ is in cc)
stimulus_line_taken heard status (judged.NoStimulus fault) old new four is h t = record { fault = fault; refuses = h; taken = t.taken (stimulus_line fault) refl }
stimulus_line_taken heard status judged.NoRequests old new four is h t = absurd (let same : 4 ≡ 6 = sym four ∙ is in cc)
stimulus_line_taken heard status (judged.Walked walk) old new four is h t = absurd (let same : 4 ≡ 0 = sym four ∙ is in cc)

pub requests_line_taken : (heard : List Heard) (status : ℕ) (judged : Judged) (old new : Option (List ℕ)) → status ≡ 6 → status ≡ judged_status judged → TakesJudged heard judged old new → Appends old new requests_fault
requests_line_taken heard status (judged.NoDesign fault) old new six is t = absurd (let same : 6 ≡ 3 = sym six ∙ is in cc)
requests_line_taken heard status (judged.NoStimulus fault) old new six is t = absurd (let same : 6 ≡ 4 = sym six ∙ is in cc)
requests_line_taken heard status judged.NoRequests old new six is t = t.taken requests_fault refl
requests_line_taken heard status (judged.Walked walk) old new six is t = absurd (let same : 6 ≡ 0 = sym six ∙ is in cc)

-- ---- the files that were asked for

no_files : (given : Given) (judged : Judged) (a b : Option (List (List ℕ))) (status : ℕ) → (status ≡ 3) ⊎ (status ≡ 4) → status ≡ judged_status judged → Appends a b (asked_for given judged) → Appends a b []
no_files given (judged.NoDesign fault) a b status early is p = p
no_files given (judged.NoStimulus fault) a b status early is p = p
no_files given judged.NoRequests a b status early is p = elim early [ inl three ↦ absurd (let same : 3 ≡ 6 = sym three ∙ is in cc) | inr four ↦ absurd (let same : 4 ≡ 6 = sym four ∙ is in cc) ]
no_files given (judged.Walked walk) a b status early is p = elim early [ inl three ↦ absurd (let same : 3 ≡ 0 = sym three ∙ is in cc) | inr four ↦ absurd (let same : 4 ≡ 0 = sym four ∙ is in cc) ]

all_files : (given : Given) (judged : Judged) (a b : Option (List (List ℕ))) (status : ℕ) → (status ≡ 0) ⊎ (status ≡ 6) → status ≡ judged_status judged → Appends a b (asked_for given judged) → Appends a b (given.requests ∷ [])
all_files given (judged.NoDesign fault) a b status late is p = elim late [ inl zero ↦ absurd (let same : 0 ≡ 3 = sym zero ∙ is in cc) | inr six ↦ absurd (let same : 6 ≡ 3 = sym six ∙ is in cc) ]
all_files given (judged.NoStimulus fault) a b status late is p = elim late [ inl zero ↦ absurd (let same : 0 ≡ 4 = sym zero ∙ is in cc) | inr six ↦ absurd (let same : 6 ≡ 4 = sym six ∙ is in cc) ]
all_files given judged.NoRequests a b status late is p = p
all_files given (judged.Walked walk) a b status late is p = p

early : (m n status : ℕ) → m < 7 → n < 7 → (status ≡ m) ⊎ (status ≡ n) → status < 7
early m n status a b e = elim e [ inl is ↦ omega (arith, a, is) | inr is ↦ omega (arith, b, is) ]

pub files_asked : (given : Given) (judged : Judged) (status : ℕ) (a b : Option (List (List ℕ))) → Appends a b (asked_for given judged) → (status < 7 → status ≡ judged_status judged) → AsksByStatus given status a b
files_asked given judged status a b p is = record {
  none = λ low. no_files given judged a b status low (is (early 3 4 status (omega arith) (omega arith) low)) p;
  all = λ high. all_files given judged a b status high (is (early 0 6 status (omega arith) (omega arith) high)) p;
}

-- where the status is late nothing is said of them
pub files_late : (given : Given) (status : ℕ) (a b : Option (List (List ℕ))) → 7 ≤ status → AsksByStatus given status a b
files_late given status a b late = record {
  none = λ low. absurd (omega (arith, late, early 3 4 status (omega arith) (omega arith) low));
  all = λ high. absurd (omega (arith, late, early 0 6 status (omega arith) (omega arith) high));
}

-- ---- where the files are told

pub front_taken : (heard : List Heard) (told : Option Contents) (given : Given) (judged : Judged) (old new : Option (List ℕ)) → IfSome told (λ files. Judges files given judged) → HasText judged → TakesJudgedFront heard judged old new
    → IfSome told (λ files. TakesSome heard files given old new)
front_taken heard None given judged old new j h t = tt
front_taken heard (Some files) given judged old new j h t =
    let a = text_asked heard files given judged j h in inr (record { status = judged_status judged; text = a.0; asked = a.2; taken = t.taken a.0 a.1 })

pub done_taken : (heard : List Heard) (told : Option Contents) (given : Given) (judged : Judged) (status : ℕ) (old new : Option (List ℕ)) → IfSome told (λ files. Judges files given judged) → HasText judged → status ≡ judged_status judged → TakesJudged heard judged old new
    → IfSome told (λ files. EndsAsAsked heard files given status old new)
done_taken heard None given judged status old new j h e t = tt
done_taken heard (Some files) given judged status old new j h e t =
    let a = text_asked heard files given judged j h in record { text = a.0; asked = subst (λ (s : ℕ). AsksDemo heard files given s a.0) (sym e) a.2; taken = t.taken a.0 a.1 }

pub written_completes : (heard : List Heard) (told : Option Contents) (given : Given) (judged : Judged) (status : ℕ) (old new : Option (List ℕ)) (read_rose write_rose : Type 0) → IsTrue (is_status status)
    → IfSome told (λ files. Judges files given judged) → HasText judged → (status < 7 → status ≡ judged_status judged) → (status < 7 → TakesJudged heard judged old new) → (status ≡ 7 → ⊥) → (status ≡ 8 → write_rose)
    → IfSome told (λ files. Completes heard files given status old new read_rose write_rose)
written_completes heard None given judged status old new read_rose write_rose known j h is early seven write = tt
written_completes heard (Some files) given judged status old new read_rose write_rose known j h is early seven write = λ asked text asks no_read no_write.
    elim (late_status status known) [
      | inl l ↦ let found = answer_taken heard files given old new judged j h (early l) asked text asks in inl (is l ∙ found.0, found.1)
      | inr (inl e) ↦ absurd (seven e)
      | inr (inr (inl e)) ↦ absurd (no_write (write e))
      | inr (inr (inr e)) ↦ inr e
    ]

-- ---- what was judged

pub no_stimulus : (told : Option Contents) (given : Given) (d : Design) (ports : Ports) (fault : StimFault) → IsChain given d → ArePortsOf d ports → HasRows ports (Err fault) → IfSome told (λ files. Judges files given (judged.NoStimulus fault))
no_stimulus None given d ports fault chain are rows = tt
no_stimulus (Some files) given d ports fault chain are rows =
    record { design = d; accepted = chain; ports = ports; are = are; fault = fault; refused = rows; status_is = refl; text_is = refl }

pub no_requests : (told : Option Contents) (given : Given) (d : Design) (ports : Ports) (rows : List (List Bits)) → IsChain given d → ArePortsOf d ports → HasRows ports (Ok rows) → IfSome told (λ files. HoldsRequests files given None)
    → IfSome told (λ files. Judges files given judged.NoRequests)
no_requests None given d ports rows chain are said many = tt
no_requests (Some files) given d ports rows chain are said many =
    record { design = d; accepted = chain; ports = ports; are = are; rows = rows; stimulus = said; refused = many; status_is = refl; text_is = refl }

pub walked : (told : Option Contents) (given : Given) (walk : Walk) → walk.mode ≡ given.mode → walk.number ≡ given.number → IsChain given (design_of walk.accepted.design) → HasRows walk.accepted.ports (Ok walk.stim.rows)
    → IfSome told (λ files. HoldsRequests files given (Some walk.requests.items)) → IfSome told (λ files. Judges files given (judged.Walked walk))
walked None given walk m n chain rows asked = tt
walked (Some files) given walk m n chain rows asked = record { mode = m; number = n; accepted = chain; rows = rows; requests = asked }

pub no_chain : (told : Option Contents) (given : Given) (fault : DesignFault) → IsRefused (chain_top given.number) (AreOfText chain_source) fault → IfSome told (λ files. Judges files given (judged.NoDesign fault))
no_chain None given fault r = tt
no_chain (Some files) given fault r = record { fault = fault; refused = r; status_is = refl; text_is = refl }

-- ---- what was written

pub text_taken : (heard : List Heard) (judged : Judged) (line : List ℕ) (old new : Option (List ℕ)) → IsTheText heard judged line → Appends old new line → TakesJudged heard judged old new
text_taken heard judged line old new is t = record { taken = λ text of. subst (λ (l : List ℕ). Appends old new l) (sym (is.is text of)) t }

pub text_front : (heard : List Heard) (judged : Judged) (line : List ℕ) (old new : Option (List ℕ)) → IsTheText heard judged line → AppendsFront old new line → TakesJudgedFront heard judged old new
text_front heard judged line old new is t = record { taken = λ text of. subst (λ (l : List ℕ). AppendsFront old new l) (sym (is.is text of)) t }

pub nothing_written : (heard : List Heard) (judged : Judged) (old : Option (List ℕ)) → TakesJudgedFront heard judged old old
nothing_written heard judged old = record { taken = λ text is. no_growth old old text refl }
