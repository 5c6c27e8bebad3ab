-- What a demo asks for, where its design and its stimulus are accepted.
use Rattle.std.proofs.Common.{◌≡◌, ℕ, zero, suc, ◌<◌, ◌≤◌, Bool, true, false, inl, inr, List, length, Some, Result, Ok, Err, refl, sym, ap, subst, ◌∙◌, arith}
use Rattle.std.proofs.lemmas.Bool.Decides.{nat_tests}
use Rattle.std.specs.Prelude.{codes, nat_le, if◌then◌else◌}
use Rattle.bv_core.specs.Value.{Bits}
use Rattle.list_core.proofs.Options.{some_same}
use Rattle.exec_core.specs.Whole.{Place}
use Rattle.gen_token.specs.Spelling.{is_name}
use Rattle.listen.specs.Pairs.{Heard}
use Rattle.design_core.specs.declared.Ports.{Ports}
use Rattle.design_core.specs.Design.{Design}
use Rattle.stim_text.specs.declared.StimFault.{StimFault}
use Rattle.design_judge.specs.Judgement.{AreOfText, IsAccepted, ArePortsOf}
use Rattle.design_judge.proofs.OneJudgement.{not_both}
use Rattle.design_judge.proofs.OneReading.{one_text}
use Rattle.trim_laws.specs.Runs.{RunsOver}
use Rattle.trim_laws.proofs.Running.{designs_run}
use Rattle.machine_core.proofs.Readers.{some_reader}
use Rattle.batch_run.specs.Texts.{most_requests, requests_fault}
use Rattle.demo_run.specs.Chain.{chain_source, chain_top}
use Rattle.demo_run.specs.Asked.{Given, Contents, HasRows, RefusesDesign, RefusesStimulus, RefusesRequests, Held, ShowsLine, line_of, AsksDemo, NoDesign, NoStimulus, NoRequests, Accepted}
use Rattle.chain_laws.specs.Laws.{IsCellCount, StimuliAreAccepted, RequestsDecide, NoneIsRefused, NoneEndsRefused}
use Rattle.chain_laws.proofs.Cells.{chain_design}
use Rattle.chain_laws.proofs.Accepted.{chain_is_sound, chain_is_accepted, only_chain}
use Rattle.chain_laws.proofs.Stimuli.{x_input, chain_rows, chain_rows_are, is_stimulus, chain_inputs, chain_outputs, chain_registers, y_output}

-- ---- the stimulus

inputs_are : (k : ℕ) (ports : Ports) → ArePortsOf (chain_design k) ports → ports.inputs ≡ x_input
inputs_are k ports are = are.inputs ∙ chain_inputs k

rows_for : (k : ℕ) → suc k ≤ 4000 → (ports : Ports) → ArePortsOf (chain_design k) ports → HasRows ports (Ok chain_rows)
rows_for k h ports are = let count : ports.registers ≡ suc k = are.registers ∙ chain_registers k in chain_rows_are ports (inputs_are k ports are) (omega arith)

has_rows : (k : ℕ) → suc k ≤ 4000 → (d : Design) → IsAccepted (chain_top (suc k)) (AreOfText chain_source) d → (ports : Ports) → ArePortsOf d ports → HasRows ports (Ok chain_rows)
has_rows k h d a ports are = rows_for k h ports (subst (λ (e : Design). ArePortsOf e ports) (only_chain k h d a) are)

pub stimuli_are_accepted : StimuliAreAccepted
stimuli_are_accepted zero h d a ports are = absurd (omega arith)
stimuli_are_accepted (suc k) h d a ports are = (chain_rows, has_rows k h.few d a ports are)

-- ---- no refusal

no_design_refused : (k : ℕ) → suc k ≤ 4000 → (given : Given) → given.number ≡ suc k → (status : ℕ) (text : List ℕ) → RefusesDesign given status text → ⊥
no_design_refused k h given e status text r = not_both (chain_top given.number) (AreOfText chain_source) (one_text chain_source) (chain_design k) r.fault (subst (λ (n : ℕ). IsAccepted (chain_top n) (AreOfText chain_source) (chain_design k)) (sym e) (chain_is_accepted k h)) r.refused

no_stimulus_refused : (k : ℕ) → suc k ≤ 4000 → (given : Given) → given.number ≡ suc k → (status : ℕ) (text : List ℕ) → RefusesStimulus given status text → ⊥
no_stimulus_refused k h given e status text r =
    let there = has_rows k h r.design (subst (λ (n : ℕ). IsAccepted (chain_top n) (AreOfText chain_source) r.design) e r.accepted) r.ports r.are in
    let same : ◌≡◌ {A = Result (List (List Bits)) StimFault} (Ok chain_rows) (Err r.fault) = sym there ∙ r.refused in
    cc

-- the number of its cells is one more than this
more_than_none : (n : ℕ) → IsCellCount n → (k : ℕ) × (n ≡ suc k)
more_than_none zero h = absurd (omega arith)
more_than_none (suc k) h = (k, refl)

pub none_is_refused : NoneIsRefused
none_is_refused heard files given status text h (NoDesign r) = let at = more_than_none given.number h in absurd (no_design_refused at.0 (omega arith) given at.1 status text r)
none_is_refused heard files given status text h (NoStimulus r) = let at = more_than_none given.number h in absurd (no_stimulus_refused at.0 (omega arith) given at.1 status text r)
none_is_refused heard files given status text h (NoRequests r) = inr r.status_is
none_is_refused heard files given status text h (Accepted s) = inl s.status_is

pub none_ends_refused : NoneEndsRefused
none_ends_refused heard files given status old new h e = none_is_refused heard files given status e.text h e.asked

-- ---- what is asked for instead

chain_ports : ℕ → Ports
unfolding is_name
chain_ports k = record {
  «module» = codes "Chain";
  inputs = x_input;
  outputs = y_output;
  registers = suc k;
  widths = refl;
  names = refl;
}

chain_ports_are : (k : ℕ) → ArePortsOf (chain_design k) (chain_ports k)
unfolding chain_ports
chain_ports_are k = record { «module» = refl; inputs = sym (chain_inputs k); outputs = sym (chain_outputs k); registers = sym (chain_registers k) }

-- a run of it over its rows
chain_run : (k : ℕ) → suc k ≤ 4000 → (run : List (Place → Bits)) × RunsOver (chain_design k) chain_rows run
unfolding chain_ports
chain_run k h =
    let accepted = chain_is_accepted k h in
    designs_run (chain_design k) accepted.1.pairs (record { ports = chain_ports k; rows = chain_rows }) (chain_is_sound k h) accepted.1.order
    (is_stimulus (chain_ports k) refl) (sym (chain_inputs k))

-- ---- with requests that are not too long

chain_held : (k : ℕ) → suc k ≤ 4000 → ℕ → List ℕ → Held
chain_held k h driven requests = record {
  design = chain_design k;
  driven = driven;
  ports = chain_ports k;
  rows = chain_rows;
  run = (chain_run k h).0;
  requests = requests;
  reader = some_reader.0;
}

shows_line : (heard : List Heard) (files : Contents) (given : Given) (requests : List ℕ) (k : ℕ) (h : suc k ≤ 4000) → (accepted : IsAccepted (chain_top given.number) (AreOfText chain_source) (chain_design k))
    → files given.requests ≡ Some requests → length requests ≤ most_requests
    → ShowsLine heard files given 0 (line_of heard given (chain_held k h (length accepted.1.pairs) requests))
unfolding chain_held
shows_line heard files given requests k h accepted f l = record {
  held = chain_held k h (length accepted.1.pairs) requests;
  holds = record {
    accepted = accepted;
    driven = refl;
    ports = chain_ports_are k;
    rows = rows_for k h (chain_ports k) (chain_ports_are k);
    runs = (chain_run k h).1;
    requests = (f, l);
    reads = some_reader.1;
  };
  status_is = refl;
  text_is = refl;
}

refuses_requests : (files : Contents) (given : Given) (requests : List ℕ) (k : ℕ) (h : suc k ≤ 4000) → IsAccepted (chain_top given.number) (AreOfText chain_source) (chain_design k)
    → files given.requests ≡ Some requests → most_requests < length requests → RefusesRequests files given 6 requests_fault
refuses_requests files given requests k h accepted f l = record {
  design = chain_design k;
  accepted = accepted;
  ports = chain_ports k;
  are = chain_ports_are k;
  rows = chain_rows;
  stimulus = rows_for k h (chain_ports k) (chain_ports_are k);
  refused = (requests, f, l);
  status_is = refl;
  text_is = refl;
}

-- ---- the requests decide

text_there : (heard : List Heard) (files : Contents) (given : Given) (requests : List ℕ) (k : ℕ) (h : suc k ≤ 4000) → IsAccepted (chain_top given.number) (AreOfText chain_source) (chain_design k)
    → files given.requests ≡ Some requests → (b : Bool) → nat_le (length requests) most_requests ≡ b → (text : List ℕ) × AsksDemo heard files given (if b then 0 else 6) text
text_there heard files given requests k h accepted f true e = (line_of heard given (chain_held k h (length accepted.1.pairs) requests), Accepted (shows_line heard files given requests k h accepted f (grind (arith, nat_tests))))
text_there heard files given requests k h accepted f false e = (requests_fault, NoRequests (refuses_requests files given requests k h accepted f (grind (arith, nat_tests))))

same_requests : (files : Contents) (given : Given) (a b : List ℕ) → files given.requests ≡ Some a → files given.requests ≡ Some b → length a ≡ length b
same_requests files given a b e f = ap length (some_same a b (sym e ∙ f))

-- where they fit, they are not refused for their length; else they are not held
fit_not_long : (files : Contents) (given : Given) (requests : List ℕ) (status : ℕ) (text : List ℕ) → files given.requests ≡ Some requests → length requests ≤ most_requests → RefusesRequests files given status text → ⊥
fit_not_long files given requests status text f l r = let same = same_requests files given requests r.refused.0 f r.refused.1 in let long : most_requests < length r.refused.0 = r.refused.2 in omega arith

long_not_held : (heard : List Heard) (files : Contents) (given : Given) (requests : List ℕ) (status : ℕ) (text : List ℕ) → files given.requests ≡ Some requests → most_requests < length requests → ShowsLine heard files given status text → ⊥
long_not_held heard files given requests status text f l s = let same = same_requests files given requests s.held.requests f s.holds.requests.0 in let fits : length s.held.requests ≤ most_requests = s.holds.requests.1 in omega arith

only_status : (heard : List Heard) (files : Contents) (given : Given) (requests : List ℕ) (k : ℕ) → suc k ≤ 4000 → given.number ≡ suc k → files given.requests ≡ Some requests
    → (b : Bool) → nat_le (length requests) most_requests ≡ b → (other : ℕ) (text : List ℕ) → AsksDemo heard files given other text → other ≡ (if b then 0 else 6)
only_status heard files given requests k h e f b t other text (NoDesign r) = absurd (no_design_refused k h given e other text r)
only_status heard files given requests k h e f b t other text (NoStimulus r) = absurd (no_stimulus_refused k h given e other text r)
only_status heard files given requests k h e f true t other text (NoRequests r) = absurd (fit_not_long files given requests other text f (grind (arith, nat_tests)) r)
only_status heard files given requests k h e f false t other text (NoRequests r) = r.status_is
only_status heard files given requests k h e f true t other text (Accepted s) = s.status_is
only_status heard files given requests k h e f false t other text (Accepted s) = absurd (long_not_held heard files given requests other text f (grind (arith, nat_tests)) s)

pub requests_decide : RequestsDecide
requests_decide heard files given requests h f =
    let at = more_than_none given.number h in
    let few : suc at.0 ≤ 4000 = omega arith in
    let accepted : IsAccepted (chain_top given.number) (AreOfText chain_source) (chain_design at.0) = subst (λ (n : ℕ). IsAccepted (chain_top n) (AreOfText chain_source) (chain_design at.0)) (sym at.1) (chain_is_accepted at.0 few) in
    record {
      text = text_there heard files given requests at.0 few accepted f (nat_le (length requests) most_requests) refl;
      only = only_status heard files given requests at.0 few at.1 f (nat_le (length requests) most_requests) refl;
    }
