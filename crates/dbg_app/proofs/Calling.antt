-- What is asked by words, in the three ways in which they ask it.
use Rattle.std.proofs.Common.{◌≡◌, ℕ, Bool, true, false, ◌||◌, ◌==◌, List, [], ◌∷◌, Option, Some, None, refl, sym, ap, ◌∙◌, subst, IsTrue, ◌⊎◌, inl, inr, arith}
use Rattle.std.specs.Prelude.{option_map, IfSome}
use Rattle.std.proofs.lemmas.Bool.Decides.{nat_tests}
use Rattle.io_edge.specs.Taken.{AppendsFront}
use Rattle.io_edge.specs.Unread.{StopsAt}
use Rattle.replay_run.specs.Asked as replay
use Rattle.replay_run.specs.Asked.{Names}
use Rattle.demo_run.specs.Asked as demo
use Rattle.demo_run.specs.Asked.{Given}
use Rattle.dbg_app.specs.Command.{Command, command_of}
use Rattle.dbg_app.specs.Names as by_design
use Rattle.dbg_app.specs.Answers.{Contents, IfAsked}
use Rattle.dbg_app.specs.Outcome as outcome
use Rattle.dbg_app.specs.Outcome.{is_status, is_status_for, TakesDesignLine, TakesStimulusLine}
use Rattle.dbg_app.specs.Compiled.{CompilesCommand}
use Rattle.dbg_app.specs.Call.{Call, ByDesign, ByTrace, ByChain, replay_of, demo_of, call_by, call_of, IfCalled, is_run_status, is_status_of, AsksFrontOf, StopsInsideOf, AsksByStatus, Compiles}

-- ---- statuses

either : (a b : Bool) → (a || b) ≡ true → (a ≡ true) ⊎ (b ≡ true)
either true b e = inl refl
either false b e = inr e

same_number : (a b : ℕ) → (a == b) ≡ true → a ≡ b
same_number a b e = grind (arith, nat_tests, e)

is_one : (status n : ℕ) → is_run_status n ≡ true → (status == n) ≡ true → is_run_status status ≡ true
is_one status n known e = subst (λ (s : ℕ). is_run_status s ≡ true) (sym (same_number status n e)) known

pub trace_status : (status : ℕ) → IsTrue (replay.is_status status) → IsTrue (is_run_status status)
trace_status status e = elim (either _ (status == 9) e) [
  | inr is ↦ is_one status 9 refl is
  | inl a ↦ elim (either _ (status == 8) a) [
    | inr is ↦ is_one status 8 refl is
    | inl b ↦ elim (either _ (status == 7) b) [
      | inr is ↦ is_one status 7 refl is
      | inl d ↦ elim (either _ (status == 6) d) [
        | inr is ↦ is_one status 6 refl is
        | inl f ↦ elim (either (status == 0) (status == 5) f) [ inl is ↦ is_one status 0 refl is | inr is ↦ is_one status 5 refl is ]
      ]
    ]
  ]
]

pub chain_status : (status : ℕ) → IsTrue (demo.is_status status) → IsTrue (is_run_status status)
chain_status status e = elim (either _ (status == 9) e) [
  | inr is ↦ is_one status 9 refl is
  | inl a ↦ elim (either _ (status == 8) a) [
    | inr is ↦ is_one status 8 refl is
    | inl b ↦ elim (either _ (status == 7) b) [
      | inr is ↦ is_one status 7 refl is
      | inl d ↦ elim (either _ (status == 6) d) [
        | inr is ↦ is_one status 6 refl is
        | inl f ↦ elim (either _ (status == 4) f) [
          | inr is ↦ is_one status 4 refl is
          | inl h ↦ elim (either (status == 0) (status == 3) h) [ inl is ↦ is_one status 0 refl is | inr is ↦ is_one status 3 refl is ]
        ]
      ]
    ]
  ]
]

or_left : (a b : Bool) → a ≡ true → (a || b) ≡ true
or_left true b e = refl
or_left false b e = cc

pub design_status : (status : ℕ) → IsTrue (is_status status) → IsTrue (is_run_status status)
design_status status e = or_left (is_status status) (status == 5) e

-- a replay ends neither by its words nor by a design
pub no_trace_status : (status n : ℕ) → replay.is_status n ≡ false → IsTrue (replay.is_status status) → status ≡ n → ⊥
no_trace_status status n never e is = let same : replay.is_status n ≡ true = subst (λ (s : ℕ). replay.is_status s ≡ true) is e in cc

-- a demo ends neither by its words nor by a symbol file or a dump file
pub no_chain_status : (status n : ℕ) → demo.is_status n ≡ false → IsTrue (demo.is_status status) → status ≡ n → ⊥
no_chain_status status n never e is = let same : demo.is_status n ≡ true = subst (λ (s : ℕ). demo.is_status s ≡ true) is e in cc

pub no_file_status : (status : ℕ) → IsTrue (is_status status) → status ≡ 5 → ⊥
no_file_status status e is = let same : is_status 5 ≡ true = subst (λ (s : ℕ). is_status s ≡ true) is e in cc

-- ---- the words of a replay

pub trace_call : (words : List (List ℕ)) (names : Names) → Some names ≡ replay_of words → call_of words ≡ Some (ByTrace names)
trace_call words names e = ap (λ (trace : Option Names). call_by words trace (demo_of words)) (sym e)

pub trace_is_call : (words : List (List ℕ)) (names : Names) → Some names ≡ replay_of words → call_of words ≡ None → ⊥
trace_is_call words names e none = let same : Some (ByTrace names) ≡ None = sym (trace_call words names e) ∙ none in cc

by_told : (told : Option Contents) (names : Names) (P : Contents → Call → Type 0) → IfSome told (λ files. P files (ByTrace names)) → IfCalled told (Some (ByTrace names)) P
by_told None names P h = tt
by_told (Some files) names P h = h

pub trace_called : (told : Option Contents) (words : List (List ℕ)) (names : Names) (P : Contents → Call → Type 0) → Some names ≡ replay_of words → IfSome told (λ files. P files (ByTrace names)) → IfCalled told (call_of words) P
trace_called told words names P e h = subst (λ (call : Option Call). IfCalled told call P) (sym (trace_call words names e)) (by_told told names P h)

pub trace_files : (told : Option Contents) (words : List (List ℕ)) (names : Names) (old new : Option (List (List ℕ))) → Some names ≡ replay_of words → AppendsFront old new (replay.names_of names) → AsksFrontOf told (call_of words) old new
trace_files told words names old new e h = subst (λ (call : Option Call). AsksFrontOf told call old new) (sym (trace_call words names e)) h

-- ---- the words of a demo

pub chain_call : (words : List (List ℕ)) (given : Given) → None ≡ replay_of words → Some given ≡ demo_of words → call_of words ≡ Some (ByChain given)
chain_call words given n e = λ i. call_by words (sym n i) (sym e i)

pub chain_is_call : (words : List (List ℕ)) (given : Given) → None ≡ replay_of words → Some given ≡ demo_of words → call_of words ≡ None → ⊥
chain_is_call words given n e none = let same : Some (ByChain given) ≡ None = sym (chain_call words given n e) ∙ none in cc

by_given : (told : Option Contents) (given : Given) (P : Contents → Call → Type 0) → IfSome told (λ files. P files (ByChain given)) → IfCalled told (Some (ByChain given)) P
by_given None given P h = tt
by_given (Some files) given P h = h

pub chain_called : (told : Option Contents) (words : List (List ℕ)) (given : Given) (P : Contents → Call → Type 0) → None ≡ replay_of words → Some given ≡ demo_of words → IfSome told (λ files. P files (ByChain given)) → IfCalled told (call_of words) P
chain_called told words given P n e h = subst (λ (call : Option Call). IfCalled told call P) (sym (chain_call words given n e)) (by_given told given P h)

pub chain_files : (told : Option Contents) (words : List (List ℕ)) (given : Given) (old new : Option (List (List ℕ))) → None ≡ replay_of words → Some given ≡ demo_of words → AppendsFront old new (given.requests ∷ []) → AsksFrontOf told (call_of words) old new
chain_files told words given old new n e h = subst (λ (call : Option Call). AsksFrontOf told call old new) (sym (chain_call words given n e)) h

pub chain_design_line : (old new : Option (List ℕ)) → demo.TakesDesignLine old new → TakesDesignLine old new
chain_design_line old new t = record { fault = t.fault; refuses = t.refuses; taken = t.taken }

pub chain_stimulus_line : (old new : Option (List ℕ)) → demo.TakesStimulusLine old new → TakesStimulusLine old new
chain_stimulus_line old new t = record { fault = t.fault; refuses = t.refuses; taken = t.taken }

-- ---- the words of a command over a design

pub design_call : (words : List (List ℕ)) → None ≡ replay_of words → None ≡ demo_of words → call_of words ≡ option_map ByDesign (command_of words)
design_call words n e = λ i. call_by words (sym n i) (sym e i)

none_mapped : (command : Option Command) → option_map ByDesign command ≡ None → command ≡ None
none_mapped None e = refl
none_mapped (Some command) e = cc

pub no_command_called : (words : List (List ℕ)) → None ≡ replay_of words → None ≡ demo_of words → call_of words ≡ None → command_of words ≡ None
no_command_called words n e none = none_mapped (command_of words) (sym (design_call words n e) ∙ none)

pub none_called : (words : List (List ℕ)) → None ≡ replay_of words → None ≡ demo_of words → command_of words ≡ None → call_of words ≡ None
none_called words n e none = design_call words n e ∙ ap (option_map ByDesign) none

by_command : (told : Option Contents) (command : Option Command) (P : Contents → Call → Type 0) → IfAsked told command (λ files command. P files (ByDesign command)) → IfCalled told (option_map ByDesign command) P
by_command None command P h = tt
by_command (Some files) None P h = tt
by_command (Some files) (Some command) P h = h

pub design_called : (told : Option Contents) (words : List (List ℕ)) (P : Contents → Call → Type 0) → None ≡ replay_of words → None ≡ demo_of words → IfAsked told (command_of words) (λ files command. P files (ByDesign command)) → IfCalled told (call_of words) P
design_called told words P n e h = subst (λ (call : Option Call). IfCalled told call P) (sym (design_call words n e)) (by_command told (command_of words) P h)

front_is : (told : Option Contents) (command : Option Command) (old new : Option (List (List ℕ))) → by_design.AsksFrontOf told command old new → AsksFrontOf told (option_map ByDesign command) old new
front_is told None old new h = h
front_is told (Some command) old new h = h

pub design_files : (told : Option Contents) (words : List (List ℕ)) (old new : Option (List (List ℕ))) → None ≡ replay_of words → None ≡ demo_of words → by_design.AsksFrontOf told (command_of words) old new → AsksFrontOf told (call_of words) old new
design_files told words old new n e h = subst (λ (call : Option Call). AsksFrontOf told call old new) (sym (design_call words n e)) (front_is told (command_of words) old new h)

-- ---- the status, and the files that were asked for, by the words

pub trace_row : (words : List (List ℕ)) (names : Names) (status : ℕ) → Some names ≡ replay_of words → IsTrue (replay.is_status status) → IsTrue (is_status_of (call_of words) status)
trace_row words names status e h = subst (λ (call : Option Call). IsTrue (is_status_of call status)) (sym (trace_call words names e)) h

pub chain_row : (words : List (List ℕ)) (given : Given) (status : ℕ) → None ≡ replay_of words → Some given ≡ demo_of words → IsTrue (demo.is_status status) → IsTrue (is_status_of (call_of words) status)
chain_row words given status n e h = subst (λ (call : Option Call). IsTrue (is_status_of call status)) (sym (chain_call words given n e)) h

row_is : (command : Option Command) (status : ℕ) → IsTrue (is_status_for command status) → IsTrue (is_status_of (option_map ByDesign command) status)
row_is None status h = h
row_is (Some command) status h = h

pub design_row : (words : List (List ℕ)) (status : ℕ) → None ≡ replay_of words → None ≡ demo_of words → IsTrue (is_status_for (command_of words) status) → IsTrue (is_status_of (call_of words) status)
design_row words status n e h = subst (λ (call : Option Call). IsTrue (is_status_of call status)) (sym (design_call words n e)) (row_is (command_of words) status h)

pub trace_asked : (told : Option Contents) (words : List (List ℕ)) (names : Names) (status : ℕ) (a b : Option (List (List ℕ))) (old new : Option (List ℕ)) → Some names ≡ replay_of words → replay.AsksByStatus names status a b old new
    → AsksByStatus told (call_of words) status a b old new
trace_asked told words names status a b old new e h = subst (λ (call : Option Call). AsksByStatus told call status a b old new) (sym (trace_call words names e)) h

pub chain_asked : (told : Option Contents) (words : List (List ℕ)) (given : Given) (status : ℕ) (a b : Option (List (List ℕ))) (old new : Option (List ℕ)) → None ≡ replay_of words → Some given ≡ demo_of words → demo.AsksByStatus given status a b
    → AsksByStatus told (call_of words) status a b old new
chain_asked told words given status a b old new n e h = subst (λ (call : Option Call). AsksByStatus told call status a b old new) (sym (chain_call words given n e)) h

asked_is : (told : Option Contents) (command : Option Command) (status : ℕ) (a b : Option (List (List ℕ))) (old new : Option (List ℕ)) → outcome.AsksByStatus told command status a b → AsksByStatus told (option_map ByDesign command) status a b old new
asked_is told None status a b old new h = h
asked_is told (Some command) status a b old new h = h

pub design_asked : (told : Option Contents) (words : List (List ℕ)) (status : ℕ) (a b : Option (List (List ℕ))) (old new : Option (List ℕ)) → None ≡ replay_of words → None ≡ demo_of words → outcome.AsksByStatus told (command_of words) status a b
    → AsksByStatus told (call_of words) status a b old new
design_asked told words status a b old new n e h = subst (λ (call : Option Call). AsksByStatus told call status a b old new) (sym (design_call words n e)) (asked_is told (command_of words) status a b old new h)

module _ {S : Type 0} (asked : S → Option (List (List ℕ))) (faults : S → ℕ) (told : Option Contents) (old new : S) (words : List (List ℕ)) where
  pub trace_unread : (names : Names) → Some names ≡ replay_of words → StopsAt asked faults old new (replay.names_of names) → StopsInsideOf told (call_of words) asked faults old new
  trace_unread names e h = subst (λ (call : Option Call). StopsInsideOf told call asked faults old new) (sym (trace_call words names e)) h

  pub chain_unread : (given : Given) → None ≡ replay_of words → Some given ≡ demo_of words → StopsAt asked faults old new (given.requests ∷ []) → StopsInsideOf told (call_of words) asked faults old new
  chain_unread given n e h = subst (λ (call : Option Call). StopsInsideOf told call asked faults old new) (sym (chain_call words given n e)) h

  unread_is : (command : Option Command) → by_design.StopsInsideOf told command asked faults old new → StopsInsideOf told (option_map ByDesign command) asked faults old new
  unread_is None h = h
  unread_is (Some command) h = h

  pub design_unread : None ≡ replay_of words → None ≡ demo_of words → by_design.StopsInsideOf told (command_of words) asked faults old new → StopsInsideOf told (call_of words) asked faults old new
  design_unread n e h = subst (λ (call : Option Call). StopsInsideOf told call asked faults old new) (sym (design_call words n e)) (unread_is (command_of words) h)

-- ---- the net and the table behind what was written

called_so : (told : Option Contents) → IfSome told (λ files. Unit {0})
called_so None = tt
called_so (Some files) = tt

pub trace_compiles : (told : Option Contents) (words : List (List ℕ)) (names : Names) → Some names ≡ replay_of words → IfCalled told (call_of words) Compiles
trace_compiles told words names e = trace_called told words names Compiles e (called_so told)

pub chain_compiles : (told : Option Contents) (words : List (List ℕ)) (given : Given) → None ≡ replay_of words → Some given ≡ demo_of words → IfCalled told (call_of words) Compiles
chain_compiles told words given n e = chain_called told words given Compiles n e (called_so told)

pub design_compiles : (told : Option Contents) (words : List (List ℕ)) → None ≡ replay_of words → None ≡ demo_of words → IfAsked told (command_of words) CompilesCommand → IfCalled told (call_of words) Compiles
design_compiles told words n e h = design_called told words Compiles n e h
