-- What a text tells has what is kept of it.
use Rattle.std.proofs.Common.{◌≡◌, ℕ, suc, ◌+◌, ◌<◌, ◌≤◌, Bool, true, false, cond, not, List, [], ◌∷◌, ◌++◌, Option, Some, None, Result, Ok, Err, length, get_or, refl, ap, sym, ◌∙◌, arith, length-append, inl, inr, ◌⊎◌, true≢false}
use Rattle.std.specs.Prelude.{All, slice_get, nat_le, nat_lt, codes, IfOk, ◌==◌, ◌&&◌, ◌||◌}
use Rattle.std.specs.List.{list_any, list_all}
use Rattle.std.proofs.lemmas.Bool.{cases_lt}
use Rattle.std.proofs.lemmas.Bool.Decides.{nat_tests}
use Rattle.std.proofs.lemmas.List.{length-map}
use Rattle.std.proofs.lemmas.List.Elements.{All-cons, All-nil, All-append, All-weaker}
use Rattle.std.proofs.lemmas.List.Folds.{list_any-append}
use Rattle.text_core.specs.Digits.{number_of}
use Rattle.vcd_read.specs.declared.fault.VcdFault.{VcdFault}
use Rattle.vcd_read.specs.declared.fault.VcdFault.TheVariants.{BadWord, TooWide, TimeBack}
use Rattle.vcd_read.specs.Results.{◌>>=◌}
use Rattle.vcd_read.specs.Words.{Word, words_of, is_keyword, is_end, begins_with, has_bytes}
use Rattle.vcd_read.specs.Head.{Head, Var, no_head, Code, known, numbered, with_var, is_code_byte, is_counted, is_size, name_of, scope_of}
use Rattle.vcd_read.specs.Changes.{Change, Story, no_story, are_digits, is_value, is_time, with_time, timed, with_change, changed, is_dump, is_vector, is_passed}
use Rattle.vcd_read.specs.Meaning.{Meaning, State, Place, Step, InHead, ScopeType, ScopeName, CommandEnd, VarType, VarSize, VarCode, VarReference, PassedCommand, HeadEnd, InChanges, Comment, VectorCode, PassedCode, step, ended, told_by, told, change, command}
use Rattle.vcd_read.specs.Kept.{is_change_of, IsVcd}
use Rattle.vcd_read.proofs.WordLemmas.{length-words_from}
use Rattle.vcd_read.proofs.States.{sizes_of, HasSize, is_named, IsChange, IsStory, some_there, more_sizes, last_size, known_has, story-push, story-time, story-code, any_more}

-- each code is one of a variable
abbrev pub AllNamed : Head → Type 0
AllNamed head = (number : ℕ) → number < length head.codes → is_named head.vars number ≡ true

-- what holds where the next word stands
abbrev pub AtPlace : Place → State → Type 0
AtPlace (VarReference counted size code) state =
    HasSize state.head.codes code size × ((number : ℕ) → number < length state.head.codes → (is_named state.head.vars number ≡ true) ⊎ (number ≡ code))
AtPlace (VectorCode at digits) state = (are_digits digits ≡ true) × AllNamed state.head
AtPlace place state = AllNamed state.head

pub record Holds (place : Place) (state : State) : Type 0 where
  pub sized : All (λ var. HasSize state.head.codes var.code var.size) state.head.vars
  pub story : IsStory state.head.codes state.story
  pub here : AtPlace place state

-- it holds after a word too, and the word adds at most one change
abbrev Follows : State → Place × State → Type 0
Follows state next = Holds next.0 next.1 × (length next.1.story.changes ≤ length state.story.changes + 1)

if_ok : (state : State) (b : Bool) (x y : Step) → (b ≡ true → IfOk x (Follows state)) → (b ≡ false → IfOk y (Follows state)) → IfOk (cond b x y) (Follows state)
if_ok state true x y first second = first refl
if_ok state false x y first second = second refl

-- nothing more is told
same : (place next : Place) (state : State) → Holds place state → AtPlace next state → Follows state (next, state)
same place next state h here = (record { sized = h.sized; story = h.story; here = here }, omega arith)

told_ok : (place : Place) (state : State) (found : Result Story VcdFault) → Holds place state → AllNamed state.head
    → IfOk found (λ story. IsStory state.head.codes story × (length story.changes ≤ length state.story.changes + 1)) → IfOk (told state found) (Follows state)
told_ok place state (Ok story) h named is = (record { sized = h.sized; story = is.0; here = named }, is.1)
told_ok place state (Err fault) h named is = tt

time_by : (codes : List Code) (story : Story) (word : Word) (time : ℕ) (b : Bool) → nat_lt time story.time ≡ b → IsStory codes story
    → IfOk (cond b (Err (TimeBack word.at story.time time)) (Ok (record story { time = time }))) (λ after. IsStory codes after × (length after.changes ≤ length story.changes + 1))
time_by codes story word time true e is = tt
time_by codes story word time false e is = (story-time codes story time is (grind (arith, nat_tests)), omega arith)

timed_by : (codes : List Code) (story : Story) (word : Word) (digits : List ℕ) (b : Bool) → IsStory codes story
    → IfOk (cond b (with_time story word (number_of 10 digits)) (Err (BadWord word.at))) (λ after. IsStory codes after × (length after.changes ≤ length story.changes + 1))
timed_by codes story word digits true is = time_by codes story word (number_of 10 digits) (nat_lt (number_of 10 digits) story.time) refl is
timed_by codes story word digits false is = tt

push_by : (codes : List Code) (story : Story) (at : ℕ) (digits : List ℕ) (number size : ℕ) (b : Bool) → nat_le (length digits) size ≡ b → IsStory codes story → are_digits digits ≡ true → HasSize codes number size
    → IfOk (cond b (Ok (record story { changes = story.changes ++ record { time = story.time; code = number; digits = digits } ∷ [] })) (Err (TooWide at (length digits) size))) (λ after. IsStory codes after × (length after.changes ≤ length story.changes + 1))
push_by codes story at digits number size true e is some has =
    let one : Change = record { time = story.time; code = number; digits = digits } in
    (story-push codes story one is refl (record { size = size; has = has; digits = some; most = grind (arith, nat_tests) }), omega (arith, length-append story.changes (one ∷ [])))
push_by codes story at digits number size false e is some has = tt

changed_by : (codes : List Code) (story : Story) (at : ℕ) (digits : List ℕ) (code_at : ℕ) (code : List ℕ) (found : Option (ℕ × ℕ)) → known code codes ≡ found → IsStory codes story → are_digits digits ≡ true
    → IfOk (with_change story at digits code_at found) (λ after. IsStory codes after × (length after.changes ≤ length story.changes + 1))
changed_by codes story at digits code_at code None e is some = tt
changed_by codes story at digits code_at code (Some (number, size)) e is some =
    push_by codes story at digits number size (nat_le (length digits) size) refl is some (known_has code codes number size e)

both : (a b : Bool) → (a && b) ≡ true → (a ≡ true) × (b ≡ true)
both true b e = (refl, e)
both false b e = absurd (true≢false (sym e))

one_digit : (first : ℕ) → is_value first ≡ true → are_digits (first ∷ []) ≡ true
one_digit first e = rw e refl

change_ok : (state : State) (word : Word) (bytes : List ℕ) → Holds InChanges state → IfOk (change state word bytes) (Follows state)
change_ok state word [] h = tt
change_ok state word (first ∷ rest) h =
    let known = state.head.codes in
    if_ok state (first == 35) _ _ (λ e. told_ok InChanges state (timed state.story word rest) h h.here (timed_by known state.story word rest (is_time rest) h.story))
    (λ e. if_ok state (is_value first && has_bytes rest) _ _
    (λ e. told_ok InChanges state (changed known state.story word.at (first ∷ []) (word.at + 1) rest) h h.here
    (changed_by known state.story word.at (first ∷ []) (word.at + 1) rest _ refl h.story (one_digit first (both (is_value first) (has_bytes rest) e).0)))
    (λ e. if_ok state (is_vector first && are_digits rest) _ _
    (λ e. same InChanges (VectorCode word.at rest) state h ((both (is_vector first) (are_digits rest) e).1, h.here))
    (λ e. if_ok state (is_passed first) _ _ (λ e. same InChanges PassedCode state h h.here)
    (λ e. if_ok state (is_keyword (codes "$comment") word) _ _ (λ e. same InChanges Comment state h h.here)
    (λ e. if_ok state (is_dump word) _ _ (λ e. same InChanges InChanges state h h.here) (λ e. tt))))))

command_ok : (state : State) (word : Word) → Holds InHead state → IfOk (command state word) (Follows state)
command_ok state word h =
    if_ok state (is_keyword (codes "$enddefinitions") word) _ _ (λ e. same InHead HeadEnd state h h.here)
    (λ e. if_ok state (is_keyword (codes "$scope") word) _ _ (λ e. same InHead ScopeType state h h.here)
    (λ e. if_ok state (is_keyword (codes "$upscope") word) _ _
    (λ e. if_ok state (nat_le 1 (length state.head.nest)) _ _ (λ e. (record { sized = h.sized; story = h.story; here = h.here }, omega arith)) (λ e. tt))
    (λ e. if_ok state (is_keyword (codes "$var") word) _ _ (λ e. same InHead VarType state h h.here)
    (λ e. if_ok state (begins_with 36 word.bytes && not (is_end word)) _ _ (λ e. same InHead PassedCommand state h h.here) (λ e. tt)))))

-- the state with other codes
abbrev with_codes : State → List Code → State
with_codes state codes = record state { head = record state.head { codes = codes } }

abbrev referenced : Bool → ℕ → State → ℕ × List Code → Step
referenced counted size state found = Ok (VarReference counted size found.0, with_codes state found.1)

same_by : (counted : Bool) (size : ℕ) (state : State) (word : Word) (number have : ℕ) (b : Bool) → (have == size) ≡ b → HasSize state.head.codes number have → Holds (VarCode counted size) state
    → IfOk (cond b (Ok (number, state.head.codes)) (Err (BadWord word.at)) >>= referenced counted size state) (Follows state)
same_by counted size state word number have true e has h =
    let is : have ≡ size = grind (arith, nat_tests) in
    (record { sized = h.sized; story = h.story; here = (has ∙ ap Some is, λ n within. inl (h.here n within)) }, omega arith)
same_by counted size state word number have false e has h = tt

code_by : (counted : Bool) (size : ℕ) (state : State) (word : Word) (found : Option (ℕ × ℕ)) → known word.bytes state.head.codes ≡ found → Holds (VarCode counted size) state
    → IfOk (numbered size word state.head.codes found >>= referenced counted size state) (Follows state)
code_by counted size state word None e h =
    let old = state.head.codes in
    let code : Code = (word.bytes, size) in (
      record {
        sized = All-weaker (λ var. HasSize old var.code var.size) (λ var. HasSize (old ++ code ∷ []) var.code var.size) (λ var has. more_sizes old code var.code var.size has) state.head.vars h.sized;
        story = story-code old code state.story h.story;
        here = (last_size old code, λ n within. elim (cases_lt n (length old)) [ inl before ↦ inl (h.here n before) | inr last ↦ inr (omega (arith, length-append old (code ∷ []))) ]);
      },
      omega arith,
    )
code_by counted size state word (Some (number, have)) e h = same_by counted size state word number have (have == size) refl (known_has word.bytes state.head.codes number have e) h

code_ok : (counted : Bool) (size : ℕ) (state : State) (word : Word) (b : Bool) → Holds (VarCode counted size) state
    → IfOk (cond b (numbered size word state.head.codes (known word.bytes state.head.codes)) (Err (BadWord word.at)) >>= referenced counted size state) (Follows state)
code_ok counted size state word true h = code_by counted size state word (known word.bytes state.head.codes) refl h
code_ok counted size state word false h = tt

eq_self : (n : ℕ) → (n == n) ≡ true
eq_self n = grind (arith, nat_tests)

name_by : (vars : List Var) (var : Var) (number : ℕ) → (is_named vars number ≡ true) ⊎ (number ≡ var.code) → is_named (vars ++ var ∷ []) number ≡ true
name_by vars var number (inl named) =
    list_any-append (λ (var : Var). var.code == number) vars (var ∷ []) ∙ rw named refl
name_by vars var number (inr is) =
    let last : (var.code == number) ≡ true = rw is (eq_self var.code) in
    list_any-append (λ (var : Var). var.code == number) vars (var ∷ []) ∙ rw last (or_true (is_named vars number))
  where
    or_true : (b : Bool) → (b || true) ≡ true
    or_true true = refl
    or_true false = refl

var_holds : (counted : Bool) (size code : ℕ) (state : State) (word : Word) → Holds (VarReference counted size code) state
    → Holds PassedCommand (record state { head = with_var counted size code word.bytes state.head })
var_holds counted size code state word h =
    let var : Var = record { scope = scope_of state.head.nest; name = name_of word.bytes; code = code; size = size; counted = counted } in
    let P : Var → Type 0 = λ var. HasSize state.head.codes var.code var.size in
    record {
      sized = All-append P state.head.vars (var ∷ []) h.sized (All-cons P var [] h.here.0 (All-nil P));
      story = h.story;
      here = λ n within. name_by state.head.vars var n (h.here.1 n within);
    }

-- what holds goes on to hold
step_ok : (place : Place) (state : State) (word : Word) → Holds place state → IfOk (step place state word) (Follows state)
step_ok InHead state word h = command_ok state word h
step_ok ScopeType state word h = if_ok state (is_end word) _ _ (λ e. tt) (λ e. same ScopeType ScopeName state h h.here)
step_ok ScopeName state word h = if_ok state (is_end word) _ _ (λ e. tt) (λ e. (record { sized = h.sized; story = h.story; here = h.here }, omega arith))
step_ok CommandEnd state word h = if_ok state (is_end word) _ _ (λ e. same CommandEnd InHead state h h.here) (λ e. tt)
step_ok VarType state word h = if_ok state (is_end word) _ _ (λ e. tt) (λ e. same VarType (VarSize (is_counted word.bytes)) state h h.here)
step_ok (VarSize counted) state word h = if_ok state (is_size word.bytes) _ _ (λ e. same (VarSize counted) (VarCode counted (number_of 10 word.bytes)) state h h.here) (λ e. tt)
step_ok (VarCode counted size) state word h = code_ok counted size state word (list_all is_code_byte word.bytes) h
step_ok (VarReference counted size code) state word h = if_ok state (is_end word) _ _ (λ e. tt) (λ e. (var_holds counted size code state word h, omega arith))
step_ok PassedCommand state word h = passed_by state (is_end word) h
  where
    passed_by : (state : State) (b : Bool) → Holds PassedCommand state → Follows state (cond b InHead PassedCommand, state)
    passed_by state true h = same PassedCommand InHead state h h.here
    passed_by state false h = same PassedCommand PassedCommand state h h.here
step_ok HeadEnd state word h = if_ok state (is_end word) _ _ (λ e. same HeadEnd InChanges state h h.here) (λ e. tt)
step_ok InChanges state word h = change_ok state word word.bytes h
step_ok Comment state word h = comment_by state (is_end word) h
  where
    comment_by : (state : State) (b : Bool) → Holds Comment state → Follows state (cond b InChanges Comment, state)
    comment_by state true h = same Comment InChanges state h h.here
    comment_by state false h = same Comment Comment state h h.here
step_ok (VectorCode at digits) state word h =
    told_ok (VectorCode at digits) state (changed state.head.codes state.story at digits word.at word.bytes) h h.here.1
    (changed_by state.head.codes state.story at digits word.at word.bytes _ refl h.story h.here.0)
step_ok PassedCode state word h = same PassedCode InChanges state h h.here

declared_one : (state : State) (change : Change) → Holds InChanges state → IsChange state.head.codes change → list_any (is_change_of change) state.head.vars ≡ true
declared_one state change h one =
    let within : change.code < length state.head.codes = omega (arith, some_there (sizes_of state.head.codes) change.code one.size one.has, length-map state.head.codes (λ code. code.1)) in
    any_more (λ var. var.code == change.code) (is_change_of change) state.head.vars
    (λ k d inside e. change_by (get_or state.head.vars k d) (h.sized k d inside) e)
    (h.here change.code within)
  where
    change_by : (var : Var) → HasSize state.head.codes var.code var.size → (var.code == change.code) ≡ true → is_change_of change var ≡ true
    change_by var has e =
        let is : var.code ≡ change.code = grind (arith, nat_tests) in
        let sizes : Some var.size ≡ Some one.size = sym has ∙ ap (slice_get (sizes_of state.head.codes)) is ∙ one.has in
        let size : var.size ≡ one.size = cc in
        let fits : nat_le (length change.digits) var.size ≡ true = grind (arith, nat_tests, one.most) in
        rw (e, one.digits, fits) refl

state_kept : (state : State) → Holds InChanges state → length state.story.changes ≤ 67108864
    → IsVcd (record { scopes = state.head.scopes; vars = state.head.vars; changes = state.story.changes })
state_kept state h few = record {
  few = few;
  rising = h.story.rising;
  sizes = λ k d within i e inside is.
      let one = h.sized k d within in
      let other = h.sized i e inside in
      let sizes : Some (get_or state.head.vars k d).size ≡ Some (get_or state.head.vars i e).size = sym one ∙ ap (slice_get (sizes_of state.head.codes)) is ∙ other in
      cc;
  declared = λ k d within. declared_one state (get_or state.story.changes k d) h (h.story.each k d within);
}

ended_kept : (place : Place) (state : State) (m : Meaning) → Holds place state → length state.story.changes ≤ 67108864 → ended place state ≡ Ok m → IsVcd m
ended_kept InHead state m h few e = cc
ended_kept ScopeType state m h few e = cc
ended_kept ScopeName state m h few e = cc
ended_kept CommandEnd state m h few e = cc
ended_kept VarType state m h few e = cc
ended_kept (VarSize counted) state m h few e = cc
ended_kept (VarCode counted size) state m h few e = cc
ended_kept (VarReference counted size code) state m h few e = cc
ended_kept PassedCommand state m h few e = cc
ended_kept HeadEnd state m h few e = cc
ended_kept InChanges state m h few e =
    let is : record { scopes = state.head.scopes; vars = state.head.vars; changes = state.story.changes } ≡ m = cc in
    rw (← is) (state_kept state h few)
ended_kept Comment state m h few e = cc
ended_kept (VectorCode at digits) state m h few e = cc
ended_kept PassedCode state m h few e = cc

next_kept : (state : State) (words : List Word) (m : Meaning) (r : Step) → IfOk r (Follows state) → length state.story.changes + suc (length words) ≤ 67108864
    → ((place : Place) (after : State) → Holds place after → length after.story.changes + length words ≤ 67108864 → told_by place after words ≡ Ok m → IsVcd m)
    → (r >>= λ (next, after). told_by next after words) ≡ Ok m → IsVcd m
next_kept state words m (Ok (next, after)) follows few more e = more next after follows.0 (omega (arith, follows.1)) e
next_kept state words m (Err fault) follows few more e = cc

-- what words tell has what is kept
pub words_kept : (place : Place) (state : State) (words : List Word) (m : Meaning) → Holds place state → length state.story.changes + length words ≤ 67108864 → told_by place state words ≡ Ok m → IsVcd m
words_kept place state [] m h few e = ended_kept place state m h (omega arith) e
words_kept place state (word ∷ words) m h few e =
    next_kept state words m (step place state word) (step_ok place state word h) few (λ next after. words_kept next after words m) e

start_holds : Holds InHead (record { head = no_head; story = no_story })
start_holds = record {
  sized = All-nil (λ var. HasSize [] var.code var.size);
  story = record { each = All-nil (IsChange []); past = All-nil (λ change. change.time ≤ 0); rising = λ i j d order within. absurd (omega (arith, within)) };
  here = λ number within. absurd (omega (arith, within));
}

-- what a text tells has what is kept
pub text_kept : (text : List ℕ) (m : Meaning) → length text ≤ 67108864 → told_by InHead (record { head = no_head; story = no_story }) (words_of text) ≡ Ok m → IsVcd m
text_kept text m few e = words_kept InHead (record { head = no_head; story = no_story }) (words_of text) m start_holds (omega (arith, length-words_from false 0 text)) e
