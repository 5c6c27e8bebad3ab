-- A command or a change as a whole tells what its words tell one by one.
use Rattle.std.proofs.Common.{◌≡◌, ℕ, ◌+◌, Bool, true, false, cond, List, [], ◌∷◌, Result, Ok, Err, refl, ap, sym, ◌∙◌}
use Rattle.std.specs.Prelude.{not, length, codes, nat_le, ◌==◌, ◌&&◌, if◌then◌else◌}
use Rattle.text_core.specs.Digits.{number_of}
use Rattle.vcd_read.specs.declared.fault.VcdFault.{VcdFault}
use Rattle.vcd_read.specs.declared.fault.VcdFault.TheVariants.{BadWord, CutShort}
use Rattle.vcd_read.specs.Results.{◌>>=◌}
use Rattle.vcd_read.specs.Words.{Word, is_keyword, is_end, begins_with, has_bytes}
use Rattle.vcd_read.specs.Head.{Head, Code, with_scope, without_scope, is_counted, is_size, with_code, with_var}
use Rattle.vcd_read.specs.Changes.{Story, is_value, is_dump, timed, changed, are_digits, is_vector, is_passed}
use Rattle.vcd_read.specs.Meaning.{Meaning, State, Place, InHead, ScopeType, ScopeName, CommandEnd, VarType, VarSize, VarCode, VarReference, PassedCommand, HeadEnd, InChanges, Comment, VectorCode, PassedCode, unless_end, if_end, step, ended, told_by, told, change}
use Rattle.vcd_read.specs.Commands.{word_at, plain_at, end_at, behind_end, size_at, code_at, variable_at, opened_at, closed_at, command_at, vector_at, change_at}
use Rattle.vcd_read.proofs.Binds.{through, by_test}

-- what the words behind tell
abbrev on : Place × State → List Word → Result Meaning VcdFault
on next words = told_by next.0 next.1 words

unless_by : (word : Word) (next : Place × State) (words : List Word) (g : Word × List Word → Result Meaning VcdFault) (b : Bool)
    → on next words ≡ g (word, words) → (cond b (Err (BadWord word.at)) (Ok next) >>= λ next. on next words) ≡ (cond b (Err (BadWord word.at)) (Ok (word, words)) >>= g)
unless_by word next words g true same = refl
unless_by word next words g false same = same

-- where any word but `$end` may stand
plain_law : (place : Place) (state : State) (next : Word → Place × State) (words : List Word)
    → ((word : Word) → step place state word ≡ unless_end word (next word)) → ended place state ≡ Err CutShort
    → told_by place state words ≡ (plain_at words >>= λ found. on (next found.0) found.1)
unfolding plain_at
plain_law place state next [] steps ends = ends
plain_law place state next (word ∷ words) steps ends =
    ap (λ found. found >>= λ next. on next words) (steps word) ∙ unless_by word (next word) words (λ found. on (next found.0) found.1) (is_end word) refl

if_by : (word : Word) (next : Place × State) (words : List Word) (b : Bool)
    → (cond b (Ok next) (Err (BadWord word.at)) >>= λ next. on next words) ≡ (cond b (Ok words) (Err (BadWord word.at)) >>= λ rest. on next rest)
if_by word next words true = refl
if_by word next words false = refl

-- where only `$end` may stand
end_law : (place : Place) (state : State) (next : Place × State) (words : List Word)
    → ((word : Word) → step place state word ≡ if_end word next) → ended place state ≡ Err CutShort
    → told_by place state words ≡ (end_at words >>= λ rest. on next rest)
unfolding end_at
end_law place state next [] steps ends = ends
end_law place state next (word ∷ words) steps ends =
    ap (λ found. found >>= λ next. on next words) (steps word) ∙ if_by word next words (is_end word)

pass_by : (state : State) (place after : Place) (words : List Word) (b : Bool) → told_by place state words ≡ (behind_end words >>= λ rest. told_by after state rest)
    → told_by (cond b after place) state words ≡ (cond b (Ok words) (behind_end words) >>= λ rest. told_by after state rest)
pass_by state place after words true more = refl
pass_by state place after words false more = more

-- words that are passed over up to `$end`
passed_law : (place after : Place) (state : State) (words : List Word)
    → ((word : Word) → step place state word ≡ Ok ((if is_end word then after else place), state)) → ended place state ≡ Err CutShort
    → told_by place state words ≡ (behind_end words >>= λ rest. told_by after state rest)
unfolding behind_end
passed_law place after state [] steps ends = ends
passed_law place after state (word ∷ words) steps ends =
    ap (λ found. found >>= λ next. on next words) (steps word) ∙ pass_by state place after words (is_end word) (passed_law place after state words steps ends)

-- where the next command stands, with what the head told
abbrev in_head : State → Head → Place × State
in_head state head = (InHead, record state { head = head })

-- a step that one word makes
word_law : (place : Place) (state : State) (next : Word → Result (Place × State) VcdFault) (words : List Word)
    → ((word : Word) → step place state word ≡ next word) → ended place state ≡ Err CutShort
    → told_by place state words ≡ (word_at words >>= λ found. next found.0 >>= λ next. on next found.1)
unfolding word_at
word_law place state next [] steps ends = ends
word_law place state next (word ∷ words) steps ends = ap (λ found. found >>= λ next. on next words) (steps word)

-- a scope that is opened
opened_law : (state : State) (words : List Word) → told_by ScopeType state words ≡ (opened_at state.head words >>= λ found. on (in_head state found.0) found.1)
unfolding opened_at
opened_law state words =
    let go : Head × List Word → Result Meaning VcdFault = λ found. on (in_head state found.0) found.1 in
    let opened : Word → Head = λ name. with_scope state.head name.bytes in
    plain_law ScopeType state (λ word. (ScopeName, state)) words (λ word. refl) refl
    ∙ through (plain_at words) _ go _ (λ kind.
    plain_law ScopeName state (λ word. (CommandEnd, record state { head = opened word })) kind.1 (λ word. refl) refl
    ∙ through (plain_at kind.1) _ go _ (λ name.
    end_law CommandEnd (record state { head = opened name.0 }) (in_head state (opened name.0)) name.1 (λ word. refl) refl
    ∙ through (end_at name.1) (λ rest. Ok (opened name.0, rest)) go (λ rest. on (in_head state (opened name.0)) rest) (λ rest. refl)))

size_law : (counted : Bool) (state : State) (words : List Word) → told_by (VarSize counted) state words ≡ (size_at words >>= λ found. told_by (VarCode counted found.0) state found.1)
unfolding size_at word_at
size_law counted state [] = refl
size_law counted state (word ∷ words) =
    let read : Result (ℕ × List Word) VcdFault = Ok (number_of 10 word.bytes, words) in
    let told : Result (Place × State) VcdFault = Ok (VarCode counted (number_of 10 word.bytes), state) in
    by_test (is_size word.bytes) told (Err (BadWord word.at)) read (Err (BadWord word.at)) (λ next. on next words) (λ found. told_by (VarCode counted found.0) state found.1) refl refl

-- the codes, once one more is declared
abbrev with_codes : State → List Code → State
with_codes state codes = record state { head = record state.head { codes = codes } }

code_law : (counted : Bool) (size : ℕ) (state : State) (words : List Word)
    → told_by (VarCode counted size) state words ≡ (code_at size state.head.codes words >>= λ found. told_by (VarReference counted size found.0.0) (with_codes state found.0.1) found.1)
unfolding code_at
code_law counted size state words =
    let go : (ℕ × List Code) × List Word → Result Meaning VcdFault = λ found. told_by (VarReference counted size found.0.0) (with_codes state found.0.1) found.1 in
    word_law (VarCode counted size) state (λ word. with_code size word state.head.codes >>= λ (code, codes). Ok (VarReference counted size code, with_codes state codes)) words (λ word. refl) refl
    ∙ through (word_at words) (λ word. with_code size word.0 state.head.codes >>= λ code. Ok (code, word.1)) go _ (λ word.
    sym (through (with_code size word.0 state.head.codes) (λ (code, codes). Ok (VarReference counted size code, with_codes state codes)) (λ next. on next word.1) (λ code. go (code, word.1)) (λ code. refl))
    ∙ through (with_code size word.0 state.head.codes) (λ code. Ok (code, word.1)) go (λ code. go (code, word.1)) (λ code. refl))

-- a variable
variable_law : (state : State) (words : List Word) → told_by VarType state words ≡ (variable_at state.head words >>= λ found. on (in_head state found.0) found.1)
unfolding variable_at
variable_law state words =
    let go : Head × List Word → Result Meaning VcdFault = λ found. on (in_head state found.0) found.1 in
    plain_law VarType state (λ word. (VarSize (is_counted word.bytes), state)) words (λ word. refl) refl
    ∙ through (plain_at words) _ go _ (λ kind.
    size_law (is_counted kind.0.bytes) state kind.1
    ∙ through (size_at kind.1) _ go _ (λ size.
    code_law (is_counted kind.0.bytes) size.0 state size.1
    ∙ through (code_at size.0 state.head.codes size.1) _ go _ (λ code.
    let at : State = with_codes state code.0.1 in
    let declared : Word → Head = λ word. with_var (is_counted kind.0.bytes) size.0 code.0.0 word.bytes at.head in
    plain_law (VarReference (is_counted kind.0.bytes) size.0 code.0.0) at (λ word. (PassedCommand, record at { head = declared word })) code.1 (λ word. refl) refl
    ∙ through (plain_at code.1) _ go _ (λ reference.
    passed_law PassedCommand InHead (record at { head = declared reference.0 }) reference.1 (λ word. refl) refl
    ∙ through (behind_end reference.1) (λ rest. Ok (declared reference.0, rest)) go (λ rest. on (in_head state (declared reference.0)) rest) (λ rest. refl)))))

-- a scope that is closed
closed_law : (state : State) (word : Word) (words : List Word)
    → ((if nat_le 1 (length state.head.nest) then Ok (CommandEnd, record state { head = without_scope state.head }) else Err (BadWord word.at)) >>= λ next. on next words)
    ≡ (closed_at state.head word words >>= λ found. on (in_head state found.0) found.1)
unfolding closed_at
closed_law state word words =
    let go : Head × List Word → Result Meaning VcdFault = λ found. on (in_head state found.0) found.1 in
    let begun : Result (Place × State) VcdFault = Ok (CommandEnd, record state { head = without_scope state.head }) in
    by_test (nat_le 1 (length state.head.nest)) begun (Err (BadWord word.at)) (end_at words >>= λ behind. Ok (without_scope state.head, behind)) (Err (BadWord word.at)) (λ next. on next words) go
    (end_law CommandEnd (record state { head = without_scope state.head }) (in_head state (without_scope state.head)) words (λ word. refl) refl
    ∙ through (end_at words) (λ behind. Ok (without_scope state.head, behind)) go (λ rest. on (in_head state (without_scope state.head)) rest) (λ rest. refl))
    refl

last_by : (state : State) (word : Word) (words : List Word) (b : Bool) → b ≡ false → (step : Result (Place × State) VcdFault)
    → (cond b (Ok (HeadEnd, state)) step >>= λ next. on next words) ≡ (step >>= λ next. on next words)
last_by state word words true e step = absurd (cc)
last_by state word words false e step = refl

-- a command of the head other than its last
pub command_law : (state : State) (word : Word) (words : List Word) → is_keyword (codes "$enddefinitions") word ≡ false
    → told_by InHead state (word ∷ words) ≡ (command_at state.head word words >>= λ found. on (in_head state found.0) found.1)
unfolding command_at
command_law state word words other =
    let go : Head × List Word → Result Meaning VcdFault = λ found. on (in_head state found.0) found.1 in
    let run : Place × State → Result Meaning VcdFault = λ next. on next words in
    last_by state word words (is_keyword (codes "$enddefinitions") word) other _
    ∙ by_test (is_keyword (codes "$scope") word) _ _ _ _ run go (opened_law state words)
    (by_test (is_keyword (codes "$upscope") word) _ _ _ _ run go (closed_law state word words)
    (by_test (is_keyword (codes "$var") word) _ _ _ _ run go (variable_law state words)
    (by_test (begins_with 36 word.bytes && not (is_end word)) _ _ _ _ run go
    (passed_law PassedCommand InHead state words (λ word. refl) refl ∙ through (behind_end words) (λ rest. Ok (state.head, rest)) go (λ rest. on (in_head state state.head) rest) (λ rest. refl))
    refl)))

-- the last command of the head
pub head_end_law : (state : State) (word : Word) (words : List Word) → is_keyword (codes "$enddefinitions") word ≡ true
    → told_by InHead state (word ∷ words) ≡ (end_at words >>= λ rest. told_by InChanges state rest)
head_end_law state word words last =
    let begun : told_by InHead state (word ∷ words) ≡ told_by HeadEnd state words = rw last refl in
    begun ∙ end_law HeadEnd state (InChanges, state) words (λ word. refl) refl

-- where the next change stands, with what was told
abbrev in_story : State → Story → Place × State
in_story state story = (InChanges, record state { story = story })

abbrev before : List Word → Story → Result (Story × List Word) VcdFault
before words story = Ok (story, words)

told_law : (state : State) (found : Result Story VcdFault) (words : List Word)
    → (told state found >>= λ next. on next words) ≡ ((found >>= before words) >>= λ found. on (in_story state found.0) found.1)
told_law state (Ok story) words = refl
told_law state (Err fault) words = refl

vector_law : (state : State) (at : ℕ) (digits : List ℕ) (words : List Word)
    → told_by (VectorCode at digits) state words ≡ (vector_at state.head.codes state.story at digits words >>= λ found. on (in_story state found.0) found.1)
unfolding vector_at
vector_law state at digits words =
    let go : Story × List Word → Result Meaning VcdFault = λ found. on (in_story state found.0) found.1 in
    word_law (VectorCode at digits) state (λ word. told state (changed state.head.codes state.story at digits word.at word.bytes)) words (λ word. refl) refl
    ∙ through (word_at words) (λ code. changed state.head.codes state.story at digits code.0.at code.0.bytes >>= λ after. Ok (after, code.1)) go _ (λ code.
    told_law state (changed state.head.codes state.story at digits code.0.at code.0.bytes) code.1)

-- a change
change_by : (state : State) (word : Word) (bytes : List ℕ) (words : List Word)
    → (change state word bytes >>= λ next. on next words) ≡ (change_at state.head.codes state.story word bytes words >>= λ found. on (in_story state found.0) found.1)
unfolding change_at
change_by state word [] words = refl
change_by state word (first ∷ rest) words =
    let go : Story × List Word → Result Meaning VcdFault = λ found. on (in_story state found.0) found.1 in
    let run : Place × State → Result Meaning VcdFault = λ next. on next words in
    by_test (first == 35) _ _ _ _ run go (told_law state (timed state.story word rest) words)
    (by_test (is_value first && has_bytes rest) _ _ _ _ run go (told_law state (changed state.head.codes state.story word.at (first ∷ []) (word.at + 1) rest) words)
    (by_test (is_vector first && are_digits rest) _ _ _ _ run go (vector_law state word.at rest words)
    (by_test (is_passed first) _ _ _ _ run go
    (word_law PassedCode state (λ word. Ok (InChanges, state)) words (λ word. refl) refl ∙ through (word_at words) (λ code. Ok (state.story, code.1)) go (λ code. on (in_story state state.story) code.1) (λ code. refl))
    (by_test (is_keyword (codes "$comment") word) _ _ _ _ run go
    (passed_law Comment InChanges state words (λ word. refl) refl ∙ through (behind_end words) (λ behind. Ok (state.story, behind)) go (λ behind. on (in_story state state.story) behind) (λ behind. refl))
    (by_test (is_dump word) _ _ _ _ run go refl refl)))))

pub change_law : (state : State) (word : Word) (words : List Word)
    → told_by InChanges state (word ∷ words) ≡ (change_at state.head.codes state.story word word.bytes words >>= λ found. on (in_story state found.0) found.1)
change_law state word words = change_by state word word.bytes words
