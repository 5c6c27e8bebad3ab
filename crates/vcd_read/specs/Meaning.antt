-- What a value change dump file means: IEEE Std 1364-2005, section 18.2, the format of four-state files.
use Rattle.std.specs.Prelude.{ℕ, ◌+◌, Bool, not, List, [], ◌∷◌, length, Result, Ok, Err, codes, nat_le, ◌==◌, ◌&&◌, if◌then◌else◌}
use Rattle.text_core.specs.Digits.{number_of}
use Rattle.vcd_read.specs.declared.fault.VcdFault.{VcdFault}
use Rattle.vcd_read.specs.declared.fault.VcdFault.TheVariants.{TooLong, BadWord, CutShort, NoEndDefinitions}
use Rattle.vcd_read.specs.Results.{◌>>=◌}
use Rattle.vcd_read.specs.Words.{Word, words_of, is_keyword, is_end, has_bytes, begins_with}
use Rattle.vcd_read.specs.Head.{Head, Var, no_head, with_scope, without_scope, is_counted, is_size, with_code, with_var}
use Rattle.vcd_read.specs.Changes.{Change, Story, no_story, is_value, is_dump, timed, changed, are_digits, is_vector, is_passed}

-- what a text tells: the paths of the scopes that it opens, its variables, and its changes, each in the order of the text
pub record Meaning : Type 0 where
  pub scopes : List (List ℕ)
  pub vars : List Var
  pub changes : List Change

-- what was told so far
pub record State : Type 0 where
  pub head : Head
  pub story : Story

-- where the next word stands
pub data Place : Type 0 where
  -- in the head: between commands; in a `$scope`; before the `$end` of one, or of an `$upscope`; in a `$var`, whose type,
  -- size and code are known; in a command that is passed over to its `$end`; before the `$end` of the head
  InHead : Place
  ScopeType : Place
  ScopeName : Place
  CommandEnd : Place
  VarType : Place
  VarSize : Bool → Place
  VarCode : Bool → ℕ → Place
  VarReference : Bool → ℕ → ℕ → Place
  PassedCommand : Place
  HeadEnd : Place
  -- behind the head: among the changes; in a comment; before the code of a vector, whose offset and digits are known;
  -- before a code that is passed over
  InChanges : Place
  Comment : Place
  VectorCode : ℕ → List ℕ → Place
  PassedCode : Place

-- a place and what was told; or a fault
abbrev pub Step : Type 0
Step = Result (Place × State) VcdFault

-- any word but `$end` may stand here, and then this follows
abbrev pub unless_end : Word → Place × State → Step
unless_end word next = if is_end word then Err (BadWord word.at) else Ok next

-- only `$end` may stand here, and then this follows
abbrev pub if_end : Word → Place × State → Step
if_end word next = if is_end word then Ok next else Err (BadWord word.at)

-- one more change, or another time
abbrev pub told : State → Result Story VcdFault → Step
told state found = found >>= λ story. Ok (InChanges, record state { story = story })

-- a word that begins a command of the head
abbrev pub command : State → Word → Step
command state word =
    if is_keyword (codes "$enddefinitions") word then Ok (HeadEnd, state)
    else if is_keyword (codes "$scope") word then Ok (ScopeType, state)
    else if is_keyword (codes "$upscope") word then
    (if nat_le 1 (length state.head.nest) then Ok (CommandEnd, record state { head = without_scope state.head }) else Err (BadWord word.at))
    else if is_keyword (codes "$var") word then Ok (VarType, state)
    else if begins_with 36 word.bytes && not (is_end word) then Ok (PassedCommand, state)
    else Err (BadWord word.at)

-- a word that begins a change, by its first byte and the others
abbrev pub change : State → Word → List ℕ → Step
change state word [] = Err (BadWord word.at)
change state word (first ∷ rest) =
    if first == 35 then told state (timed state.story word rest)
    else if is_value first && has_bytes rest then told state (changed state.head.codes state.story word.at (first ∷ []) (word.at + 1) rest)
    else if is_vector first && are_digits rest then Ok (VectorCode word.at rest, state)
    else if is_passed first then Ok (PassedCode, state)
    else if is_keyword (codes "$comment") word then Ok (Comment, state)
    else if is_dump word then Ok (InChanges, state)
    else Err (BadWord word.at)

-- what one word adds
abbrev pub step : Place → State → Word → Step
step InHead state word = command state word
step ScopeType state word = unless_end word (ScopeName, state)
step ScopeName state word = unless_end word (CommandEnd, record state { head = with_scope state.head word.bytes })
step CommandEnd state word = if_end word (InHead, state)
step VarType state word = unless_end word (VarSize (is_counted word.bytes), state)
step (VarSize counted) state word =
    if is_size word.bytes then Ok (VarCode counted (number_of 10 word.bytes), state) else Err (BadWord word.at)
step (VarCode counted size) state word =
    with_code size word state.head.codes >>= λ (code, codes). Ok (VarReference counted size code, record state { head = record state.head { codes = codes } })
step (VarReference counted size code) state word =
    unless_end word (PassedCommand, record state { head = with_var counted size code word.bytes state.head })
step PassedCommand state word = Ok ((if is_end word then InHead else PassedCommand), state)
step HeadEnd state word = if_end word (InChanges, state)
step InChanges state word = change state word word.bytes
step Comment state word = Ok ((if is_end word then InChanges else Comment), state)
step (VectorCode at digits) state word = told state (changed state.head.codes state.story at digits word.at word.bytes)
step PassedCode state word = Ok (InChanges, state)

-- what a text tells that ends here
abbrev pub ended : Place → State → Result Meaning VcdFault
ended InHead state = Err NoEndDefinitions
ended InChanges state = Ok (record { scopes = state.head.scopes; vars = state.head.vars; changes = state.story.changes })
ended place state = Err CutShort

-- what words tell from a place on, or the first fault in them
abbrev pub told_by : Place → State → List Word → Result Meaning VcdFault
told_by place state [] = ended place state
told_by place state (word ∷ words) = step place state word >>= λ (next, after). told_by next after words

-- what a text of at most 64 MiB means, or its first fault
abbrev pub meaning : List ℕ → Result Meaning VcdFault
meaning text =
    if nat_le (length text) 67108864
    then told_by InHead (record { head = no_head; story = no_story }) (words_of text)
    else Err TooLong
