-- Commands and changes as wholes, each from behind the word that begins it: what it tells, and the words behind it.
use Rattle.std.specs.Prelude.{ℕ, ◌+◌, not, List, [], ◌∷◌, length, Result, Ok, Err, codes, nat_le, ◌==◌, ◌&&◌, if◌then◌else◌}
use Rattle.text_core.specs.Digits.{number_of}
use Rattle.vcd_read.specs.declared.fault.VcdFault.{VcdFault}
use Rattle.vcd_read.specs.declared.fault.VcdFault.TheVariants.{BadWord, CutShort}
use Rattle.vcd_read.specs.Results.{◌>>=◌}
use Rattle.vcd_read.specs.Words.{Word, is_keyword, is_end, has_bytes, begins_with}
use Rattle.vcd_read.specs.Head.{Code, Head, with_scope, without_scope, is_counted, is_size, with_code, with_var}
use Rattle.vcd_read.specs.Changes.{Story, is_value, is_dump, timed, changed, are_digits, is_vector, is_passed}

-- any word
unfoldable pub word_at : List Word → Result (Word × List Word) VcdFault
word_at [] = Err CutShort
word_at (word ∷ words) = Ok (word, words)

-- any word but `$end`
unfoldable pub plain_at : List Word → Result (Word × List Word) VcdFault
plain_at [] = Err CutShort
plain_at (word ∷ words) = if is_end word then Err (BadWord word.at) else Ok (word, words)

-- `$end`
unfoldable pub end_at : List Word → Result (List Word) VcdFault
end_at [] = Err CutShort
end_at (word ∷ words) = if is_end word then Ok words else Err (BadWord word.at)

-- all words up to `$end`, and it
unfoldable pub behind_end : List Word → Result (List Word) VcdFault
behind_end [] = Err CutShort
behind_end (word ∷ words) = if is_end word then Ok words else behind_end words

-- the size of a variable
unfoldable pub size_at : List Word → Result (ℕ × List Word) VcdFault
size_at words = do
  word ← word_at words
  if is_size word.0.bytes then Ok (number_of 10 word.0.bytes, word.1) else Err (BadWord word.0.at)

-- the number of a code, and all codes
unfoldable pub code_at : ℕ → List Code → List Word → Result ((ℕ × List Code) × List Word) VcdFault
code_at size codes words = do
  word ← word_at words
  code ← with_code size word.0 codes
  Ok (code, word.1)

-- a variable
unfoldable pub variable_at : Head → List Word → Result (Head × List Word) VcdFault
variable_at head words = do
  kind ← plain_at words
  size ← size_at kind.1
  code ← code_at size.0 head.codes size.1
  reference ← plain_at code.1
  rest ← behind_end reference.1
  Ok (with_var (is_counted kind.0.bytes) size.0 code.0.0 reference.0.bytes (record head { codes = code.0.1 }), rest)

-- a scope that is opened
unfoldable pub opened_at : Head → List Word → Result (Head × List Word) VcdFault
opened_at head words = do
  kind ← plain_at words
  name ← plain_at kind.1
  rest ← end_at name.1
  Ok (with_scope head name.0.bytes, rest)

-- a scope that is closed, by this word
unfoldable pub closed_at : Head → Word → List Word → Result (Head × List Word) VcdFault
closed_at head word words =
    if nat_le 1 (length head.nest) then (end_at words >>= λ behind. Ok (without_scope head, behind)) else Err (BadWord word.at)

-- a command of the head other than its last, which this word begins
unfoldable pub command_at : Head → Word → List Word → Result (Head × List Word) VcdFault
command_at head word words =
    if is_keyword (codes "$scope") word then opened_at head words
    else if is_keyword (codes "$upscope") word then closed_at head word words
    else if is_keyword (codes "$var") word then variable_at head words
    else if begins_with 36 word.bytes && not (is_end word) then (behind_end words >>= λ rest. Ok (head, rest))
    else Err (BadWord word.at)

-- a vector, whose word has this offset and these digits
unfoldable pub vector_at : List Code → Story → ℕ → List ℕ → List Word → Result (Story × List Word) VcdFault
vector_at codes story at digits words = do
  code ← word_at words
  after ← changed codes story at digits code.0.at code.0.bytes
  Ok (after, code.1)

-- a change, a time or what is passed over among them, which a word of these bytes begins
unfoldable pub change_at : List Code → Story → Word → List ℕ → List Word → Result (Story × List Word) VcdFault
change_at known story word [] words = Err (BadWord word.at)
change_at known story word (first ∷ rest) words =
    if first == 35 then (timed story word rest >>= λ after. Ok (after, words))
    else if is_value first && has_bytes rest then (changed known story word.at (first ∷ []) (word.at + 1) rest >>= λ after. Ok (after, words))
    else if is_vector first && are_digits rest then vector_at known story word.at rest words
    else if is_passed first then (word_at words >>= λ code. Ok (story, code.1))
    else if is_keyword (codes "$comment") word then (behind_end words >>= λ behind. Ok (story, behind))
    else if is_dump word then Ok (story, words)
    else Err (BadWord word.at)
