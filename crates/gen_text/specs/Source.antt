-- How a text is read as a source, and why it is not.
use Rattle.std.specs.Prelude.{◌≡◌, ◌≢◌, ◌≤◌, ◌<◌, ◌+◌, ◌==◌, ℕ, true, not, List, length, position, Some}
use Rattle.std.specs.List.{list_all, count_by}
use Rattle.gen_token.specs.Bytes.{is_text_byte}
use Rattle.places.specs.Places.{place}
use Rattle.gen_token.specs.Tokens.{AreTokensIn, IsBadIn}
use Rattle.gen_token.specs.Words.{Tok}
use Rattle.gen_tree.specs.Brackets.{Within}
use Rattle.gen_tree.specs.Grammar.{Spells}
use Rattle.gen_tree.specs.Places.{IsSource, FaultOn}
use Rattle.gen_tree.specs.Tree.{Source}
use Rattle.gen_text.specs.declared.fault.TextFault.{TextFault}
use Rattle.gen_text.specs.declared.fault.TextFault.TheVariants as faults

-- a text that may be a source: at most 1 MiB, all of its bytes 9, 10, 13 or 32 to 126
pub record IsSourceText (text : List ℕ) : Type 0 where
  pub fits : length text ≤ 1048576
  pub bytes : list_all is_text_byte text ≡ true

-- the text is read as this source in the file of this number: its tokens, at their places in that file, are what the source spells,
-- and at most 64 brackets are open at once
pub record Reads (file : ℕ) (text : List ℕ) (source : Source) : Type 0 where
  pub is_text : IsSourceText text
  pub tokens : List Tok
  pub are : AreTokensIn file text tokens
  pub spelled : Spells source tokens
  pub within : Within 64 tokens

-- tokens are read as this source
abbrev pub IsRead : List Tok → Source → Type 0
IsRead tokens source = Spells source tokens × Within 64 tokens

-- tokens are the cause of this fault, where the text ends at this place
abbrev pub IsReadCause : List Tok → ℕ → TextFault → Type 0
IsReadCause tokens end faults.TooLong = ⊥
IsReadCause tokens end (faults.NotAscii offset) = ⊥
IsReadCause tokens end (faults.BadToken line) = ⊥
IsReadCause tokens end (faults.Syntax line) = FaultOn IsSource 64 tokens end line
IsReadCause tokens end faults.NoMemory = Unit {0}

-- the place of the end of a file's text: that of its last line
abbrev pub end_line : ℕ → List ℕ → ℕ
end_line file text = place file 1 + count_by (λ byte. byte == 10) text

-- the text's tokens in this file are no source, and this is the place from which on they are none
pub record IsBadSyntax (file : ℕ) (text : List ℕ) (line : ℕ) : Type 0 where
  pub is_text : IsSourceText text
  pub tokens : List Tok
  pub are : AreTokensIn file text tokens
  pub fault : FaultOn IsSource 64 tokens (end_line file text) line

-- the text of a file is the cause of this fault; want of memory has no cause
abbrev pub IsCause : ℕ → List ℕ → TextFault → Type 0
IsCause file text faults.TooLong = 1048576 < length text
IsCause file text (faults.NotAscii offset) =
    (length text ≤ 1048576) × (position (λ byte. not (is_text_byte byte)) text ≡ Some offset)
IsCause file text (faults.BadToken line) = IsSourceText text × IsBadIn file text line
IsCause file text (faults.Syntax line) = IsBadSyntax file text line
IsCause file text faults.NoMemory = Unit {0}

-- in a file a text is read as one source at most; where it is read it has no fault but want of memory; and it has one other fault at
-- most
pub record HasOneAnswer (file : ℕ) (text : List ℕ) : Type 0 where
  pub one_reading : (first second : Source) → Reads file text first → Reads file text second → first ≡ second
  pub no_fault : (source : Source) (fault : TextFault) → Reads file text source → IsCause file text fault → fault ≡ faults.NoMemory
  pub one_fault : (first second : TextFault) → IsCause file text first → IsCause file text second → first ≢ faults.NoMemory → second ≢ faults.NoMemory → first ≡ second
