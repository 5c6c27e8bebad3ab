-- A text has one reading or one fault.
use Rattle.std.proofs.Common.{◌≡◌, ◌≢◌, ◌≤◌, ◌<◌, ◌-◌, ℕ, zero, suc, ◌+◌, true, false, not, List, [], ◌∷◌, ◌++◌, length, get_or, drop, drop_at, length-append, Some, None, is_none, Result, Ok, Err, IfOk, IfErr, refl, sym, ap, subst, ◌∙◌, arith, inl, inr}
use Rattle.std.specs.List.{list_all, position, position_from}
use Rattle.std.proofs.lemmas.Iterator.Adapters.{position_from-zero}
use Rattle.places.specs.Places.{place}
use Rattle.gen_token.specs.Bytes.{is_text_byte}
use Rattle.gen_token.specs.Tokens as tokens
use Rattle.gen_token.specs.Tokens.{skip, AreTokensIn, IsBadIn}
use Rattle.gen_token.specs.declared.TokenFault.{TokenFault}
use Rattle.gen_token.specs.declared.TokenFault.TheVariants as token_faults
use Rattle.gen_token.specs.Words.{Tok, placed}
use Rattle.gen_token.specs.declared.Placed as code
use Rattle.gen_token.proofs.OneList.{same}
use Rattle.gen_tree.specs.Brackets.{Within}
use Rattle.gen_tree.specs.Grammar.{Spells}
use Rattle.gen_tree.specs.Places.{IsSource, FaultAt, FaultOn, line_of}
use Rattle.gen_tree.specs.Tree.{Source}
use Rattle.gen_text.specs.declared.fault.TextFault.{TextFault}
use Rattle.gen_text.specs.declared.fault.TextFault.TheVariants as faults
use Rattle.gen_text.specs.declared.fault.ReadFault.{ReadFault}
use Rattle.gen_text.specs.declared.fault.ReadFault.TheVariants as read_faults
use Rattle.gen_text.specs.Faults.{Fails, text_fault_of}
use Rattle.gen_text.specs.Source.{IsSourceText, Reads, end_line, IsBadSyntax, IsCause, IsRead, IsReadCause, HasOneAnswer}
use Rattle.gen_text.proofs.WordsRead.{test}
use Rattle.gen_text.proofs.Loops.{placed_length}
use Rattle.gen_text.proofs.Law as law

-- ---- the tokens of a text in a file

pub one_list : (file : ℕ) (text : List ℕ) (first second : List Tok) → AreTokensIn file text first → AreTokensIn file text second → first ≡ second
one_list file text first second a b = (same (skip false (place file 1) text) first second None None a b).0

not_bad : (file : ℕ) (text : List ℕ) (tokens : List Tok) (line : ℕ) → AreTokensIn file text tokens → IsBadIn file text line → ⊥
not_bad file text tokens line a b = let e = (same (skip false (place file 1) text) b.0 tokens (Some line) None b.1 a).1 in cc

one_bad : (file : ℕ) (text : List ℕ) (line other : ℕ) → IsBadIn file text line → IsBadIn file text other → line ≡ other
one_bad file text line other a b = let e : Some line ≡ Some other = (same (skip false (place file 1) text) a.0 b.0 (Some line) (Some other) a.1 b.1).1 in cc

-- ---- other bytes

none_from : (n : ℕ) (text : List ℕ) → is_none (position_from (λ byte. not (is_text_byte byte)) n text) ≡ list_all is_text_byte text
none_from n [] = refl
none_from n (byte ∷ text) = elim (test (is_text_byte byte)) [
  | inl e ↦ rw e (none_from (n + 1) text)
  | inr e ↦ rw e refl
]

-- no other byte stands in a text of text bytes, and in no other text
pub all_text : (text : List ℕ) → is_none (position (λ byte. not (is_text_byte byte)) text) ≡ list_all is_text_byte text
all_text text = ap is_none (position_from-zero (λ byte. not (is_text_byte byte)) text) ∙ none_from 0 text

pub source_text : (text : List ℕ) → length text ≤ 1048576 → None ≡ position (λ byte. not (is_text_byte byte)) text → IsSourceText text
source_text text fits none = record { fits = fits; bytes = sym (all_text text) ∙ ap is_none (sym none) }

not_other : (text : List ℕ) (offset : ℕ) → IsSourceText text → position (λ byte. not (is_text_byte byte)) text ≡ Some offset → ⊥
not_other text offset s e = let both : is_none (Some offset) ≡ true = ap is_none (sym e) ∙ all_text text ∙ s.bytes in cc

-- ---- one answer

pub one_reading : (file : ℕ) (text : List ℕ) (first second : Source) → Reads file text first → Reads file text second → first ≡ second
one_reading file text first second a b = law.one_tree first second a.tokens a.spelled (subst (λ (ts : List Tok). Spells second ts) (one_list file text b.tokens a.tokens b.are a.are) b.spelled)

whole_fault : (tokens : List Tok) (source : Source) (left : ℕ) → Spells source tokens → Within 64 tokens → FaultAt IsSource 64 tokens left → ⊥
whole_fault tokens source left s w f = law.not_whole 64 tokens source left s w f

pub no_fault : (file : ℕ) (text : List ℕ) (source : Source) (fault : TextFault) → Reads file text source → IsCause file text fault → fault ≡ faults.NoMemory
no_fault file text source faults.TooLong r c = absurd (let fits = r.is_text.fits in omega arith)
no_fault file text source (faults.NotAscii offset) r c = absurd (not_other text offset r.is_text c.1)
no_fault file text source (faults.BadToken line) r c = absurd (not_bad file text r.tokens line r.are c.1)
no_fault file text source (faults.Syntax line) r c =
    absurd (whole_fault c.tokens source c.fault.left (subst (λ (ts : List Tok). Spells source ts) (one_list file text r.tokens c.tokens r.are c.are) r.spelled) (subst (λ (ts : List Tok). Within 64 ts) (one_list file text r.tokens c.tokens r.are c.are) r.within) c.fault.at)
no_fault file text source faults.NoMemory r c = refl

-- two lines of the place of one fault are equal
one_line : (tokens : List Tok) (end line other : ℕ) → FaultOn IsSource 64 tokens end line → FaultOn IsSource 64 tokens end other → line ≡ other
one_line tokens end line other f g =
    let left : f.left ≡ g.left = law.one_fault IsSource 64 tokens f.left g.left f.at g.at in
    let bad : f.at.bad ≡ g.at.bad = same_end f.at.good f.at.bad g.at.good g.at.bad (sym f.at.parts ∙ g.at.parts) (f.at.count ∙ left ∙ sym g.at.count) in
    sym f.line_is ∙ ap (line_of end) bad ∙ g.line_is
  where
    drop_front : (a b : List Tok) → drop (length a) (a ++ b) ≡ b
    drop_front a b = drop_at a b (length a) refl

    same_end : (a b c d : List Tok) → a ++ b ≡ c ++ d → length b ≡ length d → b ≡ d
    same_end a b c d e l =
        let front : length a ≡ length c = omega (arith, l, simp length-append at (ap length e)) in
        sym (drop_front a b) ∙ ap (drop (length a)) e ∙ ap (λ (n : ℕ). drop n (c ++ d)) front ∙ drop_front c d

one_syntax : (file : ℕ) (text : List ℕ) (line other : ℕ) → IsBadSyntax file text line → IsBadSyntax file text other → line ≡ other
one_syntax file text line other a b = one_line a.tokens (end_line file text) line other a.fault (subst (λ (ts : List Tok). FaultOn IsSource 64 ts (end_line file text) other) (one_list file text b.tokens a.tokens b.are a.are) b.fault)

pub one_fault : (file : ℕ) (text : List ℕ) (first second : TextFault) → IsCause file text first → IsCause file text second → first ≢ faults.NoMemory → second ≢ faults.NoMemory → first ≡ second
one_fault file text faults.TooLong faults.TooLong a b n k = refl
one_fault file text faults.TooLong (faults.NotAscii offset) a b n k = absurd (let fits = b.0 in omega arith)
one_fault file text faults.TooLong (faults.BadToken line) a b n k = absurd (let fits = b.0.fits in omega arith)
one_fault file text faults.TooLong (faults.Syntax line) a b n k = absurd (let fits = b.is_text.fits in omega arith)
one_fault file text (faults.NotAscii offset) faults.TooLong a b n k = absurd (let fits = a.0 in omega arith)
one_fault file text (faults.NotAscii offset) (faults.NotAscii other) a b n k = let e : Some offset ≡ Some other = sym a.1 ∙ b.1 in let is : offset ≡ other = cc in ap faults.NotAscii is
one_fault file text (faults.NotAscii offset) (faults.BadToken line) a b n k = absurd (not_other text offset b.0 a.1)
one_fault file text (faults.NotAscii offset) (faults.Syntax line) a b n k = absurd (not_other text offset b.is_text a.1)
one_fault file text (faults.BadToken line) faults.TooLong a b n k = absurd (let fits = a.0.fits in omega arith)
one_fault file text (faults.BadToken line) (faults.NotAscii offset) a b n k = absurd (not_other text offset a.0 b.1)
one_fault file text (faults.BadToken line) (faults.BadToken other) a b n k = ap faults.BadToken (one_bad file text line other a.1 b.1)
one_fault file text (faults.BadToken line) (faults.Syntax other) a b n k = absurd (not_bad file text b.tokens line b.are a.1)
one_fault file text (faults.Syntax line) faults.TooLong a b n k = absurd (let fits = a.is_text.fits in omega arith)
one_fault file text (faults.Syntax line) (faults.NotAscii offset) a b n k = absurd (not_other text offset a.is_text b.1)
one_fault file text (faults.Syntax line) (faults.BadToken other) a b n k = absurd (not_bad file text a.tokens other a.are b.1)
one_fault file text (faults.Syntax line) (faults.Syntax other) a b n k = ap faults.Syntax (one_syntax file text line other a b)
one_fault file text faults.NoMemory second a b n k = absurd (n refl)
one_fault file text first faults.NoMemory a b n k = absurd (k refl)

pub one_answer : (file : ℕ) (text : List ℕ) → HasOneAnswer file text
one_answer file text = record { one_reading = one_reading file text; no_fault = no_fault file text; one_fault = one_fault file text }

-- ---- the line of the fault

pub item_line : (ts : List code.Placed) (k : ℕ) (d : code.Placed) (end : ℕ) → k < length ts → (get_or ts k d).line ≡ line_of end (drop k (placed ts))
item_line [] k d end lt = absurd (omega arith)
item_line (t ∷ ts) zero d end lt = refl
item_line (t ∷ ts) (suc k) d end lt = item_line ts k d end (omega arith)

pub fault_fits : (room : ℕ) (ts : List code.Placed) (left : ℕ) → FaultAt IsSource room (placed ts) left → left ≤ length ts
fault_fits room ts left f = omega (arith, f.count, placed_length ts, simp length-append at (ap length f.parts))

pub fault_on : (room : ℕ) (ts : List code.Placed) (left end line : ℕ) → FaultAt IsSource room (placed ts) left → line_of end (drop (length ts - left) (placed ts)) ≡ line → FaultOn IsSource room (placed ts) end line
fault_on room ts left end line f h =
    let good_length : length f.good ≡ length ts - left = omega (arith, f.count, placed_length ts, simp length-append at (ap length f.parts)) in
    let rest : drop (length ts - left) (placed ts) ≡ f.bad = ap (drop (length ts - left)) f.parts ∙ drop_at f.good f.bad (length ts - left) good_length in
    record { left = left; at = f; line_is = ap (line_of end) (sym rest) ∙ h }

-- ---- what the reader of a text answers

pub token_cause : (file : ℕ) (text : List ℕ) (fault : TokenFault) → IsSourceText text → tokens.IsCause file text fault → IsCause file text (text_fault_of fault)
token_cause file text (token_faults.BadToken line) s c = (s, c)
token_cause file text token_faults.NoMemory s c = tt

pub read_cause : (file : ℕ) (text : List ℕ) (ts : List Tok) (fault : TextFault) → IsSourceText text → AreTokensIn file text ts → IsReadCause ts (end_line file text) fault → IsCause file text fault
read_cause file text ts faults.TooLong s a c = absurd c
read_cause file text ts (faults.NotAscii offset) s a c = absurd c
read_cause file text ts (faults.BadToken line) s a c = absurd c
read_cause file text ts (faults.Syntax line) s a c = record { is_text = s; tokens = ts; are = a; fault = c }
read_cause file text ts faults.NoMemory s a c = tt

pub refused_so : {X : Type 0} (file : ℕ) (text : List ℕ) (ts : List Tok) (o : Result X TextFault) → IsSourceText text → AreTokensIn file text ts → IfErr o (IsReadCause ts (end_line file text)) → IfErr o (IsCause file text)
refused_so file text ts (Ok x) s a c = tt
refused_so file text ts (Err fault) s a c = read_cause file text ts fault s a c

pub found_so : {X : Type 0} (view : X → Source) (file : ℕ) (text : List ℕ) (ts : List Tok) (o : Result X TextFault) → IsSourceText text → AreTokensIn file text ts → IfOk o (λ x. IsRead ts (view x)) → IfOk o (λ x. Reads file text (view x))
found_so view file text ts (Ok x) s a h = record { is_text = s; tokens = ts; are = a; spelled = h.0; within = h.1 }
found_so view file text ts (Err fault) s a h = tt

-- where the reader of tokens stops
pub stops_at : {Y : Type 0} (fault : ReadFault) (left : ℕ) (o : Result Y ℕ) → fault ≡ read_faults.At left → Fails fault o → o ≡ Err left
stops_at fault left o e h = subst (λ (f : ReadFault). Fails f o) e h
