-- A text has at most one head, and that tells at most one length; so what is first in a text is one thing.
use Rattle.std.proofs.Common.{◌≡◌, ℕ, ◌<◌, ◌-◌, List, [], ◌∷◌, length, drop, sym, ap, ◌∙◌, length-append, arith}
use Rattle.std.proofs.lemmas.List.{length-drop}
use Rattle.text_core.specs.Digits.{number_of}
use Rattle.httparse.specs.Grammar.{Field}
use Rattle.httparse.proofs.GrammarLemmas.{section_unique}
use Rattle.dap_link.specs.Frames.{HasHead, TellsLength, lengths_in, IsBadLength, IsUnfinished}
use Rattle.dap_link.specs.Heads.{IsHeadless, IsBodyAt}

pub one_head : (text : List ℕ) (fields others : List Field) (behind beyond : List ℕ) → HasHead text fields behind → HasHead text others beyond → (fields ≡ others) × (behind ≡ beyond)
one_head text fields others behind beyond a b =
    let same = section_unique text fields others a.head.last b.head.last behind beyond a.head.reads b.head.reads in
    (same.0, same.2)

one_digits : (a b : List ℕ) → a ∷ [] ≡ b ∷ [] → a ≡ b
one_digits a b e = cc

pub one_length : (text : List ℕ) (n m : ℕ) (behind beyond : List ℕ) → TellsLength text n behind → TellsLength text m beyond → (n ≡ m) × (behind ≡ beyond)
one_length text n m behind beyond a b =
    let same = one_head text a.fields b.fields behind beyond a.head b.head in
    let digits = one_digits a.digits b.digits (sym a.one ∙ ap lengths_in same.0 ∙ b.one) in
    (a.number ∙ ap (number_of 10) digits ∙ sym b.number, same.1)

-- a head that tells a length is not one that does not
pub told_once_only : (text : List ℕ) (n : ℕ) (behind : List ℕ) → TellsLength text n behind → IsBadLength text → ⊥
told_once_only text n behind a b = let same = one_head text a.fields b.fields behind b.behind a.head b.head in b.other a.digits (ap lengths_in (sym same.0) ∙ a.one)

pub no_head_yet : (text : List ℕ) → IsHeadless text → IsUnfinished text
no_head_yet text h = record {
  frame = λ body rest f. h.none f.head.fields f.behind f.head.head;
  head = h.more;
  number = λ n. h.none n.fields n.behind n.head;
  long = λ l. h.none l.head.fields l.behind l.head.head;
}

pub body_to_come : (text : List ℕ) (at len : ℕ) → IsBodyAt text at len → length text - at < len → IsUnfinished text
body_to_come text at len b short = record {
  frame = λ body rest f.
      let same = one_length text len (length body) (drop at text) f.behind b.head f.head in
      let long = ap length (same.1 ∙ f.split) ∙ length-append body rest in
      let left = length-drop at text in
      let n = same.0 in
      omega (arith, long, left, n, short);
  head = λ bad. bad.none b.head.fields (drop at text) b.head.head;
  number = λ n. told_once_only text len (drop at text) b.head n;
  long = λ l.
      let same = one_length text len l.size (drop at text) l.behind b.head l.head in
      let n = same.0 in
      let most = b.fits in
      let more = l.long in
      omega (arith, n, most, more);
}
