-- What is first in a text is one thing, and stays the first when more comes.
use Rattle.std.proofs.Common.{◌≡◌, ℕ, ◌<◌, ◌≤◌, Bool, true, false, List, [], ◌∷◌, ◌++◌, length, refl, sym, ap, ap₂, ◌∙◌, subst, append_assoc, append-nil, length-append, arith, inl, inr, ⊎_elim}
use Rattle.std.specs.List.{flat_map}
use Rattle.httparse.specs.Grammar.{LineEnd, crlf, lf, Field, print_end, print_field, print_section}
use Rattle.httparse.proofs.GrammarLemmas.{ReadsSection-append}
use Rattle.dap_link.specs.Frames.{IsHead, HasHead, TellsLength, IsFrame, IsMessage, IsBadHead, IsBadLength, IsTooLong, IsBadBody, IsCutShort, IsFault, IsAwaited, IsUnfinished, Frames, none, some, is_message_text}
use Rattle.dap_link.specs.Laws.{message, fault, awaited, FirstIsOne, MoreIsBehind, Taken, over, piece, whole_of, PiecesAreOneText}
use Rattle.dap_link.proofs.Lines.{split}
use Rattle.dap_link.proofs.Apart.{one_length, told_once_only}

-- ---- one frame

one_split : (a b c d : List ℕ) → a ++ b ≡ c ++ d → length a ≡ length c → (a ≡ c) × (b ≡ d)
one_split [] b [] d e l = (refl, e)
one_split [] b (x ∷ c) d e l = absurd (omega (arith, l))
one_split (x ∷ a) b [] d e l = absurd (omega (arith, l))
one_split (x ∷ a) b (y ∷ c) d e l =
    let rest : a ++ b ≡ c ++ d = cc in
    let it = one_split a b c d rest (omega (arith, l)) in
    let same : x ≡ y = cc in
    (ap₂ (λ u v. u ∷ v) same it.0, it.1)

pub one_frame : (text body rest other beyond : List ℕ) → IsFrame text body rest → IsFrame text other beyond → (body ≡ other) × (rest ≡ beyond)
one_frame text body rest other beyond a b =
    let same = one_length text (length body) (length other) a.behind b.behind a.head b.head in
    one_split body rest other beyond (sym a.split ∙ same.1 ∙ b.split) same.0

-- ---- a frame, the faults of a head, and none of them

no_bad_head : (text body rest : List ℕ) → IsFrame text body rest → IsBadHead text → ⊥
no_bad_head text body rest f bad = bad.none f.head.fields f.behind f.head.head

no_bad_length : (text body rest : List ℕ) → IsFrame text body rest → IsBadLength text → ⊥
no_bad_length text body rest f bad = told_once_only text (length body) f.behind f.head bad

not_too_long : (text body rest : List ℕ) → IsFrame text body rest → IsTooLong text → ⊥
not_too_long text body rest f long =
    let same = one_length text (length body) long.size f.behind long.behind f.head long.head in
    let n = same.0 in
    let most = f.fits in
    let more = long.long in
    omega (arith, n, most, more)

-- a fault of a number other than that of a bad body is no frame's
no_frame : (text body rest : List ℕ) (ended : Bool) (k : ℕ) → IsFrame text body rest → IsFault text ended k → (k ≡ 5) × IsBadBody text
no_frame text body rest ended k f (inl (e, bad)) = absurd (no_bad_head text body rest f bad)
no_frame text body rest ended k f (inr (inl (e, bad))) = absurd (no_bad_length text body rest f bad)
no_frame text body rest ended k f (inr (inr (inl (e, bad)))) = absurd (not_too_long text body rest f bad)
no_frame text body rest ended k f (inr (inr (inr (inl (e, cut))))) = absurd (cut.unfinished.frame body rest f)
no_frame text body rest ended k f (inr (inr (inr (inr (e, bad))))) = (e, bad)

-- where nothing is finished, the only fault is that the text ends
no_fault : (text : List ℕ) (ended : Bool) (k : ℕ) → IsUnfinished text → IsFault text ended k → (k ≡ 4) × IsCutShort text ended
no_fault text ended k u (inl (e, bad)) = absurd (u.head bad)
no_fault text ended k u (inr (inl (e, bad))) = absurd (u.number bad)
no_fault text ended k u (inr (inr (inl (e, bad)))) = absurd (u.long bad)
no_fault text ended k u (inr (inr (inr (inl (e, cut))))) = (e, cut)
no_fault text ended k u (inr (inr (inr (inr (e, bad))))) = absurd (u.frame bad.body bad.rest bad.frame)

one_fault : (text : List ℕ) (ended : Bool) (k m : ℕ) → IsFault text ended k → IsFault text ended m → k ≡ m
one_fault text ended k m (inl (e, a)) (inl (f, b)) = e ∙ sym f
one_fault text ended k m (inl (e, a)) (inr (inl (f, b))) = absurd (a.none b.fields b.behind b.head)
one_fault text ended k m (inl (e, a)) (inr (inr (inl (f, b)))) = absurd (a.none b.head.fields b.behind b.head.head)
one_fault text ended k m (inl (e, a)) (inr (inr (inr (inl (f, b))))) = absurd (b.unfinished.head a)
one_fault text ended k m (inl (e, a)) (inr (inr (inr (inr (f, b))))) = absurd (no_bad_head text b.body b.rest b.frame a)
one_fault text ended k m (inr (inl (e, a))) (inl (f, b)) = absurd (b.none a.fields a.behind a.head)
one_fault text ended k m (inr (inl (e, a))) (inr (inl (f, b))) = e ∙ sym f
one_fault text ended k m (inr (inl (e, a))) (inr (inr (inl (f, b)))) = absurd (told_once_only text b.size b.behind b.head a)
one_fault text ended k m (inr (inl (e, a))) (inr (inr (inr (inl (f, b))))) = absurd (b.unfinished.number a)
one_fault text ended k m (inr (inl (e, a))) (inr (inr (inr (inr (f, b))))) = absurd (no_bad_length text b.body b.rest b.frame a)
one_fault text ended k m (inr (inr (inl (e, a)))) (inl (f, b)) = absurd (b.none a.head.fields a.behind a.head.head)
one_fault text ended k m (inr (inr (inl (e, a)))) (inr (inl (f, b))) = absurd (told_once_only text a.size a.behind a.head b)
one_fault text ended k m (inr (inr (inl (e, a)))) (inr (inr (inl (f, b)))) = e ∙ sym f
one_fault text ended k m (inr (inr (inl (e, a)))) (inr (inr (inr (inl (f, b))))) = absurd (b.unfinished.long a)
one_fault text ended k m (inr (inr (inl (e, a)))) (inr (inr (inr (inr (f, b))))) = absurd (not_too_long text b.body b.rest b.frame a)
one_fault text ended k m (inr (inr (inr (inl (e, a))))) other = e ∙ sym (no_fault text ended m a.unfinished other).0
one_fault text ended k m (inr (inr (inr (inr (e, a))))) other = e ∙ sym (no_frame text a.body a.rest ended m a.frame other).0

no_message_fault : (text body rest : List ℕ) (ended : Bool) (k : ℕ) → IsMessage text body rest → IsFault text ended k → ⊥
no_message_fault text body rest ended k m f =
    let bad = (no_frame text body rest ended k m.frame f).1 in
    let same = one_frame text body rest bad.body bad.rest m.frame bad.frame in
    let apart : true ≡ false = sym m.good ∙ ap is_message_text same.0 ∙ bad.bad in
    cc

no_fault_awaited : (text : List ℕ) (ended : Bool) (k : ℕ) → IsFault text ended k → IsAwaited text ended → ⊥
no_fault_awaited text ended k f w =
    let cut = (no_fault text ended k w.unfinished f).1 in
    let none_left = ap length (w.between cut.over) in
    let some_left = cut.some in
    omega (arith, none_left, some_left)

pub first_is_one : FirstIsOne
first_is_one text ended (message body rest) (message other beyond) a b = let same = one_frame text body rest other beyond a.frame b.frame in ap₂ (λ u v. message u v) same.0 same.1
first_is_one text ended (message body rest) (fault k) a b = absurd (no_message_fault text body rest ended k a b)
first_is_one text ended (message body rest) awaited a b = absurd (b.unfinished.frame body rest a.frame)
first_is_one text ended (fault k) (message body rest) a b = absurd (no_message_fault text body rest ended k b a)
first_is_one text ended (fault k) (fault m) a b = ap (λ n. fault n) (one_fault text ended k m a b)
first_is_one text ended (fault k) awaited a b = absurd (no_fault_awaited text ended k a b)
first_is_one text ended awaited (message body rest) a b = absurd (a.unfinished.frame body rest b.frame)
first_is_one text ended awaited (fault k) a b = absurd (no_fault_awaited text ended k b a)
first_is_one text ended awaited awaited a b = refl

-- ---- more bytes

more_head : (text more : List ℕ) (fields : List Field) (behind : List ℕ) → HasHead text fields behind → HasHead (text ++ more) fields (behind ++ more)
more_head text more fields behind h = record {
  head = record { last = h.head.last; reads = ReadsSection-append text fields h.head.last behind more h.head.reads; few = h.head.few };
  short = let a = length-append text more in let b = length-append behind more in let s = h.short in omega (arith, a, b, s);
}

more_length : (text more : List ℕ) (n : ℕ) (behind : List ℕ) → TellsLength text n behind → TellsLength (text ++ more) n (behind ++ more)
more_length text more n behind t = record { fields = t.fields; head = more_head text more t.fields behind t.head; digits = t.digits; one = t.one; number = t.number }

more_frame : (text body rest more : List ℕ) → IsFrame text body rest → IsFrame (text ++ more) body (rest ++ more)
more_frame text body rest more f = record {
  behind = f.behind ++ more;
  head = more_length text more (length body) f.behind f.head;
  fits = f.fits;
  split = ap (λ x. x ++ more) f.split ∙ append_assoc body rest more;
}

-- a short head of a text of so many bytes with more behind it is one of that text
less_head : (text more : List ℕ) (fields : List Field) (behind : List ℕ) → 4096 ≤ length text → HasHead (text ++ more) fields behind → (before : List ℕ) × HasHead text fields before
less_head text more fields behind long h =
    let printed = print_section fields h.head.last in
    let all = ap length h.head.reads.1 ∙ length-append printed behind in
    let short = h.short in
    let within : length printed ≤ length text = omega (arith, all, short, long) in
    let it = split printed behind text more (sym h.head.reads.1) within in
    let sizes = ap length it.1 ∙ length-append printed it.0 in
    (it.0, record { head = record { last = h.head.last; reads = (h.head.reads.0, it.1); few = h.head.few }; short = omega (arith, all, short, sizes) })

more_bad_head : (text more : List ℕ) → IsBadHead text → IsBadHead (text ++ more)
more_bad_head text more bad = record {
  none = λ fields behind h. ⊎_elim
      (λ (long : 4096 ≤ length text). let it = less_head text more fields behind long h in bad.none fields it.0 it.1)
      (λ (no : (more : List ℕ) (fields : List Field) (behind : List ℕ) → IsHead (text ++ more) fields behind → ⊥). no more fields behind h.head)
      bad.never;
  never = ⊎_elim
      (λ (long : 4096 ≤ length text). inl (let l = length-append text more in omega (arith, long, l)))
      (λ (no : (more : List ℕ) (fields : List Field) (behind : List ℕ) → IsHead (text ++ more) fields behind → ⊥).
      inr (λ further fields behind h. no (more ++ further) fields behind (subst (λ x. IsHead x fields behind) (append_assoc text more further) h)))
      bad.never;
}

more_fault : (text more : List ℕ) (k : ℕ) (ended : Bool) → IsFault text false k → IsFault (text ++ more) ended k
more_fault text more k ended (inl (e, bad)) = inl (e, more_bad_head text more bad)
more_fault text more k ended (inr (inl (e, bad))) = inr (inl (e, record { fields = bad.fields; behind = bad.behind ++ more; head = more_head text more bad.fields bad.behind bad.head; other = bad.other }))
more_fault text more k ended (inr (inr (inl (e, bad)))) = inr (inr (inl (e, record { size = bad.size; behind = bad.behind ++ more; head = more_length text more bad.size bad.behind bad.head; long = bad.long })))
more_fault text more k ended (inr (inr (inr (inl (e, cut))))) = absurd (let apart : false ≡ true = cut.over in cc)
more_fault text more k ended (inr (inr (inr (inr (e, bad))))) = inr (inr (inr (inr (e, record { body = bad.body; rest = bad.rest ++ more; frame = more_frame text bad.body bad.rest more bad.frame; bad = bad.bad }))))

pub more_message : (text body rest more : List ℕ) → IsMessage text body rest → IsMessage (text ++ more) body (rest ++ more)
more_message text body rest more m = record { frame = more_frame text body rest more m.frame; good = m.good }

pub more_is_behind : MoreIsBehind
more_is_behind = record { message = more_message; fault = more_fault }

-- ---- pieces

IsBare : List ℕ → Type 0
IsBare text = (body rest : List ℕ) → IsMessage text body rest → ⊥

bare_end : (text : List ℕ) (bodies : List (List ℕ)) (left : List ℕ) → Frames text bodies left → IsBare left
unfolding IsBare
bare_end text bodies left (none bare) = bare
bare_end text bodies left (some {rest = rest} {bodies = more} m frames) = bare_end rest more left frames

on_with : (text rest left : List ℕ) (bodies more : List (List ℕ)) (next : List ℕ) → Frames text bodies next → Frames (next ++ rest) more left → Frames (text ++ rest) (bodies ++ more) left
on_with text rest left bodies more next (none bare) frames = frames
on_with text rest left bodies more next (some {body = body} {rest = behind} {bodies = others} m first) frames = some (more_message text body behind rest m) (on_with behind rest left others more next first frames)

from_held : (held : List ℕ) (pieces bodies : List (List ℕ)) (left : List ℕ) → IsBare held → Taken held pieces bodies left → Frames (held ++ whole_of pieces) bodies left
unfolding IsBare
from_held held pieces bodies left bare over = subst (λ x. Frames x [] held) (sym (append-nil held)) (none bare)
from_held held pieces bodies left bare (piece {next = next} {first = first} {pieces = others} {bodies = here} {more = more} frames taken) =
    let rest = from_held next others more left (bare_end (held ++ first) here next frames) taken in
    subst (λ x. Frames x (here ++ more) left) (append_assoc held first (whole_of others)) (on_with (held ++ first) (whole_of others) left here more next frames rest)

end_is_long : (end : LineEnd) → 0 < length (print_end end)
end_is_long crlf = omega arith
end_is_long lf = omega arith

bare_empty : IsBare []
unfolding IsBare
bare_empty body rest m =
    let h = m.frame.head.head.head in
    let fields = m.frame.head.fields in
    let whole = ap length h.reads.1 ∙ length-append (print_section fields h.last) m.frame.behind in
    let printed = length-append (flat_map print_field fields) (print_end h.last) in
    let long = end_is_long h.last in
    omega (arith, whole, printed, long)

pub pieces_are_one_text : PiecesAreOneText
pieces_are_one_text pieces bodies left taken = from_held [] pieces bodies left bare_empty taken
