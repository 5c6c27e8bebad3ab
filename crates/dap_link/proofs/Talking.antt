-- The conversation of a text: it grows message by message, more bytes behind the text change nothing, and it is one.
use Rattle.std.proofs.Common.{◌≡◌, ℕ, Bool, true, false, List, [], ◌∷◌, ◌++◌, refl, sym, ap, ◌∙◌, subst, append_assoc, append-nil, inl, inr}
use Rattle.world_core.specs.World.{World}
use Rattle.machine_core.specs.Reading.{Reader}
use Rattle.dap_link.specs.Frames.{IsMessage}
use Rattle.dap_link.specs.Laws.{whole_of}
use Rattle.dap_link.specs.Conversation.{Conversation, Spoken, spoken}
use Rattle.dap_link.specs.Talks.{Begins, started, onwards, IsOver, conversed, spoken_then, spoken_unless}
use Rattle.dap_link.specs.Answers.{ConversationIsOne}
use Rattle.dap_link.proofs.Firsts.{one_frame, more_message}

-- ---- messages in front of a text

-- more bytes behind the text
pub begins_fed : (text left more : List ℕ) (bodies : List (List ℕ)) → Begins text bodies left → Begins (text ++ more) bodies (left ++ more)
begins_fed text left more bodies started = started
begins_fed text left more bodies (onwards {body = body} {rest = rest} {bodies = others} m begins) =
    onwards (more_message text body rest more m) (begins_fed rest left more others begins)

-- one more message
pub begins_taken : (text left body rest : List ℕ) (bodies : List (List ℕ)) → Begins text bodies left → IsMessage left body rest → Begins text (bodies ++ body ∷ []) rest
begins_taken text left body rest bodies started m = onwards m started
begins_taken text left body rest bodies (onwards {rest = next} {bodies = others} first begins) m =
    onwards first (begins_taken next left body rest others begins m)

-- ---- one body after another

then_then : (b d : Bool) (s r q : Spoken) → s.ended ≡ b → r.ended ≡ d → spoken_unless b s (spoken_unless d r q) ≡ spoken_then (spoken_unless b s r) q
then_then true d s r q e f = sym (ap (λ b. spoken_unless b s q) e)
then_then false true s r q e f = sym (ap (λ b. spoken_unless b (record { lines = s.lines ++ r.lines; after = r.after; ended = r.ended }) q) f)
then_then false false s r q e f =
    ap (λ lines. (let t : Spoken = record { lines = lines; after = q.after; ended = q.ended } in t)) (sym (append_assoc s.lines r.lines q.lines))
    ∙ sym (ap (λ b. spoken_unless b (record { lines = s.lines ++ r.lines; after = r.after; ended = r.ended }) q) f)

more_then : (b : Bool) (s r : Spoken) (f : Conversation → Spoken) → s.ended ≡ b → spoken_unless b s (spoken_then r (f r.after)) ≡ spoken_then (spoken_unless b s r) (f (spoken_unless b s r).after)
more_then true s r f e = sym (ap (λ b. spoken_unless b s (f s.after)) e)
more_then false s r f e = then_then false r.ended s r (f r.after) e refl

then_nothing : (b : Bool) (s : Spoken) → s.ended ≡ b → spoken_unless b s (record { lines = []; after = s.after; ended = false }) ≡ s
then_nothing true s e = refl
then_nothing false s e = λ i. record { lines = append-nil s.lines i; after = s.after; ended = sym e i }

module _ (read : Reader) (w : World) (names : List (List ℕ)) where
  -- the others behind the first ones
  pub conversed_more : (c : Conversation) (bodies more : List (List ℕ))
      → conversed read w names c (bodies ++ more) ≡ spoken_then (conversed read w names c bodies) (conversed read w names (conversed read w names c bodies).after more)
  unfolding conversed
  conversed_more c [] more = refl
  conversed_more c (body ∷ bodies) more =
      let s = spoken read w names c body in
      let r = conversed read w names s.after bodies in
      ap (spoken_then s) (conversed_more s.after bodies more)
      ∙ more_then s.ended s r (λ d. conversed read w names d more) refl

  -- one more
  pub conversed_one : (c : Conversation) (body : List ℕ) → conversed read w names c (body ∷ []) ≡ spoken read w names c body
  unfolding conversed
  conversed_one c body = then_nothing (spoken read w names c body).ended (spoken read w names c body) refl

-- ---- one conversation

one_by_last : (b : Bool) (s r q : Spoken) (left over : List ℕ) → (IsOver r left → IsOver q over → r ≡ q) → IsOver (spoken_unless b s r) left → IsOver (spoken_unless b s q) over
    → spoken_unless b s r ≡ spoken_unless b s q
one_by_last true s r q left over rest x y = refl
one_by_last false s r q left over rest x y = ap (spoken_unless false s) (rest x y)

module _ (read : Reader) (w : World) (names : List (List ℕ)) where
  none_ended : (c : Conversation) (body rest text : List ℕ) → IsMessage text body rest → IsOver (conversed read w names c []) text → ⊥
  unfolding conversed
  none_ended c body rest text m (inl e) = absurd (let apart : false ≡ true = e in cc)
  none_ended c body rest text m (inr bare) = bare body rest m

  one_way : (c : Conversation) (text left over : List ℕ) (bodies others : List (List ℕ)) → Begins text bodies left → Begins text others over
      → IsOver (conversed read w names c bodies) left → IsOver (conversed read w names c others) over → conversed read w names c bodies ≡ conversed read w names c others
  unfolding conversed
  one_way c text left over bodies others started started x y = refl
  one_way c text left over bodies others started (onwards {body = body} {rest = rest} m begins) x y = absurd (none_ended c body rest text m x)
  one_way c text left over bodies others (onwards {body = body} {rest = rest} m begins) started x y = absurd (none_ended c body rest text m y)
  one_way c text left over bodies others (onwards {body = body} {rest = rest} {bodies = a} m begins) (onwards {body = other} {rest = beyond} {bodies = b} n begun) x y =
      let same = one_frame text body rest other beyond m.frame n.frame in
      let same_begins = subst (λ z. Begins z b over) (sym same.1) begun in
      let same_over = subst (λ z. IsOver (conversed read w names c (z ∷ b)) over) (sym same.0) y in
      let s = spoken read w names c body in
      one_by_last s.ended s (conversed read w names s.after a) (conversed read w names s.after b) left over
      (λ p q. one_way s.after rest left over a b begins same_begins p q) x same_over
      ∙ ap (λ z. conversed read w names c (z ∷ b)) same.0

pub one_conversation : ConversationIsOne
one_conversation read w names c text s t a b =
    a.said
    ∙ one_way read w names c text a.left b.left a.bodies b.bodies a.begins b.begins (subst (λ x. IsOver x a.left) a.said a.over) (subst (λ x. IsOver x b.left) b.said b.over)
    ∙ sym b.said

-- ---- its text

pub whole_more : (a b : List (List ℕ)) → whole_of (a ++ b) ≡ whole_of a ++ whole_of b
whole_more [] b = refl
whole_more (first ∷ a) b = ap (λ x. first ++ x) (whole_more a b) ∙ sym (append_assoc first (whole_of a) (whole_of b))
