-- What was written of a conversation, message by message.
use Rattle.std.proofs.Common.{◌≡◌, ℕ, Bool, true, false, List, [], ◌∷◌, ◌++◌, Option, None, Some, refl, sym, ap, ◌∙◌, subst, append-nil, inl, inr, map, flat_map, Vec, Global}
use Rattle.std.specs.Io.KnownBytes.{Consumes, IsAtEnd, Keeps}
use Rattle.world_core.specs.World.{World}
use Rattle.machine_core.specs.Reading.{Reader}
use Rattle.io_edge.specs.Taken.{Appends, AppendsFront, Grows}
use Rattle.io_edge.proofs.Growth.{grown_twice, front_after, front_from_whole}
use Rattle.io_edge.proofs.Stops.{grows_whole, grows_front}
use Rattle.dap_link.specs.Frames.{IsMessage, IsAwaited, IsFault}
use Rattle.dap_link.specs.Framing.{Framing}
use Rattle.dap_link.specs.Laws.{whole_of, fault, message, awaited}
use Rattle.dap_link.specs.Conversation.{Conversation, Spoken, spoken}
use Rattle.dap_link.specs.Talks.{conversed, conversed_text, spoken_then, spoken_unless, IsOver}
use Rattle.dap_link.proofs.Firsts.{first_is_one}
use Rattle.dap_link.proofs.Talking.{conversed_more, conversed_one, whole_more}
use Rattle.dap_run.specs.Talks.{Answers, Hears, HearsSome, WritesFront, Took, Stands, Finishes, Breaks, TalksTo, HasEnded, IsWhole, HasFault, Anything}
use Rattle.dap_run.specs.declared.ends.TalkEnd.{TalkEnd}
use Rattle.dap_run.specs.declared.ends.TalkEnd.TheVariants as ends
use Rattle.dap_run.proofs.Taking.{took_nothing, took_piece, took_message}

module _ (read : Reader) (w : World) (names : List (List ℕ)) (first : Conversation) where
  one_more : (bodies : List (List ℕ)) (body : List ℕ) → (conversed read w names first bodies).ended ≡ false
      → conversed read w names first (bodies ++ body ∷ [])
      ≡ spoken_unless false (conversed read w names first bodies) (spoken read w names (conversed read w names first bodies).after body)
  one_more bodies body going =
      let r = conversed read w names first bodies in
      conversed_more read w names first bodies (body ∷ []) ∙ ap (spoken_then r) (conversed_one read w names r.after body)
      ∙ ap (λ b. spoken_unless b r (spoken read w names r.after body)) going

  more_text : (bodies : List (List ℕ)) (body : List ℕ) → (conversed read w names first bodies).ended ≡ false
      → conversed_text read w names first (bodies ++ body ∷ [])
      ≡ conversed_text read w names first bodies ++ whole_of (spoken read w names (conversed read w names first bodies).after body).lines
  more_text bodies body going =
      let r = conversed read w names first bodies in
      ap (λ (s : Spoken). whole_of s.lines) (one_more bodies body going) ∙ whole_more r.lines (spoken read w names r.after body).lines

  module _ (left0 left : Option (List ℕ)) (now : Conversation) (held : List ℕ) (ended : Bool) (old new : Option (List ℕ)) (st : Stands read w names first now left0 left held ended old new) where
    -- ---- a message was answered

    module _ (body rest : List ℕ) (m : IsMessage held body rest) (after : Conversation) (last : Bool) (next : Option (List ℕ)) (a : Answers read w names now body after last new next) where
      abbrev r : Spoken
      r = conversed read w names first st.bodies

      abbrev all : List (List ℕ)
      all = st.bodies ++ body ∷ []

      whole : conversed read w names first all ≡ spoken_unless false r (spoken read w names now body)
      whole = one_more st.bodies body st.going ∙ ap (λ c. spoken_unless false r (spoken read w names c body)) (sym st.now_is)

      wrote : Appends old next (conversed_text read w names first all)
      wrote = subst (λ t. Appends old next t) (sym (more_text st.bodies body st.going))
          (grown_twice old new next (conversed_text read w names first st.bodies) (whole_of (spoken read w names r.after body).lines) st.written
          (subst (λ c. Appends new next (whole_of (spoken read w names c body).lines)) st.now_is a.written))

      pub stands_on : last ≡ false → Stands read w names first after left0 left rest ended old next
      stands_on going = record {
        bodies = all;
        took = took_message left0 left st.bodies held body rest st.took m;
        going = ap (λ (s : Spoken). s.ended) whole ∙ sym a.last_is ∙ going;
        now_is = a.after_is ∙ sym (ap (λ (s : Spoken). s.after) whole);
        written = wrote;
        at_end = st.at_end;
      }

      pub bye : last ≡ true → Finishes read w names first left0 left old next HasEnded
      bye over = let ended = ap (λ (s : Spoken). s.ended) whole ∙ sym a.last_is ∙ over in record {
        bodies = all;
        held = rest;
        took = took_message left0 left st.bodies held body rest st.took m;
        written = wrote;
        over = inl ended;
        so = ended;
      }

    pub broken : (body rest : List ℕ) (next : Option (List ℕ)) → IsMessage held body rest → WritesFront read w names now body new next → Breaks read w names first left0 left old next
    broken body rest next m f = record {
      bodies = st.bodies ++ body ∷ [];
      held = rest;
      took = took_message left0 left st.bodies held body rest st.took m;
      front = front_after old new next (conversed_text read w names first st.bodies) (whole_of (spoken read w names (conversed read w names first st.bodies).after body).lines) []
          (conversed_text read w names first (st.bodies ++ body ∷ []))
          (more_text st.bodies body st.going ∙ ap (λ t. conversed_text read w names first st.bodies ++ t) (sym (append-nil _))) st.written
          (subst (λ c. AppendsFront new next (whole_of (spoken read w names c body).lines)) st.now_is f);
    }

    -- ---- more was waited for

    pub no_memory : Breaks read w names first left0 left old new
    no_memory = record { bodies = st.bodies; held = held; took = st.took; front = front_from_whole old new (conversed_text read w names first st.bodies) [] (conversed_text read w names first st.bodies) (sym (append-nil _)) st.written }

    pub some_lost : (next : Option (List ℕ)) → HearsSome left next → Breaks read w names first left0 next old new
    some_lost next h = record {
      bodies = st.bodies;
      held = held ++ h.piece;
      took = took_piece left0 left next st.bodies held h.piece st.took h.input;
      front = front_from_whole old new (conversed_text read w names first st.bodies) [] (conversed_text read w names first st.bodies) (sym (append-nil _)) st.written;
    }

    pub finished : (next : Option (List ℕ)) (input : Consumes left next []) (IsSo : Spoken → List ℕ → Type 0) → IsSo (conversed read w names first st.bodies) held → IsOver (conversed read w names first st.bodies) held → Finishes read w names first left0 next old new IsSo
    finished next input IsSo so over = record {
      bodies = st.bodies;
      held = held;
      took = subst (λ h. Took left0 next st.bodies h) (append-nil held) (took_piece left0 left next st.bodies held [] st.took input);
      written = st.written;
      over = over;
      so = so;
    }

    -- a piece was heard
    pub heard_on : (next : Option (List ℕ)) (was is : Framing) (over : Bool) → was.held ≡ held → Hears left next was is over → Stands read w names first now left0 next is.held over old new
    heard_on next was is over e h = record {
      bodies = st.bodies;
      took = subst (λ t. Took left0 next st.bodies t) (ap (λ t. t ++ h.piece) (sym e) ∙ sym (ap (λ (f : Framing). f.held) h.held)) (took_piece left0 left next st.bodies held h.piece st.took h.input);
      going = st.going;
      now_is = st.now_is;
      written = st.written;
      at_end = h.at_end;
    }

pub awaited_over : (read : Reader) (w : World) (names : List (List ℕ)) (first : Conversation) (bodies : List (List ℕ)) (held : List ℕ) (ended : Bool) → IsAwaited held ended → IsOver (conversed read w names first bodies) held
awaited_over read w names first bodies held ended a = inr (λ body rest m. a.unfinished.frame body rest m.frame)

-- no message is first where a fault is
pub fault_over : (read : Reader) (w : World) (names : List (List ℕ)) (first : Conversation) (bodies : List (List ℕ)) (held : List ℕ) (ended : Bool) (k : ℕ) → IsFault held ended k → IsOver (conversed read w names first bodies) held
fault_over read w names first bodies held ended k f = inr (λ body rest m. no_both (first_is_one held ended (message body rest) (fault k) m f))
  where
    no_both : {body rest : List ℕ} {k : ℕ} → message body rest ≡ fault k → ⊥
    no_both e = cc

-- ---- the beginning

appends_nothing : (old : Option (List ℕ)) → Appends old old []
appends_nothing None = refl
appends_nothing (Some taken) = ap (λ t. Some t) (sym (append-nil taken))

no_end : false ≡ true → ⊥
no_end e = cc

-- nothing was taken of the input, and nothing is held
pub stands_first : (read : Reader) (w : World) (names : List (List ℕ)) (first : Conversation) (left old : Option (List ℕ)) (new : Framing) → new ≡ record { held = []; fault = None }
    → Stands read w names first first left left new.held false old old
unfolding conversed
stands_first read w names first left old new e = record {
  bodies = [];
  took = subst (λ h. Took left left [] h) (sym (ap (λ (f : Framing). f.held) e)) (took_nothing left);
  going = refl;
  now_is = refl;
  written = appends_nothing old;
  at_end = λ e. absurd (no_end e);
}

-- memory ran out before anything was taken
pub broken_first : (read : Reader) (w : World) (names : List (List ℕ)) (first : Conversation) (left old : Option (List ℕ)) → Breaks read w names first left left old old
broken_first read w names first left old = no_memory read w names first left left first [] false old old (stands_first read w names first left old (record { held = []; fault = None }) refl)

-- ---- a turn in a world that is the one of the beginning

pub turned : (end : TalkEnd) (read : Reader) (w now_w : World) (names now_names : List (List ℕ)) (first now : Conversation) (left0 left next : Option (List ℕ)) (held : List ℕ) (ended : Bool) (old new later : Option (List ℕ))
    → now_w ≡ w → now_names ≡ names → Stands read w names first now left0 left held ended old new
    → (Stands read now_w now_names first now left0 left held ended old new → TalksTo end read now_w now_names first left0 next old later) → TalksTo end read w names first left0 next old later
turned end read w now_w names now_names first now left0 left next held ended old new later p q st on =
    subst (λ (x : World). TalksTo end read x names first left0 next old later) p
    (subst (λ (x : List (List ℕ)). TalksTo end read now_w x first left0 next old later) q
    (on (subst (λ (x : List (List ℕ)). Stands read now_w x first now left0 left held ended old new) (sym q)
    (subst (λ (x : World). Stands read x names first now left0 left held ended old new) (sym p) st))))

-- ---- what was taken before stays

pub talks_grown : (end : TalkEnd) (read : Reader) (w : World) (names : List (List ℕ)) (first : Conversation) (left0 left old new : Option (List ℕ)) → TalksTo end read w names first left0 left old new → Grows old new
talks_grown ends.Bye read w names first left0 left old new t = grows_whole old new _ t.written
talks_grown ends.AtEnd read w names first left0 left old new t = grows_whole old new _ t.written
talks_grown (ends.Fault k) read w names first left0 left old new t = grows_whole old new _ t.written
talks_grown ends.NotRead read w names first left0 left old new t = grows_whole old new _ t.written
talks_grown ends.NotTaken read w names first left0 left old new t = grows_front old new _ t.front
talks_grown ends.NoMemory read w names first left0 left old new t = grows_front old new _ t.front

-- ---- texts, one behind another

pub whole_flat : (texts : List (Vec ℕ Global)) → whole_of (map (λ t. t.items) texts) ≡ flat_map (λ t. t.items) texts
whole_flat [] = refl
whole_flat (t ∷ texts) = ap (λ l. t.items ++ l) (whole_flat texts)
