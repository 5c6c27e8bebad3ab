-- What was taken of an input: piece by piece, and message by message.
use Rattle.std.proofs.Common.{◌≡◌, ℕ, Bool, true, false, List, [], ◌∷◌, ◌++◌, Option, None, Some, refl, sym, ap, ◌∙◌, subst, append_assoc, append-nil, length, inl, inr}
use Rattle.std.specs.Io.KnownBytes.{Consumes, IsAtEnd, Keeps}
use Rattle.dap_link.specs.Frames.{IsMessage}
use Rattle.dap_link.specs.declared.framer.Framed.{Framed}
use Rattle.dap_link.specs.Framing.{Framing, IsFirst, IsNext}
use Rattle.dap_link.specs.Talks.{Begins, started}
use Rattle.dap_link.proofs.Talking.{begins_fed, begins_taken}
use Rattle.dap_run.specs.Talks.{HearsSome, Took}

-- ---- bytes

pub consumes_on : (a b c : Option (List ℕ)) (x y : List ℕ) → Consumes a b x → Consumes b c y → Consumes a c (x ++ y)
consumes_on None b c x y h g = tt
consumes_on (Some xs) None c x y h g = absurd h
consumes_on (Some xs) (Some ys) None x y h g = absurd g
consumes_on (Some xs) (Some ys) (Some zs) x y h g = h ∙ ap (λ r. x ++ r) g ∙ sym (append_assoc x y zs)

pub consumes_none : (a b : Option (List ℕ)) → Keeps a b → Consumes a b []
consumes_none None b h = tt
consumes_none (Some xs) None h = absurd h
consumes_none (Some xs) (Some ys) h = sym h

pub consumes_same : (a : Option (List ℕ)) → Consumes a a []
consumes_same None = tt
consumes_same (Some xs) = refl

-- ---- what was taken

pub took_nothing : (left : Option (List ℕ)) → Took left left [] []
took_nothing left = record { text = []; input = consumes_same left; begins = started }

pub took_piece : (left0 left next : Option (List ℕ)) (bodies : List (List ℕ)) (held piece : List ℕ) → Took left0 left bodies held → Consumes left next piece → Took left0 next bodies (held ++ piece)
took_piece left0 left next bodies held piece t h = record {
  text = t.text ++ piece;
  input = consumes_on left0 left next t.text piece t.input h;
  begins = begins_fed t.text held piece bodies t.begins;
}

pub took_message : (left0 left : Option (List ℕ)) (bodies : List (List ℕ)) (held body rest : List ℕ) → Took left0 left bodies held → IsMessage held body rest → Took left0 left (bodies ++ body ∷ []) rest
took_message left0 left bodies held body rest t m = record { text = t.text; input = t.input; begins = begins_taken t.text held body rest bodies t.begins m }

-- ---- a piece of no bytes

pub no_bytes : (xs : List ℕ) → length xs ≡ 0 → xs ≡ []
no_bytes [] e = refl
no_bytes (x ∷ xs) e = cc

-- ---- what is first

pub first_of : (old new : Framing) (ended : Bool) (framed : Framed) → old.fault ≡ None → IsNext old ended framed new → IsFirst old.held ended framed new
first_of old new ended framed sound (inl told) = absurd (no_fault (sym sound ∙ told.1))
  where
    no_fault : {k : ℕ} → None ≡ Some k → ⊥
    no_fault e = cc
first_of old new ended framed sound (inr first) = first.1
