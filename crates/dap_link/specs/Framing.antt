-- What a framer holds, and what it answers.
use Rattle.std.specs.Prelude.{◌≡◌, ◌⊎◌, ℕ, Bool, List, Option, Some, None}
use Rattle.dap_link.specs.declared.framer.Framed.{Framed}
use Rattle.dap_link.specs.declared.framer.Framed.TheVariants.{Message, More, Fault}
use Rattle.dap_link.specs.Frames.{IsMessage, IsFault, IsAwaited}

-- the bytes that came and are in no message yet, and the fault that ended the text, where one did
pub record Framing : Type 0 where
  pub held : List ℕ
  pub fault : Option ℕ

-- what is answered of the bytes held, and what is held then: a message is taken off; a fault stays
abbrev pub IsFirst : List ℕ → Bool → Framed → Framing → Type 0
IsFirst text ended (Message body) new = (new.fault ≡ None) × IsMessage text body.items new.held
IsFirst text ended More new = (new ≡ record { held = text; fault = None }) × IsAwaited text ended
IsFirst text ended (Fault k) new = (new ≡ record { held = text; fault = Some k }) × IsFault text ended k

-- the answer to `next`: a fault is told again; otherwise it is what is first in the bytes held
abbrev pub IsNext : Framing → Bool → Framed → Framing → Type 0
IsNext old ended framed new =
    ((fault : ℕ) × (old.fault ≡ Some fault) × (framed ≡ Fault fault) × (new ≡ old)) ⊎ ((old.fault ≡ None) × IsFirst old.held ended framed new)
