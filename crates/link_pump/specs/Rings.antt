-- What goes through the two rings of a connection in two threads: messages and lines, each with its marks.
use Rattle.std.specs.Prelude.{ℕ, Bool, true, false, List, [], ◌∷◌, Option, None, Some}
use Rattle.link_pump.specs.declared.cause.Cause.{Cause}
use Rattle.link_pump.specs.declared.rings.FromLink.{FromLink}
use Rattle.link_pump.specs.declared.rings.FromLink.TheVariants.{Message, LinkOver}
use Rattle.link_pump.specs.declared.rings.ToLink.{ToLink}
use Rattle.link_pump.specs.declared.rings.ToLink.TheVariants.{Begun, Line, SessionOver, ClientOver}

-- ---- from the link

-- the messages among items
unfoldable pub heard_in : List FromLink → List (List ℕ)
heard_in [] = []
heard_in (Message text ∷ xs) = text ∷ heard_in xs
heard_in (LinkOver cause ∷ xs) = heard_in xs

-- items that are messages, with these texts
unfoldable pub as_heard : List (List ℕ) → List FromLink
as_heard [] = []
as_heard (text ∷ texts) = Message text ∷ as_heard texts

-- what the first mark among items says
unfoldable pub cause_in : List FromLink → Option Cause
cause_in [] = None
cause_in (Message text ∷ xs) = cause_in xs
cause_in (LinkOver cause ∷ xs) = Some cause

-- the mark, where there is one
abbrev pub mark_of : Option Cause → List FromLink
mark_of None = []
mark_of (Some cause) = LinkOver cause ∷ []

-- ---- to the link

-- the lines among items
unfoldable pub lines_in : List ToLink → List (List ℕ)
lines_in [] = []
lines_in (Begun ∷ xs) = lines_in xs
lines_in (Line text ∷ xs) = text ∷ lines_in xs
lines_in (SessionOver ∷ xs) = lines_in xs
lines_in (ClientOver ∷ xs) = lines_in xs

-- something among items lets the link be used: the mark that the session has begun, or a line
unfoldable pub begins : List ToLink → Bool
begins [] = false
begins (Begun ∷ xs) = true
begins (Line text ∷ xs) = true
begins (SessionOver ∷ xs) = begins xs
begins (ClientOver ∷ xs) = begins xs

-- a last mark is among items: that the session is over, or that the client has left
unfoldable pub finishes : List ToLink → Bool
finishes [] = false
finishes (Begun ∷ xs) = finishes xs
finishes (Line text ∷ xs) = finishes xs
finishes (SessionOver ∷ xs) = true
finishes (ClientOver ∷ xs) = true

-- nothing stands behind a last mark
unfoldable pub marked_last : List ToLink → Bool
marked_last [] = true
marked_last (Begun ∷ xs) = marked_last xs
marked_last (Line text ∷ xs) = marked_last xs
marked_last (SessionOver ∷ []) = true
marked_last (SessionOver ∷ x ∷ xs) = false
marked_last (ClientOver ∷ []) = true
marked_last (ClientOver ∷ x ∷ xs) = false

-- the mark that the client has left is among items
unfoldable pub client_left : List ToLink → Bool
client_left [] = false
client_left (Begun ∷ xs) = client_left xs
client_left (Line text ∷ xs) = client_left xs
client_left (SessionOver ∷ xs) = client_left xs
client_left (ClientOver ∷ xs) = true
