-- A link as the session's side sees it: in a thread of its own, through two rings, or at hand.
use Rattle.std.specs.Prelude.{◌≡◌, ◌≤◌, ℕ, false, List, [], ◌∷◌, ⊤, Option, None, Some, vec_capacity}
use Rattle.rtrb.specs.Ring.{sent, received, consumer_capacity, IsPair}
use Rattle.link_edge.specs.Links.{Meaning}
use Rattle.link_pump.specs.declared.ends.Ends.{Ends}
use Rattle.link_pump.specs.declared.rings.ToLink.TheVariants.{Begun}
use Rattle.link_pump.specs.Ends.{meaning_of}
use Rattle.hub_run.specs.declared.port.Port.{Port}
use Rattle.hub_run.specs.declared.port.Port.TheVariants.{Far, Near}
use Rattle.std.specs.declared.thread.PromisedHandle.{PromisedHandle}
use Rattle.link_pump.specs.declared.pump.Pump.{Pump}
use Rattle.hub_run.specs.declared.post.Begun.{Begun as Start}
use Rattle.hub_run.specs.declared.post.Post.{Post}

-- what goes with the port of a link in a thread of its own
abbrev pub LinkPost : Type 0 → Type 0
LinkPost L = Post (PromisedHandle (Pump L) (Start L))

-- a text that stands before the messages received, where these are told
abbrev pub told_first : List ℕ → Option (List (List ℕ)) → Option (List (List ℕ))
told_first tag None = None
told_first tag (Some texts) = Some (tag ∷ texts)

abbrev pub tagged : List ℕ → Meaning → Meaning
tagged tag link = record link { received = told_first tag link.received }

-- by which a link in a thread of its own is told from one at hand
abbrev pub far_tag : List ℕ
far_tag = 0 ∷ []

abbrev pub near_tag : List ℕ
near_tag = []

module _ {R : Type 0} where
  abbrev pub far_means : Ends R → Meaning
  far_means ends = tagged far_tag (meaning_of ends.messages ends.lines ends.over ends.idles ends.shut)

module _ {R L : Type 0} (m : L → Meaning) where
  abbrev pub port_means : Port R L → Meaning
  port_means (Far ends) = far_means ends
  port_means (Near link) = tagged near_tag (m link)

-- a thread that began with the other ends of a port's rings, and room for all messages that may be read and not applied
pub record FarTied {R L : Type 0} (post : LinkPost L) (ends : Ends R) : Type 0 where
  pub messages : IsPair post.child.promise.messages.value ends.messages
  pub lines : IsPair ends.lines post.child.promise.lines.value
  pub places : consumer_capacity ends.messages ≡ 64
  pub room : (post.unapplied.items ≡ []) × (66 ≤ vec_capacity post.unapplied)

-- the same, where nothing was popped yet, and the mark alone was pushed that the session has begun
pub record FarBegins {R L : Type 0} (m : L → Meaning) (start : Meaning) (post : LinkPost L) (ends : Ends R) : Type 0 where
  pub tied : FarTied post ends
  pub link_is : m post.child.promise.link.value ≡ start
  pub none : received ends.messages ≡ []
  pub begun : sent ends.lines ≡ Begun ∷ []
  pub free : ends.over ≡ None
  pub still : ends.shut ≡ false

module _ {R L : Type 0} (m : L → Meaning) where
  -- a port whose link means this at the start, with what goes with it
  abbrev pub Begins : Meaning → Option (LinkPost L) → Port R L → Type 0
  Begins start (Some post) (Far ends) = FarBegins m start post ends
  Begins start None (Near link) = m link ≡ start
  Begins start (Some post) (Near link) = ⊥
  Begins start None (Far ends) = ⊥

  -- the same of each
  unfoldable pub AllBegin : List Meaning → List (Option (LinkPost L)) → List (Port R L) → Type 0
  AllBegin [] [] [] = ⊤
  AllBegin (a ∷ starts) (p ∷ posts) (q ∷ ports) = Begins a p q × AllBegin starts posts ports
  AllBegin [] [] (q ∷ ports) = ⊥
  AllBegin [] (p ∷ posts) ports = ⊥
  AllBegin (a ∷ starts) [] ports = ⊥
  AllBegin (a ∷ starts) (p ∷ posts) [] = ⊥
