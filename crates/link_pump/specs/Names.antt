-- What a ring is known by, as numbers, so that an end that comes back shows of which ring it is.
use Rattle.std.specs.Prelude.{ℕ, List, [], ◌∷◌}
use Rattle.std.specs.declared.alloc.Global.{Global}
use Rattle.rtrb.specs.declared.producer.Producer.{Producer}
use Rattle.rtrb.specs.declared.consumer.Consumer.{Consumer}
use denote.RawPtr.{Ptr, block_ptr, null_ptr}

-- a place in memory
abbrev pub place_of : Ptr → List ℕ
place_of (block_ptr block count) = block ∷ count ∷ []
place_of null_ptr = []

-- where the ring lies, by which names its ends know it, and how many places it has
module _ {T P : Type 0} where
  abbrev pub ring_of_consumer : Consumer T Global P → List (List ℕ)
  ring_of_consumer c = place_of c.end.words ∷ place_of c.end.slots ∷ (c.end.names.0 ∷ c.end.names.1.0 ∷ c.end.names.1.1 ∷ c.capacity ∷ []) ∷ []

  abbrev pub ring_of_producer : Producer T Global P → List (List ℕ)
  ring_of_producer p = place_of p.end.words ∷ place_of p.end.slots ∷ (p.end.names.0 ∷ p.end.names.1.0 ∷ p.end.names.1.1 ∷ p.capacity ∷ []) ∷ []
