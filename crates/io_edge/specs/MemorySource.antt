-- Input in memory: its pieces that are left, which calls fail, and what a call leaves.
use Rattle.std.specs.Prelude.{◌≡◌, ℕ, ◌≤◌, List, [], ◌∷◌, Bool, ◌==◌, length, map, Result, Ok, Err, Vec, flat_map}
use Rattle.std.specs.List.{list_any}
use Rattle.std.specs.declared.alloc.Global.{Global}
use Rattle.io_edge.specs.Faults.{one_more}
use Rattle.io_edge.specs.declared.source.SourceEnd.{SourceEnd}
use Rattle.io_edge.specs.declared.source.SourceEnd.TheVariants.{Failed, NoMemory}

-- the pieces that are left, the numbers of the calls that fail, the number of the next call (which stays at 2^64 - 1),
-- and the count of faults
pub record SourceInMemory : Type 0 where
  pub pieces : List (List ℕ)
  pub failing : List ℕ
  pub calls : ℕ
  pub faults : ℕ

-- the bytes of pieces
abbrev pub bytes_of : List (Vec ℕ Global) → List (List ℕ)
bytes_of pieces = map (λ piece. piece.items) pieces

-- a piece has 1 to 65,536 bytes
pub record IsPiece (piece : List ℕ) : Type 0 where
  pub some : 1 ≤ length piece
  pub within : length piece ≤ 65536

-- the bytes that are left, in order
abbrev pub left_in : List (List ℕ) → List ℕ
left_in pieces = flat_map (λ piece. piece) pieces

-- the next call is one of those that fail
abbrev pub next_more_fails : SourceInMemory → Bool
next_more_fails source = list_any (λ number. number == source.calls) source.failing

-- the piece that comes next; nothing at the end
abbrev pub next_piece : List (List ℕ) → List ℕ
next_piece [] = []
next_piece (piece ∷ pieces) = piece

-- the pieces behind it
abbrev pub other_pieces : List (List ℕ) → List (List ℕ)
other_pieces [] = []
other_pieces (piece ∷ pieces) = pieces

-- what a call leaves that answered so: where memory ran out, as though there had been no call
abbrev pub after_more : Result (Vec ℕ Global) SourceEnd → SourceInMemory → SourceInMemory
after_more (Ok piece) source = record source { pieces = other_pieces source.pieces; calls = one_more source.calls }
after_more (Err Failed) source = record source { calls = one_more source.calls; faults = one_more source.faults }
after_more (Err NoMemory) source = source
