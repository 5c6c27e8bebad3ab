-- Pieces of input that are left.
use Rattle.std.proofs.Common.{◌≡◌, ℕ, ◌+◌, ◌<◌, ◌≤◌, List, [], ◌∷◌, ◌++◌, length, drop, get_or, Vec, All, refl, ap, subst}
use Rattle.std.specs.declared.alloc.Global.{Global}
use Rattle.std.proofs.lemmas.List.{drop_more}
use Rattle.std.proofs.lemmas.List.Elements.{All-tail}
use Rattle.std.proofs.Math.ListN.{drop_of_length-le}
use Rattle.io_edge.specs.MemorySource.{IsPiece, bytes_of, left_in, next_piece, other_pieces}

-- none is left at the end
pub none_left : (pieces : List (Vec ℕ Global)) (i : ℕ) → length pieces ≤ i → bytes_of (drop i pieces) ≡ []
none_left pieces i past = ap bytes_of (drop_of_length-le pieces past)

-- the next one, and those behind it
pub one_left : (pieces : List (Vec ℕ Global)) (i : ℕ) (p : Vec ℕ Global) → i < length pieces → bytes_of (drop i pieces) ≡ (get_or pieces i p).items ∷ bytes_of (drop (i + 1) pieces)
one_left pieces i p inside = ap bytes_of (drop_more pieces i p inside)

-- what is left is the next piece and what is behind it
pub left_split : (pieces : List (List ℕ)) → left_in pieces ≡ next_piece pieces ++ left_in (other_pieces pieces)
left_split [] = refl
left_split (piece ∷ pieces) = refl

-- behind a piece stand pieces
pub rest_are_pieces : (pieces : List (Vec ℕ Global)) (i n : ℕ) (p : Vec ℕ Global) → n ≡ length pieces → i < n → All IsPiece (bytes_of (drop i pieces)) → All IsPiece (bytes_of (drop (i + 1) pieces))
rest_are_pieces pieces i n p e inside h =
    All-tail IsPiece (get_or pieces i p).items (bytes_of (drop (i + 1) pieces)) (subst (All IsPiece) (one_left pieces i p (subst (λ m. i < m) e inside)) h)
