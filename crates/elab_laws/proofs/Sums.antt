-- Sums over variants.
use Rattle.std.proofs.Common.{◌≡◌, ℕ, ◌+◌, ◌<◌, ◌≤◌, Bool, true, false, ◌==◌, List, [], ◌∷◌, ◌++◌, length, take, drop, get_or, if◌then◌else◌, nat_lt, zero-add, refl, sym, ap, ◌∙◌, arith}
use Rattle.std.proofs.lemmas.Bool.{eq-eqb}
use Rattle.std.proofs.lemmas.List.{take_more, take-append-drop}
use Rattle.elab_core.specs.Elaborated.{Instance}
use Rattle.elab_core.specs.Design.{blocks_size, statements_where, first_slot}
use Rattle.elab_laws.specs.Sizes.{all_statements}

abbrev pub size_of : Instance → ℕ
size_of v = blocks_size v.content.blocks

-- one variant more
pub where_behind : (p : Instance → Bool) (variants : List Instance) (v : Instance) → statements_where p (variants ++ v ∷ []) ≡ statements_where p variants + (if p v then size_of v else 0)
where_behind p [] v = omega arith
where_behind p (w ∷ variants) v = ap (λ n. (if p w then size_of w else 0) + n) (where_behind p variants v) ∙ omega arith

-- no more than all
pub where_within : (p : Instance → Bool) (variants : List Instance) → statements_where p variants ≤ all_statements variants
where_within p [] = omega arith
where_within p (v ∷ variants) = elim (p v) as (λ b. (if b then size_of v else 0) + statements_where p variants ≤ size_of v + all_statements variants) [
  | true ↦ omega (arith, where_within p variants)
  | false ↦ omega (arith, where_within p variants)
]

-- those below the next place are those below this one and those at it
one_place : (place p size : ℕ) → (if nat_lt place (p + 1) then size else 0) ≡ (if nat_lt place p then size else 0) + (if place == p then size else 0)
one_place place p size = grind arith

pub below_more : (p : ℕ) (variants : List Instance)
    → statements_where (λ w. nat_lt w.place (p + 1)) variants ≡ statements_where (λ w. nat_lt w.place p) variants + statements_where (λ w. w.place == p) variants
below_more p [] = refl
below_more p (v ∷ variants) = omega (arith, one_place v.place p (size_of v), below_more p variants)

pub where_both : (p : Instance → Bool) (first second : List Instance) → statements_where p (first ++ second) ≡ statements_where p first + statements_where p second
where_both p [] second = sym (zero-add (statements_where p second))
where_both p (v ∷ first) second = ap (λ n. (if p v then size_of v else 0) + n) (where_both p first second) ∙ omega arith

-- the statements of a variant fit behind those before it
pub slot_within : (variants : List Instance) (k : ℕ) (w : Instance) → k < length variants → first_slot variants (k, get_or variants k w) + blocks_size (get_or variants k w).content.blocks ≤ all_statements variants
slot_within variants k w below =
    let v = get_or variants k w in
    let p : Instance → Bool = λ u. u.place == v.place in
    let parts : variants ≡ take (k + 1) variants ++ drop (k + 1) variants = sym (take-append-drop (k + 1) variants) in
    let split : statements_where p variants ≡ statements_where p (take (k + 1) variants) + statements_where p (drop (k + 1) variants) = ap (statements_where p) parts ∙ where_both p (take (k + 1) variants) (drop (k + 1) variants) in
    let front : statements_where p (take (k + 1) variants) ≡ statements_where p (take k variants) + (if p v then blocks_size v.content.blocks else 0) = ap (statements_where p) (take_more variants k w below) ∙ where_behind p (take k variants) v in
    let own : (if p v then blocks_size v.content.blocks else 0) ≡ blocks_size v.content.blocks = ap (λ b. if b then blocks_size v.content.blocks else 0) (eq-eqb v.place v.place refl) in
    let more = below_more v.place variants in
    let within = where_within (λ u. nat_lt u.place (v.place + 1)) variants in
    omega (arith, split, front, own, more, within)
