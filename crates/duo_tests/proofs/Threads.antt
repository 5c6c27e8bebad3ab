-- An instance that was found among the threads is among those of a session that shows the same since.
use Rattle.std.proofs.Common.{◌≡◌, ℕ, Bool, true, List, IsTrue, nat_eq, sym, ap, ◌∙◌}
use Rattle.std.specs.List.{list_any}

pub still_among : (i : ℕ) (seen before after : List ℕ) (found : Bool) → seen ≡ before → after ≡ before → found ≡ list_any (nat_eq i) seen → found ≡ true → IsTrue (list_any (nat_eq i) after)
still_among i seen before after found was is told there = ap (λ l. list_any (nat_eq i) l) (is ∙ sym was) ∙ sym told ∙ there
