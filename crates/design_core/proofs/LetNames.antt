-- The names that are given by `let` among the statements of a body are its lets.
use Rattle.std.proofs.Common.{◌≡◌, List, [], ◌∷◌, ◌++◌, refl, sym, ap, ap₂, ◌∙◌, append_assoc}
use Rattle.design_core.specs.Design.{Stmt, Assign, Let, If, Case, Body, Done, Then, Else, NoElse, Otherwise, Arms, NoArms, ThenArm}
use Rattle.design_core.specs.Slots.{let_of, lets_of, else_lets, arms_lets}
use Rattle.design_core.specs.Statements.{inside, statements, else_statements, arms_statements}
use Rattle.design_core.specs.Heads.{let_names, let_listed}

pub names_both : (a b : List Stmt) → let_names (a ++ b) ≡ let_names a ++ let_names b
names_both [] b = refl
names_both (s ∷ a) b = ap (λ l. let_listed s ++ l) (names_both a b) ∙ sym (append_assoc (let_listed s) (let_names a) (let_names b))

mutual
  names_of : (s : Stmt) → let_names (s ∷ inside s) ≡ let_of s
  names_of (Assign slot line gens x part e) = refl
  names_of (Let slot line gens x e) = refl
  names_of (If slot line gens c first second) = names_both (statements first) (else_statements second) ∙ ap₂ (λ a b. a ++ b) (names_in first) (names_else second)
  names_of (Case slot line gens v arms other) = names_both (arms_statements arms) (else_statements other) ∙ ap₂ (λ a b. a ++ b) (names_arms arms) (names_else other)

  pub names_in : (b : Body) → let_names (statements b) ≡ lets_of b
  names_in Done = refl
  names_in (Then s rest) = names_both (s ∷ inside s) (statements rest) ∙ ap₂ (λ a b. a ++ b) (names_of s) (names_in rest)

  names_else : (e : Else) → let_names (else_statements e) ≡ else_lets e
  names_else NoElse = refl
  names_else (Otherwise body) = names_in body

  names_arms : (a : Arms) → let_names (arms_statements a) ≡ arms_lets a
  names_arms NoArms = refl
  names_arms (ThenArm tests body rest) = names_both (statements body) (arms_statements rest) ∙ ap₂ (λ a b. a ++ b) (names_in body) (names_arms rest)
