-- The first fault that there is, where there is one and where there is none.
use Rattle.std.proofs.Common.{◌≡◌, ◌≢◌, Bool, true, false, bytes_eq, List, [], ◌∷◌, Option, Some, None, inl, inr, refl, ap, ◌∙◌}
use Rattle.std.proofs.lemmas.Bool.{cases_Bool}
use Rattle.std.proofs.lemmas.Option.{none-some}
use Rattle.exec_core.specs.Block.{Name}
use Rattle.list_core.specs.Lists.{IsIn}
use Rattle.check_core.specs.declared.fault.CheckFault.{CheckFault}
use Rattle.check_core.specs.Faults.{earlier, first_of}
use Rattle.check_core.specs.Names.{unless_known}
use Rattle.check_exec.proofs.Facts.{same_name}

pub earlier_none : {A : Type 0} (a b : Option A) → a ≡ None → b ≡ None → earlier a b ≡ None
earlier_none a b e f = ap (λ o. earlier o b) e ∙ f

pub first_none : {X A : Type 0} (find : X → Option A) (list : List X) → ((x : X) → IsIn x list → find x ≡ None) → first_of find list ≡ None
first_none find [] h = refl
first_none find (x ∷ list) h = earlier_none (find x) (first_of find list) (h x (inl refl)) (first_none find list (λ y i. h y (inr i)))

pub record Found {X A : Type 0} (find : X → Option A) (list : List X) (a : A) : Type 0 where
  pub at : X
  pub among : IsIn at list
  pub is : find at ≡ Some a

pub first_found : {X A : Type 0} (find : X → Option A) (list : List X) (a : A) → first_of find list ≡ Some a → Found find list a
first_found find [] a e = absurd (none-some a e)
first_found {X} {A} find (x ∷ list) a e = by_first (find x) refl e (λ f. first_found find list a f)
  where
    by_first : (o : Option A) → find x ≡ o → earlier o (first_of find list) ≡ Some a → (first_of find list ≡ Some a → Found find list a) → Found find (x ∷ list) a
    by_first (Some b) is f later = record { at = x; among = inl refl; is = is ∙ f }
    by_first None is f later = let rest = later f in record { at = rest.at; among = inr rest.among; is = rest.is }

-- ---- tests

pub known_none : (b : Bool) (f : CheckFault) → b ≡ true → unless_known b f ≡ None
known_none b f e = ap (λ (c : Bool). unless_known c f) e

pub differ : (x y : Name) → x ≢ y → bytes_eq x y ≡ false
differ x y n = elim (cases_Bool (bytes_eq x y)) [ inl e ↦ absurd (n (same_name x y e)) | inr e ↦ e ]
