-- The names in scope in a block of an accepted design differ.
use Rattle.std.proofs.Common.{◌≡◌, ℕ, Bool, true, false, true≢false, ◌||◌, bytes_eq, List, [], ◌∷◌, ◌++◌, map, None, inl, inr, refl, sym, ap, ap₂, ◌∙◌, subst}
use Rattle.std.proofs.lemmas.List.{map-append}
use Rattle.exec_core.specs.Block.{Name}
use Rattle.list_core.specs.Lists.{EachOf, IsIn, IsNotIn, AreApart}
use Rattle.list_core.proofs.Lists.{apart_both}
use Rattle.design_core.specs.declared.variant.Signal.{Signal}
use Rattle.design_core.specs.Design as design
use Rattle.design_core.specs.Design.{Block, Variant}
use Rattle.design_core.specs.Slots.{lets_of, let_of, else_lets, arms_lets, scope}
use Rattle.names.specs.Known.{Known, none, with}
use Rattle.check_core.specs.Names.{any_kind, named, child_named, signal_thing, lets_in, taken_in, duplicate_name}
use Rattle.design_core.specs.Statements.{inside, statements, else_statements, arms_statements}
use Rattle.check_exec.proofs.Facts.{name_same, in_any}
use Rattle.check_exec.proofs.Names.{Differ, none_taken, signals_differ, lets_differ}

abbrev Thing : Type 0
Thing = ℕ × Name

abbrev thing_name : Thing → Name
thing_name p = p.1

-- ---- the lets of a block

lets_append : (a b : List design.Stmt) → lets_in (a ++ b) ≡ lets_in a ++ lets_in b
lets_append [] b = refl
lets_append (design.Assign slot line gens x part e ∷ a) b = lets_append a b
lets_append (design.Let slot line gens x e ∷ a) b = ap (λ l. (line, x) ∷ l) (lets_append a b)
lets_append (design.If slot line gens c first second ∷ a) b = lets_append a b
lets_append (design.Case slot line gens v arms other ∷ a) b = lets_append a b

-- of statements one after another
joined_lets : (a b : List design.Stmt) → map thing_name (lets_in (a ++ b)) ≡ map thing_name (lets_in a) ++ map thing_name (lets_in b)
joined_lets a b = ap (map thing_name) (lets_append a b) ∙ map-append thing_name (lets_in a) (lets_in b)

mutual
  stmt_lets : (s : design.Stmt) (rest : List design.Stmt) → map thing_name (lets_in (s ∷ (inside s ++ rest))) ≡ let_of s ++ map thing_name (lets_in rest)
  stmt_lets (design.Assign slot line gens x part e) rest = refl
  stmt_lets (design.Let slot line gens x e) rest = refl
  stmt_lets (design.If slot line gens c first second) rest =
      joined_lets (statements first ++ else_statements second) rest
      ∙ ap (λ l. l ++ map thing_name (lets_in rest))
      (joined_lets (statements first) (else_statements second) ∙ ap₂ (λ (a b : List Name). a ++ b) (body_lets first) (else_body_lets second))
  stmt_lets (design.Case slot line gens v arms other) rest =
      joined_lets (arms_statements arms ++ else_statements other) rest
      ∙ ap (λ l. l ++ map thing_name (lets_in rest))
      (joined_lets (arms_statements arms) (else_statements other) ∙ ap₂ (λ (a b : List Name). a ++ b) (arms_have_lets arms) (else_body_lets other))

  arms_have_lets : (arms : design.Arms) → map thing_name (lets_in (arms_statements arms)) ≡ arms_lets arms
  arms_have_lets design.NoArms = refl
  arms_have_lets (design.ThenArm tests body rest) =
      joined_lets (statements body) (arms_statements rest) ∙ ap₂ (λ (a b : List Name). a ++ b) (body_lets body) (arms_have_lets rest)

  body_lets : (b : design.Body) → map thing_name (lets_in (statements b)) ≡ lets_of b
  body_lets design.Done = refl
  body_lets (design.Then s rest) = stmt_lets s (statements rest) ∙ ap (λ l. let_of s ++ l) (body_lets rest)

  else_body_lets : (b : design.Else) → map thing_name (lets_in (else_statements b)) ≡ else_lets b
  else_body_lets design.NoElse = refl
  else_body_lets (design.Otherwise body) = body_lets body

-- ---- names that are taken one after another differ

or_false : (a b : Bool) → (a || b) ≡ false → a ≡ false
or_false true b e = e
or_false false b e = refl

differ_apart : (taken : Known) (list : List Thing) → Differ taken list → AreApart (map thing_name list)
differ_apart taken [] d = tt
differ_apart taken (p ∷ list) d = (others list (none_taken (with p.1 taken) list d.1), differ_apart (with p.1 taken) list d.1)
  where
    others : (rest : List Thing) → EachOf (λ q. with p.1 taken q.1 ≡ false) rest → IsNotIn p.1 (map thing_name rest)
    others [] h = tt
    others (q ∷ rest) h = (λ e. true≢false (sym (name_same q.1 p.1 e) ∙ or_false (bytes_eq q.1 p.1) (taken q.1) h.0), others rest h.1)

not_among : (taken : Known) (x : Name) → taken x ≡ true → (list : List Thing) → EachOf (λ q. taken q.1 ≡ false) list → IsNotIn x (map thing_name list)
not_among taken x t [] h = tt
not_among taken x t (q ∷ list) h = (λ e. true≢false (sym t ∙ ap taken (sym e) ∙ h.0), not_among taken x t list h.1)

or_true : (a b : Bool) → a ≡ true → (a || b) ≡ true
or_true true b e = refl
or_true false b e = absurd (true≢false (sym e))

-- a signal's name is taken
signal_taken : (v : Variant) (s : Signal) → IsIn s v.signals → taken_in v s.name ≡ true
signal_taken v s i = or_true (named any_kind v.signals s.name) (child_named v.children s.name) (in_any (λ (t : Signal). bytes_eq s.name t.name) v.signals s i (name_same s.name s.name refl))

same_names : (signals : List Signal) → map thing_name (map signal_thing signals) ≡ map (λ (s : Signal). s.name) signals
same_names [] = refl
same_names (s ∷ signals) = ap (λ l. s.name ∷ l) (same_names signals)

-- the signals of a variant have different names
pub signals_apart : (v : Variant) → duplicate_name v ≡ None → AreApart (map (λ (s : Signal). s.name) v.signals)
signals_apart v e = subst AreApart (same_names v.signals) (differ_apart none (map signal_thing v.signals) (signals_differ v e))

pub scope_apart : (v : Variant) (b : Block) → IsIn b v.blocks → duplicate_name v ≡ None → AreApart (scope v b)
scope_apart v b at e =
    let lets = lets_differ v b at e in
    let names : map thing_name (lets_in (statements b.body)) ≡ lets_of b.body = body_lets b.body in
    apart_both (map (λ (s : Signal). s.name) v.signals) (lets_of b.body)
    (signals_apart v e)
    (subst AreApart names (differ_apart (taken_in v) (lets_in (statements b.body)) lets))
    (each_signal v.signals (λ s i. subst (IsNotIn s.name) names (not_among (taken_in v) s.name (signal_taken v s i) (lets_in (statements b.body)) (none_taken (taken_in v) (lets_in (statements b.body)) lets))))
  where
    each_signal : (signals : List Signal) → ((s : Signal) → IsIn s signals → IsNotIn s.name (lets_of b.body)) → EachOf (λ x. IsNotIn x (lets_of b.body)) (map (λ (s : Signal). s.name) signals)
    each_signal [] h = tt
    each_signal (s ∷ signals) h = (h s (inl refl), each_signal signals (λ t i. h t (inr i)))
