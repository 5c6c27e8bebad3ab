-- Statements one after another, and turns one after another.
use Rattle.std.proofs.Common.{◌≡◌, ℕ, zero, suc, ◌+◌, ◌-◌, ◌<◌, ◌≤◌, ℤ, pos, ◌+ℤ◌, List, [], ◌∷◌, ◌++◌, length, get_or, drop, Result, Ok, Err, refl, sym, ap, ap₂, ◌∙◌, arith, add-one, drop-cons}
use Rattle.std.proofs.Math.ListN.{drop_of_length-le}
use Rattle.std.proofs.lemmas.Int.{ints, to_z-of_z}
use Rattle.gen_tree.specs.Tree.{Stmts}
use Rattle.gen_tree.specs.declared.Stmt as source_stmt
use Rattle.gen_tree.specs.View.{stmt_of, stmts_of}
use Rattle.design_core.specs.declared.Stmt as code_stmt
use Rattle.design_core.specs.View as view
use Rattle.exec_core.specs.Block.{Name}
use Rattle.design_core.specs.Design.{Gens, Body, Then}
use Rattle.elab_core.specs.declared.Count.TheVariants.{Turns}
use Rattle.elab_core.specs.Walk.{Walk, Fault, Seen, and_then, judge, counts}
use Rattle.elab_core.specs.Numbers.{bound}
use Rattle.elab_core.specs.Elaborated.{added}
use Rattle.elab_core.specs.Elab.{statement, statements, turns}
use Rattle.elab_base.proofs.Steps.{next, judge_then, counted, refused, ends}
use Rattle.elab_body.specs.Body.{turn, in_turn}

pub next_of : {A : Type 0} (xs : List A) (i : ℕ) (x : A) → i < length xs → x ≡ get_or xs i x → drop i xs ≡ x ∷ drop (i + 1) xs
next_of xs i x h e = rw add-one (drop-cons xs i x h ∙ ap (λ y. y ∷ drop (suc i) xs) (sym e))

statements_next : (s : source_stmt.Stmt) (rest : List source_stmt.Stmt) (gens : Gens) (made more : Body) (seen after : Seen) → judge seen (statement (stmt_of s) gens made) ≡ Ok (more, after) →
    judge seen (statements (stmts_of (s ∷ rest)) gens made) ≡ judge after (statements (stmts_of rest) gens more)
unfolding statements
statements_next s rest gens made more seen after e = counted _ _ _ _ _ _ e refl

statements_fault : (s : source_stmt.Stmt) (rest : List source_stmt.Stmt) (gens : Gens) (made : Body) (seen : Seen) (x : Fault) → judge seen (statement (stmt_of s) gens made) ≡ Err x →
    judge seen (statements (stmts_of (s ∷ rest)) gens made) ≡ Err x
unfolding statements
statements_fault s rest gens made seen x e = refused _ _ _ _ e

statements_none : (gens : Gens) (made : Body) (seen : Seen) → judge seen (statements (stmts_of []) gens made) ≡ Ok (made, seen)
unfolding statements
statements_none gens made seen = ends _ _

pub stmts_at : (xs : List source_stmt.Stmt) (i : ℕ) (x : source_stmt.Stmt) (gens : Gens) (made more : Body) (seen after : Seen) → i < length xs → x ≡ get_or xs i x → judge seen (statement (stmt_of x) gens made) ≡ Ok (more, after) →
    judge seen (statements (stmts_of (drop i xs)) gens made) ≡ judge after (statements (stmts_of (drop (i + 1) xs)) gens more)
stmts_at xs i x gens made more seen after h e p = ap (λ ys. judge seen (statements (stmts_of ys) gens made)) (next_of xs i x h e) ∙ statements_next x (drop (i + 1) xs) gens made more seen after p

pub stmts_fault_at : (xs : List source_stmt.Stmt) (i : ℕ) (x : source_stmt.Stmt) (gens : Gens) (made : Body) (seen : Seen) (f : Fault) → i < length xs → x ≡ get_or xs i x → judge seen (statement (stmt_of x) gens made) ≡ Err f →
    judge seen (statements (stmts_of (drop i xs)) gens made) ≡ Err f
stmts_fault_at xs i x gens made seen f h e p = ap (λ ys. judge seen (statements (stmts_of ys) gens made)) (next_of xs i x h e) ∙ statements_fault x (drop (i + 1) xs) gens made seen f p

pub stmts_end : (xs : List source_stmt.Stmt) (i : ℕ) (gens : Gens) (made : Body) (seen : Seen) → length xs ≤ i → judge seen (statements (stmts_of (drop i xs)) gens made) ≡ Ok (made, seen)
stmts_end xs i gens made seen h = ap (λ ys. judge seen (statements (stmts_of ys) gens made)) (drop_of_length-le xs h) ∙ statements_none gens made seen

pub ruleset stmts_steps = (stmts_at, stmts_fault_at, stmts_end)

-- ---- turns

module _ {A : Type 0} (line : ℕ) (f : ℤ → A → Walk A) where
  pub turns_none : (k : ℤ) (made : A) (seen : Seen) → judge seen (turns line f k zero made) ≡ Ok (made, seen)
  unfolding turns
  turns_none k made seen = ends _ _

  turns_more : (k : ℤ) (count : ℕ) (made : A) → 0 < count →
      turns line f k count made ≡ and_then (counts Turns line) (λ u. and_then (f k made) (λ more. turns line f (k +ℤ pos 1) (count - 1) more))
  unfolding turns
  turns_more k zero made h = absurd (omega arith)
  turns_more k (suc count) made h = let e : suc count - 1 ≡ count = omega arith in rw e refl

  -- what a turn with its count gives, at its number
  abbrev pub one_turn : ℤ → A → Walk A
  one_turn k made = and_then (counts Turns line) (λ u. f k made)

  turns_split : (k : ℤ) (count : ℕ) (made : A) (seen : Seen) → 0 < count →
      judge seen (turns line f k count made) ≡ next (judge seen (one_turn k made)) (λ more s. judge s (turns line f (k +ℤ pos 1) (count - 1) more))
  turns_split k count made seen h = rw (turns_more k count made h) (simp judge_then (two_steps (judge seen (counts Turns line))))
    where
      two_steps : (r : Result (Unit {0} × Seen) Fault) →
          next r (λ u s. next (judge s (f k made)) (λ more s. judge s (turns line f (k +ℤ pos 1) (count - 1) more)))
          ≡ next (next r (λ u s. judge s (f k made))) (λ more s. judge s (turns line f (k +ℤ pos 1) (count - 1) more))
      two_steps (Ok p) = refl
      two_steps (Err x) = refl

  pub turns_fault : (from : ℤ) (at count : ℕ) (made : A) (seen : Seen) (x : Fault) → at < count → judge seen (one_turn (from +ℤ pos at) made) ≡ Err x →
      judge seen (turns line f (from +ℤ pos at) (count - at) made) ≡ Err x
  turns_fault from at count made seen x h p = turns_split (from +ℤ pos at) (count - at) made seen (omega arith)
      ∙ ap (λ r. next r (λ more s. judge s (turns line f ((from +ℤ pos at) +ℤ pos 1) (count - at - 1) more))) p

  pub turns_taken : (from : ℤ) (at count : ℕ) (made more : A) (seen last : Seen) → at < count → judge seen (one_turn (from +ℤ pos at) made) ≡ Ok (more, last) →
      judge seen (turns line f (from +ℤ pos at) (count - at) made) ≡ judge last (turns line f (from +ℤ pos (at + 1)) (count - (at + 1)) more)
  turns_taken from at count made more seen last h p =
      let a : (from +ℤ pos at) +ℤ pos 1 ≡ from +ℤ pos (at + 1) = omega (arith, ints) in
      let b : count - at - 1 ≡ count - (at + 1) = omega arith in
      turns_split (from +ℤ pos at) (count - at) made seen (omega arith)
      ∙ ap (λ r. next r (λ more s. judge s (turns line f ((from +ℤ pos at) +ℤ pos 1) (count - at - 1) more))) p
      ∙ ap₂ (λ j c. judge last (turns line f j c more)) a b

  pub turns_first : (from : ℤ) (count : ℕ) (made : A) (seen : Seen) → judge seen (turns line f (from +ℤ pos 0) (count - 0) made) ≡ judge seen (turns line f from count made)
  turns_first from count made seen =
      let a : from +ℤ pos 0 ≡ from = omega (arith, ints) in
      let b : count - 0 ≡ count = omega arith in ap₂ (λ j c. judge seen (turns line f j c made)) a b

  pub turns_end : (k : ℤ) (at count : ℕ) (made : A) (seen : Seen) → count ≤ at → judge seen (turns line f k (count - at) made) ≡ Ok (made, seen)
  turns_end k at count made seen h = let e : count - at ≡ 0 = omega arith in ap (λ c. judge seen (turns line f k c made)) e ∙ turns_none k made seen

module _ (line : ℕ) (body : Stmts) (v : Name) (gens : Gens) where
  pub body_fault : (from : ℤ) (at count : ℕ) (k : ℤ) (y : Name) (made : Body) (seen : Seen) (x : Fault) → at < count → k ≡ from +ℤ pos at → y ≡ v → judge seen (turn line body (bound y k gens) made) ≡ Err x →
      judge seen (turns line (in_turn body v gens) (from +ℤ pos at) (count - at) made) ≡ Err x
  unfolding turn in_turn
  body_fault from at count k y made seen x h e i p = turns_fault line (in_turn body v gens) from at count made seen x h
      (ap (λ g. judge seen (and_then (counts Turns line) (λ u. statements body g made))) (ap₂ (λ z n. bound z n gens) (sym i) (sym e)) ∙ p)

  pub body_taken : (from : ℤ) (at count : ℕ) (k : ℤ) (y : Name) (made more : Body) (seen last : Seen) → at < count → k ≡ from +ℤ pos at → y ≡ v → judge seen (turn line body (bound y k gens) made) ≡ Ok (more, last) →
      judge seen (turns line (in_turn body v gens) (from +ℤ pos at) (count - at) made) ≡ judge last (turns line (in_turn body v gens) (from +ℤ pos (at + 1)) (count - (at + 1)) more)
  unfolding turn in_turn
  body_taken from at count k y made more seen last h e i p = turns_taken line (in_turn body v gens) from at count made more seen last h
      (ap (λ g. judge seen (and_then (counts Turns line) (λ u. statements body g made))) (ap₂ (λ z n. bound z n gens) (sym i) (sym e)) ∙ p)

  pub body_first : (from : ℤ) (count : ℕ) (made : Body) (seen : Seen) → judge seen (turns line (in_turn body v gens) (from +ℤ pos 0) (count - 0) made) ≡ judge seen (turns line (in_turn body v gens) from count made)
  body_first from count made seen = turns_first line (in_turn body v gens) from count made seen

  pub body_end : (k : ℤ) (at count : ℕ) (made : Body) (seen : Seen) → count ≤ at → judge seen (turns line (in_turn body v gens) k (count - at) made) ≡ Ok (made, seen)
  body_end k at count made seen h = turns_end line (in_turn body v gens) k at count made seen h

pub ruleset turns_steps = (body_fault, body_taken, body_first, body_end)

-- one statement more
pub body_pushed : (xs : List code_stmt.Stmt) (s : code_stmt.Stmt) → view.body_of (xs ++ s ∷ []) ≡ added (view.body_of xs) (view.stmt_of s)
body_pushed [] s = refl
body_pushed (x ∷ xs) s = ap (λ rest. Then (view.stmt_of x) rest) (body_pushed xs s)

-- a signed number that was passed
pub ruleset signed_steps = (to_z-of_z)
