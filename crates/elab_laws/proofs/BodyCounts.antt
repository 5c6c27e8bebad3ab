-- The statements of a body are counted, and the parts of their expressions.
use Rattle.std.proofs.Common.{◌≡◌, ℕ, ◌+◌, ◌≤◌, List, [], ◌∷◌, ◌++◌, length, refl, ap, ◌∙◌, arith}
use Rattle.gen_tree.specs.Tree as tree
use Rattle.gen_tree.specs.Tree.{assign, bind, choose, select, repeat, given, Stmts, no_stmt, stmt, no_else, otherwise, no_arm, arm}
use Rattle.elab_core.specs.declared.Count.TheVariants.{Statements}
use Rattle.elab_core.specs.Walk.{and_then, Seen, one_more}
use Rattle.elab_core.specs.Numbers.{bound, fam_name, two_numbers, turn_count, holds}
use Rattle.design_core.specs.Design.{Gens, Stmt, Assign, Let, If, Case, Body, Done, Then, arms_from}
use Rattle.design_core.specs.declared.Literal.{Literal}
use Rattle.design_core.specs.Sizes.{expr_parts, stmt_parts, body_parts, else_parts, arms_parts}
use Rattle.elab_core.specs.Elaborated.{added}
use Rattle.elab_core.specs.Design.{stmt_size, size, else_size, arms_size}
use Rattle.elab_core.specs.Elab.{expr, literals, part_bounds, statement, statements, arm_bodies, else_body, else_statements}
use Rattle.elab_laws.proofs.Counts.{Ends, ends_then, ends_as, after_any, Rises, rises_on, stays, turns_keep, ends_either}
use Rattle.elab_laws.proofs.PartCounts.{expr_counts, literals_count}

pub size_added : (made : Body) (s : Stmt) → size (added made s) ≡ size made + stmt_size s
size_added Done s = omega arith
size_added (Then first rest) s = ap (λ n. stmt_size first + n) (size_added rest s) ∙ omega arith

parts_added : (made : Body) (s : Stmt) → body_parts (added made s) ≡ body_parts made + stmt_parts s
parts_added Done s = omega arith
parts_added (Then first rest) s = ap (λ n. stmt_parts first + n) (parts_added rest s) ∙ omega arith

arms_size_added : (made : List (List Literal × Body)) (a : List Literal × Body) → arms_size (arms_from (made ++ a ∷ [])) ≡ arms_size (arms_from made) + size a.1
arms_size_added [] a = omega arith
arms_size_added (first ∷ rest) a = ap (λ n. size first.1 + n) (arms_size_added rest a) ∙ omega arith

arms_parts_added : (made : List (List Literal × Body)) (a : List Literal × Body) → arms_parts (arms_from (made ++ a ∷ [])) ≡ arms_parts (arms_from made) + (length a.0 + body_parts a.1)
arms_parts_added [] a = omega arith
arms_parts_added (first ∷ rest) a = ap (λ n. length first.0 + body_parts first.1 + n) (arms_parts_added rest a) ∙ omega arith

-- as many statements and parts more as were counted, at most, since these counts and this body
pub record Grows (before : Seen) (made : Body) (after : Seen) (more : Body) : Type 0 where
  pub rises : Rises before after
  pub size : size more + before.statements ≤ after.statements + size made
  pub parts : body_parts more + before.parts ≤ after.parts + body_parts made

same : (seen : Seen) (made : Body) → Grows seen made seen made
same seen made = record { rises = stays seen; size = omega arith; parts = omega arith }

grows_on : (a b c : Seen) (x y z : Body) → Grows a x b y → Grows b y c z → Grows a x c z
grows_on a b c x y z p q = record { rises = rises_on a b c p.rises q.rises; size = omega (arith, p.size, q.size); parts = omega (arith, p.parts, q.parts) }

later : (a b c : Seen) (made more : Body) → Rises a b → Grows b made c more → Grows a made c more
later a b c made more r p = record { rises = rises_on a b c r p.rises; size = omega (arith, r.statements, p.size); parts = omega (arith, r.parts, p.parts) }

-- one statement was counted, and this much inside it, and these parts
one : (seen s t : Seen) (made : Body) (x : Stmt) (inside parts : ℕ) → s ≡ one_more Statements seen → Rises s t → stmt_size x ≡ 1 + inside → inside + s.statements ≤ t.statements → stmt_parts x ≡ parts → parts + s.parts ≤ t.parts
    → Grows seen made t (added made x)
one seen s t made x inside parts is r large within long spent = record {
  rises = record {
    instances = omega (arith, ap (λ (u : Seen). u.instances) is, r.instances);
    statements = omega (arith, ap (λ (u : Seen). u.statements) is, r.statements);
    signals = omega (arith, ap (λ (u : Seen). u.signals) is, r.signals);
    parts = omega (arith, ap (λ (u : Seen). u.parts) is, r.parts);
  };
  size = omega (arith, size_added made x, large, within, ap (λ (u : Seen). u.statements) is);
  parts = omega (arith, parts_added made x, long, spent, ap (λ (u : Seen). u.parts) is);
}

mutual
  unfolding statement Ends and_then

  pub stmt_counts : (s : tree.Stmt) (gens : Gens) (made : Body) (seen : Seen) → Ends (λ t more. Grows seen made t more) seen (statement s gens made)
  stmt_counts (assign line f p e) gens made seen =
      after_any _ (fam_name line gens f) _ (one_more Statements seen) (λ s x r. after_any _ (part_bounds line gens p) _ s (λ u part k. ends_then _ _ (expr line gens e) _ u (expr_counts line gens e u) (λ t v q.
      one seen (one_more Statements seen) t made (Assign 0 line gens x part v) 0 (expr_parts v) refl (rises_on _ s t r (rises_on s u t k q.rises)) refl (omega (arith, r.statements, k.statements, q.rises.statements)) refl
      (omega (arith, r.parts, k.parts, q.parts)))))
  stmt_counts (bind line f e) gens made seen =
      after_any _ (fam_name line gens f) _ (one_more Statements seen) (λ s x r. ends_then _ _ (expr line gens e) _ s (expr_counts line gens e s) (λ t v q.
      one seen (one_more Statements seen) t made (Let 0 line gens x v) 0 (expr_parts v) refl (rises_on _ s t r q.rises) refl (omega (arith, r.statements, q.rises.statements)) refl (omega (arith, r.parts, q.parts))))
  stmt_counts (choose line c first second) gens made seen =
      ends_then _ _ (expr line gens c) _ (one_more Statements seen) (expr_counts line gens c (one_more Statements seen)) (λ s test r. ends_then _ _ (statements first gens Done) _ s (stmts_counts first gens Done s) (λ t yes_body p.
      ends_then _ _ (else_body second gens) _ t (else_counts second gens t) (λ u no_body q.
      one seen (one_more Statements seen) u made (If 0 line gens test yes_body no_body) (size yes_body + else_size no_body) (expr_parts test + body_parts yes_body + else_parts no_body) refl
      (rises_on _ s u r.rises (rises_on s t u p.rises q.0)) (omega arith) (omega (arith, r.rises.statements, p.size, q.1)) refl (omega (arith, r.parts, p.parts, q.2)))))
  stmt_counts (select line v all other) gens made seen =
      ends_then _ _ (expr line gens v) _ (one_more Statements seen) (expr_counts line gens v (one_more Statements seen)) (λ s value r. ends_then _ _ (arm_bodies line all gens []) _ s (arms_count line all gens [] s) (λ t cases p.
      ends_then _ _ (else_body other gens) _ t (else_counts other gens t) (λ u last q.
      one seen (one_more Statements seen) u made (Case 0 line gens value (arms_from cases) last) (arms_size (arms_from cases) + else_size last) (expr_parts value + arms_parts (arms_from cases) + else_parts last) refl
      (rises_on _ s u r.rises (rises_on s t u p.0 q.0)) (omega arith) (omega (arith, r.rises.statements, p.1, q.1)) refl (omega (arith, r.parts, p.2, q.2)))))
  stmt_counts (repeat line x from to body) gens made seen =
      after_any _ (two_numbers line gens from to) _ seen (λ s range r. after_any _ (turn_count line range.0 range.1) _ s (λ t count q.
      turns_keep (λ u more. Grows seen made u more) line (λ k more. statements body (bound x k gens) more) range.0 count made t
      (λ what u more p. record { rises = record { instances = p.rises.instances; statements = p.rises.statements; signals = p.rises.signals; parts = p.rises.parts }; size = p.size; parts = p.parts })
      (λ k u more p. ends_as _ _ (statements body (bound x k gens) more) u (stmts_counts body (bound x k gens) more u) (λ v then_more g. grows_on seen u v made more then_more p g))
      (record { rises = rises_on seen s t r q; size = omega (arith, r.statements, q.statements); parts = omega (arith, r.parts, q.parts) })))
  stmt_counts (given line left cmp right first second) gens made seen =
      after_any _ (two_numbers line gens left right) _ seen (λ s pair r.
      ends_either _ (holds cmp pair.0 pair.1) (statements first gens made) (else_statements second gens made) s
      (ends_as _ _ (statements first gens made) s (stmts_counts first gens made s) (λ t more p. later seen s t made more r p))
      (ends_as _ _ (else_statements second gens made) s (else_stmts_counts second gens made s) (λ t more p. later seen s t made more r p)))

  pub stmts_counts : (body : Stmts) (gens : Gens) (made : Body) (seen : Seen) → Ends (λ t more. Grows seen made t more) seen (statements body gens made)
  stmts_counts no_stmt gens made seen = same seen made
  stmts_counts (stmt s rest) gens made seen =
      ends_then _ _ (statement s gens made) (λ more. statements rest gens more) seen (stmt_counts s gens made seen) (λ t more p.
      ends_as _ _ (statements rest gens more) t (stmts_counts rest gens more t) (λ u all q. grows_on seen t u made more all p q))

  arms_count : (line : ℕ) (all : tree.Arms) (gens : Gens) (made : List (List Literal × Body)) (seen : Seen)
      → Ends (λ t more. Rises seen t × (arms_size (arms_from more) + seen.statements ≤ t.statements + arms_size (arms_from made)) × (arms_parts (arms_from more) + seen.parts ≤ t.parts + arms_parts (arms_from made))) seen (arm_bodies line all gens made)
  arms_count line no_arm gens made seen = (stays seen, omega arith, omega arith)
  arms_count line (arm tests body more) gens made seen =
      ends_then _ _ (literals line gens tests []) _ seen (literals_count line gens tests [] seen) (λ s ls p. ends_then _ _ (statements body gens Done) _ s (stmts_counts body gens Done s) (λ t b q.
      ends_as _ _ (arm_bodies line more gens (made ++ (ls, b) ∷ [])) t (arms_count line more gens (made ++ (ls, b) ∷ []) t) (λ u all_made r.
      (rises_on seen t u (rises_on seen s t p.0 q.rises) r.0, omega (arith, p.0.statements, q.size, r.1, arms_size_added made (ls, b)), omega (arith, p.1, q.parts, r.2, arms_parts_added made (ls, b))))))

  else_counts : (e : tree.Else) (gens : Gens) (seen : Seen) → Ends (λ t made. Rises seen t × (else_size made + seen.statements ≤ t.statements) × (else_parts made + seen.parts ≤ t.parts)) seen (else_body e gens)
  else_counts no_else gens seen = (stays seen, omega arith, omega arith)
  else_counts (otherwise body) gens seen =
      ends_then _ _ (statements body gens Done) _ seen (stmts_counts body gens Done seen) (λ t made p. (p.rises, omega (arith, p.size), omega (arith, p.parts)))

  else_stmts_counts : (e : tree.Else) (gens : Gens) (made : Body) (seen : Seen) → Ends (λ t more. Grows seen made t more) seen (else_statements e gens made)
  else_stmts_counts no_else gens made seen = same seen made
  else_stmts_counts (otherwise body) gens made seen = stmts_counts body gens made seen
