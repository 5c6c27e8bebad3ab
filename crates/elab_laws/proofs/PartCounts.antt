-- The parts of expressions are counted.
use Rattle.std.proofs.Common.{◌≡◌, ℕ, ◌+◌, ◌≤◌, List, [], ◌∷◌, ◌++◌, length, length-append, ap, ◌∙◌, arith}
use Rattle.gen_tree.specs.Tree as tree
use Rattle.gen_tree.specs.Tree.{Lit, read, out, value, unary, binary, mux, zext, slice}
use Rattle.elab_core.specs.declared.Count.TheVariants.{Parts}
use Rattle.elab_core.specs.Walk.{and_then, Seen, one_more}
use Rattle.elab_core.specs.Numbers.{fam_name, number, two_numbers}
use Rattle.design_core.specs.declared.Literal.{Literal}
use Rattle.design_core.specs.Design.{Gens, Conn}
use Rattle.design_core.specs.Sizes.{expr_parts, conns_parts}
use Rattle.elab_core.specs.Elab.{literal, literals, expr, conns}
use Rattle.elab_laws.proofs.Counts.{Ends, ends_then, ends_as, after_any, Rises, rises_on, stays, one_rises}

-- no count falls, and so many parts are counted at least
pub record Spends (n : ℕ) (before after : Seen) : Type 0 where
  pub rises : Rises before after
  pub parts : n + before.parts ≤ after.parts

-- one part, and then so many
one_part : (n : ℕ) (seen s : Seen) → Spends n (one_more Parts seen) s → Spends (1 + n) seen s
one_part n seen s h = record { rises = rises_on seen (one_more Parts seen) s (one_rises Parts seen) h.rises; parts = omega (arith, h.parts) }

none : (a b : Seen) → Rises a b → Spends 0 a b
none a b r = record { rises = r; parts = omega (arith, r.parts) }

spends_on : (m n : ℕ) (a b c : Seen) → Spends m a b → Spends n b c → Spends (m + n) a c
spends_on m n a b c p q = record { rises = rises_on a b c p.rises q.rises; parts = omega (arith, p.parts, q.parts) }

spends_more : (n : ℕ) (a b c : Seen) → Spends n a b → Rises b c → Spends n a c
spends_more n a b c p r = record { rises = rises_on a b c p.rises r; parts = omega (arith, p.parts, r.parts) }

pub expr_counts : (line : ℕ) (gens : Gens) (e : tree.Expr) (seen : Seen) → Ends (λ s v. Spends (expr_parts v) seen s) seen (expr line gens e)
unfolding expr Ends and_then
expr_counts line gens (read f) seen = after_any _ (fam_name line gens f) _ (one_more Parts seen) (λ s x r. one_part 0 seen s (none _ s r))
expr_counts line gens (out f q) seen = after_any _ (fam_name line gens f) _ (one_more Parts seen) (λ s x r. one_part 0 seen s (none _ s r))
expr_counts line gens (value l) seen = after_any _ (literal line gens l) _ (one_more Parts seen) (λ s v r. one_part 0 seen s (none _ s r))
expr_counts line gens (unary o e) seen =
    ends_then _ _ (expr line gens e) _ (one_more Parts seen) (expr_counts line gens e (one_more Parts seen)) (λ s a p. one_part (expr_parts a) seen s p)
expr_counts line gens (binary o e f) seen =
    ends_then _ _ (expr line gens e) _ (one_more Parts seen) (expr_counts line gens e (one_more Parts seen)) (λ s a p.
    ends_then _ _ (expr line gens f) _ s (expr_counts line gens f s) (λ t b q.
    spends_on (1 + expr_parts a) (expr_parts b) seen s t (one_part (expr_parts a) seen s p) q))
expr_counts line gens (mux e f g) seen =
    ends_then _ _ (expr line gens e) _ (one_more Parts seen) (expr_counts line gens e (one_more Parts seen)) (λ s c p.
    ends_then _ _ (expr line gens f) _ s (expr_counts line gens f s) (λ t a q.
    ends_then _ _ (expr line gens g) _ t (expr_counts line gens g t) (λ u b r.
    spends_on (1 + expr_parts c + expr_parts a) (expr_parts b) seen t u (spends_on (1 + expr_parts c) (expr_parts a) seen s t (one_part (expr_parts c) seen s p) q) r)))
expr_counts line gens (zext e w) seen =
    ends_then _ _ (expr line gens e) _ (one_more Parts seen) (expr_counts line gens e (one_more Parts seen)) (λ s a p.
    after_any _ (number line gens w) _ s (λ t n r. spends_more (1 + expr_parts a) seen s t (one_part (expr_parts a) seen s p) r))
expr_counts line gens (slice e h l) seen =
    ends_then _ _ (expr line gens e) _ (one_more Parts seen) (expr_counts line gens e (one_more Parts seen)) (λ s a p.
    after_any _ (two_numbers line gens h l) _ s (λ t pair r. spends_more (1 + expr_parts a) seen s t (one_part (expr_parts a) seen s p) r))

conns_added : (cs : List Conn) (c : Conn) → conns_parts (cs ++ c ∷ []) ≡ conns_parts cs + expr_parts c.value
conns_added [] c = omega arith
conns_added (d ∷ cs) c = ap (λ n. expr_parts d.value + n) (conns_added cs c) ∙ omega arith

-- as many parts more as were counted, at most, since these counts and connections
pub record ConnsGrow (before : Seen) (made : List Conn) (after : Seen) (more : List Conn) : Type 0 where
  pub rises : Rises before after
  pub parts : conns_parts more + before.parts ≤ after.parts + conns_parts made

one_conn : (a b c : Seen) (made more : List Conn) (d : Conn) → Spends (expr_parts d.value) a b → ConnsGrow b (made ++ d ∷ []) c more → ConnsGrow a made c more
one_conn a b c made more d p q = record { rises = rises_on a b c p.rises q.rises; parts = omega (arith, p.parts, q.parts, conns_added made d) }

pub conns_counts : (cs : List tree.Conn) (gens : Gens) (made : List Conn) (seen : Seen) → Ends (λ s more. ConnsGrow seen made s more) seen (conns cs gens made)
unfolding conns Ends and_then
conns_counts [] gens made seen = record { rises = stays seen; parts = omega arith }
conns_counts (c ∷ cs) gens made seen =
    ends_then _ _ (expr c.line gens c.value) _ seen (expr_counts c.line gens c.value seen) (λ s v p.
    let d : Conn = record { line = c.line; port = c.port; value = v } in
    ends_as _ _ (conns cs gens (made ++ d ∷ [])) s (conns_counts cs gens (made ++ d ∷ []) s) (λ t more q. one_conn seen s t made more d p q))

-- the literals of an arm: each is a part
pub literals_count : (line : ℕ) (gens : Gens) (ls : List Lit) (made : List Literal) (seen : Seen) → Ends (λ s more. Rises seen s × (length more + seen.parts ≤ s.parts + length made)) seen (literals line gens ls made)
unfolding literals Ends and_then
literals_count line gens [] made seen = (stays seen, omega arith)
literals_count line gens (l ∷ ls) made seen =
    after_any _ (literal line gens l) _ (one_more Parts seen) (λ s v r. ends_as _ _ (literals line gens ls (made ++ v ∷ [])) s (literals_count line gens ls (made ++ v ∷ []) s) (λ t more p.
    (rises_on seen s t (rises_on seen (one_more Parts seen) s (one_rises Parts seen) r) p.0, omega (arith, r.parts, p.1, length-append made (v ∷ [])))))
