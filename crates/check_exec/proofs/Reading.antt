-- No name of a block is read before it is written.
use Rattle.std.proofs.Common.{◌≡◌, ℕ, ◌<◌, Bool, true, false, true≢false, ◌&&◌, List, [], ◌∷◌, ◌++◌, map, None, if◌then◌else◌, refl, sym, ap, ◌∙◌, subst, arith}
use Rattle.std.proofs.lemmas.Bool.{and_from}
use Rattle.bv_core.specs.Value as value
use Rattle.exec_core.specs.Block.{Name, Key, Now}
use Rattle.exec_core.specs.Cases.{or_else_is, test_of, arms_body}
use Rattle.exec_core.specs.Decided.{some_below}
use Rattle.list_core.specs.Lists.{EachOf, IsIn}
use Rattle.exec_core.specs.Paths.{Skips, Reads, BodyReads, ReadsAssigned, own_key}
use Rattle.list_core.proofs.Lists.{each_member}
use Rattle.list_core.proofs.Options.{none_if}
use Rattle.design_core.specs.Design.{Expr, Read, Out, Value, Unary, Binary, Mux, Zext, Slice, Stmt, Assign, Let, If, Case, Body, Done, Then, Else, NoElse, Otherwise, Arms, NoArms, ThenArm, Block, Variant}
use Rattle.design_exec.specs.Processes.{tree_of, value_of, stmt_of, body_of, else_of, arms_of}
use Rattle.check_core.specs.declared.fault.CheckFault.TheVariants.{ReadBeforeWrite}
use Rattle.names.specs.Known.{Known}
use Rattle.design_core.specs.Statements.{inside, statements, else_statements, arms_statements}
use Rattle.check_core.specs.Faults.{first_of, spot}
use Rattle.check_core.specs.Names.{named, any_kind, is_child_output}
use Rattle.design_core.specs.Dotted.{below}
use Rattle.check_core.specs.Ports.{unknown_output, unknown_port_in, unknown_port_in_child, unknown_port_in_block}
use Rattle.check_core.specs.Paths as paths
use Rattle.check_core.specs.Paths.{Bits, declared_width, skips, early_read, early, early_in, early_in_else, early_in_arms, early_in_block}
use Rattle.check_exec.proofs.Facts.{each_left, each_right, none_found, earlier_left, earlier_right}
use Rattle.check_exec.proofs.Instances.{IsClean}
use Rattle.check_exec.proofs.Statements.{Suits, skip_stmt}
use Rattle.check_exec.proofs.Declared.{declared_none, some_from}
use Rattle.check_exec.proofs.Names.{named_by}
use Rattle.check_exec.proofs.Targets.{own_name, own_checked, own_no_output, place_of, own_suits}
use Rattle.check_exec.proofs.Widths.{is_known}

-- bits that some path has not assigned: the checks miss the bit that stands for each, and it lies in the width that they take; the name
-- is no output of a child; and each statement suits both
pub record IsMissed (clocked : Bool) (outputs : Known) (v : Variant) (ws : Name → ℕ) (missing : Bits) (missed : Key → ℕ → Type 0) (list : List Stmt) : Type 0 where
  pub known : (x : Name) (i : ℕ) → missed (Now x) i → missing x (place_of v x i) ≡ true
  pub within : (x : Name) (i : ℕ) → i < ws x → missed (Now x) i → place_of v x i < declared_width v.signals x
  pub no_output : (x : Name) (i : ℕ) → missed (Now x) i → outputs x ≡ true → ⊥
  pub suits : (x : Name) (i : ℕ) → missed (Now x) i → EachOf (Suits clocked x i (place_of v x i)) list

module _ (clocked : Bool) (outputs : Known) (v : Variant) (ws : Name → ℕ) where
  fewer : (missing : Bits) (missed : Key → ℕ → Type 0) (a b : List Stmt) → IsMissed clocked outputs v ws missing missed (a ++ b) → IsMissed clocked outputs v ws missing missed a
  fewer missing missed a b m = record { known = m.known; within = m.within; no_output = m.no_output; suits = λ x i h. each_left (Suits clocked x i (place_of v x i)) a b (m.suits x i h) }

  others : (missing : Bits) (missed : Key → ℕ → Type 0) (a b : List Stmt) → IsMissed clocked outputs v ws missing missed (a ++ b) → IsMissed clocked outputs v ws missing missed b
  others missing missed a b m = record { known = m.known; within = m.within; no_output = m.no_output; suits = λ x i h. each_right (Suits clocked x i (place_of v x i)) a b (m.suits x i h) }

  -- after a statement
  later : (missing : Bits) (missed : Key → ℕ → Type 0) (s : Stmt) (rest : List Stmt) → IsMissed clocked outputs v ws missing missed ((s ∷ inside s) ++ rest)
      → IsMissed clocked outputs v ws (λ y i. missing y i && skips s y i) (λ y i. missed y i × Skips (stmt_of clocked s) y i) rest
  later missing missed s rest m = record {
    known = λ x i h.
        and_from (missing x (place_of v x i)) (skips s x (place_of v x i)) (m.known x i h.0)
        (skip_stmt clocked x i (place_of v x i) s (each_left (Suits clocked x i (place_of v x i)) (s ∷ inside s) rest (m.suits x i h.0)) h.1);
    within = λ x i l h. m.within x i l h.0;
    no_output = λ x i h. m.no_output x i h.0;
    suits = λ x i h. each_right (Suits clocked x i (place_of v x i)) (s ∷ inside s) rest (m.suits x i h.0);
  }

  abbrev W : Name → ℕ
  W = declared_width v.signals

  reads_expr : (missing : Bits) (missed : Key → ℕ → Type 0) (list : List Stmt) → IsMissed clocked outputs v ws missing missed list → (line line' : ℕ) (e : Expr)
      → unknown_output outputs line' e ≡ None → early_read W missing line e ≡ None → ReadsAssigned ws missed (tree_of e)
  reads_expr missing missed list m line n (Read x) p e = λ h.
      true≢false (sym (some_from (W x) (missing x) (place_of v x h.0) (m.within x h.0 h.1 h.2) (m.known x h.0 h.2)) ∙ (none_if (some_below (W x) (missing x)) (ReadBeforeWrite (spot line x)) None e).0)
  reads_expr missing missed list m line n (Out u q) p e = λ h. m.no_output (below u q) h.0 h.2 (is_known (outputs (below u q)) _ p)
  reads_expr missing missed list m line n (Value l) p e = tt
  reads_expr missing missed list m line n (Unary o a) p e = reads_expr missing missed list m line n a p e
  reads_expr missing missed list m line n (Binary o a b) p e = (
    reads_expr missing missed list m line n a (earlier_left (unknown_output outputs n a) _ p) (earlier_left (early_read W missing line a) _ e),
    reads_expr missing missed list m line n b (earlier_right (unknown_output outputs n a) _ p) (earlier_right (early_read W missing line a) _ e),
  )
  reads_expr missing missed list m line n (Mux c a b) p e =
      let q = earlier_right (unknown_output outputs n c) _ p in
      let f = earlier_right (early_read W missing line c) _ e in (
        reads_expr missing missed list m line n c (earlier_left (unknown_output outputs n c) _ p) (earlier_left (early_read W missing line c) _ e),
        reads_expr missing missed list m line n a (earlier_left (unknown_output outputs n a) _ q) (earlier_left (early_read W missing line a) _ f),
        reads_expr missing missed list m line n b (earlier_right (unknown_output outputs n a) _ q) (earlier_right (early_read W missing line a) _ f),
      )
  reads_expr missing missed list m line n (Zext a w) p e = reads_expr missing missed list m line n a p e
  reads_expr missing missed list m line n (Slice a h l) p e = reads_expr missing missed list m line n a p e

  abbrev NoUnknown : Stmt → Type 0
  NoUnknown s = unknown_port_in outputs s ≡ None

  -- a test reads what the value of its `case` reads
  reads_or : (missed : Key → ℕ → Type 0) (t e : _) (ls : List value.Bits) → ReadsAssigned ws missed t → ReadsAssigned ws missed e → ReadsAssigned ws missed (or_else_is t e ls)
  reads_or missed t e [] h g = h
  reads_or missed t e (l ∷ ls) h g = reads_or missed _ e ls (h, (g, tt)) g

  reads_test : (missed : Key → ℕ → Type 0) (e : _) (ls : List value.Bits) → ReadsAssigned ws missed e → ReadsAssigned ws missed (test_of e ls)
  reads_test missed e [] g = tt
  reads_test missed e (l ∷ ls) g = reads_or missed _ e ls (g, tt) g

  mutual
    reads_stmt : (missing : Bits) (missed : Key → ℕ → Type 0) (s : Stmt) → IsMissed clocked outputs v ws missing missed (s ∷ inside s) → EachOf NoUnknown (s ∷ inside s)
        → early W missing s ≡ None → Reads ws (stmt_of clocked s) missed
    reads_stmt missing missed (Assign slot line gens x part e) m p f = reads_expr missing missed (Assign slot line gens x part e ∷ []) m line line e p.0 f
    reads_stmt missing missed (Let slot line gens x e) m p f = reads_expr missing missed (Let slot line gens x e ∷ []) m line line e p.0 f
    reads_stmt missing missed (If slot line gens c first second) m p f =
        let s : Stmt = If slot line gens c first second in
        let inner = others missing missed (s ∷ []) (statements first ++ else_statements second) m in
        let g = earlier_right (early_read W missing line c) _ f in (
          reads_expr missing missed (s ∷ inside s) m line line c p.0 (earlier_left (early_read W missing line c) _ f),
          reads_body missing missed first (fewer missing missed (statements first) (else_statements second) inner)
              (each_left NoUnknown (statements first) (else_statements second) p.1) (earlier_left (early_in W missing first) _ g),
          reads_else missing missed second (others missing missed (statements first) (else_statements second) inner)
              (each_right NoUnknown (statements first) (else_statements second) p.1) (earlier_right (early_in W missing first) _ g),
        )
    reads_stmt missing missed (Case slot line gens e NoArms other) m p f =
        let s : Stmt = Case slot line gens e NoArms other in
        (tt, tt, reads_else missing missed other (others missing missed (s ∷ []) (else_statements other) m) p.1 (earlier_right (early_read W missing line e) _ f))
    reads_stmt missing missed (Case slot line gens e (ThenArm tests body rest) other) m p f =
        let s : Stmt = Case slot line gens e (ThenArm tests body rest) other in
        let arms : List Stmt = statements body ++ arms_statements rest in
        let inner = others missing missed (s ∷ []) (arms ++ else_statements other) m in
        let value = reads_expr missing missed (s ∷ inside s) m line line e p.0 (earlier_left (early_read W missing line e) _ f) in
        let g = earlier_right (early_read W missing line e) _ f in
        let in_arms = fewer missing missed arms (else_statements other) inner in
        let known = each_left NoUnknown arms (else_statements other) p.1 in
        let early' = earlier_left (early_in_arms W missing (ThenArm tests body rest)) _ g in (
          reads_test missed (tree_of e) (map value_of tests) value,
          reads_body missing missed body (fewer missing missed (statements body) (arms_statements rest) in_arms) (each_left NoUnknown (statements body) (arms_statements rest) known) (earlier_left (early_in W missing body) _ early'),
          reads_arms missing missed e rest other (others missing missed (statements body) (arms_statements rest) in_arms) (each_right NoUnknown (statements body) (arms_statements rest) known) (earlier_right (early_in W missing body) _ early') value
              (reads_else missing missed other (others missing missed arms (else_statements other) inner) (each_right NoUnknown arms (else_statements other) p.1)
              (earlier_right (early_in_arms W missing (ThenArm tests body rest)) _ g)),
        )

    -- arms, each in the else-branch of the one before it
    reads_arms : (missing : Bits) (missed : Key → ℕ → Type 0) (e : Expr) (arms : Arms) (other : Else) → IsMissed clocked outputs v ws missing missed (arms_statements arms) → EachOf NoUnknown (arms_statements arms)
        → early_in_arms W missing arms ≡ None → ReadsAssigned ws missed (tree_of e) → BodyReads ws (else_of clocked other) missed → BodyReads ws (arms_body (tree_of e) (arms_of clocked arms) (else_of clocked other)) missed
    reads_arms missing missed e NoArms other m p f value last = last
    reads_arms missing missed e (ThenArm tests body rest) other m p f value last = (
      (
        reads_test missed (tree_of e) (map value_of tests) value,
        reads_body missing missed body (fewer missing missed (statements body) (arms_statements rest) m) (each_left NoUnknown (statements body) (arms_statements rest) p) (earlier_left (early_in W missing body) _ f),
        reads_arms missing missed e rest other (others missing missed (statements body) (arms_statements rest) m) (each_right NoUnknown (statements body) (arms_statements rest) p) (earlier_right (early_in W missing body) _ f) value last,
      ),
      tt,
    )

    pub reads_body : (missing : Bits) (missed : Key → ℕ → Type 0) (b : Body) → IsMissed clocked outputs v ws missing missed (statements b) → EachOf NoUnknown (statements b)
        → early_in W missing b ≡ None → BodyReads ws (body_of clocked b) missed
    reads_body missing missed Done m p f = tt
    reads_body missing missed (Then s rest) m p f = (
      reads_stmt missing missed s (fewer missing missed (s ∷ inside s) (statements rest) m) (each_left NoUnknown (s ∷ inside s) (statements rest) p) (earlier_left (early W missing s) _ f),
      reads_body (λ y i. missing y i && skips s y i) (λ y i. missed y i × Skips (stmt_of clocked s) y i) rest (later missing missed s (statements rest) m)
          (each_right NoUnknown (s ∷ inside s) (statements rest) p) (earlier_right (early W missing s) _ f),
    )

    reads_else : (missing : Bits) (missed : Key → ℕ → Type 0) (b : Else) → IsMissed clocked outputs v ws missing missed (else_statements b) → EachOf NoUnknown (else_statements b)
        → early_in_else W missing b ≡ None → BodyReads ws (else_of clocked b) missed
    reads_else missing missed NoElse m p f = tt
    reads_else missing missed (Otherwise body) m p f = reads_body missing missed body m p f

pub ports_known : (variants : List Variant) (v : Variant) (b : Block) → IsClean variants v → IsIn b v.blocks → EachOf (λ s. unknown_port_in (named is_child_output v.signals) s ≡ None) (statements b.body)
ports_known variants v b c at =
    none_found (unknown_port_in (named is_child_output v.signals)) (statements b.body)
    (each_member (λ k. unknown_port_in_block (named is_child_output v.signals) k ≡ None) v.blocks
    (none_found (unknown_port_in_block (named is_child_output v.signals)) v.blocks
    (earlier_right (first_of (unknown_port_in_child (named is_child_output v.signals) variants) v.children) _ c.ports)) b at)

-- a bit of a name stands for one that lies in the width that the checks take
place_within : (v : Variant) (x : Name) (i w : ℕ) → i < w → (named any_kind v.signals x ≡ true → w ≡ declared_width v.signals x) → place_of v x i < declared_width v.signals x
place_within v x i w less same = by_test (named any_kind v.signals x) refl
  where
    by_test : (b : Bool) → named any_kind v.signals x ≡ b → (if b then i else 0) < declared_width v.signals x
    by_test true e = subst (λ k. i < k) (same e) less
    by_test false e = subst (λ k. 0 < k) (sym (declared_none v.signals x (named_by v.signals x ∙ e))) (omega arith)

-- no name of a block is read, whole or in part, where some path has not assigned each bit of it; signals have these widths
pub block_reads : (ws : Name → ℕ) (variants : List Variant) (v : Variant) (b : Block) → ((x : Name) → named any_kind v.signals x ≡ true → ws x ≡ declared_width v.signals x) → IsClean variants v → IsIn b v.blocks
    → BodyReads ws (body_of b.clocked b.body) (λ y i. own_key (body_of b.clocked b.body) y ≡ true)
block_reads ws variants v b same c at =
    reads_body b.clocked (named is_child_output v.signals) v ws (λ y i. paths.own b y) (λ y i. own_key (body_of b.clocked b.body) y ≡ true) b.body
    (record {
      known = λ x i h. own_checked v b x (own_name variants v b c at x h);
      within = λ x i l h. place_within v x i (ws x) l (same x);
      no_output = λ x i h. own_no_output variants v b c at x (own_name variants v b c at x h);
      suits = λ x i h. own_suits variants v b c at x i (own_name variants v b c at x h);
    })
    (ports_known variants v b c at)
    (each_member (λ k. early_in_block (declared_width v.signals) k ≡ None) v.blocks (none_found (early_in_block (declared_width v.signals)) v.blocks c.written) b at)
