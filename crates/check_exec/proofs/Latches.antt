-- No path of a block leaves a target unassigned.
use Rattle.std.proofs.Common.{◌≡◌, ℕ, ◌<◌, ◌&&◌, Bool, true, false, true≢false, List, [], ◌∷◌, None, inl, inr, refl, sym, ap, ◌∙◌, subst, if◌then◌else◌}
use Rattle.std.specs.Prelude.{bytes_eq}
use Rattle.std.specs.List.{list_any}
use Rattle.tree_core.proofs.Same.{both_true}
use Rattle.exec_core.specs.Block.{Name, Now, covers}
use Rattle.exec_core.specs.Decided.{some_below}
use Rattle.list_core.specs.Lists.{EachOf, IsIn}
use Rattle.exec_core.specs.Paths.{BodySkips, SomeBit}
use Rattle.exec_core.specs.Design.{signals_of, width_in}
use Rattle.exec_core.specs.Run.{IsTarget}
use Rattle.list_core.proofs.Lists.{each_member, each_from}
use Rattle.list_core.proofs.Options.{none_if}
use Rattle.design_core.specs.declared.design.Instance.{Instance}
use Rattle.design_core.specs.Design.{Stmt, Assign, Let, If, Case, Body, Block, Variant, Design}
use Rattle.design_core.specs.declared.variant.Signal.{Signal}
use Rattle.design_exec.specs.Processes.{process, processes_of, body_of, body_widths, signal_width, instance_signals}
use Rattle.check_core.specs.declared.fault.CheckFault.TheVariants.{Latch}
use Rattle.design_core.specs.Statements.{statements}
use Rattle.check_core.specs.Faults.{first_of, spot}
use Rattle.check_core.specs.Names.{named, any_kind}
use Rattle.check_core.specs.Drivers.{assignments, driven_in}
use Rattle.check_core.specs.Widths.{is_sized, is_part, bad_stmt, bad_signal, bad_in_child, bad_in_block}
use Rattle.check_core.specs.Paths.{declared_width, body_skips, latch_at, latch_in}
use Rattle.check_exec.specs.Premises.{NoLatchIsLeft}
use Rattle.check_exec.proofs.Facts.{none_found, earlier_right}
use Rattle.check_exec.proofs.Instances.{IsClean, Stands, clean, signals_are, each_process}
use Rattle.check_exec.proofs.Names.{signals_named, let_no_signal}
use Rattle.check_exec.proofs.Statements.{Sets, SetIn, set_by, Suits, skip_body}
use Rattle.check_exec.proofs.Arms.{same_part}
use Rattle.check_exec.proofs.Declared.{declared_is, some_from}
use Rattle.check_exec.proofs.Widths.{sized}

pub assignment_in : (list : List Stmt) (slot line : ℕ) (gens : _) (x : Name) (part : _) (e : _) → IsIn (Assign slot line gens x part e) list → IsIn (line, x) (assignments list)
assignment_in [] slot line gens x part e i = absurd i
assignment_in (s ∷ list) slot line gens x part e (inl same) = subst (λ t. IsIn (line, x) (assignments (t ∷ list))) same (inl refl)
assignment_in (Assign n l g y p f ∷ list) slot line gens x part e (inr i) = inr (assignment_in list slot line gens x part e i)
assignment_in (Let n l g y f ∷ list) slot line gens x part e (inr i) = assignment_in list slot line gens x part e i
assignment_in (If n l g c a b ∷ list) slot line gens x part e (inr i) = assignment_in list slot line gens x part e i
assignment_in (Case n l g v a b ∷ list) slot line gens x part e (inr i) = assignment_in list slot line gens x part e i

-- assignments of a `comb` are to names, and their parts are those of the checks
suits_comb : (clocked : Bool) (y : Name) (i : ℕ) → clocked ≡ false → (s : Stmt) → bad_stmt s ≡ None → Suits clocked y i i s
suits_comb clocked y i e (Assign slot line gens x part f) bad =
    (λ h. absurd (true≢false (sym h ∙ e)), λ same. ap (λ p. covers p i) (sym (same_part part (both_true (is_sized f) (is_part part) (sized (is_sized f && is_part part) line x bad)).1)))
suits_comb clocked y i e (Let slot line gens x f) bad = tt
suits_comb clocked y i e (If slot line gens c first second) bad = tt
suits_comb clocked y i e (Case slot line gens v arms other) bad = tt

-- the literals and bounds of a block's statements are such
pub block_sized : (variants : List Variant) (v : Variant) (b : Block) → IsClean variants v → IsIn b v.blocks → EachOf (λ s. bad_stmt s ≡ None) (statements b.body)
block_sized variants v b c at =
    none_found bad_stmt (statements b.body)
    (each_member (λ k. bad_in_block k ≡ None) v.blocks
    (none_found bad_in_block v.blocks (earlier_right (first_of bad_in_child v.children) _ (earlier_right (first_of bad_signal v.signals) _ c.sized))) b at)

-- each bit of each target of a `comb` is assigned on each path
all_assigned : (widths : Name → ℕ) (b : Block) → b.clocked ≡ false → latch_in widths b ≡ None → (line : ℕ) (x : Name) → IsIn (line, x) (driven_in b) → some_below (widths x) (body_skips b.body x) ≡ false
all_assigned widths b comb e line x i =
    let none : first_of (latch_at widths b) (driven_in b) ≡ None = ap (λ c. if c then None else first_of (latch_at widths b) (driven_in b)) (sym comb) ∙ e in
    (none_if (some_below (widths x) (body_skips b.body x)) (Latch (spot b.line x)) None (each_member (λ p. latch_at widths b p ≡ None) (driven_in b) (none_found (latch_at widths b) (driven_in b) none) (line, x) i)).0

-- the width of a signal is that of the checks
pub signal_declared : (d : Design) (i : ℕ) (r : Instance) (v : Variant) (b : Block) → Stands d i r v → (x : Name) → signals_of (processes_of d) (process i v.signals b) x ≡ true
    → width_in (processes_of d) (process i v.signals b) x ≡ declared_width v.signals x
signal_declared d i r v b s x e =
    ap (λ t. if t then signal_width (instance_signals d i) x else body_widths b_body (signal_width v.signals) x) e ∙ ap (λ l. signal_width l x) (signals_are d i r v s)
    ∙ sym (declared_is v.signals x (sym (ap (list_any (λ (t : Signal). bytes_eq t.name x)) (signals_are d i r v s)) ∙ e))
  where
    b_body : Body
    b_body = b.body

no_latch : (d : Design) (i : ℕ) (r : Instance) (v : Variant) (b : Block) → Stands d i r v → IsClean d.variants v → IsIn b v.blocks → (x : Name)
    → IsTarget (processes_of d) (process i v.signals b) x → SomeBit (width_in (processes_of d) (process i v.signals b) x) (BodySkips (body_of b.clocked b.body) (Now x)) → ⊥
no_latch d i r v b stands c at x target (k, less, path) = by_statement (set_by b.clocked x b.body target.0)
  where
    by_kind : (s : Stmt) → IsIn s (statements b.body) → Sets b.clocked x s → ⊥
    by_kind (Assign slot line gens y part e) here sets =
        let suits = each_from (Suits b.clocked x k k) (statements b.body) (λ t j. suits_comb b.clocked x k sets.0 t (each_member (λ s. bad_stmt s ≡ None) (statements b.body) (block_sized d.variants v b c at) t j)) in
        let found : IsIn (line, x) (driven_in b) = subst (λ z. IsIn (line, z) (driven_in b)) sets.1 (assignment_in (statements b.body) slot line gens y part e here) in
        let some = some_from (declared_width v.signals x) (body_skips b.body x) k (subst (λ w. k < w) (signal_declared d i r v b stands x target.1) less) (skip_body b.clocked x k k b.body suits path) in
        true≢false (sym some ∙ all_assigned (declared_width v.signals) b sets.0 (each_member (λ k. latch_in (declared_width v.signals) k ≡ None) v.blocks (none_found (latch_in (declared_width v.signals)) v.blocks c.no_latch) b at) line x found)
    by_kind (Let slot line gens y e) here sets =
        let_no_signal v b at c.apart slot line gens y e here (subst (λ z. named any_kind v.signals z ≡ true) (sym sets) (sym (signals_named d i r v stands x) ∙ target.1))
    by_kind (If slot line gens t first second) here sets = sets
    by_kind (Case slot line gens t arms other) here sets = sets

    by_statement : SetIn b.clocked x (statements b.body) → ⊥
    by_statement h = by_kind h.statement h.stands h.sets

pub no_latch_is_left : NoLatchIsLeft
no_latch_is_left d sound = each_process d _ (λ i r v b s at x. no_latch d i r v b s (clean d sound.accepted i r v s) at x)
