-- The parts that the blocks of an accepted design assign have their bounds in order, below 128.
use Rattle.std.proofs.Common.{◌≡◌, ℕ, ◌<◌, ℤ, pos, negsuc, int_le, Bool, true, ◌&&◌, ◌∷◌, ◌++◌, append_assoc, Option, Some, None, ap, ◌∙◌, subst, arith, eqb-true}
use Rattle.std.specs.Prelude.{slice_get, ◌==◌}
use Rattle.std.proofs.lemmas.Bool.{leb-true}
use Rattle.std.proofs.lemmas.Option.{slice_get_within}
use Rattle.tree_core.proofs.Same.{both_true}
use Rattle.list_core.specs.Lists.{EachOf}
use Rattle.exec_core.specs.Cases.{arms_body}
use Rattle.design_core.specs.declared.design.Instance.{Instance}
use Rattle.design_core.specs.Design.{Expr, Stmt, Assign, Let, If, Case, Body, Done, Then, Else, NoElse, Otherwise, Arms, NoArms, ThenArm, Variant, Design}
use Rattle.design_core.specs.Statements.{inside, statements, else_statements, arms_statements}
use Rattle.design_core.specs.Widths.{bits}
use Rattle.design_exec.specs.Processes.{arms_of, body_of, else_of, part_of, stmt_of, tree_of}
use Rattle.check_core.specs.Widths.{is_part, is_sized, is_slice, bad_stmt}
use Rattle.check_exec.specs.Premises.{IsSound}
use Rattle.check_exec.proofs.Facts.{any_in, each_index, each_left, each_right, in_at, in_index}
use Rattle.check_exec.proofs.Fitting.{slice_from}
use Rattle.check_exec.proofs.Instances.{Stands, clean}
use Rattle.check_exec.proofs.Latches.{block_sized}
use Rattle.check_exec.proofs.Widths.{sized}
use Rattle.block_net.specs.Parts.{BodyFits, PartFits, StmtFits}
use Rattle.ssa_core.specs.Processes.{BlockFits, PartsFit, VariantFits}

slice_below : (h l : ℤ) → is_slice h l ≡ true → bits h < 128
slice_below (pos h) l e =
    let most = leb-true h 127 (both_true (int_le l (pos h)) (int_le (pos h) (pos 127)) (both_true (int_le (pos 0) l) (int_le l (pos h) && int_le (pos h) (pos 127)) e).1).1 in omega (arith, most)
slice_below (negsuc h) l e = omega arith

part_fits : (part : Option (ℤ × ℤ)) → is_part part ≡ true → PartFits (part_of part)
part_fits None e = tt
part_fits (Some bounds) e = (slice_from bounds.0 bounds.1 e, slice_below bounds.0 bounds.1 e)

abbrev Sized : Stmt → Type 0
Sized s = bad_stmt s ≡ None

module _ (clocked : Bool) where
  mutual
    stmt_fits : (s : Stmt) → EachOf Sized (s ∷ inside s) → StmtFits (stmt_of clocked s)
    stmt_fits (Assign slot line gens x part e) h = part_fits part (both_true (is_sized e) (is_part part) (sized (is_sized e && is_part part) line x h.0)).1
    stmt_fits (Let slot line gens x e) h = tt
    stmt_fits (If slot line gens c first second) h = (body_fits first (each_left Sized (statements first) (else_statements second) h.1), else_fits second (each_right Sized (statements first) (else_statements second) h.1))
    stmt_fits (Case slot line gens v NoArms other) h = (tt, else_fits other h.1)
    stmt_fits (Case slot line gens v (ThenArm tests body rest) other) h =
        let all = subst (EachOf Sized) (append_assoc (statements body) (arms_statements rest) (else_statements other)) h.1 in
        (body_fits body (each_left Sized (statements body) (arms_statements rest ++ else_statements other) all), arms_fit v rest other (λ g. else_fits other g) (each_right Sized (statements body) (arms_statements rest ++ else_statements other) all))

    body_fits : (b : Body) → EachOf Sized (statements b) → BodyFits (body_of clocked b)
    body_fits Done h = tt
    body_fits (Then s rest) h = (stmt_fits s (h.0, each_left Sized (inside s) (statements rest) h.1), body_fits rest (each_right Sized (inside s) (statements rest) h.1))

    else_fits : (b : Else) → EachOf Sized (else_statements b) → BodyFits (else_of clocked b)
    else_fits NoElse h = tt
    else_fits (Otherwise body) h = body_fits body h

    arms_fit : (v : Expr) (arms : Arms) (other : Else) → (EachOf Sized (else_statements other) → BodyFits (else_of clocked other)) → EachOf Sized (arms_statements arms ++ else_statements other) → BodyFits (arms_body (tree_of v) (arms_of clocked arms) (else_of clocked other))
    arms_fit v NoArms other last h = last h
    arms_fit v (ThenArm tests body rest) other last h =
        let all = subst (EachOf Sized) (append_assoc (statements body) (arms_statements rest) (else_statements other)) h in
        ((body_fits body (each_left Sized (statements body) (arms_statements rest ++ else_statements other) all), arms_fit v rest other last (each_right Sized (statements body) (arms_statements rest ++ else_statements other) all)), tt)

-- each variant has an instance, and no check refuses what stands in it
pub parts_fit : (d : Design) → IsSound d → PartsFit d
parts_fit d sound = each_index VariantFits d.variants (λ k v at. variant_fits k v at)
  where
    variant_fits : (k : ℕ) (v : Variant) → slice_get d.variants k ≡ Some v → VariantFits v
    variant_fits k v at =
        let found = any_in (λ (r : Instance). r.variant == k) d.instances (sound.kept.instances k (slice_get_within d.variants k v at)) in
        let there = in_index d.instances found.0 found.1.0 in
        let stands : Stands d there.0 found.0 v = record { instance = there.1; variant = ap (slice_get d.variants) (eqb-true found.0.variant k found.1.1) ∙ at } in
        each_index BlockFits v.blocks (λ j b is. body_fits b.clocked b.body (block_sized d.variants v b (clean d sound.accepted there.0 found.0 v stands) (in_at v.blocks j b is)))
