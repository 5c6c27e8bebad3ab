-- The width of what is assigned, and those of the literals of arms.
use Rattle.std.proofs.Common.{◌≡◌, ℕ, ℤ, ◌+◌, ◌-◌, ◌<◌, ◌≤◌, ◌==◌, Bool, true, false, ◌&&◌, nat_lt, List, [], ◌∷◌, Option, Some, None, Result, Ok, Err, if◌then◌else◌, refl, sym, ap, ◌∙◌, arith, ltb-true, eqb-true}
use Rattle.std.specs.List.{list_all}
use Rattle.tree_core.proofs.Same.{both_true}
use Rattle.exec_core.specs.Paths.{PartFits, part_width}
use Rattle.list_core.specs.Lists.{EachOf}
use Rattle.design_core.specs.declared.expr.Literal.{Literal}
use Rattle.design_core.specs.Widths.{bits}
use Rattle.design_exec.specs.Processes.{part_of, value_of}
use Rattle.check_core.specs.declared.fault.Clash.{Clash}
use Rattle.check_core.specs.Widths as checked
use Rattle.check_core.specs.Widths.{is_literal, is_slice, is_part, clash, slice_width, needed_width, needed_by, literals_width, arms_width}
use Rattle.check_exec.proofs.Arms.{IsLiteralOf}
use Rattle.check_exec.proofs.Fitting.{slice_from}
use Rattle.check_exec.proofs.Widths.{literal_bits, err_ok, if_ok}

-- of a slice that has a width in a target, the width, and that it lies there
range_there : (w h l : ℕ) (r : Result ℕ Clash) (v : ℕ) → l ≤ h → needed_by (slice_width w h l) r ≡ Ok v → ((l ≤ h) × (h < w)) × (r ≡ Ok (h - l + 1))
range_there w h l r v low e = by_test (nat_lt h w) refl r e
  where
    same : h + 1 - l ≡ h - l + 1
    same = omega (arith, low)

    by_test : (b : Bool) → nat_lt h w ≡ b → (r : Result ℕ Clash) → needed_by (if b then Ok (h + 1 - l) else clash w (h + 1)) r ≡ Ok v → ((l ≤ h) × (h < w)) × (r ≡ Ok (h - l + 1))
    by_test true t (Ok have) e = ((low, ltb-true h w t), ap (λ n. Ok n) (eqb-true have (h + 1 - l) (if_ok (have == h + 1 - l) (h + 1 - l) v _ e).0 ∙ same))
    by_test true t (Err found) e = absurd (err_ok found v e)
    by_test false t (Ok have) e = absurd (err_ok _ v e)
    by_test false t (Err found) e = absurd (err_ok found v e)

whole_there : (w : ℕ) (r : Result ℕ Clash) (v : ℕ) → needed_by (Ok w) r ≡ Ok v → r ≡ Ok w
whole_there w (Ok have) v e = ap (λ n. Ok n) (eqb-true have w (if_ok (have == w) w v _ e).0)
whole_there w (Err found) v e = absurd (err_ok found v e)

pub part_there : (w : ℕ) (part : Option (ℤ × ℤ)) (r : Result ℕ Clash) (v : ℕ) → is_part part ≡ true → needed_by (checked.part_width w part) r ≡ Ok v → PartFits (part_of part) w × (r ≡ Ok (part_width (part_of part) w))
part_there w None r v s e = (tt, whole_there w r v e)
part_there w (Some b) r v s e = range_there w (bits b.0) (bits b.1) r v (slice_from b.0 b.1 s) e

-- ---- literals

literals_there : (w : ℕ) (ls : List Literal) (v : ℕ) → list_all is_literal ls ≡ true → literals_width w ls ≡ Ok v → EachOf (λ l. IsLiteralOf w (value_of l)) ls
literals_there w [] v s e = tt
literals_there w (l ∷ ls) v s e = by_test (λ t f. literals_there w ls v t f) (bits l.width == w) refl e
  where
    by_test : (list_all is_literal ls ≡ true → literals_width w ls ≡ Ok v → EachOf (λ l. IsLiteralOf w (value_of l)) ls) → (b : Bool) → (bits l.width == w) ≡ b → (if b then literals_width w ls else clash (bits l.width) w) ≡ Ok v → EachOf (λ l. IsLiteralOf w (value_of l)) (l ∷ ls)
    by_test more true t e = let both = both_true (is_literal l) (list_all is_literal ls) s in ((sym (eqb-true (bits l.width) w t), literal_bits l both.0), more both.1 e)
    by_test more false t e = absurd (err_ok _ v e)

pub arms_there : (r : Result ℕ Clash) (ls : List Literal) (v : ℕ) → list_all is_literal ls ≡ true → arms_width r ls ≡ Ok v → (w : ℕ) × (r ≡ Ok w) × EachOf (λ l. IsLiteralOf w (value_of l)) ls
arms_there (Ok w) ls v s e = (w, refl, literals_there w ls v s e)
arms_there (Err found) ls v s e = absurd (err_ok found v e)
