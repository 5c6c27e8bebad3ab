-- Targets of which some path leaves a bit out, one assignment after another.
use Rattle.std.proofs.Common.{◌≡◌, ℕ, Bool, true, false, not, List, [], ◌∷◌, if◌then◌else◌, Option, Some, None, refl, sym, ap, ap₂, ◌∙◌}
use Rattle.exec_core.specs.Exec.{all_below}
use Rattle.design_core.specs.Design.{Stmt, Block}
use Rattle.design_core.specs.Heads.{head_of, target_name}
use Rattle.check_core.specs.declared.fault.CheckFault.{CheckFault}
use Rattle.check_core.specs.declared.fault.CheckFault.TheVariants.{Latch}
use Rattle.names.specs.Known.{Name}
use Rattle.check_core.specs.Faults.{earlier, first_of, spot}
use Rattle.check_core.specs.Names.{named_before}
use Rattle.check_core.specs.Drivers.{Drive, assignments, driven_in}
use Rattle.check_core.specs.Paths.{Bits, body_skips, latch_at, latch_in}
use Rattle.check_paths.specs.Frames.{bits_at}
use Rattle.check_paths.specs.Walked.{assigned_in, left_out}
use Rattle.check_paths.proofs.Missing.{some_is}

-- ---- one statement

pub no_target : (f : Drive → Option CheckFault) (s : Stmt) → target_name s ≡ None → first_of f (assignments (s ∷ [])) ≡ None
no_target f s none = ap (λ o. first_of f (named_before (head_of s).line o [])) none

pub target_full : (widths : Name → ℕ) (assigned : Bits) (line : ℕ) (s : Stmt) (x : Name) (set : ℕ → Bool) (w : ℕ) → target_name s ≡ Some x → set ≡ bits_at assigned x → w ≡ widths x → all_below w set ≡ true
    → first_of (left_out widths assigned line) (assignments (s ∷ [])) ≡ None
target_full widths assigned line s x set w at is wide full =
    ap (λ o. first_of (left_out widths assigned line) (named_before (head_of s).line o [])) at
    ∙ ap (λ b. earlier (if b then None else Some (Latch (spot line x))) None) (sym (ap₂ all_below wide is) ∙ full)

pub target_left : (widths : Name → ℕ) (assigned : Bits) (line : ℕ) (s : Stmt) (x : Name) (set : ℕ → Bool) (w : ℕ) → target_name s ≡ Some x → set ≡ bits_at assigned x → w ≡ widths x → all_below w set ≡ false
    → first_of (left_out widths assigned line) (assignments (s ∷ [])) ≡ Some (Latch (spot line x))
target_left widths assigned line s x set w at is wide full =
    ap (λ o. first_of (left_out widths assigned line) (named_before (head_of s).line o [])) at
    ∙ ap (λ b. earlier (if b then None else Some (Latch (spot line x))) None) (sym (ap₂ all_below wide is) ∙ full)

-- ---- a block

same_test : (all : Bool) (fault : CheckFault) → (if all then None else Some fault) ≡ (if not all then Some fault else None)
same_test true fault = refl
same_test false fault = refl

same_at : (widths : Name → ℕ) (b : Block) → left_out widths (assigned_in b.body) b.line ≡ latch_at widths b
same_at widths b = λ j d.
    (same_test (all_below (widths d.1) (λ i. not (body_skips b.body d.1 i))) (Latch (spot b.line d.1))
    ∙ ap (λ t. if t then Some (Latch (spot b.line d.1)) else None) (sym (some_is (widths d.1) (body_skips b.body d.1)))) j

pub left_out_of : (widths : Name → ℕ) (b : Block) (assigned : Bits) (drives : List Drive) → assigned ≡ assigned_in b.body → drives ≡ driven_in b → b.clocked ≡ false
    → first_of (left_out widths assigned b.line) drives ≡ latch_in widths b
left_out_of widths b assigned drives is are comb =
    (λ i. first_of (left_out widths (is i) b.line) (are i)) ∙ ap (λ f. first_of f (driven_in b)) (same_at widths b)
    ∙ ap (λ c. if c then None else first_of (latch_at widths b) (driven_in b)) (sym comb)

pub clocked_none : (widths : Name → ℕ) (b : Block) → b.clocked ≡ true → latch_in widths b ≡ None
clocked_none widths b shut = ap (λ c. if c then None else first_of (latch_at widths b) (driven_in b)) shut

pub latches_as : (was now : Name → ℕ) (blocks all : List Block) → was ≡ now → blocks ≡ all → first_of (latch_in was) blocks ≡ first_of (latch_in now) all
latches_as was now blocks all e f = λ i. first_of (latch_in (e i)) (f i)
