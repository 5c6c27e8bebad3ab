-- What terms tell of a block at some widths they tell of it at others, where names that are assigned in part have the same.
use Rattle.std.proofs.Common.{◌≡◌, ℕ, ◌≤◌, Bool, true, false, Some, None, if◌then◌else◌, refl, sym, ap, ◌∙◌}
use Rattle.tree_core.specs.Tree.{Const, Leaf}
use Rattle.exec_core.specs.Block.{Name, Key, Now, Next, Body, own}
use Rattle.exec_core.specs.Exec.{shown, shown_at, whole_held, zero_of}
use Rattle.exec_core.specs.Trees.{tree_start}
use Rattle.exec_core.specs.Shown.{shown_start}
use Rattle.exec_core.specs.WholeNames.{SamePartWidths}
use Rattle.exec_core.proofs.WholeNaming.{all_true, all_false, whole_names_are_free}
use Rattle.block_net.specs.Blocks.{BlockParts, Tells}
use Rattle.block_net.specs.Logs.{ends_of, rows_of}

-- own names have nothing at first, where they have some bit
pub starts_shown : (width : Name → ℕ) (body : Body) → ((x : Name) → own body x ≡ true → 1 ≤ width x) → shown width (tree_start width body) ≡ shown_start body
starts_shown width body some = λ j y. at y j
  where
    by_own : (x : Name) (b : Bool) → (b ≡ true → 1 ≤ width x)
        → shown_at (width x) (if b then record { pending = Some (Const (zero_of (width x))); bits = λ i. false } else whole_held (Leaf x)) ≡ (if b then None else Some (Leaf x))
    by_own x true h = ap (λ b. if b then Some (Const (zero_of (width x))) else None) (all_false (width x) (λ i. false) (h refl) (λ i. refl))
    by_own x false h = ap (λ b. if b then Some (Leaf x) else None) (all_true (width x) (λ i. true) (λ i. refl))

    at : (y : Key) → shown width (tree_start width body) y ≡ shown_start body y
    at (Now x) = by_own x (own body x) (some x)
    at (Next x) = ap (λ b. if b then Some (Leaf x) else None) (all_true (width x) (λ i. true) (λ i. refl))

pub tells_as : (parts : BlockParts) (v w : Name → ℕ) (body : Body) → SamePartWidths v w body → Tells parts v body → Tells parts w body
tells_as parts v w body same tells =
    let free = whole_names_are_free v w body same in
    let start : shown w (tree_start w body) ≡ shown v (tree_start v body) = starts_shown w body same.own_second ∙ sym (starts_shown v body same.own_first) in
    record {
      rows = ap (rows_of parts.terms parts.log) start ∙ tells.rows ∙ free.rows;
      ends = tells.ends ∙ free.ends;
      log_ends = ap (ends_of parts.terms parts.log) start ∙ tells.log_ends ∙ free.ends;
    }
