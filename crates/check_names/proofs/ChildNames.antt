-- The names of children, one after another.
use Rattle.std.proofs.Common.{◌≡◌, ℕ, ◌+◌, ◌<◌, ◌≤◌, Bool, true, false, ◌||◌, bytes_eq, List, map, length, drop, get_or, refl, sym, ap, ◌∙◌}
use Rattle.std.proofs.lemmas.List.{drop_more}
use Rattle.std.proofs.Math.ListN.{drop_of_length-le}
use Rattle.design_core.specs.declared.variant.Child as code_child
use Rattle.design_core.specs.View.{child_of}
use Rattle.names.specs.Known.{Name, Known, with, either}
use Rattle.check_core.specs.Names.{child_named}

either_end : (a : Bool) → (a || false) ≡ a
either_end true = refl
either_end false = refl

swap : (a b c : Bool) → ((a || b) || c) ≡ (b || (a || c))
swap true true c = refl
swap true false c = refl
swap false true c = refl
swap false false c = refl

pub child_next : (children : List code_child.Child) (i : ℕ) (c : code_child.Child) (old new : Known) (name : Name) → i < length children → c ≡ get_or children i c
    → name ≡ c.name → new ≡ with name old → either new (child_named (map child_of (drop (i + 1) children))) ≡ either old (child_named (map child_of (drop i children)))
child_next children i c old new name inside at called is =
    λ j x. (ap (λ (k : Known). k x || child_named (map child_of (drop (i + 1) children)) x) (is ∙ ap (λ (y : Name). with y old) called)
    ∙ swap (bytes_eq x c.name) (old x) (child_named (map child_of (drop (i + 1) children)) x)
    ∙ ap (λ (d : code_child.Child). old x || (bytes_eq x d.name || child_named (map child_of (drop (i + 1) children)) x)) at
    ∙ ap (λ (l : List code_child.Child). old x || child_named (map child_of l) x) (sym (drop_more children i c inside))) j

pub child_end : (children : List code_child.Child) (i : ℕ) (known : Known) → length children ≤ i → either known (child_named (map child_of (drop i children))) ≡ known
child_end children i known past = λ j x. (ap (λ (l : List code_child.Child). known x || child_named (map child_of l) x) (drop_of_length-le children past) ∙ either_end (known x)) j
