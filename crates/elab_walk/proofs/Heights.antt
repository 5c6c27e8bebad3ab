-- The measure of the walk over instances.
use Rattle.std.proofs.Common.{◌≡◌, ℕ, zero, suc, ◌+◌, ◌*◌, ◌-◌, ◌<◌, ◌≤◌, max, Bool, true, false, if◌then◌else◌, List, [], ◌∷◌, length, get_or, bytes_eq, refl, ap, arith}
use Rattle.gen_tree.specs.Tree as tree
use Rattle.gen_tree.specs.Tree.{Int, Fam, Param, Conn, inst, repeat_items, given_items, Items, item, ElseItems, no_else_items, otherwise_items, Module}
use Rattle.gen_tree.specs.declared.Cmp.{Cmp}
use Rattle.gen_tree.specs.declared.Item as source_item
use Rattle.gen_tree.specs.View.{item_of, items_of}
use Rattle.elab_core.specs.Walk.{Gives}
use Rattle.elab_core.specs.Elab.{places, only, module_named}
use Rattle.elab_walk.specs.Height.{height_item, height, height_else, tallest, levels}
use Rattle.elab_walk.specs.Walked.{else_items}

pub height_inst : (line : ℕ) (f : Fam) (x : List ℕ) (args : List Param) (cs : List Conn) → height_item (inst line f x args cs) ≡ 1
unfolding height_item
height_inst line f x args cs = refl

pub height_repeat : (line : ℕ) (x : List ℕ) (from to : Int) (body : Items) → height_item (repeat_items line x from to body) ≡ height body + 1
unfolding height_item
height_repeat line x from to body = refl

pub height_given : (line : ℕ) (left : Int) (cmp : Cmp) (right : Int) (first : Items) (second : ElseItems) → height_item (given_items line left cmp right first second) ≡ max (height first) (height_else second) + 1
unfolding height_item
height_given line left cmp right first second = refl

height_next : (i : tree.Item) (rest : Items) → height (item i rest) ≡ max (height_item i) (height rest)
unfolding height
height_next i rest = refl

height_front : (xs : List source_item.Item) (i : ℕ) (d : source_item.Item) → i < length xs → height_item (item_of (get_or xs i d)) ≤ height (items_of xs)
height_front [] i d h = absurd (omega arith)
height_front (y ∷ xs) zero d h = rw height_next (omega arith)
height_front (y ∷ xs) (suc i) d h =
    let k : i < length xs = omega arith in
    let rest : height_item (item_of (get_or xs i d)) ≤ height (items_of xs) = height_front xs i d k in rw height_next (omega arith)

pub height_at : (xs : List source_item.Item) (i : ℕ) (x : source_item.Item) → i < length xs → x ≡ get_or xs i x → height_item (item_of x) ≤ height (items_of xs)
height_at xs i x h e = rw e (height_front xs i x h)

else_height : (second : ElseItems) → height (else_items second) ≤ height_else second
unfolding height_else height
else_height no_else_items = omega arith
else_height (otherwise_items body) = omega arith

pub height_branch : (first chosen : Items) (second : ElseItems) (b : Bool) → chosen ≡ (if b then first else else_items second) → height chosen ≤ max (height first) (height_else second)
height_branch first chosen second true e = rw e (omega arith)
height_branch first chosen second false e = rw e (omega (arith, else_height second))

-- one level down leaves room for any body
pub level_below : (room : ℕ) (ms : List Module) (n : ℕ) → 0 < room → n ≤ tallest ms → levels (room - 1) ms + (8 * n + 3) < levels room ms
unfolding levels
level_below zero ms n h k = absurd (omega arith)
level_below (suc room) ms n h k = let e : suc room - 1 ≡ room = omega arith in rw e (omega arith)

tallest_more : (m : Module) (ms : List Module) → tallest (m ∷ ms) ≡ max (height m.items) (tallest ms)
unfolding tallest
tallest_more m ms = refl

pub ruleset heights = (height_inst, height_repeat, height_given)

-- a module that is found is one of them
places_height : (x : List ℕ) (at : ℕ) (ms : List Module) (found : ℕ × Module) (rest : List (ℕ × Module)) → places x at ms ≡ found ∷ rest → height found.1.items ≤ tallest ms
places_height x at [] found rest e = absurd (cc)
places_height x at (m ∷ ms) found rest e =
    let P : Bool → Type 0 = λ b. (if b then (at, m) ∷ places x (at + 1) ms else places x (at + 1) ms) ≡ found ∷ rest → height found.1.items ≤ tallest (m ∷ ms) in
    let q : P (bytes_eq m.name x) = elim (bytes_eq m.name x) as P [
      | true ↦ λ h. (let k : (at, m) ≡ found = cc in rw tallest_more (let same : m ≡ found.1 = ap (λ f. f.1) k in rw (← same) (omega arith)))
      | false ↦ λ h. rw tallest_more (omega (arith, places_height x (at + 1) ms found rest h))
    ] in q e

pub found_height : (ms : List Module) (line : ℕ) (x : List ℕ) (found : ℕ × Module) → module_named ms line x ≡ Gives found → height found.1.items ≤ tallest ms
found_height ms line x found e =
    let P : List (ℕ × Module) → Type 0 = λ all. places x 0 ms ≡ all → only line x all ≡ Gives found → height found.1.items ≤ tallest ms in
    let q : P (places x 0 ms) = elim (places x 0 ms) as P [
      | [] ↦ λ h k. absurd (cc)
      | one ∷ rest ↦ elim rest as (λ rest. P (one ∷ rest)) [ [] ↦ λ h k. (let same : one ≡ found = cc in rw (← same) (places_height x 0 ms one [] h)) | two ∷ more ↦ λ h k. absurd (cc) ]
    ] in q refl e
