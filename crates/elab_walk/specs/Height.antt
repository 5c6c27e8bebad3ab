-- How deep items nest: the measure of the walk over instances.
use Rattle.std.specs.Prelude.{ℕ, ◌+◌, ◌*◌, max, List, [], ◌∷◌}
use Rattle.gen_tree.specs.Tree as tree
use Rattle.gen_tree.specs.Tree.{wire, reg, inst, comb, ff, repeat_items, given_items, Items, no_item, item, ElseItems, no_else_items, otherwise_items, Module}

unfoldable mutual
  pub height_item : tree.Item → ℕ
  height_item (wire line f w) = 1
  height_item (reg line f w l) = 1
  height_item (inst line f x args cs) = 1
  height_item (comb line body) = 1
  height_item (ff line body) = 1
  height_item (repeat_items line x from to body) = height body + 1
  height_item (given_items line left cmp right first second) = max (height first) (height_else second) + 1

  pub height : Items → ℕ
  height no_item = 0
  height (item i rest) = max (height_item i) (height rest)

  pub height_else : ElseItems → ℕ
  height_else no_else_items = 0
  height_else (otherwise_items body) = height body

unfoldable pub tallest : List Module → ℕ
tallest [] = 0
tallest (m ∷ ms) = max (height m.items) (tallest ms)

-- what so many levels of instances are worth
unfoldable pub levels : ℕ → List Module → ℕ
levels room ms = room * (8 * tallest ms + 4)
