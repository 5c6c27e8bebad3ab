-- One part of a body more.
use Rattle.std.proofs.Common.{◌≡◌, ℕ, ◌+◌, ◌<◌, ◌≤◌, List, [], ◌∷◌, ◌++◌, map, length, get_or, drop, Option, option_to_list, sym, ap, ◌∙◌, append_assoc}
use Rattle.std.proofs.Math.ListN.{drop_of_length-le}
use Rattle.std.proofs.lemmas.List.{map-append, length-map}
use Rattle.elab_core.specs.declared.Child as code_child
use Rattle.elab_core.specs.declared.Instance as code_instance
use Rattle.elab_core.specs.View as seen
use Rattle.elab_core.specs.Elab.{child_outputs, output_as}
use Rattle.design_core.specs.declared.Block as code_block
use Rattle.design_core.specs.declared.Signal.{Signal}
use Rattle.exec_core.specs.Block.{Name}
use Rattle.design_core.specs.View.{block_of}
use Rattle.elab_body.proofs.StmtLoops.{next_of}
use Rattle.elab_walk.specs.declared.made.Made as code_made
use Rattle.elab_walk.specs.Walked.{placed_of, made_of}

pub block_pushed : (xs : List code_block.Block) (b : code_block.Block) → map block_of (xs ++ b ∷ []) ≡ map block_of xs ++ block_of b ∷ []
block_pushed xs b = map-append block_of xs (b ∷ [])

pub child_pushed : (xs : List code_child.Child) (c : code_child.Child) → map seen.child_of (xs ++ c ∷ []) ≡ map seen.child_of xs ++ seen.child_of c ∷ []
child_pushed xs c = map-append seen.child_of xs (c ∷ [])

pub children_many : (xs : List code_child.Child) → length (map seen.child_of xs) ≡ length xs
children_many xs = length-map xs seen.child_of

pub placed_joined : (xs ys : List code_instance.Instance) → placed_of (xs ++ ys) ≡ placed_of xs ++ placed_of ys
unfolding placed_of
placed_joined xs ys = map-append seen.instance_of xs ys

pub placed_many : (xs : List code_instance.Instance) → length (placed_of xs) ≡ length xs
unfolding placed_of
placed_many xs = length-map xs seen.instance_of

pub made_many : (made : code_made.Made) → length (made_of made).below ≡ length made.below.items
unfolding made_of
made_many made = placed_many made.below.items

pub ruleset child_steps = (child_pushed, children_many, placed_joined)

pub ruleset placed_steps = (placed_joined, placed_many)

module _ (line at : ℕ) (child : Name) where
  pub outputs_at : (xs : List Signal) (i : ℕ) (x : Signal) (made more : List Signal) (found : Option Signal) → i < length xs → x ≡ get_or xs i x → option_to_list found ≡ output_as line at child x x.kind → more ≡ made ++ option_to_list found →
      more ++ child_outputs line at child (drop (i + 1) xs) ≡ made ++ child_outputs line at child (drop i xs)
  outputs_at xs i x made more found h e p put =
      ap (λ ys. ys ++ child_outputs line at child (drop (i + 1) xs)) put ∙ append_assoc made (option_to_list found) (child_outputs line at child (drop (i + 1) xs))
      ∙ ap (λ ys. made ++ (ys ++ child_outputs line at child (drop (i + 1) xs))) p ∙ ap (λ ys. made ++ child_outputs line at child ys) (sym (next_of xs i x h e))

  pub outputs_end : (xs : List Signal) (i : ℕ) → length xs ≤ i → child_outputs line at child (drop i xs) ≡ []
  outputs_end xs i h = ap (child_outputs line at child) (drop_of_length-le xs h)

pub ruleset output_steps = (outputs_at, outputs_end)
