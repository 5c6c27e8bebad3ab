-- Items one after another, and turns one after another.
use Rattle.std.proofs.Common.{◌≡◌, ℕ, ◌+◌, ◌-◌, ◌<◌, ◌≤◌, ℤ, pos, ◌+ℤ◌, List, [], ◌∷◌, length, get_or, drop, Ok, Err, refl, sym, ap, ap₂, ◌∙◌}
use Rattle.std.proofs.Math.ListN.{drop_of_length-le}
use Rattle.gen_tree.specs.Tree.{Items, Module}
use Rattle.gen_tree.specs.declared.Item as source_item
use Rattle.gen_tree.specs.View.{item_of, items_of}
use Rattle.elab_core.specs.declared.Count.TheVariants.{Turns}
use Rattle.elab_core.specs.Walk.{Fault, Seen, and_then, judge, counts}
use Rattle.elab_core.specs.Numbers.{bound}
use Rattle.elab_core.specs.Elab.{Here, Enter, Made, item_walk, items_walk, turns}
use Rattle.exec_core.specs.Block.{Name}
use Rattle.design_core.specs.Design.{Gens}
use Rattle.elab_base.proofs.Steps.{counted, refused, ends}
use Rattle.elab_body.proofs.StmtLoops.{next_of, turns_fault, turns_taken, turns_first, turns_end}
use Rattle.elab_walk.specs.Walked.{turn, in_turn}

module _ (ms : List Module) (enter : Enter) (here : Here) where
  items_next : (x : source_item.Item) (rest : List source_item.Item) (gens : Gens) (made more : Made) (seen after : Seen) → judge seen (item_walk ms enter here (item_of x) gens made) ≡ Ok (more, after) →
      judge seen (items_walk ms enter here (items_of (x ∷ rest)) gens made) ≡ judge after (items_walk ms enter here (items_of rest) gens more)
  unfolding items_walk
  items_next x rest gens made more seen after e = counted _ _ _ _ _ _ e refl

  items_wrong : (x : source_item.Item) (rest : List source_item.Item) (gens : Gens) (made : Made) (seen : Seen) (f : Fault) → judge seen (item_walk ms enter here (item_of x) gens made) ≡ Err f →
      judge seen (items_walk ms enter here (items_of (x ∷ rest)) gens made) ≡ Err f
  unfolding items_walk
  items_wrong x rest gens made seen f e = refused _ _ _ _ e

  items_none : (gens : Gens) (made : Made) (seen : Seen) → judge seen (items_walk ms enter here (items_of []) gens made) ≡ Ok (made, seen)
  unfolding items_walk
  items_none gens made seen = ends _ _

  pub items_at : (xs : List source_item.Item) (i : ℕ) (x : source_item.Item) (gens : Gens) (made more : Made) (seen after : Seen) → i < length xs → x ≡ get_or xs i x → judge seen (item_walk ms enter here (item_of x) gens made) ≡ Ok (more, after) →
      judge seen (items_walk ms enter here (items_of (drop i xs)) gens made) ≡ judge after (items_walk ms enter here (items_of (drop (i + 1) xs)) gens more)
  items_at xs i x gens made more seen after h e p = ap (λ ys. judge seen (items_walk ms enter here (items_of ys) gens made)) (next_of xs i x h e) ∙ items_next x (drop (i + 1) xs) gens made more seen after p

  pub items_fault_at : (xs : List source_item.Item) (i : ℕ) (x : source_item.Item) (gens : Gens) (made : Made) (seen : Seen) (f : Fault) → i < length xs → x ≡ get_or xs i x → judge seen (item_walk ms enter here (item_of x) gens made) ≡ Err f →
      judge seen (items_walk ms enter here (items_of (drop i xs)) gens made) ≡ Err f
  items_fault_at xs i x gens made seen f h e p = ap (λ ys. judge seen (items_walk ms enter here (items_of ys) gens made)) (next_of xs i x h e) ∙ items_wrong x (drop (i + 1) xs) gens made seen f p

  pub items_end : (xs : List source_item.Item) (i : ℕ) (gens : Gens) (made : Made) (seen : Seen) → length xs ≤ i → judge seen (items_walk ms enter here (items_of (drop i xs)) gens made) ≡ Ok (made, seen)
  items_end xs i gens made seen h = ap (λ ys. judge seen (items_walk ms enter here (items_of ys) gens made)) (drop_of_length-le xs h) ∙ items_none gens made seen

pub ruleset items_steps = (items_at, items_fault_at, items_end)

module _ (ms : List Module) (enter : Enter) (here : Here) (line : ℕ) (body : Items) (v : Name) (gens : Gens) where
  pub body_fault : (from : ℤ) (at count : ℕ) (k : ℤ) (y : Name) (made : Made) (seen : Seen) (x : Fault) → at < count → k ≡ from +ℤ pos at → y ≡ v → judge seen (turn ms enter here line body (bound y k gens) made) ≡ Err x →
      judge seen (turns line (in_turn ms enter here body v gens) (from +ℤ pos at) (count - at) made) ≡ Err x
  unfolding turn in_turn
  body_fault from at count k y made seen x h e i p = turns_fault line (in_turn ms enter here body v gens) from at count made seen x h
      (ap (λ g. judge seen (and_then (counts Turns line) (λ u. items_walk ms enter here body g made))) (ap₂ (λ z n. bound z n gens) (sym i) (sym e)) ∙ p)

  pub body_taken : (from : ℤ) (at count : ℕ) (k : ℤ) (y : Name) (made more : Made) (seen last : Seen) → at < count → k ≡ from +ℤ pos at → y ≡ v → judge seen (turn ms enter here line body (bound y k gens) made) ≡ Ok (more, last) →
      judge seen (turns line (in_turn ms enter here body v gens) (from +ℤ pos at) (count - at) made) ≡ judge last (turns line (in_turn ms enter here body v gens) (from +ℤ pos (at + 1)) (count - (at + 1)) more)
  unfolding turn in_turn
  body_taken from at count k y made more seen last h e i p = turns_taken line (in_turn ms enter here body v gens) from at count made more seen last h
      (ap (λ g. judge seen (and_then (counts Turns line) (λ u. items_walk ms enter here body g made))) (ap₂ (λ z n. bound z n gens) (sym i) (sym e)) ∙ p)

  pub body_first : (from : ℤ) (count : ℕ) (made : Made) (seen : Seen) → judge seen (turns line (in_turn ms enter here body v gens) (from +ℤ pos 0) (count - 0) made) ≡ judge seen (turns line (in_turn ms enter here body v gens) from count made)
  body_first from count made seen = turns_first line (in_turn ms enter here body v gens) from count made seen

  pub body_end : (k : ℤ) (at count : ℕ) (made : Made) (seen : Seen) → count ≤ at → judge seen (turns line (in_turn ms enter here body v gens) k (count - at) made) ≡ Ok (made, seen)
  body_end k at count made seen h = turns_end line (in_turn ms enter here body v gens) k at count made seen h

pub ruleset turns_steps = (body_fault, body_taken, body_first, body_end)
