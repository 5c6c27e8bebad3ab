-- The next-value trees of a lowered design's registers are those of the design.
use Rattle.std.proofs.Common.{◌≡◌, ℕ, suc, ◌<◌, Bool, true, false, true≢false, List, [], ◌∷◌, length, map, Option, Some, None, if◌then◌else◌, inl, inr, refl, sym, ap, ◌∙◌, subst}
use Rattle.std.specs.Prelude.{slice_get, find}
use Rattle.std.proofs.lemmas.Option.{none-some, same_Some}
use Rattle.bv_core.specs.Value.{Bits}
use Rattle.tree_core.specs.Tree.{Leaf, Origin, Input, Register, Whole}
use Rattle.tree_core.specs.Fold.{same_tree, same_origin}
use Rattle.tree_core.proofs.Same.{same_tree-sound, same_tree-refl, same_origin-sound, same_origin-refl}
use Rattle.list_core.specs.Lists.{IsIn}
use Rattle.exec_core.specs.Whole.{Place}
use Rattle.exec_core.specs.Design.{next_tree, folded_tree}
use Rattle.exec_core.specs.States.{OverGivens}
use Rattle.exec_core.specs.Kept.{next_if, next_in}
use Rattle.list_core.proofs.Lists.{each_member, find_member}
use Rattle.design_core.specs.Design.{Design}
use Rattle.design_exec.specs.Processes.{Given, processes_of}
use Rattle.net_core.specs.Nodes.{Shape, trees_of, tree_of}
use Rattle.net_core.specs.Nets.{IsNext, is_register}
use Rattle.net_core.proofs.TreeLists.{trees_length}
use Rattle.check_exec.proofs.Facts.{in_index}
use Rattle.world_core.specs.declared.mode.Mode.{Mode}
use Rattle.lower_core.specs.declared.row.Lowered as code
use Rattle.lower_core.specs.Lowered.{HasNext, NextTold, IsLowered}
use Rattle.walk_net.specs.Next.{next_among, next_whole}

-- what is found of a register stands beside it
record FoundNext (ns : List Shape) (pairs : List (ℕ × ℕ)) (o : Origin) (t : Whole) : Type 0 where
  pair : ℕ × ℕ
  place : ℕ
  at : slice_get pairs place ≡ Some pair
  register : tree_of ns pair.0 ≡ Leaf o
  tree : tree_of ns pair.1 ≡ t

found_next : (ns : List Shape) (pairs : List (ℕ × ℕ)) (o : Origin) (t : Whole) → next_among ns pairs o ≡ Some t → FoundNext ns pairs o t
found_next ns [] o t e = absurd (none-some t e)
found_next ns (pair ∷ pairs) o t e = by_test (λ h. found_next ns pairs o t h) (same_tree same_origin (Leaf o) (tree_of ns pair.0)) refl e
  where
    by_test : (next_among ns pairs o ≡ Some t → FoundNext ns pairs o t) → (b : Bool) → same_tree same_origin (Leaf o) (tree_of ns pair.0) ≡ b → (if b then Some (tree_of ns pair.1) else next_among ns pairs o) ≡ Some t → FoundNext ns (pair ∷ pairs) o t
    by_test later true s h = record {
      pair = pair;
      place = 0;
      at = refl;
      register = sym (same_tree-sound same_origin same_origin-sound (Leaf o) (tree_of ns pair.0) s);
      tree = same_Some (tree_of ns pair.1) t h;
    }
    by_test later false s h =
        let f = later h in record { pair = f.pair; place = suc f.place; at = f.at; register = f.register; tree = f.tree }

-- a register that stands among the pairs is found
not_missed : (ns : List Shape) (pairs : List (ℕ × ℕ)) (o : Origin) (pair : ℕ × ℕ) → IsIn pair pairs → tree_of ns pair.0 ≡ Leaf o → (t : Whole) × (next_among ns pairs o ≡ Some t)
not_missed ns [] o pair i e = absurd i
not_missed ns (p ∷ pairs) o pair i e = by_test (λ j. not_missed ns pairs o pair j e) (same_tree same_origin (Leaf o) (tree_of ns p.0)) refl i
  where
    itself : same_tree same_origin (Leaf o) (tree_of ns pair.0) ≡ true
    itself = subst (λ (u : Whole). same_tree same_origin (Leaf o) u ≡ true) (sym e) (same_tree-refl same_origin same_origin-refl (Leaf o))

    by_test : (IsIn pair pairs → (t : Whole) × (next_among ns pairs o ≡ Some t)) → (b : Bool) → same_tree same_origin (Leaf o) (tree_of ns p.0) ≡ b → IsIn pair (p ∷ pairs) → (t : Whole) × ((if b then Some (tree_of ns p.1) else next_among ns pairs o) ≡ Some t)
    by_test later true s j = (tree_of ns p.1, refl)
    by_test later false s (inl same) = absurd (true≢false (sym itself ∙ ap (λ (q : ℕ × ℕ). same_tree same_origin (Leaf o) (tree_of ns q.0)) same ∙ s))
    by_test later false s (inr j) = later j

-- what is given is found
some_given : (o : Origin) (list : List Given) → IsIn o (map (λ (given : Given). given.1) list) → find (λ (given : Given). same_origin given.1 o) list ≡ None → ⊥
some_given o [] i f = i
some_given o (given ∷ list) i f = at_test (λ j g. some_given o list j g) (same_origin given.1 o) refl i f
  where
    at_test : (IsIn o (map (λ (q : Given). q.1) list) → find (λ (q : Given). same_origin q.1 o) list ≡ None → ⊥) → (b : Bool) → same_origin given.1 o ≡ b → IsIn o (given.1 ∷ map (λ (q : Given). q.1) list)
        → (if b then Some given else find (λ (q : Given). same_origin q.1 o) list) ≡ None → ⊥
    at_test later true s j g = none-some given (sym g)
    at_test later false s (inl same) g = true≢false (sym (subst (λ u. same_origin u o ≡ true) same (same_origin-refl o)) ∙ s)
    at_test later false s (inr j) g = later j g

module _ (d : Design) (n : ℕ) (mode : Mode) (l : code.Lowered) (h : IsLowered d n mode l) where
  -- of each register of the design its tree is found
  pub register_next : (p : Place) (instance name : List ℕ) (start : Bits) → IsIn (p, Register instance name start) (processes_of d).givens
      → next_whole l.net (Register instance name start) ≡ Some (folded_tree (processes_of d) n (next_tree (processes_of d) p))
  register_next p instance name start i =
      let told : HasNext d n l.net p (Register instance name start) = each_member (λ (given : Given). NextTold d n l.net given.0 given.1) (processes_of d).givens h.nexts (p, Register instance name start) i in
      let some = not_missed l.net.nodes l.net.nexts (Register instance name start) (told.id, told.next) told.among told.register.tree in
      let found = found_next l.net.nodes l.net.nexts (Register instance name start) some.0 some.1 in
      let other = in_index l.net.nexts (told.id, told.next) told.among in
      let first : IsNext l.net.nodes found.pair = h.is_net.nexts.registers found.place found.pair found.at in
      let same_id : found.pair.0 ≡ told.id = h.is_net.shared.trees.one_id.one found.pair.0 told.id (there found.pair.0 first.within) (there told.id told.register.within) (found.register ∙ sym told.register.tree) in
      let placed : slice_get l.net.nexts found.place ≡ Some (told.id, found.pair.1) = found.at ∙ ap (λ k. Some (k, found.pair.1)) same_id in
      let same_place : found.place ≡ other.0 = h.is_net.nexts.once found.place other.0 told.id found.pair.1 told.next placed other.1 in
      let same_pair : (told.id, found.pair.1) ≡ (told.id, told.next) = same_Some _ _ (sym placed ∙ ap (slice_get l.net.nexts) same_place ∙ other.1) in
      some.1
      ∙ ap (λ t. Some t) (sym found.tree ∙ ap (λ (q : ℕ × ℕ). tree_of l.net.nodes q.1) same_pair ∙ told.stands.tree)
    where
      there : (k : ℕ) → k < length l.net.nodes → k < length (trees_of l.net.nodes)
      there k b = subst (λ m. k < m) (sym (trees_length l.net.nodes)) b

  -- what has a next value in the net is given in the design
  pub next_given : (o : Origin) (t : Whole) → next_whole l.net o ≡ Some t → IsIn o (map (λ (given : Given). given.1) (processes_of d).givens) × (is_register (Leaf o) ≡ true)
  next_given o t e =
      let found = found_next l.net.nodes l.net.nexts o t e in
      let first : IsNext l.net.nodes found.pair = h.is_net.nexts.registers found.place found.pair found.at in
      (subst (OverGivens (processes_of d)) found.register (h.over found.pair.0 first.within), ap is_register (sym found.register) ∙ first.register)

  -- and its tree is one of inputs of the top and registers
  pub next_over : (o : Origin) (t : Whole) → next_whole l.net o ≡ Some t → OverGivens (processes_of d) t
  next_over o t e =
      let found = found_next l.net.nodes l.net.nexts o t e in
      let first : IsNext l.net.nodes found.pair = h.is_net.nexts.registers found.place found.pair found.at in
      subst (OverGivens (processes_of d)) found.tree (h.over found.pair.1 first.next)

  pub nexts_same : (o : Origin) → next_whole l.net o ≡ next_in (processes_of d) n o
  nexts_same o = by_found (find (λ (given : Given). same_origin given.1 o) (processes_of d).givens) refl
    where
      none_next : (o' : Option Whole) → next_whole l.net o ≡ o' → find (λ (given : Given). same_origin given.1 o) (processes_of d).givens ≡ None → o' ≡ None
      none_next None e f = refl
      none_next (Some t) e f = absurd (some_given o (processes_of d).givens (next_given o t e).0 f)

      by_origin : (p : Place) (q : Origin) → q ≡ o → IsIn (p, q) (processes_of d).givens → next_whole l.net o ≡ next_if (processes_of d) n (Some (p, q))
      by_origin p (Register instance name start) same i = ap (next_whole l.net) (sym same) ∙ register_next p instance name start i
      by_origin p (Input name width) same i = no_input (next_whole l.net o) refl
        where
          no_input : (found : Option Whole) → next_whole l.net o ≡ found → next_whole l.net o ≡ None
          no_input None e = e
          no_input (Some t) e = absurd (true≢false (sym (next_given o t e).1 ∙ ap (λ u. is_register (Leaf u)) (sym same)))

      by_found : (f : Option Given) → find (λ (given : Given). same_origin given.1 o) (processes_of d).givens ≡ f → next_whole l.net o ≡ next_if (processes_of d) n f
      by_found None f = none_next (next_whole l.net o) refl f
      by_found (Some given) f =
          let m = find_member (λ (q : Given). same_origin q.1 o) (processes_of d).givens given f in
          by_origin given.0 given.1 (same_origin-sound given.1 o m.1) m.0
