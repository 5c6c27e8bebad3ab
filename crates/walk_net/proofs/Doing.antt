-- Stacks of tasks: what pushing and popping does.
use Rattle.std.proofs.Common.{◌≡◌, ℕ, zero, suc, ◌+◌, ◌*◌, ◌<◌, ◌≤◌, List, [], ◌∷◌, ◌++◌, length, Option, Some, None, ⊎_elim, refl, sym, ap, ◌∙◌, subst, arith}
use Rattle.std.proofs.lemmas.Bool.{cases_lt}
use Rattle.bv_core.specs.declared.reference.NodeId.{NodeId}
use Rattle.tree_core.specs.Tree as tree
use Rattle.list_core.specs.Lists.{IsIn}
use Rattle.exec_core.specs.Kept.{add, walk}
use Rattle.net_core.specs.Nodes.{Shape, Fixed, TopInput, Register, OfOne, OfTwo, OfMux, shape_at, node_tree, trees_of, tree_of, OperandsBelow, AreNumbered}
use Rattle.net_core.proofs.TreeLists.{tree_is}
use Rattle.walk_net.specs.declared.task.Task.{Task}
use Rattle.walk_net.specs.declared.task.Task.TheVariants.{Enter, Leave}
use Rattle.walk_net.specs.Tasks.{did, all_done, OperandsIn, CanDo, CanDoAll, operand_tasks, entered, height, weight, work, Stacked}
use Rattle.walk_net.proofs.Walking.{walk_grows, walk_has, walk_there, still_in, HasOperands}

-- a node that has an id has its tree among the numbered ones
abbrev pub IsKnown : Option NodeId → tree.Whole → List tree.Whole → Type 0
IsKnown None t ts = Unit {0}
IsKnown (Some id) t ts = IsIn t ts

pub done_push : (ns : List Shape) (xs ys : List Task) (ts : List tree.Whole) → all_done ns (xs ++ ys) ts ≡ all_done ns xs (all_done ns ys ts)
unfolding all_done
done_push ns [] ys ts = refl
done_push ns (x ∷ xs) ys ts = ap (did ns x) (done_push ns xs ys ts)

pub done_last : (ns : List Shape) (xs : List Task) (x : Task) (ts : List tree.Whole) → all_done ns (xs ++ x ∷ []) ts ≡ all_done ns xs (did ns x ts)
unfolding all_done
done_last ns xs x ts = done_push ns xs (x ∷ []) ts

pub can_push : (ns : List Shape) (xs ys : List Task) (ts : List tree.Whole) → CanDoAll ns xs (all_done ns ys ts) → CanDoAll ns ys ts → CanDoAll ns (xs ++ ys) ts
unfolding CanDoAll all_done
can_push ns [] ys ts h g = g
can_push ns (x ∷ xs) ys ts h g = (subst (CanDo ns x) (sym (done_push ns xs ys ts)) h.0, can_push ns xs ys ts h.1 g)

pub can_pop : (ns : List Shape) (xs : List Task) (x : Task) (ts : List tree.Whole) → CanDoAll ns (xs ++ x ∷ []) ts → CanDo ns x ts × CanDoAll ns xs (did ns x ts)
unfolding CanDoAll all_done
can_pop ns [] x ts h = (h.0, tt)
can_pop ns (y ∷ ys) x ts h =
    let r = can_pop ns ys x ts h.1 in
    (r.0, (subst (CanDo ns y) (done_last ns ys x ts) h.0, r.1))

pub work_push : (xs ys : List Task) → work (xs ++ ys) ≡ work xs + work ys
unfolding work
work_push [] ys = omega arith
work_push (x ∷ xs) ys = let e = work_push xs ys in omega (arith, e)

pub work_last : (xs : List Task) (x : Task) → work (xs ++ x ∷ []) ≡ work xs + weight x
unfolding work
work_last xs x = let e = work_push xs (x ∷ []) in omega (arith, e)

height_some : (n : ℕ) → 5 ≤ height n
unfolding height
height_some zero = omega arith
height_some (suc n) = let h = height_some n in omega (arith, h)

pub lower : (a n : ℕ) → a < n → 5 * height a ≤ height n
unfolding height
lower a zero l = absurd (omega arith)
lower a (suc n) l =
    ⊎_elim
    (λ h. let e = lower a n h in omega (arith, e))
    (λ h. let e : a ≡ n = omega arith in subst (λ k. 5 * height a ≤ 5 * height k) e (omega arith))
    (cases_lt a n)

-- what entering a node comes to
pub record Entered (ns : List Shape) (ts : List tree.Whole) (tasks : List Task) (id : ℕ) : Type 0 where
  pub done : all_done ns tasks ts ≡ walk (tree_of ns id) ts
  pub can : CanDoAll ns tasks ts
  pub less : work tasks < height id

module _ (ns : List Shape) (ts : List tree.Whole) (id : NodeId) (within : id.0 < length ns) where
  none_entered : HasOperands ts → IsIn (tree_of ns id.0) ts → Entered ns ts [] id.0
  unfolding all_done CanDoAll work
  none_entered h i = record {
    done = sym (walk_there (tree_of ns id.0) ts h i);
    can = tt;
    less = let l = height_some id.0 in omega (arith, l);
  }

  abbrev Is : Shape → Type 0
  Is s = tree_of ns id.0 ≡ node_tree (trees_of ns) s

  leaf_entered : (s : Shape) → Is s → OperandsIn (node_tree (trees_of ns) s) ts → walk (node_tree (trees_of ns) s) ts ≡ add (node_tree (trees_of ns) s) ts → Entered ns ts (Leave id ∷ []) id.0
  unfolding all_done CanDoAll work
  leaf_entered s e o w = record {
    done = ap (λ t. add t ts) e ∙ sym w ∙ sym (ap (λ t. walk t ts) e);
    can = ((within, subst (λ t. OperandsIn t ts) (sym e) o), tt);
    less = let l = height_some id.0 in omega (arith, l);
  }

  shape_entered : (s : Shape) → Is s → OperandsBelow id.0 s → Entered ns ts (Leave id ∷ operand_tasks s) id.0
  unfolding all_done CanDoAll work
  shape_entered (Fixed b) e h = leaf_entered (Fixed b) e tt refl
  shape_entered (TopInput name width) e h = leaf_entered (TopInput name width) e tt refl
  shape_entered (Register instance name start) e h = leaf_entered (Register instance name start) e tt refl
  shape_entered (OfOne op a) e h =
      let x = tree_of ns a in
      record {
        done = ap (λ t. add t (walk x ts)) e ∙ sym (ap (λ t. walk t ts) e);
        can = ((within, subst (λ t. OperandsIn t (walk x ts)) (sym e) (walk_has x ts)), (omega arith, tt));
        less = let l = lower a id.0 h in let m = height_some a in omega (arith, l, m);
      }
  shape_entered (OfTwo op a b) e h =
      let x = tree_of ns a in
      let y = tree_of ns b in
      record {
        done = ap (λ t. add t (walk y (walk x ts))) e ∙ sym (ap (λ t. walk t ts) e);
        can = ((within, subst (λ t. OperandsIn t (walk y (walk x ts))) (sym e) (still_in (walk_grows y (walk x ts)) x (walk_has x ts), walk_has y (walk x ts))), (omega arith, (omega arith, tt)));
        less = let l = lower a id.0 h.0 in let m = lower b id.0 h.1 in let n = height_some a in let o = height_some b in omega (arith, l, m, n, o);
      }
  shape_entered (OfMux c a b) e h =
      let x = tree_of ns c in
      let y = tree_of ns a in
      let z = tree_of ns b in
      let us = walk y (walk x ts) in
      record {
        done = ap (λ t. add t (walk z us)) e ∙ sym (ap (λ t. walk t ts) e);
        can = (
          (
            within,
            subst (λ t. OperandsIn t (walk z us)) (sym e)
                (still_in (walk_grows z us) x (still_in (walk_grows y (walk x ts)) x (walk_has x ts)), still_in (walk_grows z us) y (walk_has y (walk x ts)), walk_has z us),
          ),
          (omega arith, (omega arith, (omega arith, tt))),
        );
        less =
            let l = lower c id.0 h.0 in let m = lower a id.0 h.1 in let k = lower b id.0 h.2 in
            let n = height_some c in let o = height_some a in let p = height_some b in omega (arith, l, m, k, n, o, p);
      }

pub entered_stack : (ns : List Shape) (before after tasks : List Task) (id : NodeId) (ts : List tree.Whole) → after ≡ before ++ tasks → Entered ns ts tasks id.0 → CanDoAll ns before (did ns (Enter id) ts) → Stacked ns before (Enter id) after ts ts
entered_stack ns before after tasks id ts e n h = subst (λ xs. Stacked ns before (Enter id) xs ts ts) (sym e) (record {
  done = done_push ns before tasks ts ∙ ap (all_done ns before) n.done;
  can = can_push ns before tasks ts (subst (CanDoAll ns before) (sym n.done) h) n.can;
  less = let l : work tasks < height id.0 = n.less in let w = work_push before tasks in omega (arith, w, l);
})

pub left_stack : (ns : List Shape) (before : List Task) (id : NodeId) (old new : List tree.Whole) → new ≡ add (tree_of ns id.0) old → CanDoAll ns before (did ns (Leave id) old) → Stacked ns before (Leave id) before old new
left_stack ns before id old new e h = record {
  done = ap (all_done ns before) e;
  can = subst (CanDoAll ns before) (sym e) h;
  less = omega arith;
}

-- entering a node of a net
pub entered_at : (ns : List Shape) → AreNumbered ns → (ts : List tree.Whole) → HasOperands ts → (id : NodeId) → id.0 < length ns → (known : Option NodeId) → IsKnown known (tree_of ns id.0) ts → Entered ns ts (entered known id (shape_at ns id.0)) id.0
entered_at ns g ts h id l (Some known) k = none_entered ns ts id l h k
entered_at ns g ts h id l None k = shape_entered ns ts id l (shape_at ns id.0) (tree_is ns g id.0 l) (g.below id.0 l)

-- no tasks do nothing
pub none_done : (ns : List Shape) (tasks : List Task) (ts us : List tree.Whole) → length tasks ≡ 0 → all_done ns tasks ts ≡ us → ts ≡ us
unfolding all_done
none_done ns [] ts us e d = d
none_done ns (x ∷ xs) ts us e d = absurd (omega arith)

-- a stack with one node to enter
pub can_enter : (ns : List Shape) (tasks : List Task) (id : NodeId) (ts : List tree.Whole) → tasks ≡ Enter id ∷ [] → id.0 < length ns → CanDoAll ns tasks ts
unfolding CanDoAll
can_enter ns tasks id ts e l = subst (λ xs. CanDoAll ns xs ts) (sym e) (l, tt)

pub enter_done : (ns : List Shape) (tasks : List Task) (id : NodeId) (ts us : List tree.Whole) → tasks ≡ Enter id ∷ [] → us ≡ all_done ns tasks ts → us ≡ walk (tree_of ns id.0) ts
unfolding all_done
enter_done ns tasks id ts us e d = d ∙ ap (λ xs. all_done ns xs ts) e
