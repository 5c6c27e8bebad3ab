-- An expression alone, whose names are themselves.
use Rattle.std.proofs.Common.{◌≡◌, ℕ, zero, suc, true, List, Option, Some, None, if◌then◌else◌, refl, sym, ap, ap₂, ◌∙◌, subst, IsSome}
use Rattle.tree_core.specs.Tree.{Const, Leaf, One, Two, Mux}
use Rattle.std.proofs.lemmas.Option.{same_Some, none-some}
use Rattle.exec_core.specs.Block.{Name, Expr, Key, Now, Next, key_name}
use Rattle.exec_core.specs.Exec.{all_below, on_one, on_two, on_three, shown}
use Rattle.exec_core.specs.Trees.{tree_in}
use Rattle.names.specs.Maps.{no_value}
use Rattle.block_net.specs.declared.term.Term.{Term}
use Rattle.block_net.specs.declared.term.TermId.{TermId}
use Rattle.block_net.specs.Terms.{Stands}
use Rattle.block_net.specs.declared.walk.Walk.{Walk}
use Rattle.block_net.specs.Walks.{AllPut, Puts, Shows, all_themselves, env_by, env_of, ids_of, state_by, state_of, themselves}
use Rattle.block_net.specs.Blocks.{TellsExpr}

pub alone : (e : Expr) → tree_in e themselves ≡ Some e
alone (Const b) = refl
alone (Leaf x) = refl
alone (One op a) = ap (on_one (One op)) (alone a)
alone (Two op a b) = ap (λ o. on_two (Two op) o (tree_in b themselves)) (alone a) ∙ ap (on_one (Two op a)) (alone b)
alone (Mux c a b) =
    ap (λ o. on_three Mux o (tree_in a themselves) (tree_in b themselves)) (alone c) ∙ ap (λ o. on_two (Mux c) o (tree_in b themselves)) (alone a) ∙ ap (on_one (Mux c a)) (alone b)

-- what stands for a tree is an id
pub some_id : (ns : List Term) (id : Option TermId) (e : Expr) → Stands ns id (Some e) → IsSome id
some_id ns None e s = absurd (none-some e s.is)
some_id ns (Some id) e s = refl

pub tells_alone : (ns : List Term) (id : Option TermId) (found : TermId) (e : Expr) → id ≡ Some found → Stands ns id (Some e) → TellsExpr ns found e
tells_alone ns None found e is s = absurd (none-some found is)
tells_alone ns (Some id) found e is s = subst (λ i. TellsExpr ns i e) (same_Some id found is) (record { within = s.within; is = same_Some _ e s.is })

-- before a walk names are themselves
nothing_held : (ns : List Term) → env_by ns (ids_of no_value) (ids_of no_value) ≡ themselves
nothing_held ns = λ j y. at y j
  where
    at : (y : Key) → env_by ns (ids_of no_value) (ids_of no_value) y ≡ themselves y
    at (Now x) = refl
    at (Next x) = refl

nothing_put : (ns : List Term) → state_by ns no_value no_value ≡ all_themselves
nothing_put ns = λ j y. at y j
  where
    at : (y : Key) → state_by ns no_value no_value y ≡ all_themselves y
    at (Now x) = refl
    at (Next x) = refl

pub blank_env : (ns : List Term) (now next : Puts) → now ≡ no_value → next ≡ no_value → env_by ns (ids_of now) (ids_of next) ≡ themselves
blank_env ns now next e f = ap₂ (λ (m n : Puts). env_by ns (ids_of m) (ids_of n)) e f ∙ nothing_held ns

pub blank_state : (ns : List Term) (now next : Puts) → now ≡ no_value → next ≡ no_value → state_by ns now next ≡ all_themselves
blank_state ns now next e f = ap₂ (state_by ns) e f ∙ nothing_put ns

pub blank_fits : (ns : List Term) (now next : Puts) → now ≡ no_value → next ≡ no_value → AllPut ns now next
blank_fits ns now next e f = subst (λ (m : Puts). AllPut ns m next) (sym e) (subst (λ (m : Puts). AllPut ns no_value m) (sym f) (record { now_put = λ x. tt; next_put = λ x. tt }))

-- what each of them shows is itself
whole_shown : (w : ℕ) → all_below w (λ i. true) ≡ true
whole_shown zero = refl
whole_shown (suc w) = whole_shown w

pub blank_shows : (width : Name → ℕ) (walk : Walk) → state_of walk ≡ all_themselves → env_of walk ≡ themselves → Shows width walk
blank_shows width walk state env = env ∙ (λ j y. sym (ap (λ b. if b then Some (Leaf (key_name y)) else None) (whole_shown (width (key_name y)))) j) ∙ ap (shown width) (sym state)
