-- The trees of expressions, and of what stands for their parts.
use Rattle.std.proofs.Common.{◌≡◌, List, Option, Result, Ok, Err, IfOk, OnOk, ap, ◌∙◌}
use Rattle.tree_core.specs.Tree.{Tree}
use Rattle.exec_core.specs.Block.{Name, Expr}
use Rattle.exec_core.specs.Exec.{on_two, on_three}
use Rattle.exec_core.specs.Trees.{tree_in}
use Rattle.block_net.specs.declared.term.Term.{Term}
use Rattle.block_net.specs.declared.term.TermId.{TermId}
use Rattle.block_net.specs.declared.walk.Walk.{Walk}
use Rattle.block_net.specs.Terms.{Extends, Stands, tree_for}
use Rattle.block_net.specs.Walks.{env_of, Grown}
use Rattle.block_net.proofs.TermLists.{tree_more, stands_as}

pub on_ok_map : {A B X Y : Type 0} (r : Result X Y) → (A → B) → OnOk r A → OnOk r B
on_ok_map (Ok x) f h = f h
on_ok_map (Err e) f h = tt

pub if_ok_as : {Y : Type 0} (r : Result (Option TermId) Y) (ns : List Term) (t u : Option (Tree Name)) → t ≡ u → IfOk r (λ id. Stands ns id t) → IfOk r (λ id. Stands ns id u)
if_ok_as (Ok id) ns t u e h = stands_as ns id t u e h
if_ok_as (Err x) ns t u e h = tt

-- what stands for a tree does so later
pub later : (mid new : List Term) (id : Option TermId) (t : Option (Tree Name)) → Stands mid id t → Extends mid new → tree_for new id ≡ t
later mid new id t s e = tree_more mid new id e s.within ∙ s.is

-- of an expression whose names had the same before
pub of_expr : (old mid : Walk) (ns : List Term) (id : Option TermId) (e : Expr) → Grown old mid → tree_for ns id ≡ tree_in e (env_of mid) → tree_for ns id ≡ tree_in e (env_of old)
of_expr old mid ns id e g is = is ∙ ap (tree_in e) g.env

pub both : {U V W : Type 0} (f : U → V → W) (a c : Option U) (b d : Option V) → a ≡ c → b ≡ d → on_two f a b ≡ on_two f c d
both f a c b d e h = λ i. on_two f (e i) (h i)

pub all_three : {T U V W : Type 0} (f : T → U → V → W) (a x : Option T) (b y : Option U) (c z : Option V) → a ≡ x → b ≡ y → c ≡ z → on_three f a b c ≡ on_three f x y z
all_three f a x b y c z e g h = λ i. on_three f (e i) (g i) (h i)
