-- What is known of the nodes of a condition, and its value as it is told.
use Rattle.std.proofs.Common.{◌≡◌, ℕ, ◌<◌, ◌==◌, Bool, true, false, Option, Some, None, if◌then◌else◌, refl, subst}
use Rattle.bv_core.specs.Value.{Bits}
use Rattle.bv_core.specs.declared.NodeId.{NodeId}
use Rattle.bv_core.specs.declared.Sample.{Sample}
use Rattle.bv_core.specs.declared.Truth.TheVariants as truth
use Rattle.trace_core.specs.Samples.{Samples}
use Rattle.trace_core.specs.Known.{is_one}
use Rattle.cond_lang.specs.declared.cond.Cond.{Cond}
use Rattle.cond_lang.specs.Bound.{EachNode, HasWidth}
use Rattle.cond_lang.specs.Shown.{cond_tree, cond_width, truth_of}
use Rattle.site_core.specs.Sampled.{cycle_samples, IsSet, IsValue, IsNodeOf}
use Rattle.slot_sched.specs.Waiting.{IsTest, is_true}
use Rattle.site_core.proofs.Nodes.{each_weaker, wide}

pub test_told : (s : Samples) (o : Option Cond) (cond : Cond) → o ≡ Some cond → IsTest s o → (cond_width cond ≡ 1) × EachNode (IsNodeOf s) (cond_tree cond)
test_told s o cond e h = subst (IsTest s) e h

-- what is told of a value is true where the value is known and 1
pub true_is : (v : Option Bits) → is_true (truth_of v) ≡ is_one v
true_is None = refl
true_is (Some b) = by_test (b.value == 1)
  where
    by_test : (one : Bool) → is_true (if one then truth.True else truth.False) ≡ one
    by_test true = refl
    by_test false = refl

-- the nodes of a condition that can be evaluated may be asked for
pub each_asked : (s : Samples) (Q : NodeId → ℕ → Type 0) (o : Option Cond) (cond : Cond) → o ≡ Some cond → IsTest s o
    → ((n : NodeId) (w : ℕ) → n.0 < s.nodes → Q n w) → EachNode Q (cond_tree cond)
each_asked s Q o cond e h ask = each_weaker (IsNodeOf s) Q (λ n w own. ask n w own.within) (cond_tree cond) (test_told s o cond e h).1

-- what is found of them has their width
pub each_wide : (s : Samples) (cursor : Option ℕ) (R : NodeId → Sample → Type 0) (o : Option Cond) (cond : Cond) → o ≡ Some cond → IsTest s o → IsSet s cursor
    → ((n : NodeId) (found : Sample) → R n found → (found ≡ cycle_samples s cursor n.0) × IsValue found)
    → EachNode (λ n w. (found : Sample) → R n found → HasWidth w found) (cond_tree cond)
each_wide s cursor R o cond e h set tells =
    each_weaker (IsNodeOf s) (λ n w. (found : Sample) → R n found → HasWidth w found)
    (λ n w own found r. wide s cursor n w found set own (tells n found r).0 (tells n found r).1) (cond_tree cond) (test_told s o cond e h).1
