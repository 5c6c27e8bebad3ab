-- Simulating a compiled design samples its run: each node has the value of its tree.
use Rattle.std.proofs.Common.{◌≡◌, ℕ, ◌<◌, Bool, true, false, List, [], ◌∷◌, length, map, if◌then◌else◌, inl, inr, refl, sym, ap, ◌∙◌, subst, true≢false}
use Rattle.bv_core.specs.Value.{Bits}
use Rattle.bv_core.specs.declared.reference.Sample.TheVariants.{Known}
use Rattle.tree_core.specs.Tree.{Leaf, Origin, Whole, value_of}
use Rattle.tree_core.specs.Fold.{same_origin}
use Rattle.tree_core.proofs.Same.{same_origin-sound, same_origin-refl}
use Rattle.list_core.specs.Lists.{IsIn}
use Rattle.exec_core.specs.Whole.{Place}
use Rattle.exec_core.specs.Design.{folded_tree}
use Rattle.exec_core.specs.Accepted.{GivenFits}
use Rattle.exec_core.specs.States.{NodeByNode}
use Rattle.list_core.proofs.Lists.{each_member}
use Rattle.exec_core.proofs.Folded.{nodes_by_node}
use Rattle.exec_core.proofs.Wholes.{value_ext, each_leaf}
use Rattle.design_core.specs.Design.{Design}
use Rattle.design_exec.specs.Processes.{Given, processes_of}
use Rattle.net_core.specs.Nodes.{trees_of, tree_of, tree_at}
use Rattle.net_core.specs.Nets.{NetParts}
use Rattle.net_core.proofs.TreeLists.{trees_length}
use Rattle.symtab.specs.declared.parts.TableParts.{TableParts}
use Rattle.trace_core.specs.Samples.{SameSamples}
use Rattle.stim_text.specs.Stimulus.{Stimulus}
use Rattle.sim_hist.specs.Run.{run_samples}
use Rattle.world_core.specs.declared.mode.Mode.{Mode}
use Rattle.world_core.specs.Kept.{kept_trees}
use Rattle.world_core.specs.Source.{settled_in}
use Rattle.trim_laws.specs.Worlds.{IsRunOf}
use Rattle.trim_laws.specs.Simulated.{origin_value, state_of, tree_samples, SimulatedAreRuns}
use Rattle.trim_laws.proofs.Visits.{state_at}
use Rattle.trim_laws.proofs.Worlds.{order, count_same, trimmed, ok, others, cycles, as_many, agrees, sample_is}

-- where each given has what a state gives it, an origin among them has that
origin_holds : (E : Place → Bits) (G : Origin → Bits) (givens : List Given) → ((given : Given) → IsIn given givens → E given.0 ≡ G given.1) → (o : Origin) → IsIn o (map (λ (given : Given). given.1) givens)
    → origin_value givens E o ≡ G o
origin_holds E G [] h o i = absurd i
origin_holds E G (given ∷ givens) h o i =
    by_test (same_origin given.1 o) refl i (λ j. origin_holds E G givens (λ other m. h other (inr m)) o j)
  where
    by_test : (b : Bool) → same_origin given.1 o ≡ b → IsIn o (map (λ (given : Given). given.1) (given ∷ givens)) → (IsIn o (map (λ (given : Given). given.1) givens) → origin_value givens E o ≡ G o)
        → (if b then E given.0 else origin_value givens E o) ≡ G o
    by_test true s i later = h given (inl refl) ∙ ap G (same_origin-sound given.1 o s)
    by_test false s (inl e) later = absurd (true≢false (sym (subst (λ p. same_origin p o ≡ true) e (same_origin-refl o)) ∙ s))
    by_test false s (inr j) later = later j

module _ (d : Design) (pairs : List (ℕ × ℕ)) (mode : Mode) (net : NetParts) (parts : TableParts) (stim : Stimulus) (run : List (Place → Bits)) (h : IsRunOf d pairs mode net parts stim run) where
  abbrev driven : ℕ
  driven = length (order d pairs mode net parts stim run h)

  abbrev states : List (Origin → Bits)
  states = others d pairs mode net parts stim run h

  by_node : NodeByNode (processes_of d) driven
  by_node = nodes_by_node (processes_of d) (order d pairs mode net parts stim run h) (ok d pairs mode net parts stim run h)

  module _ (t : ℕ) (inside : t < length stim.rows) where
    -- an input or a register has in a settled cycle what the cycle's state gives it
    given_has : (given : Given) → IsIn given (processes_of d).givens → settled_in run t given.0 ≡ state_at states t given.1
    given_has given i =
        (agrees d pairs mode net parts stim run h t inside).signals given.0 (each_member (GivenFits (processes_of d)) (processes_of d).givens (ok d pairs mode net parts stim run h).givens given i).signal
        ∙ ap (value_of (state_at states t)) (each_member (λ (q : Given). folded_tree (processes_of d) driven (Leaf q.0) ≡ Leaf q.1) (processes_of d).givens by_node.given given i)

    tree_value : (j : ℕ) → j < length net.nodes → value_of (state_of d run t) (tree_of net.nodes j) ≡ value_of (state_at states t) (tree_of net.nodes j)
    tree_value j below =
        value_ext (state_of d run t) (state_at states t) (tree_of net.nodes j)
        (each_leaf (origin_holds (settled_in run t) (state_at states t) (processes_of d).givens given_has) (tree_of net.nodes j) ((trimmed d pairs mode net parts stim run h).is_kept.over j below))

  samples_same : SameSamples (run_samples net stim) (tree_samples d driven mode run)
  samples_same = record {
    cycles = sym (as_many d pairs mode net parts stim run h) ∙ sym (cycles d pairs mode net parts stim run h).count;
    nodes = sym (trees_length net.nodes) ∙ ap (λ (ts : List Whole). length ts) numbered;
    sample = λ t j inside below.
        let now : t < length stim.rows = subst (λ m. t < m) ((cycles d pairs mode net parts stim run h).count ∙ as_many d pairs mode net parts stim run h) inside in
        let there : j < length net.nodes = subst (λ m. j < m) (sym (ap (λ (ts : List Whole). length ts) numbered) ∙ trees_length net.nodes) below in
        sample_is d pairs mode net parts stim run h t now j (tree_of net.nodes j) (record { within = there; tree = refl })
        ∙ ap (λ b. Known b) (sym (tree_value t now j there) ∙ ap (λ ts. value_of (state_of d run t) (tree_at ts j)) numbered);
  }
    where
      numbered : trees_of net.nodes ≡ kept_trees d driven mode
      numbered = (trimmed d pairs mode net parts stim run h).is_kept.numbered

pub simulated_are_runs : SimulatedAreRuns
simulated_are_runs d pairs mode net parts stim run h =
    subst (λ n. SameSamples (run_samples net stim) (tree_samples d n mode run)) (sym (count_same d pairs mode net parts stim run h)) (samples_same d pairs mode net parts stim run h)
