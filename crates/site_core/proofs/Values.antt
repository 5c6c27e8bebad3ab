-- The value of an expression with its names found is that of its text, by what the world shows of its names.
use Rattle.std.proofs.Common.{◌≡◌, ℕ, List, [], ◌∷◌, ◌++◌, Option, Some, None, Result, Ok, option_map, unwrap_or, if◌then◌else◌, ◌&&◌, Bool, refl, sym, ap, ap₂, ◌∙◌, subst}
use Rattle.std.specs.List.{list_all}
use Rattle.std.proofs.lemmas.List.Folds.{list_all-append}
use Rattle.bv_core.specs.Value.{Bits}
use Rattle.bv_core.specs.Operators.{apply1_of, apply2_of, choose_of}
use Rattle.bv_core.specs.declared.NodeId.{NodeId}
use Rattle.bv_core.specs.declared.Ref.{Ref}
use Rattle.bv_core.specs.declared.Ref.TheVariants.{Node, Const as Literal}
use Rattle.bv_core.specs.declared.Binding.{Binding}
use Rattle.bv_core.specs.declared.Binding.TheVariants as binding
use Rattle.bv_core.specs.declared.Sample.{Sample}
use Rattle.bv_core.specs.declared.Sample.TheVariants.{Known, Unknown}
use Rattle.tree_core.specs.Tree.{Tree, Const, Leaf, One, Two, Mux, value_of}
use Rattle.list_core.specs.Lists.{EachOf}
use Rattle.gen_tree.specs.Tree.{Expr}
use Rattle.symtab.specs.declared.parts.TableParts.{TableParts}
use Rattle.symtab.specs.Shape.{width_of, IsTable}
use Rattle.symtab.specs.Lookups.{binding_of}
use Rattle.trace_core.specs.Samples.{Samples}
use Rattle.trace_core.specs.Known as trace
use Rattle.world_core.specs.World.{HasWidth, shown_by, value_shown}
use Rattle.trace_world.specs.TraceWorld as world
use Rattle.trace_world.specs.TraceWorld.{found_by, binding_shown}
use Rattle.trace_world.specs.Fitting.{FitsTable}
use Rattle.trace_world.proofs.Fitting.{fitting_traces_sample}
use Rattle.cond_lang.specs.Names.{Name}
use Rattle.cond_lang.specs.Bound as bound
use Rattle.cond_lang.specs.Bound.{status_of, scope_of, ref_or_nought, mapped, bound_by, value_at, bound_value, EachNode}
use Rattle.cond_lang.specs.Judged.{Refusal, refused_name, or_else, first_refused, unless_refused, judged}
use Rattle.cond_lang.specs.Meaning as cond
use Rattle.cond_lang.specs.Meaning.{tree_of, leaves, nought, is_known, value_in}
use Rattle.site_core.specs.Sampled.{IsNodeOf}
use Rattle.cond_lang.specs.declared.cond.Cond.{Cond}
use Rattle.cond_lang.specs.declared.text.CondText.{CondText}
use Rattle.cond_lang.specs.Shown.{cond_tree}
use Rattle.cond_lang.specs.TextShown.{text_expr}
use Rattle.cond_lang.proofs.Nodes.{each_place}
use Rattle.site_core.specs.Traps.{IsFittingAt}

-- ---- trees whose leaves show the same

each_front : {A : Type 0} (P : A → Type 0) (xs ys : List A) → EachOf P (xs ++ ys) → EachOf P xs
each_front P [] ys h = tt
each_front P (x ∷ xs) ys h = (h.0, each_front P xs ys h.1)

each_back : {A : Type 0} (P : A → Type 0) (xs ys : List A) → EachOf P (xs ++ ys) → EachOf P ys
each_back P [] ys h = h
each_back P (x ∷ xs) ys h = each_back P xs ys h.1

module _ {A B : Type 0} (f : A → B) (shown : B → Option Bits) (told : A → Option Bits) where
  abbrev Agree : List A → Type 0
  Agree xs = EachOf (λ x. shown (f x) ≡ told x) xs

  joined : (ms ns : List B) (xs ys : List A) → list_all (is_known shown) ms ≡ list_all (is_known told) xs → list_all (is_known shown) ns ≡ list_all (is_known told) ys
      → list_all (is_known shown) (ms ++ ns) ≡ list_all (is_known told) (xs ++ ys)
  joined ms ns xs ys e g =
      list_all-append (is_known shown) ms ns ∙ ap₂ (λ a b. a && b) e g ∙ sym (list_all-append (is_known told) xs ys)

  all_agree : (t : Tree A) → Agree (leaves t) → list_all (is_known shown) (leaves (mapped f t)) ≡ list_all (is_known told) (leaves t)
  all_agree (Const b) h = refl
  all_agree (Leaf x) h = ap (λ o. list_all (λ (v : Option Bits). is_known (λ u. u) v) (o ∷ [])) h.0
  all_agree (One o a) h = all_agree a h
  all_agree (Two o a b) h =
      joined (leaves (mapped f a)) (leaves (mapped f b)) (leaves a) (leaves b) (all_agree a (each_front _ (leaves a) (leaves b) h)) (all_agree b (each_back _ (leaves a) (leaves b) h))
  all_agree (Mux c a b) h =
      let behind = each_back _ (leaves c) (leaves a ++ leaves b) h in
      joined (leaves (mapped f c)) (leaves (mapped f a) ++ leaves (mapped f b)) (leaves c) (leaves a ++ leaves b) (all_agree c (each_front _ (leaves c) (leaves a ++ leaves b) h))
      (joined (leaves (mapped f a)) (leaves (mapped f b)) (leaves a) (leaves b) (all_agree a (each_front _ (leaves a) (leaves b) behind)) (all_agree b (each_back _ (leaves a) (leaves b) behind)))

  values_agree : (t : Tree A) → Agree (leaves t) → value_of (λ x. unwrap_or (shown x) nought) (mapped f t) ≡ value_of (λ x. unwrap_or (told x) nought) t
  values_agree (Const b) h = refl
  values_agree (Leaf x) h = ap (λ o. unwrap_or o nought) h.0
  values_agree (One o a) h = ap (apply1_of o) (values_agree a h)
  values_agree (Two o a b) h =
      ap₂ (apply2_of o) (values_agree a (each_front _ (leaves a) (leaves b) h)) (values_agree b (each_back _ (leaves a) (leaves b) h))
  values_agree (Mux c a b) h =
      let behind = each_back _ (leaves c) (leaves a ++ leaves b) h in
      (λ j. choose_of (values_agree c (each_front _ (leaves c) (leaves a ++ leaves b) h) j) (values_agree a (each_front _ (leaves a) (leaves b) behind) j) (values_agree b (each_back _ (leaves a) (leaves b) behind) j))

  agree : (t : Tree A) → Agree (leaves t) → value_in shown (mapped f t) ≡ value_in told t
  agree t h = ap₂ (λ (b : Bool) v. if b then Some v else None) (all_agree t h) (values_agree t h)

-- ---- names that are found

sample_known : (v : Sample) → bound.known v ≡ trace.known v
sample_known (Known b) = refl
sample_known Unknown = refl

module _ (samples : ℕ → Sample) where
  abbrev sample_of : NodeId → Sample
  sample_of node = samples node.0

  ref_known : (at : Ref) → value_at sample_of at ≡ found_by samples at
  ref_known (Node id width) = sample_known (samples id.0)
  ref_known (Literal b) = refl

  first_found : (x : Name) (o : Option Binding) (rest : Option Refusal) → or_else (refused_name x (option_map status_of o)) rest ≡ None
      → (value_at sample_of (ref_or_nought o) ≡ world.value_by samples o) × (rest ≡ None)
  first_found x None rest e = cc
  first_found x (Some (binding.Value at)) rest e = (ref_known at, e)
  first_found x (Some binding.Unset) rest e = cc
  first_found x (Some binding.Removed) rest e = cc

  names_found : (places : Name → Option Binding) (xs : List Name) → first_refused (scope_of places) xs ≡ None
      → EachOf (λ x. value_at sample_of (ref_or_nought (places x)) ≡ world.value_by samples (places x)) xs
  names_found places [] e = tt
  names_found places (x ∷ xs) e =
      let found = first_found x (places x) (first_refused (scope_of places) xs) e in
      (found.0, names_found places xs found.1)

accepted : {width : ℕ} (o : Option Refusal) (r : Result ℕ Refusal) → unless_refused o r ≡ Ok width → o ≡ None
accepted None r e = refl
accepted (Some refusal) r e = cc

pub bound_value_is : {width : ℕ} (samples : ℕ → Sample) (places : Name → Option Binding) (e : Expr) (offsets : List ℕ) → judged (scope_of places) e offsets ≡ Ok width
    → bound_value (λ node. samples node.0) (bound_by places e) ≡ cond.value_by (λ x. world.value_by samples (places x)) e
bound_value_is samples places e offsets h =
    agree (λ x. ref_or_nought (places x)) (value_at (λ node. samples node.0)) (λ x. world.value_by samples (places x)) (tree_of e)
    (names_found samples places (leaves (tree_of e)) (accepted (first_refused (scope_of places) (leaves (tree_of e))) _ h))

-- what is shown of a name has the value of what it stands for
pub value_told : (samples : ℕ → Sample) (b : Option Binding) → value_shown (binding_shown samples b) ≡ world.value_by samples b
value_told samples None = refl
value_told samples (Some binding.Unset) = refl
value_told samples (Some binding.Removed) = refl
value_told samples (Some (binding.Value at)) = by_value (found_by samples at)
  where
    by_value : (v : Option Bits) → value_shown (shown_by (HasWidth (width_of at)) v) ≡ v
    by_value None = refl
    by_value (Some bits) = refl

-- ---- what is bound in a table can be evaluated over a trace that fits it

module _ (parts : TableParts) (table : IsTable parts) (s : Samples) (fits : FitsTable parts s) where
  pub node_of : (k i : ℕ) (x : Name) (o : Option Binding) → binding_of parts k i x ≡ o → EachNode (IsNodeOf s) (Leaf (ref_or_nought o))
  node_of k i x None e = tt
  node_of k i x (Some binding.Unset) e = tt
  node_of k i x (Some binding.Removed) e = tt
  node_of k i x (Some (binding.Value (Literal b))) e = tt
  node_of k i x (Some (binding.Value (Node id width))) e =
      let sampled = (fitting_traces_sample parts table s fits).values k i x (Node id width) e in
      record { within = sampled.0; widths = sampled.1 }

  -- so the nodes of an expression that was bound there are sampled
  pub nodes_ready : (bit : Bool) (k i : ℕ) (text : CondText) (cond : Cond) → IsFittingAt bit parts k i (Some text) (Some cond) → EachNode (IsNodeOf s) (cond_tree cond)
  nodes_ready bit k i text cond h =
      subst (EachNode (IsNodeOf s)) (sym h.1) (each_place (IsNodeOf s) (λ x. ref_or_nought (binding_of parts k i x)) (λ x. node_of k i x (binding_of parts k i x) refl) (tree_of (text_expr text)))
