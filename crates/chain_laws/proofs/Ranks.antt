-- The driven signals of the chain depend on one another in no loop: each has a rank above those of all that it reads.
use Rattle.std.proofs.Common.{◌≡◌, ℕ, ◌<◌, ◌==◌, Bool, true, false, true≢false, ◌&&◌, List, [], ◌∷◌, Option, Some, None, find, inl, inr, refl, sym, subst, arith}
use Rattle.std.proofs.lemmas.Option.{none-some}
use Rattle.std.proofs.lemmas.Bool.Decides.{nat_tests}
use Rattle.std.specs.Prelude.{bytes_eq, option_map, option_and_then}
use Rattle.list_core.specs.Lists.{EachOf}
use Rattle.list_core.proofs.Lists.{each_member, find_member}
use Rattle.list_core.proofs.Options.{some_same}
use Rattle.tree_core.specs.Tree.{Tree, Const, Leaf, One, Two, Mux}
use Rattle.exec_core.specs.Block.{Name, Now, own}
use Rattle.exec_core.specs.Trees.{block_trees}
use Rattle.exec_core.specs.Leaves.{EachLeaf}
use Rattle.exec_core.specs.Whole.{Place, Drivers}
use Rattle.exec_core.specs.Design.{Process, place, moved, links_to, assigns_to, or_else}
use Rattle.design_core.specs.Design as design
use Rattle.design_exec.specs.Processes.{Link, processes_of}
use Rattle.check_exec.proofs.Facts.{same_name}
use Rattle.dep_order.specs.Standing.{SomeLeaf}
use Rattle.dep_order.specs.Wiring.{shown_tree}
use Rattle.dep_order.specs.Ordering.{shown_driver}
use Rattle.dep_order.specs.Results.{DependsOn, Depend, IsLoop}

-- ---- ranks along a loop

module _ (rank : Place → ℕ) where
  -- all that it reads has a lower rank
  abbrev pub ReadsLower : Place → Tree Place → Type 0
  ReadsLower p t = EachLeaf (λ q. rank q < rank p) t

  lower_leaf : (p q : Place) (t : Tree Place) → ReadsLower p t → SomeLeaf (λ r. r ≡ q) t → rank q < rank p
  lower_leaf p q (Const b) h s = absurd s
  lower_leaf p q (Leaf r) h s = subst (λ r. rank r < rank p) s h
  lower_leaf p q (One op a) h s = lower_leaf p q a h s
  lower_leaf p q (Two op a b) h (inl s) = lower_leaf p q a h.0 s
  lower_leaf p q (Two op a b) h (inr s) = lower_leaf p q b h.1 s
  lower_leaf p q (Mux c a b) h (inl s) = lower_leaf p q c h.0 s
  lower_leaf p q (Mux c a b) h (inr (inl s)) = lower_leaf p q a h.1 s
  lower_leaf p q (Mux c a b) h (inr (inr s)) = lower_leaf p q b h.2 s

  abbrev pub AllLower : Drivers → Type 0
  AllLower d = (p : Place) (t : Tree Place) → d p ≡ Some t → ReadsLower p t

  one_lower : (d : Drivers) → AllLower d → (p q : Place) → DependsOn d p q → rank q < rank p
  one_lower d h p q s = lower_leaf p q s.driver (h p s.driver s.drives) s.reads

  along : (d : Drivers) → AllLower d → (p : Place) (rs : List Place) (q : Place) → Depend d p rs q → rank q < rank p
  along d h p [] q s = one_lower d h p q s
  along d h p (r ∷ rs) q s = let first : rank r < rank p = one_lower d h p r s.0 in let rest : rank q < rank r = along d h r rs q s.1 in omega arith

  pub ranks_rule_out : (d : Drivers) → AllLower d → (loop : List Place) → IsLoop d loop → ⊥
  ranks_rule_out d h [] s = s
  ranks_rule_out d h (p ∷ ps) s = let lt : rank p < rank p = along d h p ps p s.0 in omega arith

  -- ---- links and processes

  abbrev pub LinkLower : Link → Type 0
  LinkLower link = ReadsLower link.0 link.1

  abbrev pub IfTree : (Tree Name → Type 0) → Option (Tree Name) → Type 0
  IfTree P None = Unit {0}
  IfTree P (Some t) = P t

  -- what an own name of a process ends with
  abbrev pub ProcessLower : Process → Type 0
  ProcessLower b = (x : Name) → own b.body x ≡ true → IfTree (λ t. EachLeaf (λ y. rank (place b.instance y) < rank (place b.instance x)) t) (block_trees b.let_width b.body (Now x))

  moved_leaf : (P : Place → Type 0) (i : ℕ) (t : Tree Name) → EachLeaf (λ y. P (place i y)) t → EachLeaf P (moved i t)
  moved_leaf P i (Const b) h = tt
  moved_leaf P i (Leaf x) h = h
  moved_leaf P i (One op a) h = moved_leaf P i a h
  moved_leaf P i (Two op a b) h = (moved_leaf P i a h.0, moved_leaf P i b h.1)
  moved_leaf P i (Mux c a b) h = (moved_leaf P i c h.0, moved_leaf P i a h.1, moved_leaf P i b h.2)

  by_tree : (i : ℕ) (x : Name) (o : Option (Tree Name)) (t : Tree Place) → option_map (moved i) o ≡ Some t → IfTree (λ t. EachLeaf (λ y. rank (place i y) < rank (place i x)) t) o → ReadsLower (place i x) t
  by_tree i x None t e h = absurd (none-some t e)
  by_tree i x (Some u) t e h = subst (ReadsLower (place i x)) (some_same (moved i u) t e) (moved_leaf (λ q. rank q < rank (place i x)) i u h)

  and_both : (a b : Bool) → (a && b) ≡ true → (a ≡ true) × (b ≡ true)
  and_both true b e = (refl, e)
  and_both false b e = absurd (true≢false (sym e))

  equal_numbers : (m n : ℕ) → (m == n) ≡ true → m ≡ n
  equal_numbers m n e = grind (arith, nat_tests)

  process_lower : (p : Place) (b : Process) (t : Tree Place) → ProcessLower b → assigns_to p b ≡ true → shown_tree p b ≡ Some t → ReadsLower p t
  process_lower p b t h a e =
      let parts = and_both (b.instance == p.instance) (own b.body p.name) a in
      subst (λ (i : ℕ). ReadsLower (place i p.name) t) (equal_numbers b.instance p.instance parts.0) (by_tree b.instance p.name (block_trees b.let_width b.body (Now p.name)) t e (h p.name parts.1))

  link_lower : (p : Place) (link : Link) → LinkLower link → links_to p link ≡ true → ReadsLower p link.1
  link_lower p link h a =
      let parts = and_both (link.0.instance == p.instance) (bytes_eq link.0.name p.name) a in
      subst (λ (i : ℕ). ReadsLower (place i p.name) link.1) (equal_numbers link.0.instance p.instance parts.0)
      (subst (λ (x : Name). ReadsLower (place link.0.instance x) link.1) (same_name link.0.name p.name parts.1) h)

  driver_lower : (p : Place) (links : List Link) (processes : List Process) → EachOf LinkLower links → EachOf ProcessLower processes
      → (o : Option Link) (u : Option Process) → find (links_to p) links ≡ o → find (assigns_to p) processes ≡ u
      → (t : Tree Place) → or_else (option_map (λ link. link.1) o) (option_and_then (shown_tree p) u) ≡ Some t → ReadsLower p t
  driver_lower p links processes hl hp (Some link) u e f t g =
      let found = find_member (links_to p) links link e in
      subst (ReadsLower p) (some_same link.1 t g) (link_lower p link (each_member LinkLower links hl link found.0) found.1)
  driver_lower p links processes hl hp None None e f t g = absurd (none-some t g)
  driver_lower p links processes hl hp None (Some b) e f t g =
      let found = find_member (assigns_to p) processes b f in
      process_lower p b t (each_member ProcessLower processes hp b found.0) found.1 g

  pub all_lower : (d : design.Design) → EachOf LinkLower (processes_of d).links → EachOf ProcessLower (processes_of d).processes → AllLower (shown_driver d)
  all_lower d hl hp p t e = driver_lower p (processes_of d).links (processes_of d).processes hl hp (find (links_to p) (processes_of d).links) (find (assigns_to p) (processes_of d).processes) refl refl t e
