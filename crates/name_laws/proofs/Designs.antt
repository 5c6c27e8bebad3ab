-- The names of an elaborated design are texts.
use Rattle.std.proofs.Common.{◌≡◌, ℕ, zero, suc, ◌+◌, true, false, List, [], ◌∷◌, ◌++◌, map, length, Result, Ok, Err, IsUtf8, if◌then◌else◌, nat_lt, refl, sym, ap₂, subst}
use Rattle.std.specs.List.{enumerate_from, flat_map}
use Rattle.std.proofs.lemmas.Str.{IsUtf8-nil}
use Rattle.gen_tree.specs.Tree.{Module, all_modules}
use Rattle.exec_core.specs.Block.{Name}
use Rattle.list_core.specs.Lists.{EachOf}
use Rattle.design_core.specs.declared.Instance.{Instance as Placed}
use Rattle.design_core.specs.declared.Signal.{Signal}
use Rattle.design_core.specs.Design.{Gens, Stmt, Assign, Let, If, Case, Body, Done, Then, Else, NoElse, Otherwise, Arms, NoArms, ThenArm, Block, Variant, Design}
use Rattle.design_core.specs.Slots.{Head, heads, stmt_heads, else_heads, arms_heads, arms_size, let_of, lets_of, else_lets, arms_lets, scope}
use Rattle.elab_core.specs.Walk.{Fault, Seen, none_seen, judge, too_large}
use Rattle.elab_core.specs.declared.Count.TheVariants.{Cells}
use Rattle.elab_core.specs.Elaborated.{Instance}
use Rattle.elab_core.specs.Elab.{top_walk}
use Rattle.elab_core.specs.Design.{size, stmt_size, numbered, numbered_stmt, numbered_else, numbered_arms, numbered_blocks, variant_of, firsts, variants_of, name_at, first_slot, numbered_variant, instance_in, designed, cells, unless_large, design_from}
use Rattle.elab_laws.proofs.Fine.{both_each}
use Rattle.name_laws.specs.Texts.{VariantHasTexts, HasTexts, NamesAreTexts}
use Rattle.name_laws.proofs.Source.{ModuleNamed}
use Rattle.name_laws.proofs.Spelled.{files_named}
use Rattle.name_laws.proofs.Bodies.{HeadNamed}
use Rattle.name_laws.proofs.Walks.{SignalNamed, BlockNamed, InstanceNamed, OnResult, top_named, judged}

-- ---- the first instances are among all

each_first : (P : Instance → Type 0) (variants list : List Instance) → EachOf P variants → EachOf P list → EachOf P (firsts variants list)
each_first P variants [] h g = h
each_first P variants (i ∷ list) h g =
    elim (nat_lt (variant_of i.place i.params variants) (length variants)) as (λ b. EachOf P (if b then firsts variants list else firsts (variants ++ i ∷ []) list)) [
      | true ↦ each_first P variants list h g.1
      | false ↦ each_first P (variants ++ i ∷ []) list (both_each P variants (i ∷ []) h (g.0, tt)) g.1
    ]

-- ---- numbered statements have the same generator variables, and the same `let`s

abbrev head_gens : Head → Gens
head_gens h = h.gens

mutual
  same_lets : (k : ℕ) (b : Body) → lets_of (numbered k b) ≡ lets_of b
  same_lets k Done = refl
  same_lets k (Then s rest) = ap₂ (λ (x y : List Name). x ++ y) (stmt_lets k s) (same_lets (k + stmt_size s) rest)

  stmt_lets : (k : ℕ) (s : Stmt) → let_of (numbered_stmt k s) ≡ let_of s
  stmt_lets k (Assign slot line gens x part e) = refl
  stmt_lets k (Let slot line gens x e) = refl
  stmt_lets k (If slot line gens c first second) = ap₂ (λ (x y : List Name). x ++ y) (same_lets (k + 1) first) (branch_lets (k + 1 + size first) second)
  stmt_lets k (Case slot line gens v arms other) = ap₂ (λ (x y : List Name). x ++ y) (lets_in (k + 1) arms) (branch_lets (k + 1 + arms_size arms) other)

  lets_in : (k : ℕ) (arms : Arms) → arms_lets (numbered_arms k arms) ≡ arms_lets arms
  lets_in k NoArms = refl
  lets_in k (ThenArm tests body rest) = ap₂ (λ (x y : List Name). x ++ y) (same_lets k body) (lets_in (k + size body) rest)

  branch_lets : (k : ℕ) (e : Else) → else_lets (numbered_else k e) ≡ else_lets e
  branch_lets k NoElse = refl
  branch_lets k (Otherwise body) = same_lets k body

each_parts : {A : Type 0} (P : A → Type 0) (xs ys : List A) → EachOf P (xs ++ ys) → EachOf P xs × EachOf P ys
each_parts P [] ys h = (tt, h)
each_parts P (x ∷ xs) ys h = let rest = each_parts P xs ys h.1 in ((h.0, rest.0), rest.1)

mutual
  same_heads : (k : ℕ) (b : Body) → EachOf HeadNamed (heads b) → EachOf HeadNamed (heads (numbered k b))
  same_heads k Done h = tt
  same_heads k (Then s rest) h =
      let parts = each_parts HeadNamed (stmt_heads s) (heads rest) h in
      both_each HeadNamed (stmt_heads (numbered_stmt k s)) (heads (numbered (k + stmt_size s) rest)) (stmt_same k s parts.0) (same_heads (k + stmt_size s) rest parts.1)

  stmt_same : (k : ℕ) (s : Stmt) → EachOf HeadNamed (stmt_heads s) → EachOf HeadNamed (stmt_heads (numbered_stmt k s))
  stmt_same k (Assign slot line gens x part e) h = h
  stmt_same k (Let slot line gens x e) h = h
  stmt_same k (If slot line gens c first second) h =
      let parts = each_parts HeadNamed (heads first) (else_heads second) h.1 in
      (h.0, both_each HeadNamed (heads (numbered (k + 1) first)) (else_heads (numbered_else (k + 1 + size first) second)) (same_heads (k + 1) first parts.0) (branch_same (k + 1 + size first) second parts.1))
  stmt_same k (Case slot line gens v arms other) h =
      let parts = each_parts HeadNamed (arms_heads arms) (else_heads other) h.1 in
      (h.0, both_each HeadNamed (arms_heads (numbered_arms (k + 1) arms)) (else_heads (numbered_else (k + 1 + arms_size arms) other)) (arms_same (k + 1) arms parts.0) (branch_same (k + 1 + arms_size arms) other parts.1))

  arms_same : (k : ℕ) (arms : Arms) → EachOf HeadNamed (arms_heads arms) → EachOf HeadNamed (arms_heads (numbered_arms k arms))
  arms_same k NoArms h = tt
  arms_same k (ThenArm tests body rest) h =
      let parts = each_parts HeadNamed (heads body) (arms_heads rest) h in
      both_each HeadNamed (heads (numbered k body)) (arms_heads (numbered_arms (k + size body) rest)) (same_heads k body parts.0) (arms_same (k + size body) rest parts.1)

  branch_same : (k : ℕ) (e : Else) → EachOf HeadNamed (else_heads e) → EachOf HeadNamed (else_heads (numbered_else k e))
  branch_same k NoElse h = tt
  branch_same k (Otherwise body) h = same_heads k body h

heads_named : (k : ℕ) (bs : List Block) → EachOf BlockNamed bs → EachOf HeadNamed (flat_map (λ b. heads b.body) (numbered_blocks k bs))
heads_named k [] h = tt
heads_named k (b ∷ bs) h =
    both_each HeadNamed (heads (numbered k b.body)) (flat_map (λ c. heads c.body) (numbered_blocks (k + size b.body) bs)) (same_heads k b.body h.0.gens) (heads_named (k + size b.body) bs h.1)

-- ---- variants

names_of : (signals : List Signal) → EachOf SignalNamed signals → EachOf IsUtf8 (map (λ (s : Signal). s.name) signals)
names_of [] h = tt
names_of (s ∷ signals) h = (h.0, names_of signals h.1)

scopes_named : (v : Variant) (k : ℕ) (bs : List Block) → EachOf SignalNamed v.signals → EachOf BlockNamed bs → EachOf (λ b. EachOf IsUtf8 (scope v b)) (numbered_blocks k bs)
scopes_named v k [] h g = tt
scopes_named v k (b ∷ bs) h g = (
  both_each IsUtf8 (map (λ (s : Signal). s.name) v.signals) (lets_of (numbered k b.body)) (names_of v.signals h) (subst (λ (l : List Name). EachOf IsUtf8 l) (sym (same_lets k b.body)) g.0.lets),
  scopes_named v (k + size b.body) bs h g.1,
)

module_text : (modules : List Module) (place : ℕ) → EachOf ModuleNamed modules → IsUtf8 (name_at place modules)
module_text [] place h = IsUtf8-nil
module_text (m ∷ modules) zero h = h.0.name
module_text (m ∷ modules) (suc place) h = module_text modules place h.1

variants_named : (modules : List Module) (variants : List Instance) (k : ℕ) (list : List Instance) → EachOf ModuleNamed modules → EachOf InstanceNamed list → EachOf VariantHasTexts (map (numbered_variant modules variants) (enumerate_from k list))
variants_named modules variants k [] all h = tt
variants_named modules variants k (i ∷ list) all h =
    let slot = first_slot variants (k, i) in (
      record {
        «module» = module_text modules i.place all;
        params = h.0.params;
        gens = heads_named slot i.content.blocks h.0.content.blocks;
        names = scopes_named (numbered_variant modules variants (k, i)) slot i.content.blocks h.0.content.signals h.0.content.blocks;
      },
      variants_named modules variants (k + 1) list all h.1,
    )

paths_named : (variants list : List Instance) → EachOf InstanceNamed list → EachOf (λ (r : Placed). IsUtf8 r.path) (map (instance_in variants) list)
paths_named variants [] h = tt
paths_named variants (i ∷ list) h = (h.0.path, paths_named variants list h.1)

design_named : (modules : List Module) (top : Name) (list : List Instance) → EachOf ModuleNamed modules → EachOf InstanceNamed list → HasTexts (designed modules top list)
design_named modules top list all h =
    let variants = variants_of list in
    record { variants = variants_named modules variants 0 variants all (each_first InstanceNamed [] list tt h); paths = paths_named variants list h }

-- ---- what elaboration gives

abbrev OnDesign : Result Design Fault → Type 0
OnDesign (Ok d) = HasTexts d
OnDesign (Err fault) = Unit {0}

given_named : (modules : List Module) (top : Name) (r : Result (List Instance × Seen) Fault) → EachOf ModuleNamed modules → OnResult (EachOf InstanceNamed) r → OnDesign (design_from modules top (unless_large r))
given_named modules top (Ok p) all h =
    elim (nat_lt 4000000 (cells p.0)) as (λ b. OnDesign (design_from modules top (if b then Err (too_large 0 Cells) else Ok p.0))) [ true ↦ tt | false ↦ design_named modules top p.0 all h ]
given_named modules top (Err fault) all h = tt

pub names_are_texts : NamesAreTexts
names_are_texts sources top rest d read fine e =
    let modules = all_modules sources in
    let all = files_named 0 sources read in
    subst OnDesign e (given_named modules top (judge none_seen (top_walk modules top rest)) all (judged (EachOf InstanceNamed) none_seen (top_walk modules top rest) (top_named modules top rest all fine)))
