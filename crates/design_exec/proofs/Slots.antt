-- The slots of a design whose variants have numbers one after another.
use Rattle.std.proofs.Common.{◌≡◌, ℕ, zero, suc, ◌+◌, ◌<◌, ◌==◌, Bool, true, false, cond, List, [], ◌∷◌, ◌++◌, map, option_map, unwrap_or, refl, sym, ap, ap₂, ◌∙◌, subst, arith, ne_eqb, eqb-true, append_assoc}
use Rattle.std.specs.Prelude.{filter, slice_get}
use Rattle.std.specs.List.{enumerate_from, flat_map}
use Rattle.std.proofs.lemmas.List.{map-append, append-nil}
use Rattle.std.proofs.lemmas.List.Elements.{filter-append}
use Rattle.exec_core.specs.Block.{slots, body_slots}
use Rattle.exec_core.specs.Cases.{arms_body}
use Rattle.list_core.specs.Lists.{EachOf, AreApart}
use Rattle.list_core.proofs.Listing.{from_apart}
use Rattle.exec_core.specs.Design.{Process}
use Rattle.exec_core.specs.Run.{slots_in}
use Rattle.design_core.specs.declared.variant.Signal.{Signal}
use Rattle.design_core.specs.declared.design.Instance as design_instance
use Rattle.design_core.specs.Design.{Expr, Stmt, Assign, Let, If, Case, Body, Done, Then, Else, NoElse, Otherwise, Arms, NoArms, ThenArm, Block, Variant, Design}
use Rattle.design_core.specs.Slots.{Head, heads, stmt_heads, else_heads, arms_heads, slots_of, AreNumbered}
use Rattle.design_exec.specs.Processes.{processes_of, tree_of, stmt_of, body_of, else_of, arms_of, process, processes_at, blocks_in, signals_in}

-- ---- the statements in a process

pub slots-append : (hs gs : List Head) → slots_of (hs ++ gs) ≡ slots_of hs ++ slots_of gs
slots-append hs gs = map-append (λ (h : Head). h.slot) hs gs

abbrev pub block_heads : Block → List Head
block_heads b = heads b.body

-- those of a block are those of its statements in preorder
mutual
  pub body_has : (c : Bool) (b : Body) → body_slots (body_of c b) ≡ slots_of (heads b)
  body_has c Done = refl
  body_has c (Then s rest) = ap₂ (λ (p q : List ℕ). p ++ q) (stmt_has c s) (body_has c rest) ∙ sym (slots-append (stmt_heads s) (heads rest))

  stmt_has : (c : Bool) (s : Stmt) → slots (stmt_of c s) ≡ slots_of (stmt_heads s)
  stmt_has c (Assign slot line gens x part e) = refl
  stmt_has c (Let slot line gens x e) = refl
  stmt_has c (If slot line gens t first second) =
      ap (λ l. slot ∷ l) (ap₂ (λ (p q : List ℕ). p ++ q) (body_has c first) (else_has c second) ∙ sym (slots-append (heads first) (else_heads second)))
  stmt_has c (Case slot line gens v NoArms other) = ap (λ l. slot ∷ l) (else_has c other)
  stmt_has c (Case slot line gens v (ThenArm tests body rest) other) =
      ap (λ l. slot ∷ l)
      (ap₂ (λ (p q : List ℕ). p ++ q) (body_has c body) (arms_have c v rest other (else_has c other)) ∙ sym (slots-append (heads body) (arms_heads rest ++ else_heads other))
      ∙ ap slots_of (sym (append_assoc (heads body) (arms_heads rest) (else_heads other))))

  else_has : (c : Bool) (b : Else) → body_slots (else_of c b) ≡ slots_of (else_heads b)
  else_has c NoElse = refl
  else_has c (Otherwise body) = body_has c body

  -- those of arms, each in the else-branch of the one before it, and of the default
  arms_have : (c : Bool) (v : Expr) (arms : Arms) (other : Else) → body_slots (else_of c other) ≡ slots_of (else_heads other)
      → body_slots (arms_body (tree_of v) (arms_of c arms) (else_of c other)) ≡ slots_of (arms_heads arms ++ else_heads other)
  arms_have c v NoArms other last = last
  arms_have c v (ThenArm tests body rest) other last =
      append-nil _ ∙ ap₂ (λ (p q : List ℕ). p ++ q) (body_has c body) (arms_have c v rest other last) ∙ sym (slots-append (heads body) (arms_heads rest ++ else_heads other))
      ∙ ap slots_of (sym (append_assoc (heads body) (arms_heads rest) (else_heads other)))

abbrev process_slots : Process → List ℕ
process_slots b = body_slots b.body

processes_have : (i : ℕ) (signals : List Signal) (bs : List Block) → flat_map process_slots (map (process i signals) bs) ≡ slots_of (flat_map block_heads bs)
processes_have i signals [] = refl
processes_have i signals (b ∷ bs) =
    ap₂ (λ (p q : List ℕ). p ++ q) (body_has b.clocked b.body) (processes_have i signals bs) ∙ sym (slots-append (heads b.body) (flat_map block_heads bs))

-- ---- the processes of one instance

abbrev at : ℕ → Process → Bool
at i b = b.instance == i

all_of : (i k : ℕ) (signals : List Signal) (bs : List Block) → (k == i) ≡ true → filter (at i) (map (process k signals) bs) ≡ map (process k signals) bs
all_of i k signals [] t = refl
all_of i k signals (b ∷ bs) t =
    ap (λ c. cond c (process k signals b ∷ filter (at i) (map (process k signals) bs)) (filter (at i) (map (process k signals) bs))) t
    ∙ ap (λ (l : List Process). process k signals b ∷ l) (all_of i k signals bs t)

none_of : (i k : ℕ) (signals : List Signal) (bs : List Block) → (k == i) ≡ false → filter (at i) (map (process k signals) bs) ≡ []
none_of i k signals [] t = refl
none_of i k signals (b ∷ bs) t =
    ap (λ c. cond c (process k signals b ∷ filter (at i) (map (process k signals) bs)) (filter (at i) (map (process k signals) bs))) t
    ∙ none_of i k signals bs t

none_later : (d : Design) (i k : ℕ) (list : List design_instance.Instance) → i < k → filter (at i) (flat_map (processes_at d) (enumerate_from k list)) ≡ []
none_later d i k [] h = refl
none_later d i k (r ∷ list) h =
    filter-append (at i) (processes_at d (k, r)) (flat_map (processes_at d) (enumerate_from (k + 1) list))
    ∙ ap₂ (λ (p q : List Process). p ++ q) (none_of i k (signals_in d r.variant) (blocks_in d r.variant) (ne_eqb k i (λ e. absurd (omega (arith, e, h)))))
    (none_later d i (k + 1) list (omega (arith, h)))

-- no two statements of a variant's blocks have one slot
abbrev EachApart : Design → Type 0
EachApart d = (v : ℕ) → AreApart (slots_of (flat_map block_heads (blocks_in d v)))

abbrev later : Design → ℕ → ℕ → List design_instance.Instance → List Process
later d i k list = filter (at i) (flat_map (processes_at d) (enumerate_from k list))

-- the processes of an instance and those behind it, where this is its number or another
first_or_later : (d : Design) (i k : ℕ) (r : design_instance.Instance) (list : List design_instance.Instance) (b : Bool) → (k == i) ≡ b → EachApart d
    → AreApart (flat_map process_slots (later d i (k + 1) list))
    → AreApart (flat_map process_slots (filter (at i) (processes_at d (k, r)) ++ later d i (k + 1) list))
first_or_later d i k r list true t h g =
    subst (λ (l : List Process). AreApart (flat_map process_slots l))
    (sym (ap₂ (λ (p q : List Process). p ++ q) (all_of i k (signals_in d r.variant) (blocks_in d r.variant) t) (none_later d i (k + 1) list (omega (arith, eqb-true k i t)))
    ∙ append-nil (processes_at d (k, r))))
    (subst AreApart (sym (processes_have k (signals_in d r.variant) (blocks_in d r.variant))) (h r.variant))
first_or_later d i k r list false t h g =
    subst (λ (l : List Process). AreApart (flat_map process_slots (l ++ later d i (k + 1) list))) (sym (none_of i k (signals_in d r.variant) (blocks_in d r.variant) t)) g

one_instance : (d : Design) (i k : ℕ) (list : List design_instance.Instance) → EachApart d → AreApart (flat_map process_slots (later d i k list))
one_instance d i k [] h = tt
one_instance d i k (r ∷ list) h =
    subst (λ (l : List Process). AreApart (flat_map process_slots l))
    (sym (filter-append (at i) (processes_at d (k, r)) (flat_map (processes_at d) (enumerate_from (k + 1) list))))
    (first_or_later d i k r list (k == i) refl h (one_instance d i (k + 1) list h))

-- the blocks of the variant of a number, among variants
abbrev blocks_among : List Variant → ℕ → List Block
blocks_among variants v = unwrap_or (option_map (λ (w : Variant). w.blocks) (slice_get variants v)) []

apart_among : (variants : List Variant) (v : ℕ) → EachOf AreNumbered variants → AreApart (slots_of (flat_map block_heads (blocks_among variants v)))
apart_among [] v h = tt
apart_among (w ∷ variants) zero h = subst AreApart (sym (h.0).slots) (from_apart (h.0).first (h.0).count)
apart_among (w ∷ variants) (suc v) h = apart_among variants v h.1

-- no two statements of an instance have one slot
pub instances_apart : (d : Design) → EachOf AreNumbered d.variants → (i : ℕ) → AreApart (slots_in (processes_of d) i)
instances_apart d h i = one_instance d i 0 d.instances (λ v. apart_among d.variants v h)
