-- The rows of a block are those of its statements, in order.
use Rattle.std.proofs.Common.{◌≡◌, ℕ, Bool, true, List, [], ◌∷◌, ◌++◌, map, Some, if◌then◌else◌, inl, inr, append_assoc, append-nil, refl, sym, ap, ap₂, ◌∙◌, subst, eq-eqb, ne_eqb}
use Rattle.std.proofs.lemmas.List.{map-append}
use Rattle.bv_core.specs.Operators.{flag_of}
use Rattle.tree_core.specs.Tree.{Const}
use Rattle.exec_core.specs.Block.{Name, slots, body_slots}
use Rattle.exec_core.specs.Cases.{arms_body}
use Rattle.list_core.specs.Lists.{IsIn, AreApart}
use Rattle.exec_core.specs.Trees.{Row, tree_start, block_rows, row_at}
use Rattle.list_core.proofs.Lists.{not_in}
use Rattle.exec_core.proofs.Slots.{row_slots, body_rows_have}
use Rattle.design_core.specs.Design as design
use Rattle.design_core.specs.Design.{Block, Variant}
use Rattle.design_core.specs.Slots.{Head, heads, stmt_heads, else_heads, arms_heads, slots_of, scope}
use Rattle.design_exec.specs.Processes.{Widths, arms_of, body_of, stmt_of, else_of, tree_of, body_widths, signal_width}
use Rattle.world_core.specs.Sites.{Site, sites_in_block, site_body, head_site}

-- ---- the slots of a block

slots-append : (hs gs : List Head) → slots_of (hs ++ gs) ≡ slots_of hs ++ slots_of gs
slots-append hs gs = map-append (λ (h : Head). h.slot) hs gs

mutual
  pub body_has : (c : Bool) (b : design.Body) → body_slots (body_of c b) ≡ slots_of (heads b)
  body_has c design.Done = refl
  body_has c (design.Then s rest) = ap₂ (λ (p q : List ℕ). p ++ q) (stmt_has c s) (body_has c rest) ∙ sym (slots-append (stmt_heads s) (heads rest))

  stmt_has : (c : Bool) (s : design.Stmt) → slots (stmt_of c s) ≡ slots_of (stmt_heads s)
  stmt_has c (design.Assign slot line gens x part e) = refl
  stmt_has c (design.Let slot line gens x e) = refl
  stmt_has c (design.If slot line gens t first second) =
      ap (λ l. slot ∷ l) (ap₂ (λ (p q : List ℕ). p ++ q) (body_has c first) (else_has c second) ∙ sym (slots-append (heads first) (else_heads second)))
  stmt_has c (design.Case slot line gens v design.NoArms other) = ap (λ l. slot ∷ l) (else_has c other)
  stmt_has c (design.Case slot line gens v (design.ThenArm tests body rest) other) =
      ap (λ l. slot ∷ l)
      (ap₂ (λ (p q : List ℕ). p ++ q) (body_has c body) (arms_have c v rest other (else_has c other)) ∙ sym (slots-append (heads body) (arms_heads rest ++ else_heads other))
      ∙ ap slots_of (sym (append_assoc (heads body) (arms_heads rest) (else_heads other))))

  -- of arms, one inside another, where the default has its own
  arms_have : (c : Bool) (v : design.Expr) (arms : design.Arms) (other : design.Else) → body_slots (else_of c other) ≡ slots_of (else_heads other)
      → body_slots (arms_body (tree_of v) (arms_of c arms) (else_of c other)) ≡ slots_of (arms_heads arms ++ else_heads other)
  arms_have c v design.NoArms other last = last
  arms_have c v (design.ThenArm tests body rest) other last =
      append-nil _ ∙ ap₂ (λ (p q : List ℕ). p ++ q) (body_has c body) (arms_have c v rest other last) ∙ sym (slots-append (heads body) (arms_heads rest ++ else_heads other))
      ∙ ap slots_of (sym (append_assoc (heads body) (arms_heads rest) (else_heads other)))

  else_has : (c : Bool) (b : design.Else) → body_slots (else_of c b) ≡ slots_of (else_heads b)
  else_has c design.NoElse = refl
  else_has c (design.Otherwise body) = body_has c body

-- ---- the row of a slot

row_there : (all : List Row) → AreApart (row_slots all) → (row : Row) → IsIn row all → row_at row.slot all ≡ Some row
row_there [] apart row i = absurd i
row_there (r ∷ all) apart row (inl e) = ap (λ (q : Row). row_at q.slot (r ∷ all)) e ∙ ap (λ b. if b then Some r else row_at r.slot all) (eq-eqb r.slot r.slot refl) ∙ ap Some (sym e)
row_there (r ∷ all) apart row (inr i) =
    ap (λ b. if b then Some r else row_at row.slot all) (ne_eqb r.slot row.slot (λ e. not_in r.slot (row_slots all) apart.0 (subst (λ j. IsIn j (row_slots all)) (sym e) (slot_in all row i))))
    ∙ row_there all apart.1 row i
  where
    slot_in : (rs : List Row) (row : Row) → IsIn row rs → IsIn row.slot (row_slots rs)
    slot_in [] row i = absurd i
    slot_in (q ∷ rs) row (inl e) = inl (ap (λ (p : Row). p.slot) e)
    slot_in (q ∷ rs) row (inr i) = inr (slot_in rs row i)

-- each row is the one of its slot
pub rows_there : (W : Widths) (b : Block) → AreApart (body_slots (body_of b.clocked b.body)) → (row : Row) → IsIn row (block_rows W (body_of b.clocked b.body)) → row_at row.slot (block_rows W (body_of b.clocked b.body)) ≡ Some row
rows_there W b apart row i =
    row_there (block_rows W (body_of b.clocked b.body)) (subst AreApart (sym (body_rows_have W (body_of b.clocked b.body) (Some (Const (flag_of true))) (tree_start W (body_of b.clocked b.body)))) apart) row i

-- ---- statements and rows side by side

-- a row of a statement, at which these names are in scope
pub record IsRowOf (names : List Name) (site : Site) (row : Row) : Type 0 where
  pub scope : site.names ≡ names
  pub slot : row.slot ≡ site.slot
  pub is : row_at site.slot (block_rows site.widths (site_body site)) ≡ Some row

abbrev pub Aligned : List Name → List Site → List Row → Type 0
Aligned names [] [] = Unit {0}
Aligned names [] (row ∷ rows) = ⊥
Aligned names (site ∷ sites) [] = ⊥
Aligned names (site ∷ sites) (row ∷ rows) = IsRowOf names site row × Aligned names sites rows

module _ (v : ℕ) (w : Variant) (b : Block) where
  -- the widths at its statements
  abbrev wide : Widths
  wide = body_widths b.body (signal_width w.signals)

  align : (hs : List Head) (rows : List Row) → slots_of hs ≡ row_slots rows → ((row : Row) → IsIn row rows → row_at row.slot (block_rows wide (body_of b.clocked b.body)) ≡ Some row) → Aligned (scope w b) (map (head_site v w b) hs) rows
  align [] [] e h = tt
  align [] (row ∷ rows) e h = absurd (let no : ⊥ = cc in no)
  align (g ∷ hs) [] e h = absurd (let no : ⊥ = cc in no)
  align (g ∷ hs) (row ∷ rows) e h =
      let same : g.slot ≡ row.slot = (let z = e in cc) in
      let rest : slots_of hs ≡ row_slots rows = (let z = e in cc) in
      (record { scope = refl; slot = sym same; is = ap (λ k. row_at k (block_rows wide (body_of b.clocked b.body))) same ∙ h row (inl refl) }, align hs rows rest (λ r i. h r (inr i)))

  pub block_aligned : AreApart (body_slots (body_of b.clocked b.body)) → Aligned (scope w b) (sites_in_block v w b) (block_rows (body_widths b.body (signal_width w.signals)) (body_of b.clocked b.body))
  block_aligned apart =
      align (heads b.body) (block_rows wide (body_of b.clocked b.body))
      (sym (body_rows_have wide (body_of b.clocked b.body) (Some (Const (flag_of true))) (tree_start wide (body_of b.clocked b.body)) ∙ body_has b.clocked b.body))
      (rows_there wide b apart)
