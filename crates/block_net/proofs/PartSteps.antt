-- A part put into what is pending.
use Rattle.std.proofs.Common.{◌≡◌, ℕ, ℤ, ◌+◌, ◌-◌, ◌<◌, ◌≤◌, [], length, Bool, true, false, List, Option, Some, None, ◌==◌, if◌then◌else◌, refl, sym, ap, ◌∙◌, subst}
use Rattle.std.proofs.lemmas.Option.{same_Some}
use Rattle.design_core.specs.Widths.{bits}
use Rattle.design_exec.specs.Processes.{part_of}
use Rattle.bv_core.specs.declared.operators.Op1.TheVariants as op1
use Rattle.bv_core.specs.declared.operators.Op2.TheVariants as op2
use Rattle.tree_core.specs.Tree.{Tree, One, Two}
use Rattle.exec_core.specs.Block.{Name, Key, Part, covers, key_name, same_key}
use Rattle.exec_core.specs.Exec.{Held, State, on_one, on_two, put, write, written}
use Rattle.exec_core.specs.Trees.{spliced, tree_with_high, tree_with_low}
use Rattle.bit_sets.specs.declared.bit_set.BitSet.{BitSet}
use Rattle.bit_sets.specs.declared.bit_set.BitSet.TheVariants.{All}
use Rattle.bit_sets.specs.BitSets.{joined, set_of}
use Rattle.block_net.specs.declared.held.Pending.{Pending}
use Rattle.block_net.specs.declared.key.Key as code_key
use Rattle.block_net.specs.declared.term.Term.{Term}
use Rattle.block_net.specs.declared.term.TermId.{TermId}
use Rattle.block_net.specs.declared.walk.Walk.{Walk}
use Rattle.block_net.specs.Terms.{Extends, IsWithin, Stands, tree_at, tree_for, trees_of}
use Rattle.block_net.proofs.TermLists.{stands_as, tree_more}
use Rattle.block_net.specs.Logs.{key_of}
use Rattle.block_net.specs.Parts.{PartFits}
use Rattle.block_net.specs.Walks.{Grown, Shows, StandsFor, Walked, pending_in, state_of}
use Rattle.block_net.proofs.WalkSteps.{grown_twice, grown_walked, same_key-sound, walked_as, walked_twice}

-- nothing stands above a part that ends where the name does, and nothing below one that begins where it does
pub high_whole : (w h : ℕ) (old : Tree Name) (value : Option (Tree Name)) → (h + 1 == w) ≡ true → value ≡ on_one (tree_with_high w h old) value
high_whole w h old None e = refl
high_whole w h old (Some t) e = ap (λ b. Some (if b then t else Two op2.Cat (One (op1.Slice (w - 1) (h + 1)) old) t)) (sym e)

pub high_part : (w h : ℕ) (old : Tree Name) (value : Option (Tree Name)) → (h + 1 == w) ≡ false
    → on_two (Two op2.Cat) (Some (One (op1.Slice (w - 1) (h + 1)) old)) value ≡ on_one (tree_with_high w h old) value
high_part w h old None e = refl
high_part w h old (Some t) e = ap (λ b. Some (if b then t else Two op2.Cat (One (op1.Slice (w - 1) (h + 1)) old) t)) (sym e)

pub low_whole : (l : ℕ) (old : Tree Name) (value : Option (Tree Name)) → (l == 0) ≡ true → value ≡ on_one (tree_with_low l old) value
low_whole l old None e = refl
low_whole l old (Some t) e = ap (λ b. Some (if b then t else Two op2.Cat t (One (op1.Slice (l - 1) 0) old))) (sym e)

pub low_part : (l : ℕ) (old : Tree Name) (value : Option (Tree Name)) → (l == 0) ≡ false → on_two (Two op2.Cat) value (Some (One (op1.Slice (l - 1) 0) old)) ≡ on_one (tree_with_low l old) value
low_part l old None e = refl
low_part l old (Some t) e = ap (λ b. Some (if b then t else Two op2.Cat t (One (op1.Slice (l - 1) 0) old))) (sym e)

pub both_sides : (w h l : ℕ) (old : Tree Name) (value : Option (Tree Name)) → on_one (tree_with_low l old) (on_one (tree_with_high w h old) value) ≡ on_one (spliced w (record { high = h; low = l }) old) value
both_sides w h l old None = refl
both_sides w h l old (Some t) = refl

pub high_stands : (old mid new : List Term) (w h : ℕ) (a : TermId) (value above whole : Option TermId) (top bottom : ℕ) → Extends old mid → a.0 < length old → IsWithin old value → top ≡ w - 1 → bottom ≡ h + 1
    → Stands mid above (Some (One (op1.Slice top bottom) (tree_at (trees_of old) a.0))) → Stands new whole (on_two (Two op2.Cat) (tree_for mid above) (tree_for mid value)) → (h + 1 == w) ≡ false
    → Stands new whole (on_one (tree_with_high w h (tree_at (trees_of old) a.0)) (tree_for old value))
high_stands old mid new w h a value above whole top bottom x inside v wide high s n off =
    stands_as new whole _ _
    ((λ j. on_two (Two op2.Cat) ((s.is ∙ (λ k. Some (One (op1.Slice (wide k) (high k)) (tree_at (trees_of old) a.0)))) j) (tree_more old mid value x v j)) ∙ high_part w h (tree_at (trees_of old) a.0) (tree_for old value) off) n

pub high_same : (old : List Term) (w h : ℕ) (a : TermId) (value : Option TermId) → IsWithin old value → (h + 1 == w) ≡ true → Stands old value (on_one (tree_with_high w h (tree_at (trees_of old) a.0)) (tree_for old value))
high_same old w h a value v on = record { within = v; is = high_whole w h (tree_at (trees_of old) a.0) (tree_for old value) on }

pub low_stands : (old mid new : List Term) (l : ℕ) (a : TermId) (value below whole : Option TermId) (top bottom : ℕ) → Extends old mid → a.0 < length old → IsWithin old value → top ≡ l - 1 → bottom ≡ 0
    → Stands mid below (Some (One (op1.Slice top bottom) (tree_at (trees_of old) a.0))) → Stands new whole (on_two (Two op2.Cat) (tree_for mid value) (tree_for mid below)) → (l == 0) ≡ false
    → Stands new whole (on_one (tree_with_low l (tree_at (trees_of old) a.0)) (tree_for old value))
low_stands old mid new l a value below whole top bottom x inside v wide low s n off =
    stands_as new whole _ _
    ((λ j. on_two (Two op2.Cat) (tree_more old mid value x v j) ((s.is ∙ (λ k. Some (One (op1.Slice (wide k) (low k)) (tree_at (trees_of old) a.0)))) j)) ∙ low_part l (tree_at (trees_of old) a.0) (tree_for old value) off) n

pub low_same : (old : List Term) (l : ℕ) (a : TermId) (value : Option TermId) → IsWithin old value → (l == 0) ≡ true → Stands old value (on_one (tree_with_low l (tree_at (trees_of old) a.0)) (tree_for old value))
low_same old l a value v on = record { within = v; is = low_whole l (tree_at (trees_of old) a.0) (tree_for old value) on }

pub around_stands : (old mid new : List Term) (w h l : ℕ) (a : TermId) (value above whole : Option TermId) → Extends old mid → a.0 < length old → Stands mid above (on_one (tree_with_high w h (tree_at (trees_of old) a.0)) (tree_for old value))
    → Stands new whole (on_one (tree_with_low l (tree_at (trees_of mid) a.0)) (tree_for mid above)) → Stands new whole (on_one (spliced w (record { high = h; low = l }) (tree_at (trees_of old) a.0)) (tree_for old value))
around_stands old mid new w h l a value above whole x inside s n =
    stands_as new whole _ _
    ((λ j. on_one (tree_with_low l (same_Some _ (tree_at (trees_of old) a.0) (tree_more old mid (Some a) x inside) j)) (s.is j)) ∙ both_sides w h l (tree_at (trees_of old) a.0) (tree_for old value)) n

-- a write puts what its key then holds
pub write_puts : {V : Type 0} (splice : ℕ → Part → V → V → V) (width : Name → ℕ) (key : Key) (part : Option Part) (value : Option V) (trees : State V)
    → put key (written splice (width (key_name key)) part value (trees key)) trees ≡ write splice width key part value trees
write_puts {V} splice width key part value trees = λ j y. at y (same_key key y) refl j
  where
    at : (y : Key) (b : Bool) → same_key key y ≡ b → (if b then written splice (width (key_name key)) part value (trees key) else trees y) ≡ (if b then written splice (width (key_name y)) part value (trees y) else trees y)
    at y true e = ap (λ k. written splice (width (key_name k)) part value (trees k)) (same_key-sound key y e)
    at y false e = refl

-- what is pending after a part was assigned, and after all of it was
pub part_is : (old new : List Term) (w h l : ℕ) (p : Pending) (value id : Option TermId) (part set : BitSet) (held : Held (Tree Name)) → pending_in old p ≡ held → Stands new id (on_two (spliced w (record { high = h; low = l })) (tree_for old p.id) (tree_for old value))
    → set_of part ≡ covers (Some (record { high = h; low = l })) → set_of set ≡ joined (set_of part) (set_of p.bits)
    → pending_in new (record { id = id; bits = set }) ≡ written spliced w (Some (record { high = h; low = l })) (tree_for old value) held
part_is old new w h l p value id part set held is s covered both =
    (λ j. record { pending = s.is j; bits = (both ∙ ap (λ f. joined f (set_of p.bits)) covered) j }) ∙ ap (written spliced w (Some (record { high = h; low = l })) (tree_for old value)) is

pub whole_is : (ns : List Term) (w : ℕ) (value : Option TermId) (held : Held (Tree Name)) → pending_in ns (record { id = value; bits = All }) ≡ written spliced w None (tree_for ns value) held
whole_is ns w value held = refl

-- a part that is set
pub part_walked : (width : Name → ℕ) (old seen mid new : Walk) (key : code_key.Key) (h l : ℕ) (p : Pending) (value id : Option TermId) (w : ℕ) (part set : BitSet) → Shows width old → IsWithin old.terms value → Grown old seen → StandsFor seen.terms p (state_of old (key_of key))
    → w ≡ width (key_name (key_of key)) → Grown seen mid → Stands mid.terms id (on_two (spliced w (record { high = h; low = l })) (tree_for seen.terms p.id) (tree_for seen.terms value))
    → set_of part ≡ covers (Some (record { high = h; low = l })) → set_of set ≡ joined (set_of part) (set_of p.bits)
    → Walked width mid new [] (put (key_of key) (pending_in mid.terms (record { id = id; bits = set })) (state_of mid))
    → Walked width old new [] (write spliced width (key_of key) (Some (record { high = h; low = l })) (tree_for old.terms value) (state_of old))
part_walked width old seen mid new key h l p value id w part set shows v g s wide m n covered both last =
    let the_part : Part = record { high = h; low = l } in
    let held = written spliced (width (key_name (key_of key))) (Some the_part) (tree_for old.terms value) (state_of old (key_of key)) in
    let is : pending_in mid.terms (record { id = id; bits = set }) ≡ held =
    part_is seen.terms mid.terms w h l p value id part set (state_of old (key_of key)) s.is n covered both
    ∙ (λ j. written spliced (wide j) (Some the_part) (tree_more old.terms seen.terms value g.terms v j) (state_of old (key_of key))) in
    walked_as width old new _ _ _ _ refl
    ((λ j. put (key_of key) (is j) ((m.state ∙ g.state) j)) ∙ write_puts spliced width (key_of key) (Some the_part) (tree_for old.terms value) (state_of old))
    (walked_twice width old mid new _ _ _ _ (grown_walked width old mid shows (grown_twice old seen mid g m)) last)

-- all of a key that is set
pub whole_walked : (width : Name → ℕ) (old new : Walk) (key : code_key.Key) (value : Option TermId) → Walked width old new [] (put (key_of key) (pending_in old.terms (record { id = value; bits = All })) (state_of old))
    → Walked width old new [] (write spliced width (key_of key) None (tree_for old.terms value) (state_of old))
whole_walked width old new key value w =
    walked_as width old new _ _ _ _ refl
    (ap (λ h. put (key_of key) h (state_of old)) (whole_is old.terms (width (key_name (key_of key))) value (state_of old (key_of key))) ∙ write_puts spliced width (key_of key) None (tree_for old.terms value) (state_of old)) w

-- of bounds that are given
pub assign_walked : (width : Name → ℕ) (old new : Walk) (key : code_key.Key) (part : Option (ℤ × ℤ)) (high low : ℤ) (h l : ℕ) (value : Option TermId) → part ≡ Some (high, low) → h ≡ bits high → l ≡ bits low
    → Walked width old new [] (write spliced width (key_of key) (Some (record { high = h; low = l })) (tree_for old.terms value) (state_of old))
    → Walked width old new [] (write spliced width (key_of key) (part_of part) (tree_for old.terms value) (state_of old))
assign_walked width old new key part high low h l value is first last w =
    walked_as width old new _ _ _ _ refl
    ((λ j. write spliced width (key_of key) (Some (record { high = first j; low = last j })) (tree_for old.terms value) (state_of old))
    ∙ ap (λ p. write spliced width (key_of key) (part_of p) (tree_for old.terms value) (state_of old)) (sym is)) w

pub part_order : (part : Option (ℤ × ℤ)) (high low : ℤ) → part ≡ Some (high, low) → PartFits (part_of part) → (bits low ≤ bits high) × (bits high < 128)
part_order part high low is h = subst (λ p. PartFits (part_of p)) is h
