-- Processes that write registers, put beside the registers' numbers.
use Rattle.std.proofs.Common.{◌≡◌, ℕ, ◌+◌, ◌<◌, Bool, true, false, ◌||◌, List, [], ◌∷◌, ◌++◌, length, map, take, get_or, Option, Some, None, ⊎_elim, refl, sym, ap, ap₂, ◌∙◌, subst, arith, eqb-true, eq-eqb}
use Rattle.std.specs.Prelude.{slice_get, option_map, bytes_eq, ◌&&◌, ◌==◌, if◌then◌else◌}
use Rattle.std.proofs.Math.ListN.{set}
use Rattle.std.proofs.lemmas.List.{length-set, length-take}
use Rattle.std.proofs.lemmas.Option.{same_Some, none-some, slice_get_within, slice_get-get_or, get_or_from_slice_get}
use Rattle.std.proofs.lemmas.Slice.Eq.{bytes_eq-Decides}
use Rattle.tree_core.proofs.Same.{both_true}
use Rattle.exec_core.specs.Block.{Name, Key, Now, Next, same_key, body_assigns}
use Rattle.exec_core.specs.Whole.{Place}
use Rattle.exec_core.specs.Design.{Process, place, or_else, writes_to}
use Rattle.design_core.specs.Design as design
use Rattle.design_exec.specs.Processes.{process, signals_in, blocks_in, body_of}
use Rattle.block_net.specs.declared.key.Key as code_key
use Rattle.block_net.specs.Logs.{key_of}
use Rattle.block_net.specs.Walks.{among}
use Rattle.place_core.specs.Numbering.{Numbers, number_in}
use Rattle.ssa_core.specs.declared.process.ProcessKey.{ProcessKey}
use Rattle.ssa_core.specs.Drives.{AreApart}
use Rattle.ssa_core.specs.Processes.{process_at}
use Rattle.list_core.proofs.Growing.{more_of}
use Rattle.ssa_core.proofs.Places.{get_map, get_mapped, get_set_same, get_set_other, same_or_not}
use Rattle.next_net.specs.Writers.{IsFirst, IsWriter, AreWriters, writes_by, first_of, Marks}
use Rattle.next_net.proofs.Picking.{get_left, get_last, find_push}

-- ---- tests

not_true : (b : Bool) → (b ≡ true → ⊥) → b ≡ false
not_true true h = absurd (h refl)
not_true false h = refl

and_false : (a : Bool) → (a && false) ≡ false
and_false true = refl
and_false false = refl

and_both : (a b : Bool) → a ≡ true → b ≡ true → (a && b) ≡ true
and_both true true e f = refl
and_both true false e f = f
and_both false b e f = cc

and_either : (a b c : Bool) → (a && (b || c)) ≡ ((a && b) || (a && c))
and_either true b c = refl
and_either false b c = refl

or_false : (b : Bool) → (b || false) ≡ b
or_false true = refl
or_false false = refl

or_assoc : (a b c : Bool) → ((a || b) || c) ≡ (a || (b || c))
or_assoc true b c = refl
or_assoc false b c = refl

first_twice : (a b : Bool) (k : ℕ) (o : Option ℕ) → first_of b k (first_of a k o) ≡ first_of (a || b) k o
first_twice false b k o = refl
first_twice true false k o = refl
first_twice true true k None = refl
first_twice true true k (Some j) = refl

among_push : (keys : List code_key.Key) (key : code_key.Key) (y : Key) → among (keys ++ key ∷ []) y ≡ (among keys y || same_key (key_of key) y)
among_push [] key y = or_false (same_key (key_of key) y)
among_push (k ∷ keys) key y = ap (λ b. same_key (key_of k) y || b) (among_push keys key y) ∙ sym (or_assoc (same_key (key_of k) y) (among keys y) (same_key (key_of key) y))

-- ---- a process beside numbers

-- a place that is written by a key of its name
writes_name : (i : ℕ) (x : Name) (q : Place) → writes_by i (same_key (Next x)) q ≡ true → place i x ≡ q
writes_name i x q e =
    let b = both_true (i == q.instance) (bytes_eq x q.name) e in
    ap₂ place (eqb-true i q.instance b.0) ((bytes_eq-Decides x q.name).0 b.1)

writes_itself : (i : ℕ) (x : Name) (q : Place) → place i x ≡ q → writes_by i (same_key (Next x)) q ≡ true
writes_itself i x q e = and_both (i == q.instance) (bytes_eq x q.name) (eq-eqb i q.instance (ap (λ (p : Place). p.instance) e)) ((bytes_eq-Decides x q.name).1 (ap (λ (p : Place). p.name) e))

module _ (all : List Numbers) (k : ℕ) where
  pub marks_same : (writes : Place → Bool) (list : List (Option ℕ)) → ((q : Place) (n : ℕ) → number_in all q ≡ Some n → writes q ≡ false) → Marks all k writes list list
  marks_same writes list never = record { long = refl; each = λ q n o at found. found ∙ ap (λ b. Some (first_of b k o)) (sym (never q n at)) }

  pub marks_none : (i : ℕ) (list : List (Option ℕ)) → Marks all k (writes_by i (among [])) list list
  marks_none i list = marks_same (writes_by i (among [])) list (λ q n at. and_false (i == q.instance))

  pub marks_now : (i : ℕ) (x : Name) (list : List (Option ℕ)) → Marks all k (writes_by i (same_key (Now x))) list list
  marks_now i x list = marks_same (writes_by i (same_key (Now x))) list (λ q n at. and_false (i == q.instance))

  -- a name that has no number
  pub marks_unknown : (i : ℕ) (x : Name) (list : List (Option ℕ)) → number_in all (place i x) ≡ None → Marks all k (writes_by i (same_key (Next x))) list list
  marks_unknown i x list none = marks_same (writes_by i (same_key (Next x))) list (λ q n at. not_true (writes_by i (same_key (Next x)) q) (λ e. none-some n (sym none ∙ ap (number_in all) (writes_name i x q e) ∙ at)))

  pub marks_put : (count i : ℕ) (x : Name) (m : ℕ) (list new : List (Option ℕ)) → AreApart count all → number_in all (place i x) ≡ Some m → m < length list → new ≡ set list m (first_of true k (get_or list m None)) →
      Marks all k (writes_by i (same_key (Next x))) list new
  marks_put count i x m list new apart is within put = subst (Marks all k (writes_by i (same_key (Next x))) list) (sym put) (record { long = length-set list m (first_of true k (get_or list m None)); each = each })
    where
      each : (q : Place) (n : ℕ) (o : Option ℕ) → number_in all q ≡ Some n → slice_get list n ≡ Some o → slice_get (set list m (first_of true k (get_or list m None))) n ≡ Some (first_of (writes_by i (same_key (Next x)) q) k o)
      each q n o at found = ⊎_elim here there (same_or_not n m)
        where
          here : n ≡ m → slice_get (set list m (first_of true k (get_or list m None))) n ≡ Some (first_of (writes_by i (same_key (Next x)) q) k o)
          here same =
              let old : get_or list m None ≡ o = get_or_from_slice_get list m o None (ap (slice_get list) (sym same) ∙ found) in
              let does : writes_by i (same_key (Next x)) q ≡ true = writes_itself i x q (apart.apart (place i x) q n (is ∙ ap (λ j. Some j) (sym same)) at) in
              ap (slice_get (set list m (first_of true k (get_or list m None)))) same ∙ get_set_same list m (first_of true k (get_or list m None)) within
              ∙ ap (λ p. Some (first_of true k p)) old ∙ ap (λ b. Some (first_of b k o)) (sym does)

          there : (n ≡ m → ⊥) → slice_get (set list m (first_of true k (get_or list m None))) n ≡ Some (first_of (writes_by i (same_key (Next x)) q) k o)
          there other =
              let does_not : writes_by i (same_key (Next x)) q ≡ false = not_true (writes_by i (same_key (Next x)) q) (λ e. other (same_Some n m (sym at ∙ ap (number_in all) (sym (writes_name i x q e)) ∙ is))) in
              get_set_other list m n (first_of true k (get_or list m None)) other ∙ found ∙ ap (λ b. Some (first_of b k o)) (sym does_not)

  pub marks_more : (i : ℕ) (keys : List code_key.Key) (j : ℕ) (key : code_key.Key) (start list new : List (Option ℕ)) → j < length keys → key ≡ get_or keys j key →
      Marks all k (writes_by i (among (take j keys))) start list → Marks all k (writes_by i (same_key (key_of key))) list new → Marks all k (writes_by i (among (take (j + 1) keys))) start new
  marks_more i keys j key start list new below at before now = record { long = now.long ∙ before.long; each = each }
    where
      each : (q : Place) (n : ℕ) (o : Option ℕ) → number_in all q ≡ Some n → slice_get start n ≡ Some o → slice_get new n ≡ Some (first_of (writes_by i (among (take (j + 1) keys)) q) k o)
      each q n o is found =
          let a = writes_by i (among (take j keys)) q in
          let b = writes_by i (same_key (key_of key)) q in
          let both : (a || b) ≡ writes_by i (among (take (j + 1) keys)) q =
          sym (and_either (i == q.instance) (among (take j keys) (Next q.name)) (same_key (key_of key) (Next q.name)))
          ∙ ap (λ c. (i == q.instance) && c) (sym (among_push (take j keys) key (Next q.name)) ∙ ap (λ (l : List code_key.Key). among l (Next q.name)) (sym (more_of keys j key below at))) in
          now.each q n (first_of a k o) is (before.each q n o is found) ∙ ap (λ p. Some p) (first_twice a b k o) ∙ ap (λ c. Some (first_of c k o)) both

-- ---- the process of a key

-- where there is no such block
pub no_process : (d : design.Design) (key : ProcessKey) (b : Process) → slice_get (blocks_in d key.variant) key.block ≡ None → process_at d key ≡ Some b → ⊥
no_process d key b at e = none-some b (sym (ap (option_map (process key.instance (signals_in d key.variant))) at) ∙ e)

pub marks_process : (all : List Numbers) (d : design.Design) (k : ℕ) (key : ProcessKey) (block : design.Block) (keys : List code_key.Key) (old new : List (Option ℕ)) → slice_get (blocks_in d key.variant) key.block ≡ Some block →
    among keys ≡ body_assigns (body_of block.clocked block.body) → Marks all k (writes_by key.instance (among keys)) old new → (b : Process) → process_at d key ≡ Some b → Marks all k (λ q. writes_to q b) old new
marks_process all d k key block keys old new at are marks b e =
    let same : process key.instance (signals_in d key.variant) block ≡ b = same_Some (process key.instance (signals_in d key.variant) block) b (sym (ap (option_map (process key.instance (signals_in d key.variant))) at) ∙ e) in
    subst (λ (c : Process). Marks all k (λ q. writes_to q c) old new) same (subst (λ (f : Key → Bool). Marks all k (writes_by key.instance f) old new) are marks)

-- ---- all processes in order

writer_more : (xs : List Process) (x : Process) (q : Place) (o : Option ℕ) → IsWriter xs q o → IsWriter (xs ++ x ∷ []) q (first_of (writes_to q x) (length xs) o)
writer_more xs x q o h = by_test (writes_to q x) refl o h
  where
    kept : (j : ℕ) → IsFirst xs q j → IsFirst (xs ++ x ∷ []) q j
    kept j w = record {
      process = w.process;
      found = get_left xs (x ∷ []) j w.process w.found;
      first = find_push (writes_to q) xs x ∙ ap (λ f. or_else f (if writes_to q x then Some x else None)) w.first;
    }

    by_test : (b : Bool) → writes_to q x ≡ b → (o : Option ℕ) → IsWriter xs q o → IsWriter (xs ++ x ∷ []) q (first_of b (length xs) o)
    by_test false e None h = find_push (writes_to q) xs x ∙ ap₂ or_else h (ap (λ b. if b then Some x else None) e)
    by_test true e None h = record {
      process = x;
      found = get_last xs x;
      first = find_push (writes_to q) xs x ∙ ap₂ or_else h (ap (λ b. if b then Some x else None) e);
    }
    by_test false e (Some j) h = kept j h
    by_test true e (Some j) h = kept j h

-- the process of a key, in the list of processes
pub process_of_key : (d : design.Design) (keys : List ProcessKey) (bs : List Process) (k : ℕ) (key : ProcessKey) → map (process_at d) keys ≡ map (λ b. Some b) bs → slice_get keys k ≡ Some key →
    (b : Process) × ((slice_get bs k ≡ Some b) × (process_at d key ≡ Some b))
process_of_key d keys bs k key are found =
    let m = get_mapped (λ (b : Process). Some b) bs k (process_at d key) (ap (λ l. slice_get l k) (sym are) ∙ get_map (process_at d) keys k key found) in
    (m.from, (m.found, sym m.is))

pub writers_none : (count : ℕ) (all : List Numbers) (list : List (Option ℕ)) → length list ≡ count → ((n : ℕ) → get_or list n None ≡ None) → AreWriters [] count all list
writers_none count all list long none = record {
  long = long;
  each = λ q n o at found. subst (IsWriter [] q) (sym (none n) ∙ get_or_from_slice_get list n o None found) refl;
}

pub writers_more : (d : design.Design) (keys : List ProcessKey) (bs : List Process) (count : ℕ) (all : List Numbers) (list new : List (Option ℕ)) (k : ℕ) (key : ProcessKey) → AreApart count all → map (process_at d) keys ≡ map (λ b. Some b) bs →
    slice_get keys k ≡ Some key → AreWriters (take k bs) count all list → ((b : Process) → process_at d key ≡ Some b → Marks all k (λ q. writes_to q b) list new) → AreWriters (take (k + 1) bs) count all new
writers_more d keys bs count all list new k key apart are found before marks = record { long = (marks here.0 here.1.1).long ∙ before.long; each = each }
  where
    here : (b : Process) × ((slice_get bs k ≡ Some b) × (process_at d key ≡ Some b))
    here = process_of_key d keys bs k key are found

    below : k < length bs
    below = slice_get_within bs k here.0 here.1.0

    taken : length (take k bs) ≡ k
    taken = omega (arith, length-take k bs, below)

    more : take (k + 1) bs ≡ take k bs ++ here.0 ∷ []
    more = more_of bs k here.0 below (sym (get_or_from_slice_get bs k here.0 here.0 here.1.0))

    each : (q : Place) (n : ℕ) (o : Option ℕ) → number_in all q ≡ Some n → slice_get new n ≡ Some o → IsWriter (take (k + 1) bs) q o
    each q n o at is =
        let within : n < length list = subst (λ m. n < m) (sym before.long) (apart.below q n at) in
        let old : slice_get list n ≡ Some (get_or list n None) = slice_get-get_or list n None within in
        let now : first_of (writes_to q here.0) k (get_or list n None) ≡ o = same_Some (first_of (writes_to q here.0) k (get_or list n None)) o (sym ((marks here.0 here.1.1).each q n (get_or list n None) at old) ∙ is) in
        subst (λ (l : List Process). IsWriter l q o) (sym more)
        (subst (IsWriter (take k bs ++ here.0 ∷ []) q) (ap (λ m. first_of (writes_to q here.0) m (get_or list n None)) taken ∙ now)
        (writer_more (take k bs) here.0 q (get_or list n None) (before.each q n (get_or list n None) at old)))
