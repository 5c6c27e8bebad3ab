-- Sums over variants.
use Rattle.std.proofs.Common.{◌≡◌, ℕ, zero, suc, ◌+◌, ◌<◌, ◌≤◌, Bool, true, false, ◌&&◌, ◌==◌, List, [], ◌∷◌, ◌++◌, length, take, drop, get_or, set, if◌then◌else◌, nat_lt, map, replicate, true≢false, add-zero, zero-add, length-append, add_assoc, append_assoc, append-nil, refl, sym, ap, ap₂, ◌∙◌, subst, arith}
use Rattle.std.proofs.lemmas.Bool.{ltb-true, eqb-true, eq-eqb}
use Rattle.std.proofs.Math.ListN.{drop_of_length-le}
use Rattle.std.proofs.lemmas.List.{drop_more, take_more, take_more_set, take_all, drop-set-lt, map-append, length-set, length-replicate, get_or-replicate, get_or-set_same, get_or-set_other, take-append-drop, get_or_append_left, get_or-map, take-map, take-append-le}
use Rattle.std.proofs.Math.Seq.{get_or-append_seam}
use Rattle.design_core.specs.View.{block_of}
use Rattle.elab_core.specs.declared.Instance as code_instance
use Rattle.elab_core.specs.View.{instance_of, content_of}
use Rattle.elab_core.specs.Elaborated.{Instance}
use Rattle.elab_core.specs.Design.{blocks_size, statements_where, first_slot}
use Rattle.elab_laws.proofs.Sums.{size_of, where_behind, where_within, below_more, where_both}
use Rattle.gen_elab.proofs.VariantLemmas.{one_more}
use Rattle.gen_elab.specs.Offsets.{all_statements, places_below, AreTotals, before_place, nothing_before, total, prefix_sums, AreSlots}

and_left : (a b : Bool) → a && b ≡ true → a ≡ true
and_left true b e = refl
and_left false b e = e

and_right : (a b : Bool) → a && b ≡ true → b ≡ true
and_right true b e = e
and_right false b e = absurd (true≢false (sym e))

pub below_none : (variants : List Instance) → statements_where (λ w. nat_lt w.place 0) variants ≡ 0
below_none [] = refl
below_none (v ∷ variants) = grind (arith, below_none variants)

-- ---- instances of the code

pub code_place : (x : code_instance.Instance) → (instance_of x).place ≡ x.place
unfolding instance_of
code_place x = refl

pub code_size : (x : code_instance.Instance) → size_of (instance_of x) ≡ blocks_size (map block_of x.content.blocks.items)
unfolding instance_of content_of
code_size x = refl

-- those so far and this one are no more than all
so_far : (all : List code_instance.Instance) (i : ℕ) (x : code_instance.Instance) (p : Instance → Bool) → i < length all → x ≡ get_or all i x
    → statements_where p (map instance_of (take i all)) + (if p (instance_of x) then size_of (instance_of x) else 0) ≤ statements_where p (map instance_of all)
so_far all i x p below at =
    let parts : map instance_of all ≡ map instance_of (take (i + 1) all) ++ map instance_of (drop (i + 1) all) = ap (map instance_of) (sym (take-append-drop (i + 1) all)) ∙ map-append instance_of (take (i + 1) all) (drop (i + 1) all) in
    let split = ap (statements_where p) parts ∙ where_both p (map instance_of (take (i + 1) all)) (map instance_of (drop (i + 1) all)) in
    let front = ap (statements_where p) (one_more all i x x below at) ∙ where_behind p (map instance_of (take i all)) (instance_of x) in
    omega (arith, split, front)

-- ---- totals

pub no_totals : (modules : ℕ) → AreTotals nothing_before modules [] (replicate modules 0)
no_totals modules = record { long = length-replicate modules 0; each = λ p below. get_or-replicate modules p 0 0 below }

pub total_fits : (all : List code_instance.Instance) (i : ℕ) (x : code_instance.Instance) → i < length all → x ≡ get_or all i x → all_statements (map instance_of all) < 4294967296
    → blocks_size (map block_of x.content.blocks.items) < 4294967296
total_fits all i x below at few =
    let part = so_far all i x (λ v. true) below at in
    omega (arith, few, part, code_size x)

pub sum_fits : (all : List code_instance.Instance) (i modules d : ℕ) (totals : List ℕ) (x : code_instance.Instance) → i < length all → x ≡ get_or all i x → all_statements (map instance_of all) < 4294967296
    → x.place < modules → AreTotals nothing_before modules (map instance_of (take i all)) totals → get_or totals x.place 0 + blocks_size (map block_of x.content.blocks.items) < 4294967296
sum_fits all i modules d totals x below at few inside before =
    let part = so_far all i x (λ v. true) below at in
    let within = where_within (λ w. w.place == x.place) (map instance_of (take i all)) in
    omega (arith, few, part, within, code_size x, before.each x.place inside)

pub place_inside : (all : List code_instance.Instance) (i modules : ℕ) (x : code_instance.Instance) → i < length all → x ≡ get_or all i x → places_below modules (map instance_of all) ≡ true → x.place < modules
place_inside [] i modules x below at h = absurd (omega (arith, below))
place_inside (y ∷ all) zero modules x below at h =
    ltb-true x.place modules (ap (λ (z : code_instance.Instance). nat_lt z.place modules) at ∙ ap (λ n. nat_lt n modules) (sym (code_place y)) ∙ and_left _ _ h)
place_inside (y ∷ all) (suc i) modules x below at h = place_inside all i modules x (omega (arith, below)) at (and_right _ _ h)

totals_turn : (base : ℕ → ℕ) (modules : ℕ) (variants : List Instance) (v : Instance) (totals : List ℕ) (n : ℕ) → v.place < modules → n ≡ get_or totals v.place 0 + size_of v
    → AreTotals base modules variants totals → AreTotals base modules (variants ++ v ∷ []) (set totals v.place n)
totals_turn base modules variants v totals n inside is before = record {
  long = length-set totals v.place n ∙ before.long;
  each = λ p below. at_place p below (p == v.place) refl;
}
  where
    at_place : (p : ℕ) → p < modules → (b : Bool) → (p == v.place) ≡ b → get_or (set totals v.place n) p 0 ≡ base p + statements_where (λ w. w.place == p) (variants ++ v ∷ [])
    at_place p below true e =
        let same : p ≡ v.place = eqb-true p v.place e in
        let here : (v.place == p) ≡ true = eq-eqb v.place p (sym same) in
        ap (λ q. get_or (set totals v.place n) q 0) same ∙ get_or-set_same totals v.place n 0 (omega (arith, inside, before.long)) ∙ is
        ∙ ap (λ m. m + size_of v) (before.each v.place inside ∙ ap (λ q. base q + statements_where (λ w. w.place == q) variants) (sym same))
        ∙ add_assoc (base p) (statements_where (λ w. w.place == p) variants) (size_of v)
        ∙ ap (λ b. base p + (statements_where (λ w. w.place == p) variants + (if b then size_of v else 0))) (sym here)
        ∙ ap (λ m. base p + m) (sym (where_behind (λ w. w.place == p) variants v))
    at_place p below false e =
        let other : (v.place == p) ≡ false = grind (arith, e) in
        get_or-set_other totals v.place p n 0 (λ same. absurd (true≢false (sym (eq-eqb p v.place same) ∙ e)))
        ∙ before.each p below
        ∙ ap (λ m. base p + m) (sym (add-zero (statements_where (λ w. w.place == p) variants))
        ∙ ap (λ b. statements_where (λ w. w.place == p) variants + (if b then size_of v else 0)) (sym other)
        ∙ sym (where_behind (λ w. w.place == p) variants v))

-- one turn of the loop over the first instances
pub totals_next : (base : ℕ → ℕ) (all : List code_instance.Instance) (i modules n size : ℕ) (x : code_instance.Instance) (totals : List ℕ) → i < length all → x ≡ get_or all i x → x.place < modules
    → n ≡ get_or totals x.place 0 + size → size ≡ blocks_size (map block_of x.content.blocks.items)
    → AreTotals base modules (map instance_of (take i all)) totals → AreTotals base modules (map instance_of (take (i + 1) all)) (set totals x.place n)
totals_next base all i modules n size x totals below at inside is counted before =
    let turn : AreTotals base modules (map instance_of (take i all) ++ instance_of x ∷ []) (set totals (instance_of x).place n) =
    totals_turn base modules (map instance_of (take i all)) (instance_of x) totals n (omega (arith, inside, code_place x))
    (is ∙ ap₂ (λ q m. get_or totals q 0 + m) (sym (code_place x)) (counted ∙ sym (code_size x))) before in
    let same = subst (λ (l : List Instance). AreTotals base modules l (set totals (instance_of x).place n)) (sym (one_more all i x x below at)) turn in
    subst (λ q. AreTotals base modules (map instance_of (take (i + 1) all)) (set totals q n)) (code_place x) same

-- what is read inside a list does not turn on the value for places outside
pub inside_any : (l : List ℕ) (i d e : ℕ) → i < length l → get_or l i d ≡ get_or l i e
inside_any [] i d e h = absurd (omega (arith, h))
inside_any (x ∷ l) zero d e h = refl
inside_any (x ∷ l) (suc i) d e h = inside_any l i d e (omega (arith, h))

-- ---- sums of those before

pub sums_turn : (numbers initial : List ℕ) (i next n : ℕ) → i < length numbers → n ≡ get_or numbers i 0
    → take i numbers ++ prefix_sums next (drop i numbers) ≡ prefix_sums 0 initial
    → take (i + 1) (set numbers i next) ++ prefix_sums (next + n) (drop (i + 1) (set numbers i next)) ≡ prefix_sums 0 initial
sums_turn numbers initial i next n below at before =
    let front : drop i numbers ≡ n ∷ drop (i + 1) numbers = drop_more numbers i 0 below ∙ ap (λ m. m ∷ drop (i + 1) numbers) (sym at) in
    ap₂ (λ (done left : List ℕ). done ++ prefix_sums (next + n) left) (take_more_set numbers i next below) (drop-set-lt (i + 1) numbers i next (omega arith))
    ∙ append_assoc (take i numbers) (next ∷ []) (prefix_sums (next + n) (drop (i + 1) numbers))
    ∙ ap (λ (l : List ℕ). take i numbers ++ prefix_sums next l) (sym front)
    ∙ before

pub sum_turn : (numbers : List ℕ) (i next n all : ℕ) → i < length numbers → n ≡ get_or numbers i 0 → next + total (drop i numbers) ≡ all → next + n + total (drop (i + 1) (set numbers i next)) ≡ all
sum_turn numbers i next n all below at before =
    let front : drop i numbers ≡ n ∷ drop (i + 1) numbers = drop_more numbers i 0 below ∙ ap (λ m. m ∷ drop (i + 1) numbers) (sym at) in
    let same : total (drop (i + 1) (set numbers i next)) ≡ total (drop (i + 1) numbers) = ap total (drop-set-lt (i + 1) numbers i next (omega arith)) in
    let split : total (drop i numbers) ≡ n + total (drop (i + 1) numbers) = ap total front in
    omega (arith, before, same, split)

pub sums_end : (numbers initial : List ℕ) (i next : ℕ) → length numbers ≤ i → take i numbers ++ prefix_sums next (drop i numbers) ≡ prefix_sums 0 initial → numbers ≡ prefix_sums 0 initial
sums_end numbers initial i next past before =
    sym (append-nil numbers) ∙ ap₂ (λ (done left : List ℕ). done ++ prefix_sums next left) (sym (take_all i numbers past)) (sym (drop_of_length-le numbers past)) ∙ before

-- ---- where the slots of a module begin

prefix_at : (numbers : List ℕ) (before p : ℕ) → p < length numbers → get_or (prefix_sums before numbers) p 0 ≡ before + total (take p numbers)
prefix_at [] before p below = absurd (omega (arith, below))
prefix_at (n ∷ numbers) before zero below = omega arith
prefix_at (n ∷ numbers) before (suc p) below = prefix_at numbers (before + n) p (omega (arith, below)) ∙ add_assoc before n (total (take p numbers))

long_prefix : (numbers : List ℕ) (before : ℕ) → length (prefix_sums before numbers) ≡ length numbers
long_prefix [] before = refl
long_prefix (n ∷ numbers) before = ap suc (long_prefix numbers (before + n))

total_behind : (numbers : List ℕ) (n : ℕ) → total (numbers ++ n ∷ []) ≡ total numbers + n
total_behind [] n = omega arith
total_behind (m ∷ numbers) n = ap (λ k. m + k) (total_behind numbers n) ∙ omega arith

totals_before : (modules p : ℕ) (variants : List Instance) (totals : List ℕ) → p ≤ modules → AreTotals nothing_before modules variants totals → total (take p totals) ≡ before_place variants p
totals_before modules zero variants totals below are = sym (below_none variants)
totals_before modules (suc p) variants totals below are =
    let rest = totals_before modules p variants totals (omega (arith, below)) are in
    let front : total (take (p + 1) totals) ≡ total (take p totals) + get_or totals p 0 = ap total (take_more totals p 0 (omega (arith, below, are.long))) ∙ total_behind (take p totals) (get_or totals p 0) in
    let here = are.each p (omega (arith, below)) in
    let more = below_more p variants in
    let same : suc p ≡ p + 1 = omega arith in
    ap (λ q. total (take q totals)) same ∙ omega (arith, front, here, rest, more) ∙ ap (before_place variants) (sym same)

-- all totals together are no more than all statements
pub totals_few : (modules : ℕ) (variants : List Instance) (totals : List ℕ) → AreTotals nothing_before modules variants totals → all_statements variants < 4294967296 → total totals < 4294967296
totals_few modules variants totals are few =
    let sums = totals_before modules modules variants totals (omega arith) are in
    let all : total (take modules totals) ≡ total totals = ap total (take_all modules totals (omega (arith, are.long))) in
    omega (arith, sums, all, few, where_within (λ w. nat_lt w.place modules) variants)

-- the sums of those before are where the slots of each module begin
pub begins : (modules : ℕ) (variants : List Instance) (totals starts : List ℕ) → AreTotals nothing_before modules variants totals → starts ≡ prefix_sums 0 totals → AreTotals (before_place variants) modules [] starts
begins modules variants totals starts are is = record {
  long = ap length is ∙ long_prefix totals 0 ∙ are.long;
  each = λ p below. ap (λ (l : List ℕ). get_or l p 0) is ∙ prefix_at totals 0 p (omega (arith, below, are.long)) ∙ zero-add (total (take p totals)) ∙ totals_before modules p variants totals (omega (arith, below)) are ∙ sym (add-zero (before_place variants p));
}

pub ruleset offsets = (totals_few, begins)

-- as many numbers as before are all of them
pub refilled : (n : ℕ) (xs ys : List ℕ) → length xs ≡ n → take n (xs ++ ys) ≡ xs
refilled n xs ys e = take-append-le n xs ys (omega (arith, e)) ∙ take_all n xs (omega (arith, e))

-- ---- the slots of the variants one after another

the_slot : (all : List code_instance.Instance) (i modules slot : ℕ) (x : code_instance.Instance) (starts : List ℕ) → x.place < modules → AreTotals (before_place (map instance_of all)) modules (map instance_of (take i all)) starts
    → slot ≡ get_or starts x.place 0 → slot ≡ before_place (map instance_of all) x.place + statements_where (λ w. w.place == x.place) (map instance_of (take i all))
the_slot all i modules slot x starts inside are is = is ∙ are.each x.place inside

pub slot_fits : (all : List code_instance.Instance) (i modules slot : ℕ) (x : code_instance.Instance) (starts : List ℕ) → i < length all → x ≡ get_or all i x → all_statements (map instance_of all) < 4294967296
    → x.place < modules → AreTotals (before_place (map instance_of all)) modules (map instance_of (take i all)) starts → slot ≡ get_or starts x.place 0
    → slot + blocks_size (map block_of x.content.blocks.items) < 4294967296
slot_fits all i modules slot x starts below at few inside are is =
    let here = the_slot all i modules slot x starts inside are is in
    let part = so_far all i x (λ w. w.place == x.place) below at in
    let own : (if (instance_of x).place == x.place then size_of (instance_of x) else 0) ≡ size_of (instance_of x) = ap (λ b. if b then size_of (instance_of x) else 0) (eq-eqb (instance_of x).place x.place (code_place x)) in
    let more = below_more x.place (map instance_of all) in
    let within = where_within (λ w. nat_lt w.place (x.place + 1)) (map instance_of all) in
    omega (arith, here, part, own, more, within, few, code_size x)

pub no_slots : (variants : List Instance) → AreSlots variants 0 []
no_slots variants = record { long = refl; each = λ k w below. absurd (omega (arith, below)) }

pub slot_turn : (all : List code_instance.Instance) (i modules slot : ℕ) (x : code_instance.Instance) (starts slots : List ℕ) → i < length all → x ≡ get_or all i x
    → x.place < modules → AreTotals (before_place (map instance_of all)) modules (map instance_of (take i all)) starts → slot ≡ get_or starts x.place 0
    → AreSlots (map instance_of all) i slots → AreSlots (map instance_of all) (i + 1) (slots ++ slot ∷ [])
slot_turn all i modules slot x starts slots below at inside are is before = record {
  long = length-append slots (slot ∷ []) ∙ omega (arith, before.long);
  each = λ k w l. by_place k w l (k == i) refl;
}
  where
    by_place : (k : ℕ) (w : Instance) → k < i + 1 → (b : Bool) → (k == i) ≡ b → get_or (slots ++ slot ∷ []) k 0 ≡ first_slot (map instance_of all) (k, get_or (map instance_of all) k w)
    by_place k w l false e =
        let earlier : k < i = grind (arith, l, e) in
        get_or_append_left slots (slot ∷ []) 0 k (omega (arith, earlier, before.long)) ∙ before.each k w earlier
    by_place k w l true e =
        let here : k ≡ i = eqb-true k i e in
        let last : get_or (slots ++ slot ∷ []) k 0 ≡ slot = ap (λ n. get_or (slots ++ slot ∷ []) n 0) (here ∙ sym before.long) ∙ get_or-append_seam slots slot [] 0 in
        let its : get_or (map instance_of all) k w ≡ instance_of x = ap (λ n. get_or (map instance_of all) n w) here ∙ get_or-map instance_of all i x w below ∙ ap instance_of (sym at) in
        let place : (get_or (map instance_of all) k w).place ≡ x.place = ap (λ (v : Instance). v.place) its ∙ code_place x in
        let front : take k (map instance_of all) ≡ map instance_of (take i all) = ap (λ n. take n (map instance_of all)) here ∙ take-map instance_of i all in
        last ∙ the_slot all i modules slot x starts inside are is
        ∙ ap₂ (λ q (l : List Instance). before_place (map instance_of all) q + statements_where (λ v. v.place == q) l) (sym place) (sym front)
