-- The names of the cells and of their outputs differ.
use Rattle.std.proofs.Common.{◌≡◌, ℕ, ◌+◌, ◌%◌, ◌<◌, ◌≤◌, ◌^◌, Bool, true, false, true≢false, not, ◌&&◌, ◌==◌, List, [], ◌∷◌, ◌++◌, drop, get_or, refl, sym, ap, ◌∙◌, arith}
use Rattle.std.specs.Prelude.{codes, decimal}
use Rattle.std.proofs.lemmas.Bool.Decides.{nat_tests}
use Rattle.std.proofs.lemmas.Fmt.{decimal_by_steps, decimal_injective}
use Rattle.std.proofs.lemmas.List.{append_cancel_right}
use Rattle.std.proofs.lemmas.List.Folds.{list_all-append}
use Rattle.list_core.specs.Lists.{IsIn, IsNotIn, AreApart}
use Rattle.list_core.proofs.Lists.{apart_joined, not_joined}
use Rattle.exec_core.specs.Block.{Name}
use Rattle.design_core.specs.WellFormed.{is_plain}
use Rattle.chain_laws.proofs.Spans.{from_span, not_in_span, span_apart}
use Rattle.chain_laws.proofs.Cells.{span, cell_name}

-- ---- no number has a dot

one_plain : (n : ℕ) → n < 10 → is_plain ((48 + n) ∷ []) ≡ true
one_plain n h = grind (arith, nat_tests)

both : (b c : Bool) → b ≡ true → c ≡ true → (b && c) ≡ true
both true c e f = f
both false c e f = e

number_plain : (n : ℕ) → n < 2 ^ 64 → is_plain (decimal n) ≡ true
number_plain = decimal_by_steps (λ n ds. is_plain ds ≡ true) one_plain
    (λ n ds l h. list_all-append (λ byte. not (byte == 46)) ds ((48 + n % 10) ∷ []) ∙ both (is_plain ds) (is_plain ((48 + n % 10) ∷ [])) h (one_plain (n % 10) (omega arith)))

not_plain : (xs ys : Name) → is_plain (xs ++ 46 ∷ ys) ≡ false
not_plain [] ys = refl
not_plain (x ∷ xs) ys = rw (not_plain xs ys) (no_more (not (x == 46)))
  where
    no_more : (b : Bool) → (b && false) ≡ false
    no_more true = refl
    no_more false = refl

-- ---- the names

abbrev pub cell_output_name : ℕ → Name
cell_output_name i = cell_name i ++ (codes "." ++ codes "y")

pub one_cell : (i j : ℕ) → i ≤ 4000 → j ≤ 4000 → cell_name i ≡ cell_name j → i ≡ j
one_cell i j l m e = decimal_injective i j (omega arith) (omega arith) (ap (drop 2) e)

pub one_output : (i j : ℕ) → i ≤ 4000 → j ≤ 4000 → cell_output_name i ≡ cell_output_name j → i ≡ j
one_output i j l m e = one_cell i j l m (append_cancel_right (cell_name i) (cell_name j) (codes ".y") e)

no_output : (i j : ℕ) → i ≤ 4000 → j ≤ 4000 → cell_output_name i ≡ cell_name j → ⊥
no_output i j l m e =
    let rest : decimal i ++ codes ".y" ≡ decimal j = ap (drop 2) e in
    true≢false (sym (number_plain j (omega arith)) ∙ sym (ap is_plain rest) ∙ not_plain (decimal i) (codes "y"))

other_first : (x y : ℕ) (xs ys : Name) → (x ≡ y → ⊥) → x ∷ xs ≡ y ∷ ys → ⊥
other_first x y xs ys h e = h (ap (λ (l : Name). get_or l 0 0) e)

-- those of the chain: its ports, the outputs of its cells, and the cells
abbrev pub chain_names : ℕ → List Name
chain_names n = codes "x" ∷ codes "y" ∷ (span cell_output_name 0 n ++ span cell_name 0 n)

no_port : (x n : ℕ) → (99 ≡ x → ⊥) → IsNotIn (x ∷ []) (span cell_output_name 0 n ++ span cell_name 0 n)
no_port x n h =
    not_joined (x ∷ []) (span cell_output_name 0 n) (span cell_name 0 n)
    (not_in_span cell_output_name 0 n (x ∷ []) (λ i l m e. other_first 99 x _ [] h e))
    (not_in_span cell_name 0 n (x ∷ []) (λ i l m e. other_first 99 x _ [] h e))

outputs_only : (n : ℕ) → n ≤ 4000 → (x : Name) → IsIn x (span cell_output_name 0 n) → IsNotIn x (span cell_name 0 n)
outputs_only n h x k =
    let found = from_span cell_output_name 0 n x k in
    not_in_span cell_name 0 n x (λ j l m e. no_output found.0 j (omega arith) (omega arith) (sym (e ∙ found.1.1.1)))

pub names_apart : (n : ℕ) → n ≤ 4000 → AreApart (chain_names n)
names_apart n h = (
  (λ e. other_first 121 120 [] [] (λ g. omega arith) e, no_port 120 n (λ e. omega arith)),
  (
    no_port 121 n (λ e. omega arith),
    apart_joined (span cell_output_name 0 n) (span cell_name 0 n)
        (span_apart cell_output_name 0 n (λ i j l m e. one_output i j (omega arith) (omega arith) e))
        (span_apart cell_name 0 n (λ i j l m e. one_cell i j (omega arith) (omega arith) e))
        (λ x k. outputs_only n h x k),
  ),
)
