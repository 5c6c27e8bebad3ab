-- Marks, one step after another.
use Rattle.std.proofs.Common.{◌≡◌, ℕ, ◌+◌, ◌<◌, ◌||◌, Bool, true, false, List, length, get_or, take, refl, ap, sym, ◌∙◌, arith}
use Rattle.std.specs.List.{list_any}
use Rattle.std.proofs.lemmas.List.Folds.{list_any_more}
use Rattle.vcd_trace.specs.Marked.{Marks}

or_assoc : (a b c : Bool) → ((a || b) || c) ≡ (a || (b || c))
or_assoc true b c = refl
or_assoc false b c = refl

or_false : (a : Bool) → a ≡ (a || false)
or_false true = refl
or_false false = refl

-- nothing was marked
pub marks_none : (marks : List Bool) → Marks marks marks (λ n. false)
marks_none marks = record { count = refl; each = λ n l. or_false (get_or marks n false) }

-- one entry more
pub marks_more : {X : Type 0} (test : ℕ → X → Bool) (xs : List X) (i : ℕ) (d : X) (old now new : List Bool) → i < length xs
    → Marks old now (λ n. list_any (test n) (take i xs)) → Marks now new (λ n. test n (get_or xs i d)) → Marks old new (λ n. list_any (test n) (take (i + 1) xs))
marks_more test xs i d old now new l a b = record {
  count = b.count ∙ a.count;
  each = λ n m.
      let within : n < length now = omega (arith, a.count, m) in
      b.each n within ∙ ap (λ (v : Bool). v || test n (get_or xs i d)) (a.each n m)
      ∙ or_assoc (get_or old n false) (list_any (test n) (take i xs)) (test n (get_or xs i d))
      ∙ ap (λ (v : Bool). get_or old n false || v) (sym (list_any_more (test n) xs i d l));
}

-- one after the other
pub marks_both : (first second : ℕ → Bool) (old now new : List Bool) → Marks old now first → Marks now new second → Marks old new (λ n. first n || second n)
marks_both first second old now new a b = record {
  count = b.count ∙ a.count;
  each = λ n m.
      let within : n < length now = omega (arith, a.count, m) in
      b.each n within ∙ ap (λ (v : Bool). v || second n) (a.each n m) ∙ or_assoc (get_or old n false) (first n) (second n);
}
