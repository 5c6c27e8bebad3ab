use Rattle.std.proofs.Common.{◌≡◌, ◌∷◌, option_map, inl, inr, sym, ap, ◌∙◌, arith}
use Rattle.json.specs.Reads.{token_of}
use Rattle.symtab_json.proofs.Passes.{string_passed, boolean_passed, null_passed, number_passed, array_too_deep, object_too_deep}
use Rattle.symtab_json.proofs.first_pass.+check.Goals as goal

pub check_value-returns-in-String-clause-value : goal.check_value-returns-in-String-clause-value
check_value-returns-in-String-clause-value t c =
    let first : c.args.reader.now ≡ token_of c.in_ok-token.token ∷ c.next.new.self = grind arith in
    elim c.in-String.is [
      | inl s ↦ string_passed c.args.depth _ c.next.new.self s.0.now (first ∙ ap (λ k. token_of k ∷ c.next.new.self) s.1)
      | inr other ↦ elim other [
        | inl b ↦ boolean_passed c.args.depth _ c.next.new.self b.0 (first ∙ ap (λ k. token_of k ∷ c.next.new.self) b.1)
        | inr n ↦ null_passed c.args.depth _ c.next.new.self (first ∙ ap (λ k. token_of k ∷ c.next.new.self) n)
      ]
    ]

pub check_value-returns-in-Some-clause-value : goal.check_value-returns-in-Some-clause-value
check_value-returns-in-Some-clause-value t c =
    let first : c.args.reader.now ≡ token_of c.in_ok-token.token ∷ c.next.new.self = grind arith in
    number_passed c.args.depth _ c.next.new.self c.in-Number.text.now (first ∙ ap (λ k. token_of k ∷ c.next.new.self) c.in-Number.is)
    ∙ ap (option_map (λ n. c.next.new.self)) (sym c.in-Some.ensures)

pub check_value-returns-in-None-clause-value : goal.check_value-returns-in-None-clause-value
check_value-returns-in-None-clause-value t c =
    let first : c.args.reader.now ≡ token_of c.in_ok-token.token ∷ c.next.new.self = grind arith in
    number_passed c.args.depth _ c.next.new.self c.in-Number.text.now (first ∙ ap (λ k. token_of k ∷ c.next.new.self) c.in-Number.is)
    ∙ ap (option_map (λ n. c.next.new.self)) (sym c.in-None.ensures)

pub check_value-returns-then-depth-eq0-clause-value : goal.check_value-returns-then-depth-eq0-clause-value
check_value-returns-then-depth-eq0-clause-value t c =
    let first : c.args.reader.now ≡ token_of c.in_ok-token.token ∷ c.next.new.self = grind arith in
    array_too_deep c.args.depth _ c.next.new.self (first ∙ ap (λ k. token_of k ∷ c.next.new.self) c.in-BeginArray.is) (omega arith)

pub check_value-returns-then-depth-eq0-2-clause-value : goal.check_value-returns-then-depth-eq0-2-clause-value
check_value-returns-then-depth-eq0-2-clause-value t c =
    let first : c.args.reader.now ≡ token_of c.in_ok-token.token ∷ c.next.new.self = grind arith in
    object_too_deep c.args.depth _ c.next.new.self (first ∙ ap (λ k. token_of k ∷ c.next.new.self) c.in-BeginObject.is) (omega arith)
