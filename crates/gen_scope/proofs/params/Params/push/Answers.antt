use Rattle.std.proofs.Common.{◌≡◌, ◌∙◌, ◌++◌, ◌∷◌, [], ℤ, map, ap, rules, bytes_eq, None, to_z, of_z, w64}
use Rattle.std.proofs.lemmas.Int.{to_z-of_z}
use Rattle.indexmap.proofs.CallerLemmas.{insert_entry-new}
use Rattle.gen_scope.specs.Gens.{find}
use Rattle.gen_scope.proofs.Names.{entry_of, find_looks, entries_pushed}
use Rattle.gen_scope.proofs.params.Params.push.Goals as goal

pub returns-clause-ok : goal.returns-clause-ok
returns-clause-ok c =
    let m = c.self.inside.numbers in
    let key = c.in_ok-to_vec.field-0 in
    let copied : key.items ≡ c.args.name.now = search rules in
    let n : ℤ = to_z w64 (of_z w64 c.args.number) in
    let passed : n ≡ c.args.number = to_z-of_z w64 c.args.number c.ranges.number in
    let none : find (map entry_of m.entries) key.items ≡ None = ap (λ gens. find gens key.items) c.self.view_is ∙ ap (find c.args.self.now) copied ∙ c.requires in
    let fresh = insert_entry-new (λ x y. bytes_eq x.items y.items) m key n (find_looks key.items m.entries ∙ none) in
    ap (map entry_of) (c.in_ok-insert.ensures.entries ∙ fresh) ∙ entries_pushed m.entries key n ∙ (λ i. c.self.view_is i ++ (copied i, passed i) ∷ [])
