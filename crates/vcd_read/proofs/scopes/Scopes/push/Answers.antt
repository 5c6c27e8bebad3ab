use Rattle.std.proofs.Common.{◌≡◌, ◌++◌, ◌∷◌, [], length, ap, sym, ◌∙◌, subst, rules, List}
use Rattle.vcd_read.specs.declared.scopes.ScopeRow.{ScopeRow}
use Rattle.vcd_read.specs.Head.{path_in}
use Rattle.vcd_read.specs.Scopes.{path_at}
use Rattle.vcd_read.specs.Nesting.{Scope, paths_of, scope_in, scopes_of, IsOpen}
use Rattle.vcd_read.proofs.ScopeLemmas.{are-push, scopes-push}
use Rattle.vcd_read.proofs.scopes.Scopes.push.Goals as goal

pub invariant_of-self-else-is_err : goal.invariant_of-self-else-is_err
invariant_of-self-else-is_err c =
    let s = c.self.inside in
    let row : ScopeRow = record { parent = c.args.parent; len = c.in_ok-len.len } in
    let put : c.push.new.self.items ≡ s.rows.items ++ row ∷ [] = search rules in
    let named : c.push-2.new.self ≡ s.names ++ c.args.name.now ∷ [] = search rules in
    let P : List Scope → Type 0 = λ scopes. IsOpen scopes c.args.parent (length scopes) in
    let around = subst P (sym c.self.view_is) c.requires in
    let scopes : List Scope = scopes_of [] s.names s.rows.items in
    let long : length (path_at (paths_of scopes) c.args.parent) ≡ c.path_len-around.result = ap (λ (scopes : List Scope). length (path_at (paths_of scopes) c.args.parent)) c.self.view_is ∙ sym c.path_len-around.ensures.len in
    let len : row.len ≡ length (path_in (path_at (paths_of scopes) c.args.parent) c.args.name.now) = c.in_ok-len.ensures ∙ c.len_in.ensures (path_at (paths_of scopes) c.args.parent) long in
    rw (put, named) (are-push s.names s.rows.items c.args.name.now row c.self.invariant around len)

pub returns-clause-ok : goal.returns-clause-ok
returns-clause-ok c =
    let s = c.self.inside in
    let row : ScopeRow = record { parent = c.args.parent; len = c.in_ok-len.len } in
    let put : c.push.new.self.items ≡ s.rows.items ++ row ∷ [] = search rules in
    let named : c.push-2.new.self ≡ s.names ++ c.args.name.now ∷ [] = search rules in
    rw (put, named, scopes-push [] s.names s.rows.items c.args.name.now row c.self.invariant.same)
    (ap (λ (scopes : List Scope). scopes ++ scope_in scopes c.args.parent c.args.name.now ∷ []) c.self.view_is)
