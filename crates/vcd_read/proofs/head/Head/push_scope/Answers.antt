use Rattle.std.proofs.Common.{◌≡◌, ◌++◌, ◌+◌, ◌∷◌, ℕ, [], length, ap, ◌∙◌, subst, sym, rules, arith}
use Rattle.vcd_read.specs.Head.{Head, with_scope}
use Rattle.vcd_read.specs.Nesting.{Scope, innermost, scope_in, IsOpen}
use Rattle.vcd_read.proofs.HeadLemmas.{innermost-open, head-scope, head-nest, told-scope}
use Rattle.vcd_read.proofs.head.Head.push_scope.Goals as goal

pub push-requires : goal.push-requires
push-requires c =
    let s = c.self.inside in
    let P : ℕ → Type 0 = λ number. IsOpen s.scopes number (length s.scopes) in
    let same : innermost s.nest.items ≡ c.innermost-parent.result = ap innermost (sym c.deref.ensures.value) ∙ sym c.innermost-parent.ensures in
    subst P same (innermost-open s.scopes s.nest.items s.vars c.self.invariant)

pub invariant_of-self-in_err-push-2 : goal.invariant_of-self-in_err-push-2
invariant_of-self-in_err-push-2 c =
    let s = c.self.inside in
    let same : c.innermost-parent.result ≡ innermost s.nest.items = c.innermost-parent.ensures ∙ ap innermost c.deref.ensures.value in
    let put : c.push.new.self ≡ s.scopes ++ scope_in s.scopes (innermost s.nest.items) c.args.name.now ∷ [] =
    c.in_ok-push.ensures.ok ∙ ap (λ parent. s.scopes ++ scope_in s.scopes parent c.args.name.now ∷ []) same in
    let kept : c.push-2.new.self.items ≡ s.nest.items = search rules in
    rw (put, kept) (head-scope s.scopes s.nest.items s.vars c.args.name.now c.self.invariant)

pub invariant_of-self-2 : goal.invariant_of-self-2
invariant_of-self-2 c =
    let s = c.self.inside in
    let same : c.innermost-parent.result ≡ innermost s.nest.items = c.innermost-parent.ensures ∙ ap innermost c.deref.ensures.value in
    let one : Scope = scope_in s.scopes (innermost s.nest.items) c.args.name.now in
    let put : c.push.new.self ≡ s.scopes ++ one ∷ [] = c.in_ok-push.ensures.ok ∙ ap (λ parent. s.scopes ++ scope_in s.scopes parent c.args.name.now ∷ []) same in
    let more : c.push-2.new.self.items ≡ s.nest.items ++ c.in_ok-number.number ∷ [] = search rules in
    let number : c.in_ok-number.number ≡ length s.scopes + 1 = omega (arith, c.in_ok-number.ensures, c.len.ensures.len) in
    rw (put, more) (head-nest s.scopes s.nest.items s.vars one c.in_ok-number.number (head-scope s.scopes s.nest.items s.vars c.args.name.now c.self.invariant) number)

pub returns : goal.returns
returns c =
    let s = c.self.inside in
    let same : c.innermost-parent.result ≡ innermost s.nest.items = c.innermost-parent.ensures ∙ ap innermost c.deref.ensures.value in
    let one : Scope = scope_in s.scopes (innermost s.nest.items) c.args.name.now in
    let put : c.push.new.self ≡ s.scopes ++ one ∷ [] = c.in_ok-push.ensures.ok ∙ ap (λ parent. s.scopes ++ scope_in s.scopes parent c.args.name.now ∷ []) same in
    let more : c.push-2.new.self.items ≡ s.nest.items ++ c.in_ok-number.number ∷ [] = search rules in
    let number : c.in_ok-number.number ≡ length s.scopes + 1 = omega (arith, c.in_ok-number.ensures, c.len.ensures.len) in
    rw (put, more) (told-scope s.scopes s.nest.items s.vars s.codes c.args.name.now c.in_ok-number.number c.self.invariant number
    ∙ ap (λ (head : Head). with_scope head c.args.name.now) c.self.view_is)
