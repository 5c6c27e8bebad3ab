use Rattle.std.proofs.Common.{◌≡◌, ◌++◌, ◌∷◌, List, ℕ, [], ap, ◌∙◌}
use Rattle.vcd_read.specs.Head.{Head, name_of, with_var}
use Rattle.vcd_read.specs.Nesting.{Numbered, innermost}
use Rattle.vcd_read.proofs.HeadLemmas.{told-var}
use Rattle.vcd_read.proofs.head.Head.push_var.Goals as goal

pub returns : goal.returns
returns c =
    let s = c.self.inside in
    let a = c.args in
    let scope : c.innermost.result ≡ innermost s.nest.items = c.innermost.ensures ∙ ap innermost c.deref.ensures.value in
    let var : ℕ → List ℕ → Numbered = λ scope name. record { scope = scope; name = name; code = a.code; size = a.size; counted = a.counted } in
    let put : c.push.new.self ≡ s.vars ++ var (innermost s.nest.items) (name_of a.reference.now) ∷ [] =
    c.in_ok-push.ensures.ok ∙ ap (λ scope. s.vars ++ var scope c.name_of.result.now ∷ []) scope ∙ ap (λ name. s.vars ++ var (innermost s.nest.items) name ∷ []) c.name_of.ensures in
    rw put (told-var s.scopes s.nest.items s.vars s.codes a.counted a.size a.code a.reference.now ∙ ap (λ (head : Head). with_var a.counted a.size a.code a.reference.now head) c.self.view_is)
