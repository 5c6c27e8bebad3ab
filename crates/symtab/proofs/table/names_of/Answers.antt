use Rattle.std.proofs.Common.{◌≡◌, rules, ap, sym, refl, length, IsSome, None, subst}
use Rattle.std.proofs.lemmas.Bool.{false≢true}
use Rattle.symtab.proofs.SlotLemmas.{not_apart, are_apart, all_fit, none_fit}
use Rattle.symtab.proofs.table.names_of.Goals as goal

pub returns-then-is_none-clause-fits : goal.returns-then-is_none-clause-fits
returns-then-is_none-clause-fits c =
    let none : c.in_ok-distinct_names.field-0 ≡ None = search rules in (
      λ no. absurd (false≢true no),
      λ named. absurd (not_apart (λ node. node.name) c.items-nodes.result.now c.args.parts.now.nodes c.in_ok-distinct_names.field-0 c.items-nodes.ensures c.in_ok-distinct_names.ensures.apart none named.node_names),
    )

pub returns-in_default-clause-fits : goal.returns-in_default-clause-fits
returns-in_default-clause-fits c = (
  λ no. absurd (false≢true no),
  λ named. absurd (not_apart (λ instance. instance.path) c.items.result.now c.args.parts.now.instances c.in_ok-paths.field-0 c.items.ensures c.in_ok-paths.ensures.apart c.in_default.is named.paths),
)

pub returns-in_default-2-clause-fits : goal.returns-in_default-2-clause-fits
returns-in_default-2-clause-fits c = (
  λ no. absurd (false≢true no),
  λ named. absurd (none_fit c.items-nodes.result.now c.args.parts.now.nodes _ _ c.args.variants.now c.items-2.result.now c.args.parts.now.slots c.in_ok-names.field-0
      c.items-nodes.ensures (ap length c.items-count.ensures) c.items-2.ensures c.in_ok-names.ensures.fits c.in_default-2.is named.slots),
)

pub returns-clause-fits : goal.returns-clause-fits
returns-clause-fits c =
    let some : IsSome c.in_ok-distinct_names.field-0 = search rules in
    let told = subst (λ o. IsSome o) (sym c.in-Some.is) refl in (
      λ _. record {
        node_names = are_apart (λ node. node.name) c.items-nodes.result.now c.args.parts.now.nodes c.in_ok-distinct_names.field-0 c.items-nodes.ensures c.in_ok-distinct_names.ensures.apart some;
        paths = are_apart (λ instance. instance.path) c.items.result.now c.args.parts.now.instances c.in_ok-paths.field-0 c.items.ensures c.in_ok-paths.ensures.apart told;
        slots = all_fit c.items-nodes.result.now c.args.parts.now.nodes _ _ c.args.variants.now c.args.variants.now c.items-2.result.now c.args.parts.now.slots c.in_ok-names.field-0 c.in-Some-2.names
            c.items-nodes.ensures (ap length c.items-count.ensures) refl c.items-2.ensures c.in_ok-names.ensures.fits c.in-Some-2.is;
      },
      λ _. refl,
    )
