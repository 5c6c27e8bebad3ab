use Rattle.std.proofs.Common.{◌≡◌, rules, sym, refl, IsSome, None, subst}
use Rattle.symtab.specs.Checked.{IsNumbered, AreNamed}
use Rattle.symtab.specs.Shape.{variants_of}
use Rattle.symtab.proofs.SlotLemmas.{not_named}
use Rattle.symtab.proofs.table.Table.make.Goals as goal

pub returns-in_default-clause-refused : goal.returns-in_default-clause-refused
returns-in_default-clause-refused c = λ _ table.
    let of_variants : c.in_ok-lines.variants ≡ variants_of c.args.parts.instances = search rules in
    let none : c.in_ok-paths.field-0 ≡ None = search rules in
    not_named c.args.parts c.in_ok-lines.variants c.in_ok-paths.field-0 of_variants c.in_ok-paths.ensures.fits none table

pub invariant_of-result : goal.invariant_of-result
invariant_of-result c =
    let numbered : IsNumbered c.args.parts = search rules in
    let of_variants : c.in_ok-lines.variants ≡ variants_of c.args.parts.instances = search rules in
    let told = subst (λ o. IsSome o) (sym c.in-Some.is) refl in
    let named = subst (λ variants. AreNamed variants c.args.parts) of_variants (c.in_ok-paths.ensures.fits.0 told) in
    record {
      table = record {
        widths = numbered.widths;
        node_names = named.node_names;
        short_variants = numbered.short_variants;
        variants = numbered.variants;
        short_instances = numbered.short_instances;
        instances = numbered.instances;
        paths = named.paths;
        top = numbered.top;
        short_slots = numbered.short_slots;
        slots = named.slots;
      };
      of_lines = search rules;
      of_variants = of_variants;
      of_paths = search rules;
      of_names = search rules;
    }

pub returns-clause-table : goal.returns-clause-table
returns-clause-table c = (invariant_of-result c).table
