use Rattle.std.proofs.Common.{sym, ◌∙◌, subst, length}
use Rattle.design_core.specs.DesignView.{design_of}
use Rattle.place_core.specs.Numbering.{numbers_of}
use Rattle.ssa_core.specs.Drives.{AreApart, AreDrives}
use Rattle.ssa_net.proofs.Begun.{apart_all, numbered_all}
use Rattle.ssa_net.proofs.parts.parts_of.Goals as goal

pub drives_of-requires : goal.drives_of-requires
drives_of-requires c =
    let d = design_of c.args.design.now in
    let pairs = c.in_ok-maps.pairs in
    let apart : AreApart (length pairs.items) (numbers_of c.in_ok-maps.maps.items) = apart_all d (numbers_of c.in_ok-maps.maps.items, pairs.items) c.in_ok-maps.ensures in
    record { apart = subst (λ maps. AreApart c.len-count.result (numbers_of maps)) (sym c.deref.ensures.value) (subst (λ n. AreApart n (numbers_of c.in_ok-maps.maps.items)) (sym (c.len-count.ensures ∙ pairs.ok.0)) apart) }

pub returns-clause-parts : goal.returns-clause-parts
returns-clause-parts c =
    let d = design_of c.args.design.now in
    let pairs = c.in_ok-maps.pairs in
    let all = numbers_of c.in_ok-maps.maps.items in
    let apart : AreApart (length pairs.items) all = apart_all d (all, pairs.items) c.in_ok-maps.ensures in
    record {
      parts = record {
        sound = record { kept = c.args.design.now.kept; accepted = c.requires.accepted };
        told = c.requires.order;
        links_are = c.in_ok-links.ensures;
        keys_are = c.in_ok-keys.ensures;
        terms = c.in_ok-blocks.ensures;
        numbered = numbered_all d (all, pairs.items) c.in_ok-maps.ensures;
        apart = subst (λ n. AreApart n all) (sym (c.len-count.ensures ∙ pairs.ok.0)) apart;
        driven =
            subst (λ maps. AreDrives d c.in_ok-links.links.items c.in_ok-keys.keys.items c.len-count.result (numbers_of maps) c.in_ok-drives.drives.items) c.deref.ensures.value
            (subst (λ links. AreDrives d links c.in_ok-keys.keys.items c.len-count.result (numbers_of c.deref.result.now) c.in_ok-drives.drives.items) c.deref-2.ensures.value
            (subst (λ keys. AreDrives d c.deref-2.result.now keys c.len-count.result (numbers_of c.deref.result.now) c.in_ok-drives.drives.items) c.deref-3.ensures.value c.in_ok-drives.ensures));
      };
      nobody = c.new-nobody.ensures;
    }
