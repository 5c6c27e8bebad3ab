use Rattle.std.proofs.Common.{◌≡◌, ◌∷◌, [], ◌∙◌, Some, None, sym, ap, refl}
use Rattle.list_core.proofs.Options.{some_same}
use Rattle.names.specs.Maps.{value_of}
use Rattle.dep_order.specs.Blocks.{single, version_of}
use Rattle.dep_order.proofs.Names.{name_drives, name_passed}
use Rattle.dep_order.proofs.wiring.drive_name.Goals as goal

pub returns-in_default-clause-drives : goal.returns-in_default-clause-drives
returns-in_default-clause-drives c =
    name_passed c.args.graph.now c.args.driven.now (value_of c.args.numbers.now) c.args.name.now (version_of c.args.ends.now c.args.name.now) (sym c.get.ensures ∙ c.in_default.is)

pub returns-in_ok-drive-in-Some-get-clause-drives : goal.returns-in_ok-drive-in-Some-get-clause-drives
returns-in_ok-drive-in-Some-get-clause-drives c =
    let version : version_of c.args.ends.now c.args.name.now ≡ Some c.in-Some-get.version = sym c.get-2.ensures ∙ c.in-Some-get.is in
    name_drives c.args.graph.now c.drive.new.graph c.args.driven.now c.drive.new.driven (value_of c.args.numbers.now) c.args.name.now c.in-Some.vertex (version_of c.args.ends.now c.args.name.now) (c.in-Some-get.version ∷ [])
    (sym c.get.ensures ∙ c.in-Some.is) (λ v e. ap single (some_same c.in-Some-get.version v (sym version ∙ e))) (λ e. cc) c.in_ok-drive-in-Some-get.ensures.drives

pub returns-in_ok-drive-in-None-clause-drives : goal.returns-in_ok-drive-in-None-clause-drives
returns-in_ok-drive-in-None-clause-drives c =
    let version : version_of c.args.ends.now c.args.name.now ≡ None = sym c.get-2.ensures ∙ c.in-None.is in
    name_drives c.args.graph.now c.drive-in-None.new.graph c.args.driven.now c.drive-in-None.new.driven (value_of c.args.numbers.now) c.args.name.now c.in-Some.vertex (version_of c.args.ends.now c.args.name.now) []
    (sym c.get.ensures ∙ c.in-Some.is) (λ v e. cc) (λ e. refl) c.in_ok-drive-in-None.ensures.drives
